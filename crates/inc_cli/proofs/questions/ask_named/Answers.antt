use Rattle.std.proofs.Common.{◌≡◌, None, Ok, Some, true, false, ap, refl, rules, subst}
use Rattle.std.specs.Io.KnownBytes.{Keeps}
use Rattle.inc_args.specs.Views.{seen_limits, seen_question}
use Rattle.inc_cli.specs.Runs.{asked_by, asked_with, list_names}
use Rattle.inc_cli.specs.Outputs.{IsRun}
use Rattle.inc_cli.specs.Questions.{IsAnswered, IsKnown}
use Rattle.inc_cli.specs.Views.{output_of, seen_command, seen_end}
use Rattle.inc_inputs.specs.BuildProjects.{Added, none_added, words_of_question}
use Rattle.inc_inputs.specs.BuildSteps.{found_if}
use Rattle.inc_inputs.specs.Reports.{input_twice, report_of}
use Rattle.inc_inputs.specs.Steps.{next_of, then}
use Rattle.inc_inputs.specs.Texts.{are_twice, texts_of}
use Rattle.inc_inputs.specs.Views.{project_in, seen_project, seen_texts}
use Rattle.inc_cli.proofs.RunLemmas.{run_err, run_not, run_read, run_then, run_unless}
use Rattle.inc_cli.proofs.questions.ask_named.Goals as goal

pub returns-then-are_twice : goal.returns-then-are_twice
returns-then-are_twice g c known not =
    let gives = g.I.Inputs.gives in
    let command = seen_command c.args.asking.command in
    let q = seen_question c.args.asking.question.now in
    let l = seen_limits c.args.asking.limits.now in
    let twice : are_twice (list_names command q l) ≡ true = search rules in
    let keeps : Keeps (g.O.ByteSink.written c.args.out) (g.O.ByteSink.written c.args.out) = search rules in
    run_not _ input_twice (then (found_if gives q.files (words_of_question q)) (asked_with gives c.args.setup.now.language command q l)) _ _ _ _ twice refl keeps

pub returns-in-Ok-Some : goal.returns-in-Ok-Some
returns-in-Ok-Some g c known not =
    let gives = g.I.Inputs.gives in
    let command = seen_command c.args.asking.command in
    let q = seen_question c.args.asking.question.now in
    let l = seen_limits c.args.asking.limits.now in
    let next = asked_with gives c.args.setup.now.language command q l in
    let once : are_twice (list_names command q l) ≡ false = search rules in
    let found : seen_project c.find_question.result ≡ Ok (Some (project_in c.in-Ok-Some.found)) = search rules in
    run_unless _ input_twice (then (found_if gives q.files (words_of_question q)) next) _ _ _ _ once
    (run_then (found_if gives q.files (words_of_question q)) next _ _ c.find_question.new.inputs _ _ (seen_project c.find_question.result) (Some (project_in c.in-Ok-Some.found))
    found c.find_question.ensures (c.ask_found.ensures known not))

pub returns-in-Ok-None : goal.returns-in-Ok-None
returns-in-Ok-None g c known not =
    let gives = g.I.Inputs.gives in
    let command = seen_command c.args.asking.command in
    let q = seen_question c.args.asking.question.now in
    let l = seen_limits c.args.asking.limits.now in
    let language = c.args.setup.now.language in
    let next = asked_with gives language command q l in
    let once : are_twice (list_names command q l) ≡ false = search rules in
    let P = IsAnswered gives g.I.Inputs.puts (IsKnown known gives (record { opens = g.I.Inputs.opens; left = g.I.Stream.ByteSource.left }) command) command in
    let out = output_of (g.O.ByteSink.written c.args.out) (g.O.ByteSink.written c.ask_read.result.1) (g.O.ByteSink.has_failed c.ask_read.result.1) in
    let answer = seen_end c.ask_read.result.0 in
    let texts = seen_texts c.read_texts-texts.result in
    let mid = c.read_texts-texts.new.inputs in
    let asked : IsRun (next_of (asked_by gives language command q l none_added) texts) P mid out answer =
    subst (λ (a : Added). IsRun (next_of (asked_by gives language command q l a) texts) P mid out answer) c.none-added.ensures (c.ask_read.ensures known not) in
    let none : seen_project c.find_question.result ≡ Ok None = search rules in
    run_unless _ input_twice (then (found_if gives q.files (words_of_question q)) next) _ _ _ _ once
    (run_then (found_if gives q.files (words_of_question q)) next _ _ c.find_question.new.inputs _ _ (seen_project c.find_question.result) None
    none c.find_question.ensures
    (run_read (texts_of gives q l) (asked_by gives language command q l none_added) P _ mid out answer texts c.read_texts-texts.ensures not asked))

pub returns-in-Err : goal.returns-in-Err
returns-in-Err g c known not =
    let gives = g.I.Inputs.gives in
    let command = seen_command c.args.asking.command in
    let q = seen_question c.args.asking.question.now in
    let l = seen_limits c.args.asking.limits.now in
    let next = asked_with gives c.args.setup.now.language command q l in
    let once : are_twice (list_names command q l) ≡ false = search rules in
    let keeps : Keeps (g.O.ByteSink.written c.args.out) (g.O.ByteSink.written c.args.out) = search rules in
    run_unless _ input_twice (then (found_if gives q.files (words_of_question q)) next) _ _ _ _ once
    (run_err (found_if gives q.files (words_of_question q)) next _ _ c.find_question.new.inputs _ _ (seen_project c.find_question.result) (report_of c.in-Err.failure)
    (ap seen_project c.in-Err.is) refl c.find_question.ensures keeps not)
