use Rattle.std.proofs.Common.{◌≡◌, ℕ, List, Err, None, Some, ap, refl, rules, subst}
use Rattle.std.specs.Io.KnownBytes.{Keeps}
use Rattle.inc_args.specs.Meaning.{Question}
use Rattle.inc_args.specs.Views.{seen_limits, seen_question}
use Rattle.inc_cli.specs.Outputs.{IsRun}
use Rattle.inc_cli.specs.Runs.{asked_by}
use Rattle.inc_cli.specs.Questions.{IsAnswered, IsKnown}
use Rattle.inc_cli.specs.Views.{output_of, seen_command, seen_end}
use Rattle.inc_inputs.specs.BuildProjects.{Added, found_question, words_fault}
use Rattle.inc_inputs.specs.Reports.{report_of}
use Rattle.inc_inputs.specs.Steps.{Comes, next_of, then}
use Rattle.inc_inputs.specs.Texts.{texts_beside}
use Rattle.inc_inputs.specs.Views.{added_in, project_in, seen_texts}
use Rattle.inc_cli.proofs.RunLemmas.{run_read, run_reported, run_unreported}
use Rattle.inc_cli.proofs.questions.ask_found.Goals as goal

pub returns-in-Err : goal.returns-in-Err
returns-in-Err g c known not =
    let gives = g.I.Inputs.gives in
    let command = seen_command c.args.asking.command in
    let l = seen_limits c.args.asking.limits.now in
    let f = project_in c.args.found in
    let q = found_question f (seen_question c.args.asking.question.now) in
    let keeps : Keeps (g.O.ByteSink.written c.args.out) (g.O.ByteSink.written c.args.out) = search rules in
    run_reported (words_fault f) (report_of c.in-Err.failure) (then (texts_beside gives f.list q l) (asked_by gives c.args.setup.now.language command q l f.added)) _ _ _ _
    (c.in-Err.ensures.fault (λ same. not (ap (λ r. Err r) same))) refl keeps

pub returns : goal.returns
returns g c known not =
    let gives = g.I.Inputs.gives in
    let language = c.args.setup.now.language in
    let command = seen_command c.args.asking.command in
    let l = seen_limits c.args.asking.limits.now in
    let f = project_in c.args.found in
    let step = λ (q : Question). then (texts_beside gives f.list q l) (asked_by gives language command q l f.added) in
    let q = seen_question c.in-Ok.question in
    let P = IsAnswered gives g.I.Inputs.puts (IsKnown known gives (record { opens = g.I.Inputs.opens; left = g.I.Stream.ByteSource.left }) command) command in
    let out = output_of (g.O.ByteSink.written c.args.out) (g.O.ByteSink.written c.ask_read.result.1) (g.O.ByteSink.has_failed c.ask_read.result.1) in
    let answer = seen_end c.ask_read.result.0 in
    let texts = seen_texts c.read_texts_beside-texts.result in
    let mid = c.read_texts_beside-texts.new.inputs in
    let list : c.replace-list.result.items ≡ f.list = search rules in
    let same : added_in c.replace-added.result ≡ f.added = search rules in
    let came : Comes (texts_beside gives f.list q l) c.args.inputs texts mid =
    subst (λ (ls : List ℕ). Comes (texts_beside gives ls q l) c.args.inputs texts mid) list c.read_texts_beside-texts.ensures in
    let asked : IsRun (next_of (asked_by gives language command q l f.added) texts) P mid out answer =
    subst (λ (a : Added). IsRun (next_of (asked_by gives language command q l a) texts) P mid out answer) same (c.ask_read.ensures known not) in
    run_unreported (words_fault f) (step (found_question f (seen_question c.args.asking.question.now))) P c.args.inputs out answer c.in-Ok.ensures.texts
    (subst (λ (q : Question). IsRun (step q) P c.args.inputs out answer) c.in-Ok.ensures.question
    (run_read (texts_beside gives f.list q l) (asked_by gives language command q l f.added) P c.args.inputs mid out answer texts came not asked))
