use Rattle.std.proofs.Common.{◌≡◌, ℕ, List, Ok, [], ◌∷◌, None, Some, true, false, ap, refl, rules, subst}
use Rattle.std.specs.Io.KnownBytes.{Keeps}
use Rattle.inc_args.specs.Views.{seen_pp}
use Rattle.inc_cli.specs.Outputs.{IsRun}
use Rattle.inc_cli.specs.Preprocessings.{IsPreprocessed, pp_asked, pp_with}
use Rattle.inc_cli.specs.Views.{output_of, seen_end}
use Rattle.inc_inputs.specs.BuildProjects.{words_of_pp}
use Rattle.inc_inputs.specs.BuildSteps.{found_if}
use Rattle.inc_inputs.specs.PpTexts.{pp_texts}
use Rattle.inc_inputs.specs.Reports.{input_twice, report_of}
use Rattle.inc_inputs.specs.Texts.{are_twice}
use Rattle.inc_inputs.specs.Steps.{next_of, then}
use Rattle.inc_inputs.specs.Views.{project_in, seen_pp_texts, seen_project}
use Rattle.inc_cli.proofs.RunLemmas.{run_err, run_not, run_read, run_then, run_unless}
use Rattle.inc_cli.proofs.pp.preprocess_named.Goals as goal

pub returns-then-are_twice : goal.returns-then-are_twice
returns-then-are_twice g c not =
    let gives = g.I.Inputs.gives in
    let p = seen_pp c.args.args.now in
    let twice : are_twice (p.files.list ∷ p.without ∷ p.compiler ∷ p.defines ∷ []) ≡ true = search rules in
    let keeps : Keeps (g.O.ByteSink.written c.args.out) (g.O.ByteSink.written c.args.out) = search rules in
    run_not _ input_twice (then (found_if gives p.files (words_of_pp p)) (pp_with gives c.args.setup.now.language p)) (IsPreprocessed gives g.I.Inputs.puts p) _ _ _ twice refl keeps

pub returns-in-Ok-Some : goal.returns-in-Ok-Some
returns-in-Ok-Some g c not =
    let gives = g.I.Inputs.gives in
    let p = seen_pp c.args.args.now in
    let next = pp_with gives c.args.setup.now.language p in
    let once : are_twice (p.files.list ∷ p.without ∷ p.compiler ∷ p.defines ∷ []) ≡ false = search rules in
    let found : seen_project c.find_preprocessing.result ≡ Ok (Some (project_in c.in-Ok-Some.found)) = search rules in
    run_unless _ input_twice (then (found_if gives p.files (words_of_pp p)) next) (IsPreprocessed gives g.I.Inputs.puts p) _ _ _ once
    (run_then (found_if gives p.files (words_of_pp p)) next (IsPreprocessed gives g.I.Inputs.puts p) _ c.find_preprocessing.new.inputs _ _ (seen_project c.find_preprocessing.result) (Some (project_in c.in-Ok-Some.found))
    found c.find_preprocessing.ensures (c.preprocess_found.ensures not))

pub returns-in-Ok-None : goal.returns-in-Ok-None
returns-in-Ok-None g c not =
    let gives = g.I.Inputs.gives in
    let language = c.args.setup.now.language in
    let p = seen_pp c.args.args.now in
    let next = pp_with gives language p in
    let once : are_twice (p.files.list ∷ p.without ∷ p.compiler ∷ p.defines ∷ []) ≡ false = search rules in
    let P = IsPreprocessed gives g.I.Inputs.puts p in
    let out = output_of (g.O.ByteSink.written c.args.out) (g.O.ByteSink.written c.preprocess_read.result.1) (g.O.ByteSink.has_failed c.preprocess_read.result.1) in
    let answer = seen_end c.preprocess_read.result.0 in
    let texts = seen_pp_texts c.read_pp_texts-texts.result in
    let mid = c.read_pp_texts-texts.new.inputs in
    let asked : IsRun (next_of (pp_asked language p [] []) texts) P mid out answer =
    subst (λ (ns : List ℕ). IsRun (next_of (pp_asked language p [] ns) texts) P mid out answer) c.new-notes.ensures.items (c.preprocess_read.ensures not) in
    let none : seen_project c.find_preprocessing.result ≡ Ok None = search rules in
    run_unless _ input_twice (then (found_if gives p.files (words_of_pp p)) next) (IsPreprocessed gives g.I.Inputs.puts p) _ _ _ once
    (run_then (found_if gives p.files (words_of_pp p)) next (IsPreprocessed gives g.I.Inputs.puts p) _ c.find_preprocessing.new.inputs _ _ (seen_project c.find_preprocessing.result) None
    none c.find_preprocessing.ensures
    (run_read (pp_texts gives language p) (pp_asked language p [] []) P _ mid out answer texts c.read_pp_texts-texts.ensures not asked))

pub returns-in-Err : goal.returns-in-Err
returns-in-Err g c not =
    let gives = g.I.Inputs.gives in
    let p = seen_pp c.args.args.now in
    let next = pp_with gives c.args.setup.now.language p in
    let once : are_twice (p.files.list ∷ p.without ∷ p.compiler ∷ p.defines ∷ []) ≡ false = search rules in
    let keeps : Keeps (g.O.ByteSink.written c.args.out) (g.O.ByteSink.written c.args.out) = search rules in
    run_unless _ input_twice (then (found_if gives p.files (words_of_pp p)) next) (IsPreprocessed gives g.I.Inputs.puts p) _ _ _ once
    (run_err (found_if gives p.files (words_of_pp p)) next (IsPreprocessed gives g.I.Inputs.puts p) _ c.find_preprocessing.new.inputs _ _ (seen_project c.find_preprocessing.result) (report_of c.in-Err.failure)
    (ap seen_project c.in-Err.is) refl c.find_preprocessing.ensures keeps not)
