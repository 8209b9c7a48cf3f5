use Rattle.std.proofs.Common.{◌≡◌, ◌≢◌, ◌++◌, ℕ, List, map, Ok, Err, Result, [], refl, rules, subst}
use Rattle.std.specs.Io.KnownBytes.{Keeps}
use Rattle.inc_args.specs.Views.{seen_pp}
use Rattle.inc_lookup.specs.Projects.{Layout}
use Rattle.inc_answers.specs.declared.outcome.End.{End}
use Rattle.inc_answers.specs.declared.outcome.RunFault.{RunFault}
use Rattle.inc_inputs.specs.Inputs.{Gives, Puts}
use Rattle.inc_cli.specs.Outputs.{Answer, Output, ended}
use Rattle.inc_cli.specs.Preprocessings.{IsPreprocessed, PpAsked, PrintsEach, pp_asked_for, searched, writes_beside}
use Rattle.inc_inputs.specs.Reports.{Report, out_of_memory, report_of}
use Rattle.inc_build.specs.declared.compiler_words.Kind.{Kind}
use Rattle.inc_inputs.specs.ProjectLists.{paths_in}
use Rattle.inc_inputs.specs.ListNotes.{named_layout}
use Rattle.inc_inputs.specs.Steps.{Step, comes_to}
use Rattle.inc_cli.specs.Views.{output_of, seen_end}
use Rattle.inc_inputs.specs.Views.{macro_of, pp_texts_in}
use Rattle.inc_text.specs.declared.languages.Language.{Language}
use Rattle.inc_args.specs.Meaning.{Preprocessing}
use Rattle.inc_inputs.specs.PpTexts as pp
use Rattle.inc_cli.proofs.BesideLemmas.{written_after}
use Rattle.inc_cli.proofs.RunLemmas.{run_came, run_came_err, run_here}
use Rattle.inc_cli.proofs.pp.preprocess_texts.Goals as goal

-- once the project stands
abbrev asked_with : {S : Type 0} → Language → Preprocessing → (macros : List (Kind × List ℕ)) → (notes : List ℕ) → pp.PpTexts → Layout → Step S PpAsked
asked_with language p macros notes t layout = comes_to (Ok (pp_asked_for language p macros notes t layout))

made : {S : Type 0} (gives : Gives S) (puts : Puts S) (p : Preprocessing) (a b : PpAsked) (old mid new : S) (out : Output) (result : Result End RunFault)
    (told answer : Result Answer Report)
    → PrintsEach gives a old mid out result → a ≡ b → (told ≢ Err out_of_memory → told ≡ ended b.notes b.paths [] result) → answer ≢ Err out_of_memory
    → writes_beside puts p told mid answer new → IsPreprocessed gives puts p b old out answer
made gives puts p a b old mid new out result told answer prints same is not wrote =
    (result, mid, new, subst (λ k. PrintsEach gives k old mid out result) same prints, written_after puts p told (ended b.notes b.paths [] result) mid new answer is not wrote)

pub returns-in-Err : goal.returns-in-Err
returns-in-Err g c not =
    let p = seen_pp c.args.args.now in
    let t = pp_texts_in c.args.texts.now in
    let e : named_layout p.files (paths_in p.files t.list) (searched p t) ≡ Err (report_of c.in-Err.failure) = search rules in
    let keeps : Keeps (g.O.ByteSink.written c.args.out) (g.O.ByteSink.written c.args.out) = search rules in
    run_came_err (named_layout p.files (paths_in p.files t.list) (searched p t)) (asked_with c.args.setup.now.language p (map macro_of c.args.macros.now) c.args.notes.items t) (IsPreprocessed g.I.Inputs.gives g.I.Inputs.puts p) _ _ _ _ e refl keeps

pub returns : goal.returns
returns g c not =
    let gives = g.I.Inputs.gives in
    let puts = g.I.Inputs.puts in
    let language = c.args.setup.now.language in
    let p = seen_pp c.args.args.now in
    let t = pp_texts_in c.args.texts.now in
    let macros = map macro_of c.args.macros.now in
    let notes = c.args.notes.items in
    let layout = c.in-Ok-named_project.project in
    let e : named_layout p.files (paths_in p.files t.list) (searched p t) ≡ Ok layout = search rules in
    let out = output_of (g.O.ByteSink.written c.args.out) (g.O.ByteSink.written c.print_each-ended.result.1) (g.O.ByteSink.has_failed c.print_each-ended.result.1) in
    let told : seen_end c.end_of-told.result ≢ Err out_of_memory → seen_end c.end_of-told.result ≡ ended notes (paths_in p.files t.list) [] c.print_each-ended.result.0 = search rules in
    run_came (named_layout p.files (paths_in p.files t.list) (searched p t)) (asked_with language p macros notes t) (IsPreprocessed gives puts p) _ _ _ layout e
    (run_here (pp_asked_for language p macros notes t layout) (IsPreprocessed gives puts p) _ _ _
    (made gives puts p _ (pp_asked_for language p macros notes t layout) _ _ _ out _ (seen_end c.end_of-told.result) _ (c.print_each-ended.ensures notes) (search rules) told not (c.write_beside.ensures not)))
