use Rattle.std.proofs.Common.{◌≡◌, ℕ, List, refl, rules, subst}
use Rattle.inc_args.specs.Views.{seen_pp}
use Rattle.inc_cli.specs.Outputs.{IsRun}
use Rattle.inc_cli.specs.Preprocessings.{IsPreprocessed, pp_found, with_texts}
use Rattle.inc_cli.specs.Views.{output_of, seen_end}
use Rattle.inc_inputs.specs.Views.{project_in}
use Rattle.inc_cli.proofs.pp.preprocess_found.Goals as goal

pub returns : goal.returns
returns g c not =
    let gives = g.I.Inputs.gives in
    let language = c.args.setup.now.language in
    let p = seen_pp c.args.args.now in
    let f = project_in c.args.found in
    let P = IsPreprocessed gives g.I.Inputs.puts p in
    let out = output_of (g.O.ByteSink.written c.args.out) (g.O.ByteSink.written c.preprocess_build.result.1) (g.O.ByteSink.has_failed c.preprocess_build.result.1) in
    let answer = seen_end c.preprocess_build.result.0 in
    let list : c.replace-list.result.items ≡ f.list = search rules in
    let notes : c.replace-notes.result.items ≡ f.added.notes = search rules in
    let noted : IsRun (pp_found gives language p (with_texts c.replace-list.result.items f.added.notes f)) P c.args.inputs out answer =
    subst (λ (ns : List ℕ). IsRun (pp_found gives language p (with_texts c.replace-list.result.items ns f)) P c.args.inputs out answer) notes (c.preprocess_build.ensures not) in
    subst (λ (ls : List ℕ). IsRun (pp_found gives language p (with_texts ls f.added.notes f)) P c.args.inputs out answer) list noted
