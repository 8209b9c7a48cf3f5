use Rattle.std.proofs.Common.{◌≡◌, true, false, refl, rules}
use Rattle.std.specs.Io.KnownBytes.{Keeps}
use Rattle.inc_args.specs.Views.{seen_pp}
use Rattle.inc_cli.specs.Preprocessings.{IsPreprocessed, pp_without}
use Rattle.inc_inputs.specs.Reports.{one_file}
use Rattle.inc_inputs.specs.Texts.{are_one}
use Rattle.inc_cli.proofs.RunLemmas.{run_not, run_unless}
use Rattle.inc_cli.proofs.pp.preprocess_apart.Goals as goal

pub returns-then-are_one : goal.returns-then-are_one
returns-then-are_one g c not =
    let p = seen_pp c.args.args.now in
    let one : are_one p.deps p.status ≡ true = search rules in
    let keeps : Keeps (g.O.ByteSink.written c.args.out) (g.O.ByteSink.written c.args.out) = search rules in
    run_not _ one_file (pp_without g.I.Inputs.gives c.args.setup.now.language p) (IsPreprocessed g.I.Inputs.gives g.I.Inputs.puts p) _ _ _ one refl keeps

pub returns : goal.returns
returns g c not =
    let p = seen_pp c.args.args.now in
    let two : are_one p.deps p.status ≡ false = search rules in
    run_unless _ one_file (pp_without g.I.Inputs.gives c.args.setup.now.language p) (IsPreprocessed g.I.Inputs.gives g.I.Inputs.puts p) _ _ _ two (c.preprocess_without.ensures not)
