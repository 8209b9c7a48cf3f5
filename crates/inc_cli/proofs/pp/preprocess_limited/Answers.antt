use Rattle.std.proofs.Common.{◌≡◌, true, false, refl, rules}
use Rattle.std.specs.Io.KnownBytes.{Keeps}
use Rattle.inc_args.specs.Views.{seen_pp}
use Rattle.inc_cli.specs.Preprocessings.{IsPreprocessed, is_no_bound, pp_bounded}
use Rattle.inc_inputs.specs.Reports.{no_most_output}
use Rattle.inc_cli.proofs.RunLemmas.{run_not, run_unless}
use Rattle.inc_cli.proofs.pp.preprocess_limited.Goals as goal

pub returns-then-is_no_bound : goal.returns-then-is_no_bound
returns-then-is_no_bound g c not =
    let p = seen_pp c.args.args.now in
    let none : is_no_bound p.most_output ≡ true = search rules in
    let keeps : Keeps (g.O.ByteSink.written c.args.out) (g.O.ByteSink.written c.args.out) = search rules in
    run_not _ no_most_output (pp_bounded g.I.Inputs.gives c.args.setup.now.language p) (IsPreprocessed g.I.Inputs.gives g.I.Inputs.puts p) _ _ _ none refl keeps

pub returns : goal.returns
returns g c not =
    let p = seen_pp c.args.args.now in
    let some : is_no_bound p.most_output ≡ false = search rules in
    run_unless _ no_most_output (pp_bounded g.I.Inputs.gives c.args.setup.now.language p) (IsPreprocessed g.I.Inputs.gives g.I.Inputs.puts p) _ _ _ some (c.preprocess_bounded.ensures not)
