use Rattle.std.proofs.Common.{◌≡◌, ◌||◌, true, false, refl, rules}
use Rattle.std.specs.Io.KnownBytes.{Keeps}
use Rattle.inc_args.specs.Views.{seen_pp}
use Rattle.inc_cli.specs.Preprocessings.{IsPreprocessed, pp_apart}
use Rattle.inc_inputs.specs.Reports.{no_file}
use Rattle.inc_inputs.specs.Texts.{names_input}
use Rattle.inc_cli.proofs.RunLemmas.{run_not, run_unless}
use Rattle.inc_cli.proofs.pp.preprocess_bounded.Goals as goal

pub returns-then-are_no_files : goal.returns-then-are_no_files
returns-then-are_no_files g c not =
    let p = seen_pp c.args.args.now in
    let none : (names_input p.deps || names_input p.status) ≡ true = search rules in
    let keeps : Keeps (g.O.ByteSink.written c.args.out) (g.O.ByteSink.written c.args.out) = search rules in
    run_not _ no_file (pp_apart g.I.Inputs.gives c.args.setup.now.language p) (IsPreprocessed g.I.Inputs.gives g.I.Inputs.puts p) _ _ _ none refl keeps

pub returns : goal.returns
returns g c not =
    let p = seen_pp c.args.args.now in
    let some : (names_input p.deps || names_input p.status) ≡ false = search rules in
    run_unless _ no_file (pp_apart g.I.Inputs.gives c.args.setup.now.language p) (IsPreprocessed g.I.Inputs.gives g.I.Inputs.puts p) _ _ _ some (c.preprocess_apart.ensures not)
