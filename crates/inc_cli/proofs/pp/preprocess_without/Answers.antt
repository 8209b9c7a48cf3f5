use Rattle.std.proofs.Common.{◌≡◌, Err, None, Some, ap, refl, rules}
use Rattle.std.specs.Io.KnownBytes.{Keeps}
use Rattle.inc_args.specs.Views.{seen_pp}
use Rattle.inc_cli.specs.Preprocessings.{IsPreprocessed, pp_named}
use Rattle.inc_inputs.specs.GlobWords.{exclude_report}
use Rattle.inc_inputs.specs.Reports.{report_of}
use Rattle.inc_cli.proofs.RunLemmas.{run_reported, run_unreported}
use Rattle.inc_cli.proofs.pp.preprocess_without.Goals as goal

pub returns-in-Some : goal.returns-in-Some
returns-in-Some g c not =
    let p = seen_pp c.args.args.now in
    let keeps : Keeps (g.O.ByteSink.written c.args.out) (g.O.ByteSink.written c.args.out) = search rules in
    let found : exclude_report p.files ≡ Some (report_of c.in-Some.failure) = c.in-Some.ensures (λ same. not (ap Err same)) in
    run_reported (exclude_report p.files) (report_of c.in-Some.failure) (pp_named g.I.Inputs.gives c.args.setup.now.language p)
    (IsPreprocessed g.I.Inputs.gives g.I.Inputs.puts p) _ _ _ found refl keeps

pub returns-in-None : goal.returns-in-None
returns-in-None g c not =
    let p = seen_pp c.args.args.now in
    let none : exclude_report p.files ≡ None = c.in-None.ensures in
    run_unreported (exclude_report p.files) (pp_named g.I.Inputs.gives c.args.setup.now.language p) (IsPreprocessed g.I.Inputs.gives g.I.Inputs.puts p) _ _ _ none
    (c.preprocess_named.ensures not)
