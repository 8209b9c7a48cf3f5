use Rattle.inc_inputs.specs.Reports.{report_of}
use Rattle.inc_inputs.proofs.NameReports.{name_passed, name_found}
use Rattle.inc_inputs.proofs.undefined_names.names_failure.Goals as goal

pub returns-in-Some : goal.returns-in-Some
returns-in-Some c =
    λ kept. name_found (λ n. n.now) c.args.language c.args.names.now c.loop-name.name-index _ c.loop-name-test.true _ (report_of c.in-Some.failure) (c.in-Some.ensures kept) c.loop-name.invariant

pub loop-name-preserved : goal.loop-name-preserved
loop-name-preserved c =
    name_passed (λ n. n.now) c.args.language c.args.names.now c.loop-name.name-index _ c.loop-name-test.true _ c.in_default.ensures c.loop-name.invariant
