use Rattle.std.proofs.Common.{ap, ◌∙◌}
use Rattle.inc_inputs.specs.Reports.{baseline_report}
use Rattle.inc_inputs.proofs.baselines.lines_of.Goals as goal

pub returns-in_ok-baseline_failure-in-Err-clause-fault : goal.returns-in_ok-baseline_failure-in-Err-clause-fault
returns-in_ok-baseline_failure-in-Err-clause-fault c =
    let fault = c.in-Err.fault in
    let told = c.in_ok-baseline_failure-in-Err.ensures in
    (fault, told ∙ ap (baseline_report fault) c.as_bytes.ensures.value, c.in-Err.ensures.fault)
