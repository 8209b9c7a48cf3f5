use Rattle.std.proofs.Common.{Err, ap, refl, ◌∙◌}
use Rattle.serde_json.specs.View.{view}
use Rattle.inc_inputs.specs.BuildReports.{database_report}
use Rattle.inc_inputs.specs.Reports.{report_of}
use Rattle.inc_inputs.proofs.GroundLemmas.{is_none, json_read}
use Rattle.inc_inputs.proofs.build_grounds.database_of.Goals as goal

pub returns-in-Ok : goal.returns-in-Ok
returns-in-Ok c not = (refl, json_read c.args.text.now (view c.in-Ok.value) c.in-Ok.ensures.text c.in-Ok.ensures.value)

pub returns-in-Err : goal.returns-in-Err
returns-in-Err c not =
    is_none c.args.name.items c.args.text.now c.in-Err.fault (report_of c.database_failure.result) (λ e. not (ap (λ r. Err r) e))
    (λ apart. c.database_failure.ensures apart ∙ ap (λ n. database_report n c.in-Err.fault) c.deref.ensures.value) c.in-Err.ensures.fault
