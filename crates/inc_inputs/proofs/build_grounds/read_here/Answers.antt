use Rattle.std.proofs.Common.{Ok, Err, [], refl, ap, ◌∙◌}
use Rattle.inc_build.specs.Paths.{path_from}
use Rattle.inc_inputs.specs.Reports.{report_of}
use Rattle.inc_inputs.proofs.build_grounds.read_here.Goals as goal

pub returns-in_ok-path_from-in-Ok : goal.returns-in_ok-path_from-in-Ok
returns-in_ok-path_from-in-Ok g c not =
    let here = c.in-Ok.here.items in (
      Ok here,
      c.run_folder.new.self,
      (Ok here, c.in-Ok.ensures, refl),
      (ap Ok (c.in_ok-path_from-in-Ok.ensures ∙ ap (λ h. path_from h []) c.deref.ensures.value), refl),
    )

pub returns-in_ok-read_failure-in-Err : goal.returns-in_ok-read_failure-in-Err
returns-in_ok-read_failure-in-Err g c not =
    (Err (report_of c.in_ok-read_failure-in-Err.field-0), c.run_folder.new.self, (Err c.in-Err.fault, c.in-Err.ensures, ap Err c.in_ok-read_failure-in-Err.ensures), (refl, refl))
