use Rattle.std.proofs.Common.{◌++◌, ◌∙◌, Err, ap, map, option_map, subst}
use Rattle.inc_inputs.specs.NamedPlaces.{with_path}
use Rattle.inc_inputs.specs.Reports.{report_of}
use Rattle.inc_inputs.specs.Steps.{each}
use Rattle.inc_inputs.specs.Views.{listed_in, seen_marks}
use Rattle.inc_inputs.proofs.NamedSteps.{glob_known, glob_unknown}
use Rattle.inc_inputs.proofs.named_marks.with_glob.Goals as goal

pub returns-in-Ok : goal.returns-in-Ok
returns-in-Ok g c not =
    let p = listed_in c.args.listed in
    let name = option_map (λ n. n.now) c.args.name in
    glob_known g.I.Inputs.gives p c.args.side name c.args.glob.now c.args.marks.items c.args.inputs.now c.with_paths.new.inputs (seen_marks c.with_paths.result)
    c.in-Ok.ensures.added.0 c.in-Ok.ensures.added.1
    (subst (λ ps. each (with_path g.I.Inputs.gives p name) ps c.args.marks.items c.args.inputs.now (seen_marks c.with_paths.result) c.with_paths.new.inputs)
    (ap (map (λ q. q.now)) c.deref.ensures.value ∙ c.in-Ok.ensures.added.2 ∙ ap (λ ps. map (λ q. q.now) ps ++ c.in-Ok.ensures.added.0) c.new-paths.ensures.items) (c.with_paths.ensures not))

pub returns-in-Err : goal.returns-in-Err
returns-in-Err g c not =
    glob_unknown g.I.Inputs.gives (listed_in c.args.listed) c.args.side (option_map (λ n. n.now) c.args.name) c.args.glob.now c.args.marks.items c.args.inputs.now
    (report_of c.in-Err.failure) (c.in-Err.ensures.fault (λ same. not (ap Err same)))
