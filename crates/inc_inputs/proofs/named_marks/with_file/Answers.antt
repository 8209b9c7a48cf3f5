use Rattle.std.proofs.Common.{◌∙◌, ap, option_map, sym, subst, Some, Err}
use Rattle.inc_lookup.specs.Views.{seen_answer}
use Rattle.inc_inputs.specs.Inputs.{ListedAt}
use Rattle.inc_inputs.specs.NamedPlaces.{with_file}
use Rattle.inc_inputs.specs.Reports.{read_report}
use Rattle.inc_inputs.proofs.NamedSteps.{file_read, file_unread}
use Rattle.inc_inputs.proofs.named_marks.with_file.Goals as goal

pub returns-in-Ok-add_marks : goal.returns-in-Ok-add_marks
returns-in-Ok-add_marks g c not =
    file_read g.I.Inputs.gives c.args.language (option_map (λ n. n.now) c.args.name) c.args.path.now c.args.written.now c.args.marks.items c.args.inputs.now c.read_listed.new.self
    c.in-Ok.bytes.items c.add_marks.new.marks.items c.in-Ok.ensures.gives c.in-Ok-add_marks.ensures

pub returns-in_ok-read_failure-in-Err : goal.returns-in_ok-read_failure-in-Err
returns-in_ok-read_failure-in-Err g c not =
    let step = with_file g.I.Inputs.gives c.args.language (option_map (λ n. n.now) c.args.name) c.args.path.now (Some c.args.written.now) c.args.marks.items in
    subst (λ r. step c.args.inputs.now (Err r) c.read_listed.new.self) (sym c.in_ok-read_failure-in-Err.ensures)
    (file_unread g.I.Inputs.gives c.args.language (option_map (λ n. n.now) c.args.name) c.args.path.now c.args.written.now c.args.marks.items c.args.inputs.now c.read_listed.new.self
    c.in-Err.fault c.in-Err.ensures.gives)
