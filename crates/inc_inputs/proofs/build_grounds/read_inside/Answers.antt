use Rattle.std.proofs.Common.{◌∙◌, Ok, Err, ap, refl, subst}
use Rattle.inc_inputs.specs.BuildProjects.{IsDatabase}
use Rattle.inc_inputs.specs.Inputs.{WholeAt}
use Rattle.inc_inputs.specs.Reports.{read_report, report_of}
use Rattle.inc_inputs.specs.Views.{seen_database}
use Rattle.inc_inputs.proofs.build_grounds.read_inside.Goals as goal

pub returns-in-Ok : goal.returns-in-Ok
returns-in-Ok g c not =
    let text = c.in-Ok.text.items in
    let new = c.read_whole.new.self in
    let name = c.deref.ensures.value ∙ c.in_ok-name.ensures in
    let read = subst (λ n. g.I.Inputs.gives c.args.inputs.now (WholeAt n) (Ok text) new) name c.in-Ok.ensures in
    let made = subst (λ n. IsDatabase n text (seen_database c.database_of.result)) c.in_ok-name.ensures
    (subst (λ t. IsDatabase c.in_ok-name.name.items t (seen_database c.database_of.result)) c.deref-in-Ok.ensures.value (c.database_of.ensures not)) in
    (Ok text, new, (Ok text, read, refl), (made, refl))

pub returns-in-Err : goal.returns-in-Err
returns-in-Err g c not =
    let new = c.read_whole.new.self in
    let name = c.deref.ensures.value ∙ c.in_ok-name.ensures in
    let read = subst (λ n. g.I.Inputs.gives c.args.inputs.now (WholeAt n) (Err c.in-Err.fault) new) name c.in-Err.ensures in
    let report = c.unread.ensures (λ e. not (ap (λ r. Err r) e)) ∙ ap (read_report c.in-Err.fault) (c.deref-in-Err.ensures.value ∙ c.in_ok-name.ensures) in
    (Err (report_of c.unread.result), new, (Err c.in-Err.fault, read, ap (λ r. Err r) report), (refl, refl))
