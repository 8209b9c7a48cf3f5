use Rattle.std.proofs.Common.{sym}
use Rattle.inc_answers.proofs.NameOrder.{found_kind, no_kind}
use Rattle.inc_answers.proofs.directive_names.FileNames.kind.Goals as goal

pub returns-in-Some : goal.returns-in-Some
returns-in-Some c =
    found_kind c.self.inside.lines.items c.deref.result.now c.deref-2.result.now c.args.self.now c.args.line c.lines_before-place.result c.in-Some.named.now _
    (sym c.self.view_is) c.deref.ensures.value c.deref-2.ensures.value c.self.invariant c.lines_before-place.ensures.point c.in-Some.ensures.lookup.3.0 c.in-Some.ensures.lookup.1 c.kind_if.ensures

pub returns-in-None : goal.returns-in-None
returns-in-None c =
    no_kind c.self.inside.lines.items c.deref.result.now c.deref-2.result.now c.args.self.now c.args.line c.lines_before-place.result
    (sym c.self.view_is) c.deref.ensures.value c.deref-2.ensures.value c.self.invariant c.lines_before-place.ensures.point c.in-None.ensures.lookup.3
