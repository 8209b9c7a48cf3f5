use Rattle.std.proofs.Common.{length, sym, ◌∙◌}
use Rattle.inc_directive.proofs.SplitParts.{included_rest}
use Rattle.inc_directive.proofs.walks.DirectiveIter.next.Goals as goal

pub invariant_of-self-in-len1-up : goal.invariant_of-self-in-len1-up
invariant_of-self-in-len1-up c =
    let left = c.loop-self.self-inside in
    included_rest (length left.text.now) left.parts.now left.inclusions.now _ c.loop-self.invariant.included c.in-len1-up.len_at_least (sym c.is_removable.ensures ∙ c.if-not-is_removable.false)
    c.in-len1-up-inclusions.len_at_least
