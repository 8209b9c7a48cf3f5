use Rattle.std.proofs.Common.{false, length, ap, rules}
use Rattle.inc_token.specs.declared.kinds.Kind.TheVariants.{HeaderName}
use Rattle.inc_pp.specs.declared.waiting.Part.{Part}
use Rattle.inc_pp.proofs.WaitingParts.{end_within}
use Rattle.inc_pp.proofs.waiting.Waiting.tokens.Goals as goal

pub slice_bounds-lent-end : goal.slice_bounds-lent-end
slice_bounds-lent-end c =
    let none : Part = record { end = 0; line = 0; kind = HeaderName; space = false; painted = false } in
    let within = end_within c.loop-part.begin (length c.self.inside.bytes.items) c.loop-part.part-index c.deref-part-items.result.now none c.loop-part-test.true c.loop-part.invariant.1 in
    let all = ap length c.deref.ensures.value in
    search rules
