use Rattle.std.proofs.Common.{sym, subst, arith, ap, ◌∙◌}
use Rattle.std.proofs.lemmas.List.{length-map}
use Rattle.inc_expand.specs.Arguments.{AreKnownIn}
use Rattle.inc_expand.specs.Expansion.{filled_up}
use Rattle.inc_expand.specs.Slots.{inside_tokens, slot_value, slot_values}
use Rattle.inc_expand.proofs.BoundArguments.{bound-right, bound-wrong}
use Rattle.inc_expand.proofs.calls.bound.Goals as goal

pub returns-then-len-wanted_count-clause-fault : goal.returns-then-len-wanted_count-clause-fault
returns-then-len-wanted_count-clause-fault c s other =
    let inside = inside_tokens c.args.inside in
    let n = length-map c.fill_up.new.args.items (slot_value inside) in
    bound-wrong c.args.params.now s (slot_values inside c.fill_up.new.args.items) inside
    (c.in_ok-fill_up.ensures.args s inside ∙ ap (filled_up c.args.params.now) (rw c.tokens.ensures at (c.in_ok-slots.ensures.args s)))
    (λ e. c.if-len-wanted_count.true (omega (arith, e, n, c.len.ensures, c.wanted_count.ensures.count, c.fill_up.new.args.ok.0)))

pub returns-clause-known : goal.returns-clause-known
returns-clause-known c n h =
    let inside = inside_tokens c.args.inside in
    subst (AreKnownIn n) (sym c.new.ensures) (c.in_ok-fill_up.ensures.known n inside (rw c.tokens.ensures at (c.in_ok-slots.ensures.known n) h))

pub returns-clause-args : goal.returns-clause-args
returns-clause-args c s =
    let inside = inside_tokens c.args.inside in
    let n = length-map c.fill_up.new.args.items (slot_value inside) in
    rw c.new.ensures (bound-right c.args.params.now s (slot_values inside c.fill_up.new.args.items) inside
    (c.in_ok-fill_up.ensures.args s inside ∙ ap (filled_up c.args.params.now) (rw c.tokens.ensures at (c.in_ok-slots.ensures.args s)))
    (omega (arith, n, c.if-len-wanted_count.false, c.len.ensures, c.wanted_count.ensures.count, c.fill_up.new.args.ok.0)))
