use Rattle.std.proofs.Common.{◌<◌, ◌∙◌, length, sym, ap, arith}
use Rattle.std.specs.Prelude.{nat_lt}
use Rattle.std.proofs.lemmas.Bool.{le-ltb}
use Rattle.inc_lookup.proofs.OrderLemmas.{ended, apart}
use Rattle.inc_lookup.proofs.orders.is_less_after.Goals as goal

pub returns-then-common-path : goal.returns-then-common-path
returns-then-common-path c =
    let p = c.args.path.now in
    let q = c.args.other.now in
    ap (λ n. nat_lt n (length q)) c.if-common-path.true ∙ ended p q (λ k left right. c.requires.same k (omega (arith, c.if-common-path.true)))

pub returns-then-common-other : goal.returns-then-common-other
returns-then-common-other c =
    let p = c.args.path.now in
    let q = c.args.other.now in
    sym (le-ltb (length p) (length q) (omega (arith, c.requires.left, c.if-common-other.true)))
    ∙ ended p q (λ k left right. c.requires.same k (omega (arith, c.if-common-other.true)))

pub returns : goal.returns
returns c =
    let left : c.args.common < length c.args.path.now = omega (arith, c.requires.left, c.if-common-path.false) in
    let right : c.args.common < length c.args.other.now = omega (arith, c.requires.right, c.if-common-other.false) in
    apart c.args.common c.args.path.now c.args.other.now left right c.requires.same (c.requires.differ left right)
