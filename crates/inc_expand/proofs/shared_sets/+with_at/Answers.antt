use Rattle.std.proofs.Common.{rules, ◌≡◌, suc, ◌*◌, ◌^◌, ◌<◌, ◌≤◌, ◌||◌, nat_eq, ◌-◌, sym, ◌∙◌, subst, arith, pow-suc}
use Rattle.std.proofs.lemmas.Result.{IfOk-weaker}
use Rattle.inc_expand.specs.Nodes.{has, Gives}
use Rattle.inc_expand.proofs.Sets.{keep-set}
use Rattle.inc_expand.proofs.Steps.{left-below, right-below, gives-pair, with-low, with-high, with-below}
use Rattle.inc_expand.proofs.shared_sets.+with_at.Goals as goal

pub with_at-requires : goal.with_at-requires
with_at-requires t c =
    let e : suc (c.args.depth - 1) ≡ c.args.depth = omega (arith, c.if-depth-eq0.false) in
    (search rules, (c.requires.table, (left-below c.requires.table _ _ _ e c.requires.set _ c.split-left.ensures.left, (search rules, omega (arith, c.requires.deep)))))

pub pair-requires-clause-right : goal.pair-requires-clause-right
pair-requires-clause-right t c =
    let e : suc (c.args.depth - 1) ≡ c.args.depth = omega (arith, c.if-depth-eq0.false) in
    keep-set c.with_at.ensures.grows _ _ (right-below c.requires.table _ _ _ e c.requires.set _ c.split-left.ensures.right)

pub with_at-requires-else-number-half : goal.with_at-requires-else-number-half
with_at-requires-else-number-half t c =
    let e : suc (c.args.depth - 1) ≡ c.args.depth = omega (arith, c.if-depth-eq0.false) in
    let twice : 2 ^ suc (c.args.depth - 1) ≡ 2 ^ (c.args.depth - 1) * 2 = pow-suc 2 (c.args.depth - 1) in
    let full : c.args.number < 2 ^ suc (c.args.depth - 1) = subst (λ f. c.args.number < 2 ^ f) (sym e) c.requires.fits in (
      search rules,
      (
        c.requires.table,
        (
          right-below c.requires.table _ _ _ e c.requires.set _ c.split-left.ensures.right,
          (omega (arith, twice, full, c.half-half.ensures, c.if-number-half.false), omega (arith, c.requires.deep)),
        ),
      ),
    )

pub returns-in_err-more-2-clause-below : goal.returns-in_err-more-2-clause-below
returns-in_err-more-2-clause-below t c top below low = c.with_at-else-number-half.ensures.below top below (omega (arith, low))

pub pair-requires-else-number-half-clause-left : goal.pair-requires-else-number-half-clause-left
pair-requires-else-number-half-clause-left t c =
    let e : suc (c.args.depth - 1) ≡ c.args.depth = omega (arith, c.if-depth-eq0.false) in
    keep-set c.with_at-else-number-half.ensures.grows _ _ (left-below c.requires.table _ _ _ e c.requires.set _ c.split-left.ensures.left)

pub returns-in_ok-more-clause-gives : goal.returns-in_ok-more-clause-gives
returns-in_ok-more-clause-gives t c =
    let e : suc (c.args.depth - 1) ≡ c.args.depth = omega (arith, c.if-depth-eq0.false) in
    let low : c.args.number < 2 ^ (c.args.depth - 1) = omega (arith, c.half-half.ensures, c.if-number-half.true) in
    IfOk-weaker c.pair.result _ _
    (λ n pair. gives-pair _ _ _ _ _ n e c.with_at.ensures.grows.table c.pair.ensures.grows c.in_ok-more.ensures.gives.set
    (keep-set c.with_at.ensures.grows _ _ (right-below c.requires.table _ _ _ e c.requires.set _ c.split-left.ensures.right)) pair
    (with-low c.requires.table c.with_at.ensures.grows _ _ _ _ _ _ _ e c.requires.set c.split-left.ensures.left c.split-left.ensures.right low c.in_ok-more.ensures.gives))
    c.pair.ensures.pair

pub returns-in_ok-more-clause-below : goal.returns-in_ok-more-clause-below
returns-in_ok-more-clause-below t c top below few =
    let e : suc (c.args.depth - 1) ≡ c.args.depth = omega (arith, c.if-depth-eq0.false) in
    let low : c.args.number < 2 ^ (c.args.depth - 1) = omega (arith, c.half-half.ensures, c.if-number-half.true) in
    c.pair.ensures.below top (c.with_at.ensures.below top below few)
    (λ k known. with-below top _ _ _ k below c.requires.set few
    (sym (with-low c.requires.table c.with_at.ensures.grows _ _ _ _ _ _ _ e c.requires.set c.split-left.ensures.left c.split-left.ensures.right low c.in_ok-more.ensures.gives k) ∙ known))

pub returns-in_ok-more-2-clause-gives : goal.returns-in_ok-more-2-clause-gives
returns-in_ok-more-2-clause-gives t c =
    let e : suc (c.args.depth - 1) ≡ c.args.depth = omega (arith, c.if-depth-eq0.false) in
    let high : 2 ^ (c.args.depth - 1) ≤ c.args.number = omega (arith, c.half-half.ensures, c.if-number-half.false) in
    let g = subst (λ h. Gives (λ k. has c.args.nodes.now.keys (c.args.depth - 1) c.split-left.result.1 k || nat_eq k (c.args.number - h)) c.with_at-else-number-half.new.nodes.keys (c.args.depth - 1) c.in_ok-more-2.more) c.half-half.ensures c.in_ok-more-2.ensures.gives in
    IfOk-weaker c.pair-else-number-half.result _ _
    (λ n pair. gives-pair _ _ _ _ _ n e c.with_at-else-number-half.ensures.grows.table c.pair-else-number-half.ensures.grows
    (keep-set c.with_at-else-number-half.ensures.grows _ _ (left-below c.requires.table _ _ _ e c.requires.set _ c.split-left.ensures.left)) g.set pair
    (with-high c.requires.table c.with_at-else-number-half.ensures.grows _ _ _ _ _ _ _ e c.requires.set c.split-left.ensures.left c.split-left.ensures.right high g))
    c.pair-else-number-half.ensures.pair

pub returns-in_ok-more-2-clause-below : goal.returns-in_ok-more-2-clause-below
returns-in_ok-more-2-clause-below t c top below few =
    let e : suc (c.args.depth - 1) ≡ c.args.depth = omega (arith, c.if-depth-eq0.false) in
    let high : 2 ^ (c.args.depth - 1) ≤ c.args.number = omega (arith, c.half-half.ensures, c.if-number-half.false) in
    let g = subst (λ h. Gives (λ k. has c.args.nodes.now.keys (c.args.depth - 1) c.split-left.result.1 k || nat_eq k (c.args.number - h)) c.with_at-else-number-half.new.nodes.keys (c.args.depth - 1) c.in_ok-more-2.more) c.half-half.ensures c.in_ok-more-2.ensures.gives in
    c.pair-else-number-half.ensures.below top (c.with_at-else-number-half.ensures.below top below (omega (arith, few)))
    (λ k known. with-below top _ _ _ k below c.requires.set few
    (sym (with-high c.requires.table c.with_at-else-number-half.ensures.grows _ _ _ _ _ _ _ e c.requires.set c.split-left.ensures.left c.split-left.ensures.right high g k) ∙ known))
