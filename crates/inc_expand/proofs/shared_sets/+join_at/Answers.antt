use Rattle.std.proofs.Common.{rules, ◌≡◌, suc, ◌||◌, ◌-◌, sym, ◌∙◌, arith}
use Rattle.std.proofs.lemmas.Result.{IfOk-weaker}
use Rattle.inc_expand.proofs.Sets.{keep-set}
use Rattle.inc_expand.proofs.Steps.{left-below, right-below, gives-pair, both-halves, join-first, join-second, join-below}
use Rattle.inc_expand.proofs.shared_sets.+join_at.Goals as goal

pub returns-then-a-b-clause-gives : goal.returns-then-a-b-clause-gives
returns-then-a-b-clause-gives t c = join-first _ _ _ _ c.then-a-b.either c.requires.a_set

pub returns-then-a-eq-EMPTY-clause-gives : goal.returns-then-a-eq-EMPTY-clause-gives
returns-then-a-eq-EMPTY-clause-gives t c = join-second _ _ _ _ c.if-b-eq-EMPTY.false c.then-a-eq-EMPTY.either c.requires.b_set

pub join_at-requires : goal.join_at-requires
join_at-requires t c =
    let e : suc (c.args.depth - 1) ≡ c.args.depth = omega (arith, c.if-depth-eq0.false) in (
      search rules,
      (
        c.requires.table,
        (
          left-below c.requires.table _ _ _ e c.requires.a_set _ c.split-a_left.ensures.left,
          (left-below c.requires.table _ _ _ e c.requires.b_set _ c.split-b_left.ensures.left, omega (arith, c.requires.deep)),
        ),
      ),
    )

pub join_at-requires-2 : goal.join_at-requires-2
join_at-requires-2 t c =
    let e : suc (c.args.depth - 1) ≡ c.args.depth = omega (arith, c.if-depth-eq0.false) in
    let g = c.join_at.ensures.grows in (
      search rules,
      (
        g.table,
        (
          keep-set g _ _ (right-below c.requires.table _ _ _ e c.requires.a_set _ c.split-a_left.ensures.right),
          (keep-set g _ _ (right-below c.requires.table _ _ _ e c.requires.b_set _ c.split-b_left.ensures.right), omega (arith, c.requires.deep)),
        ),
      ),
    )

pub returns-in_err-right-clause-below : goal.returns-in_err-right-clause-below
returns-in_err-right-clause-below t c top below = c.join_at-2.ensures.below top (c.join_at.ensures.below top below)

pub returns-clause-gives : goal.returns-clause-gives
returns-clause-gives t c =
    let e : suc (c.args.depth - 1) ≡ c.args.depth = omega (arith, c.if-depth-eq0.false) in
    let h = c.join_at-2.ensures.grows in
    IfOk-weaker c.pair.result _ _
    (λ n pair. gives-pair _ _ _ _ _ n e h.table c.pair.ensures.grows (keep-set h _ _ c.in_ok-left.ensures.gives.set) c.in_ok-right.ensures.gives.set pair
    (both-halves (λ x y. x || y) c.requires.table c.join_at.ensures.grows h _ _ _ _ _ _ _ _ _ _ e c.requires.a_set c.requires.b_set
    c.split-a_left.ensures.left c.split-a_left.ensures.right c.split-b_left.ensures.left c.split-b_left.ensures.right c.in_ok-left.ensures.gives c.in_ok-right.ensures.gives))
    c.pair.ensures.pair

pub returns-clause-below : goal.returns-clause-below
returns-clause-below t c top below =
    let e : suc (c.args.depth - 1) ≡ c.args.depth = omega (arith, c.if-depth-eq0.false) in
    c.pair.ensures.below top (c.join_at-2.ensures.below top (c.join_at.ensures.below top below))
    (λ k known. join-below top _ _ _ k below c.requires.a_set c.requires.b_set
    (sym (both-halves (λ x y. x || y) c.requires.table c.join_at.ensures.grows c.join_at-2.ensures.grows _ _ _ _ _ _ _ _ _ _ e c.requires.a_set c.requires.b_set
    c.split-a_left.ensures.left c.split-a_left.ensures.right c.split-b_left.ensures.left c.split-b_left.ensures.right c.in_ok-left.ensures.gives c.in_ok-right.ensures.gives k) ∙ known))
