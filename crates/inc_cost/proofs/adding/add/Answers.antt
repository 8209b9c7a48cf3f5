use Rattle.std.proofs.Common.{◌≡◌, ◌+◌, ◌-◌, suc, length, ap, ◌∙◌, arith, rules}
use Rattle.std.specs.Prelude.{slice_index}
use Rattle.std.specs.Vec.{vec_len}
use Rattle.std.proofs.lemmas.Grind.{get_or_default_zero}
use Rattle.inc_cost.proofs.AddLemmas.{added_skip, added_before, added_more}
use Rattle.inc_cost.proofs.adding.add.Goals as goal
use Rattle.inc_cost.proofs.adding.add.Goals.{then-keys-place-ne0, else-keys-place-ne0}

pub index_mut-requires : goal.index_mut-requires
index_mut-requires c =
    let key : slice_index c.args.keys.now c.loop-place.place ≡ suc (slice_index c.args.keys.now c.loop-place.place - 1) = let some = c.if-keys-place-ne0.true in omega arith in
    let before = added_before c.args.keys.now c.args.parts.now c.args.amounts.now.items c.loop-place.amounts.items c.loop-place.place (slice_index c.args.keys.now c.loop-place.place - 1) key c.requires.keys c.loop-place.invariant in
    let len : vec_len c.loop-place.amounts ≡ length c.loop-place.amounts.items = search rules in
    omega (arith, before.1, len)

pub overflow_add-index_mut : goal.overflow_add-index_mut
overflow_add-index_mut c =
    let key : slice_index c.args.keys.now c.loop-place.place ≡ suc (slice_index c.args.keys.now c.loop-place.place - 1) = let some = c.if-keys-place-ne0.true in omega arith in
    let before = added_before c.args.keys.now c.args.parts.now c.args.amounts.now.items c.loop-place.amounts.items c.loop-place.place (slice_index c.args.keys.now c.loop-place.place - 1) key c.requires.keys c.loop-place.invariant in
    let room = c.requires.room (slice_index c.args.keys.now c.loop-place.place - 1) in
    let few = c.requires.parts c.loop-place.place in
    let read = c.index_mut.ensures.value ∙ get_or_default_zero c.loop-place.amounts.items (slice_index c.args.keys.now c.loop-place.place - 1) c.index_mut.result.now before.1 in
    omega (arith, before.0, room, few, read)

pub loop-place-preserved : goal.loop-place-preserved
loop-place-preserved c = elim c.if-keys-place-ne0.branch [
  | then-keys-place-ne0 w ↦
      let key : slice_index c.args.keys.now c.loop-place.place ≡ suc (slice_index c.args.keys.now c.loop-place.place - 1) = let some = w.if-keys-place-ne0.true in omega arith in
      let before = added_before c.args.keys.now c.args.parts.now c.args.amounts.now.items c.loop-place.amounts.items c.loop-place.place (slice_index c.args.keys.now c.loop-place.place - 1) key c.requires.keys c.loop-place.invariant in
      let sum = ap (λ n. n + slice_index c.args.parts.now c.loop-place.place)
      (w.index_mut.ensures.value ∙ get_or_default_zero c.loop-place.amounts.items (slice_index c.args.keys.now c.loop-place.place - 1) w.index_mut.result.now before.1) in
      rw w.amounts-is (added_more c.args.keys.now c.args.parts.now c.args.amounts.now.items c.loop-place.amounts.items c.loop-place.place (slice_index c.args.keys.now c.loop-place.place - 1)
      (w.index_mut.result.now + slice_index c.args.parts.now c.loop-place.place) key c.requires.keys sum c.loop-place.invariant)
  | else-keys-place-ne0 w ↦ rw w.amounts-is (added_skip c.args.keys.now c.args.parts.now c.args.amounts.now.items c.loop-place.amounts.items c.loop-place.place w.if-keys-place-ne0.false c.loop-place.invariant)
]

pub returns-clause-most : goal.returns-clause-most
returns-clause-most c = λ most below k. c.loop-place.invariant.most most k below c.requires.parts
