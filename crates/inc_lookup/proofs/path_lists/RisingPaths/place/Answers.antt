use Rattle.std.proofs.Common.{◌+◌, ◌-◌, ◌<◌, ◌/◌, ℕ, List, nat_cmp, sym, subst, ap, ◌∙◌, arith, length}
use Rattle.std.specs.Cmp.Lexicographic.{slice_cmp}
use Rattle.inc_lookup.specs.PathLists.{Rises}
use Rattle.inc_lookup.proofs.RisingLists.{search_begun, search_right, search_left, search_over, search_found}
use Rattle.inc_lookup.proofs.path_lists.RisingPaths.place.Goals as goal

pub loop-low-init : goal.loop-low-init
loop-low-init c = rw c.len-high.ensures (search_begun c.args.self.now c.args.path.now)

pub path-requires : goal.path-requires
path-requires c =
    let within = c.loop-low.invariant.within in
    let left = c.loop-low-test.true in
    omega arith

pub loop-low-preserved-in-Less : goal.loop-low-preserved-in-Less
loop-low-preserved-in-Less c =
    let inside : c.loop-low.low + (c.loop-low.high - c.loop-low.low) / 2 < c.loop-low.high = omega (arith, c.loop-low-test.true) in
    search_right c.args.self.now c.args.path.now c.loop-low.low c.loop-low.high (c.loop-low.low + (c.loop-low.high - c.loop-low.low) / 2) (subst Rises c.self.view_is c.self.invariant) c.loop-low.invariant inside
    (ap (λ (p : List ℕ). slice_cmp nat_cmp p c.args.path.now) (sym c.path.ensures) ∙ sym c.cmp.ensures ∙ c.in-Less.is)

pub loop-low-preserved : goal.loop-low-preserved
loop-low-preserved c =
    let inside : c.loop-low.low + (c.loop-low.high - c.loop-low.low) / 2 < c.loop-low.high = omega (arith, c.loop-low-test.true) in
    search_left c.args.self.now c.args.path.now c.loop-low.low c.loop-low.high (c.loop-low.low + (c.loop-low.high - c.loop-low.low) / 2) (subst Rises c.self.view_is c.self.invariant) c.loop-low.invariant (omega arith) inside
    (ap (λ (p : List ℕ). slice_cmp nat_cmp p c.args.path.now) (sym c.path.ensures) ∙ sym c.cmp.ensures ∙ c.in-Greater.is)

pub returns-in-Equal : goal.returns-in-Equal
returns-in-Equal c =
    let within = c.loop-low.invariant.within in
    let inside : c.loop-low.low + (c.loop-low.high - c.loop-low.low) / 2 < length c.args.self.now = omega (arith, c.loop-low-test.true) in
    search_found c.args.self.now c.args.path.now (c.loop-low.low + (c.loop-low.high - c.loop-low.low) / 2) (subst Rises c.self.view_is c.self.invariant) inside
    (ap (λ (p : List ℕ). slice_cmp nat_cmp p c.args.path.now) (sym c.path.ensures) ∙ sym c.cmp.ensures ∙ c.in-Equal.is)

pub returns : goal.returns
returns c = search_over c.args.self.now c.args.path.now c.loop-low.low c.loop-low.high c.loop-low.invariant (omega (arith, c.loop-low-test.false))
