use Rattle.std.proofs.Common.{◌≡◌, ◌≤◌, ℕ, Bor, List, [], length, take, subst, arith}
use Rattle.std.specs.List.{All}
use Rattle.std.proofs.lemmas.List.{take_all}
use Rattle.inc_lookup.proofs.RisingLists.{lengths_more, lengths_from}
use Rattle.inc_lookup.proofs.path_lists.RisingPaths.longest.Goals as goal
use Rattle.inc_lookup.proofs.path_lists.RisingPaths.longest.Goals.{then-path-longest, else-path-longest}

pub loop-path-preserved : goal.loop-path-preserved
loop-path-preserved c =
    let none : Bor (List ℕ) = record { ref_ptr = (0, 0); now = [] } in
    elim c.if-path-longest.branch [
      | then-path-longest w ↦
          lengths_more c.self.inside.written.now c.loop-path.path-index none c.loop-path.longest c.if-path-longest.longest c.loop-path-test.true c.loop-path.invariant
          (omega (arith, w.longest-is, w.if-path-longest.true)) (omega (arith, w.longest-is))
      | else-path-longest w ↦
          lengths_more c.self.inside.written.now c.loop-path.path-index none c.loop-path.longest c.if-path-longest.longest c.loop-path-test.true c.loop-path.invariant
          (omega (arith, w.longest-is)) (omega (arith, w.longest-is, w.if-path-longest.false))
    ]

pub returns : goal.returns
returns c =
    let written = c.self.inside.written.now in
    let all : take c.loop-path.path-index written ≡ written = take_all c.loop-path.path-index written (omega (arith, c.loop-path-test.false)) in
    rw (← c.self.view_is) (lengths_from written c.loop-path.longest (subst (All (λ (p : Bor (List ℕ)). length p.now ≤ c.loop-path.longest)) all c.loop-path.invariant))
