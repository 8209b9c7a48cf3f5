use Rattle.std.proofs.Common.{◌≡◌, ◌++◌, ◌+◌, ◌-◌, ◌≤◌, List, ℕ, length, take}
use Rattle.std.specs.List.{All}
use Rattle.std.specs.Prelude.{flat_map}
use Rattle.inc_answers.specs.Sending.{Sends}
use Rattle.inc_answers.specs.WhoText.{reaching_text}
use Rattle.inc_answers.proofs.WhoLemmas.{IsWithin}
use Rattle.inc_answers.proofs.who.send_first_sources.Given as goal

-- the sources so far are sent, and those that are still to be are left
abbrev pub invariant-loop-place : goal.invariant-loop-place
invariant-loop-place g l = (sent : List ℕ)
    × Sends l.initial.out l.out sent
    × (sent ++ flat_map (reaching_text l.with_chains l.project l.graph) (take (l.shown - l.place) l.reaching.left)
    ≡ flat_map (reaching_text l.with_chains l.project l.graph) (take l.shown l.initial.reaching.left))
    × All (IsWithin l.graph) l.reaching.left
    × (l.reaching.graph ≡ l.graph)
    × (l.shown ≤ l.place + length l.reaching.left)

abbrev pub decreases-loop-place : goal.decreases-loop-place
decreases-loop-place g l = l.shown - l.place
