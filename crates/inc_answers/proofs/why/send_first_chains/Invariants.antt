use Rattle.std.proofs.Common.{◌≡◌, ◌++◌, ◌+◌, ◌-◌, ◌<◌, ◌≤◌, List, ℕ, length, take}
use Rattle.std.specs.List.{All}
use Rattle.std.specs.Prelude.{flat_map, codes}
use Rattle.inc_answers.specs.MarkTexts.{list_text}
use Rattle.inc_check.specs.Certificates.{marks_of}
use Rattle.inc_answers.specs.Sending.{Sends}
use Rattle.inc_answers.proofs.why.send_first_chains.Given as goal

-- the chains so far are sent, and those that are still to be are left
abbrev pub invariant-loop-place : goal.invariant-loop-place
invariant-loop-place g l = (sent : List ℕ)
    × Sends l.initial.out l.out sent
    × (sent ++ flat_map (λ chain. list_text (codes "chain") (marks_of l.project l.graph chain)) (take (l.shown - l.place) l.chains.left)
    ≡ flat_map (λ chain. list_text (codes "chain") (marks_of l.project l.graph chain)) (take l.shown l.initial.chains.left))
    × All (λ chain. All (λ i. i < length l.graph.edges) chain) l.chains.left
    × (l.shown ≤ l.place + length l.chains.left)

abbrev pub decreases-loop-place : goal.decreases-loop-place
decreases-loop-place g l = l.shown - l.place
