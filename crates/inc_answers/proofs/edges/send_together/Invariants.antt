use Rattle.std.proofs.Common.{take}
use Rattle.inc_answers.proofs.EdgeParts.{AreSent}
use Rattle.inc_answers.proofs.edges.send_together.Given as goal

-- the lines so far are sent, and a text can hold their marks
abbrev pub invariant-loop-edge : goal.invariant-loop-edge
invariant-loop-edge g l =
    AreSent l.project l.graph l.initial.out l.out (take l.edge-index l.edges)
