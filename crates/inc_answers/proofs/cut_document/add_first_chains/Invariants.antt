use Rattle.std.proofs.Common.{◌≡◌, ◌+◌, ◌++◌, drop, length, take}
use Rattle.inc_answers.specs.CutDocument.{chains_from}
use Rattle.inc_answers.proofs.cut_document.add_first_chains.Given as goal

-- the chains so far are added, and those that are still to be are left
abbrev pub invariant-loop-index : goal.invariant-loop-index
invariant-loop-index l =
    l.document ++ chains_from l.graph (l.index + 1) (length l.chains) (drop l.index (take l.shown l.chains))
    ≡ l.initial.document ++ chains_from l.graph 1 (length l.chains) (take l.shown l.chains)
