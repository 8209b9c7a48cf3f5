use Rattle.std.proofs.Common.{◌≡◌, List, [], ◌∷◌, ◌++◌}
use Rattle.inc_cond.specs.Frames.{answer, turns_left}
use Rattle.inc_cond.specs.SymbolViews.{seen_symbol}
use Rattle.inc_cond.specs.Symbols.{Symbol}
use Rattle.inc_cond.specs.Walks.{left_to_read}
use Rattle.inc_cond.proofs.walks.Walk.take.Given as goal

-- the walk gives from here what it gives from before the symbol, whatever comes after it
abbrev pub invariant-loop-left : goal.invariant-loop-left
invariant-loop-left l = (rest : List Symbol) → answer l.self.turn l.self.frames (l.left ++ rest) ≡ left_to_read l.fn.self (seen_symbol l.symbol ∷ rest)

abbrev pub decreases-loop-left : goal.decreases-loop-left
decreases-loop-left l = turns_left l.self.turn l.self.frames (l.left ++ [])
