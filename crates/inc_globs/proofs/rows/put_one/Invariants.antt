use Rattle.std.proofs.Common.{◌≡◌, ◌+◌, ℕ, List, Bool, length}
use Rattle.inc_globs.specs.Globs.{one}
use Rattle.inc_globs.specs.Rows.{IsRow}
use Rattle.inc_globs.specs.Views.{seen_piece}
use Rattle.inc_globs.proofs.RowLemmas.{IsFilled}
use Rattle.inc_globs.proofs.rows.put_one.Given as goal

-- the values so far are new
abbrev pub invariant-loop-index : goal.invariant-loop-index
invariant-loop-index l = (length l.row ≡ length l.path + 1) × ((rest : List ℕ → Bool) → IsRow rest l.path l.initial.row → IsFilled (one (seen_piece l.piece) rest) l.path 0 l.index l.initial.row l.row)
