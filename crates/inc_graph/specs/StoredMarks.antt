-- Marks as they are stored.
use Rattle.std.specs.Prelude.{◌≤◌, ⊤, take}
use Rattle.inc_graph.specs.declared.marks.StoredMark.{StoredMark}
use Rattle.inc_graph.specs.declared.marks.StoredMark.TheVariants.{Short, Long}
use Rattle.inc_graph.specs.declared.marks.TheConstants.{SHORT_PATH}
use Rattle.inc_graph.specs.Marks.{Mark}

-- the mark that is stored
abbrev pub stored_mark : StoredMark → Mark
stored_mark (Short line len bytes) = record { path = take len bytes; line = line }
stored_mark (Long line path) = record { path = path.items; line = line }

-- no more bytes are the path than are stored
abbrev pub IsWithin : StoredMark → Type 0
IsWithin (Short line len bytes) = len ≤ SHORT_PATH
IsWithin (Long line path) = ⊤
