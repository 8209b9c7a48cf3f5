-- Preprocessing as a walk over the parts of files: what is left to read from a part on, of the file at hand and of those that include it.
use Rattle.std.specs.Prelude.{ℕ, zero, suc, ◌-◌, List, [], ◌∷◌, Option, Some, None, Result, Ok, Err, length, slice_get, option_and_then, option_map}
use Rattle.std.specs.Option.{option_map_or}
use Rattle.inc_directive.specs.Groups.{FileLine, Group, Ending, FileEnd, Faulty, AtElif, AtElse, AtEndif, group_at}
use Rattle.inc_directive.specs.Parts.{FilePart, lines_from}
use Rattle.inc_lookup.specs.declared.projects.Found.{Found}
use Rattle.inc_macro.specs.Results.{◌>>=◌}
use Rattle.inc_pp.specs.declared.frames.Frame.{Frame}
use Rattle.inc_pp.specs.Files.{FileFault}
use Rattle.inc_pp.specs.Preprocessing.{group_read, most_depth, reading}
use Rattle.inc_pp.specs.Runs.{released}
use Rattle.inc_pp.specs.Tasks.{Task, State, Here, Halt, Deeper, File}

-- what follows a group that was read: an #elif or #else leads after the #endif
abbrev pub ending_read : File → Ending → State → Here → Result (State × Here) Halt
ending_read f FileEnd s h = released f s h
ending_read f (Faulty fault) s h = Ok (s, h)
ending_read f (AtElif l g e) s h = ending_read f e s h
ending_read f (AtElse l g e) s h = ending_read f e s h
ending_read f (AtEndif l g e) s h = group_read f g s h >>= λ r. ending_read f e r.0 r.1

-- a group, and what follows it
abbrev pub rest_read : File → Group × Ending → State → Here → Result (State × Here) Halt
rest_read f x s h = group_read f x.0 s h >>= λ r. ending_read f x.1 r.0 r.1

-- the rest of a file that begins with these lines
abbrev pub lines_read : File → List FileLine → State → Here → Result (State × Here) Halt
lines_read f ls s h = rest_read f (group_at ls) s h

-- how deeper files are read where includes may still nest so deep
abbrev pub deeper_at : Task → (left : ℕ) → Deeper
deeper_at t zero = None
deeper_at t (suc left) = Some (reading left t)

-- the file at a depth
abbrev pub file_at : Task → (at : Found) → (depth : ℕ) → File
file_at t at depth = record { task = t; index = at.file; next = at.next; deeper = deeper_at t (most_depth - depth) }

-- what a file that was read turned out to be
pub record Known : Type 0 where
  -- how many bytes it has
  pub size : ℕ
  -- its parts, or its fault
  pub lines : Result (List FilePart) FileFault

-- of each file that was read, by its place in the list
abbrev pub Held : Type 0
Held = List (Option Known)

abbrev pub known_at : Held → ℕ → Option Known
known_at held file = option_and_then (λ o. o) (slice_get held file)

-- how many bytes it has
abbrev pub size_at : Held → ℕ → Option ℕ
size_at held file = option_map (λ (k : Known). k.size) (known_at held file)

abbrev pub if_parts : Result (List FilePart) FileFault → Option (List FilePart)
if_parts (Ok ps) = Some ps
if_parts (Err fault) = None

abbrev pub if_fault : Result (List FilePart) FileFault → Option FileFault
if_fault (Ok ps) = None
if_fault (Err fault) = Some fault

-- its parts, where it has a tree
abbrev pub held_at : Held → ℕ → Option (List FilePart)
held_at held file = option_and_then (λ (k : Known). if_parts k.lines) (known_at held file)

-- its fault, where it has none
abbrev pub fault_at : Held → ℕ → Option FileFault
fault_at held file = option_and_then (λ (k : Known). if_fault k.lines) (known_at held file)

abbrev pub parts_in : Held → ℕ → List FilePart
parts_in held file = option_map_or (λ ps. ps) (held_at held file) []

-- the rest of a file that is being read at a depth
abbrev pub open_read : Task → Held → Frame → (depth : ℕ) → State → Result State Halt
open_read t held o depth s =
    lines_read (file_at t o.at depth) (lines_from o.part (parts_in held o.at.file)) s o.here >>= λ r. Ok r.0

-- the rest of all files that are being read, the innermost first
abbrev pub all_read : Task → Held → List Frame → Result State Halt → Result State Halt
all_read t held [] r = r
all_read t held (o ∷ os) r = all_read t held os (r >>= open_read t held o (length os))
