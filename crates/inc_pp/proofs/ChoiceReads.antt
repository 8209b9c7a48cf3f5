-- What is left of a file from a condition of a section on.
use Rattle.std.specs.Prelude.{◌≡◌, ◌+◌, ◌<◌, ◌≤◌, ℕ, true, false, List, Some, Result, Ok, length, slice_get}
use Rattle.inc_directive.specs.Groups.{FileLine, Group, Ending, FileEnd, Faulty, AtElif, AtElse, AtEndif, group_at}
use Rattle.inc_directive.specs.Parts.{FilePart, DirectivePart, lines_from, part_role}
use Rattle.inc_directive.specs.TreeLaws.{is_opening}
use Rattle.inc_macro.specs.Results.{◌>>=◌}
use Rattle.inc_pp.specs.Sections.{is_taken}
use Rattle.inc_pp.specs.Tasks.{File, State, Here, Halt}
use Rattle.inc_pp.specs.Walks.{lines_read, rest_read}

-- from what ends a group that was not taken: of an #elif by its condition
abbrev pub next_read : File → Ending → State → Here → Result (State × Here) Halt
next_read f FileEnd s h = Ok (s, h)
next_read f (Faulty fault) s h = Ok (s, h)
next_read f (AtElif l g e) s h =
    is_taken f l s h >>= λ t. elim t.0 [ true ↦ rest_read f (g, e) t.1 h | false ↦ next_read f e t.1 h ]
next_read f (AtElse l g e) s h = rest_read f (g, e) s h
next_read f (AtEndif l g e) s h = rest_read f (g, e) s h

-- from the line of a condition on, whose group and what ends it are given
abbrev pub choice_read : File → FileLine → Group → Ending → State → Here → Result (State × Here) Halt
choice_read f l g e s h = next_read f (AtElif l g e) s h

-- what is left from a part on is what is left from a condition of its section
pub record IsChoosing (P : File → Type 0) (parts : List FilePart) (part : ℕ) (old : State) (here : Here) (at : ℕ) (now : State) : Type 0 where
  -- it is a part of the file
  pub within : at < length parts
  -- it is not before the first one
  pub onward : part ≤ at
  -- it is a condition
  pub opening : (p : FilePart) → slice_get parts at ≡ Some p → is_opening (part_role p) ≡ true
  -- no file was read
  pub kept : now.reads ≡ old.reads
  -- from it on the same is left
  pub same : (f : File) (l : FileLine) → P f → slice_get parts at ≡ Some (DirectivePart l) →
      lines_read f (lines_from part parts) old here
      ≡ choice_read f l (group_at (lines_from (at + 1) parts)).0 (group_at (lines_from (at + 1) parts)).1 now here
