-- The files that are held, and where their sections lead.
use Rattle.std.specs.Prelude.{◌≡◌, ◌<◌, ℕ, suc, true, false, List, Some, Ok, length, slice_get}
use Rattle.inc_directive.specs.declared.kinds.Role.TheVariants.{IfGroup}
use Rattle.inc_directive.specs.Groups.{FileLine, Link, role, group_at}
use Rattle.inc_directive.specs.Jumps.{IsPlanOf, Closes}
use Rattle.inc_directive.specs.LineKinds.{Other}
use Rattle.inc_directive.specs.declared.kinds.DirectiveKind.TheVariants.{Ifndef}
use Rattle.inc_directive.specs.Parts.{FilePart, DirectivePart, lines_from, lines_of_parts}
use Rattle.inc_macro.specs.Macros.{Table, is_defined}
use Rattle.inc_pp.specs.Runs.{released}
use Rattle.inc_pp.specs.Sections.{is_taken}
use Rattle.inc_pp.specs.Tasks.{File, State, Here}
use Rattle.inc_pp.specs.Walks.{lines_read}

-- the links lead on from each part that opens a section or a branch, and each section closes
pub record IsPlanned (parts : List FilePart) (list : List Link) : Type 0 where
  pub plan : IsPlanOf parts list
  pub closes : (i : ℕ) (l : FileLine) → slice_get parts i ≡ Some (DirectivePart l) → role l.kind ≡ IfGroup → Closes l (group_at (lines_from (suc i) parts))

-- the part is an #ifndef without which the lines change nothing: where its branch is not taken, nothing is left of them
pub record IsGuard (parts : List FilePart) (i : ℕ) : Type 0 where
  -- it is a part of the file
  pub within : i < length parts
  -- its line
  pub line : FileLine
  -- the part is this line
  pub is : slice_get parts i ≡ Some (DirectivePart line)
  -- it is an #ifndef
  pub tests : line.kind ≡ Other Ifndef
  -- where its branch is not taken, the whole file changes nothing, but that no token waits on at its end
  pub passed : (f : File) (s : State) (h : Here) → is_taken f line s h ≡ Ok (false, s) → lines_read f (lines_of_parts parts) s h ≡ released f s h

-- no name was taken away by `#pragma GCC poison`
abbrev pub NonePoisoned : State → Type 0
NonePoisoned s = (name : List ℕ) → s.poisoned name ≡ false

-- with these macros, and where no name was taken away, the lines change nothing, but that no token waits on at their end
abbrev pub IsSkipped : Table → List FilePart → Type 0
IsSkipped table parts = (f : File) (s : State) (h : Here) → s.table ≡ table → NonePoisoned s → lines_read f (lines_of_parts parts) s h ≡ released f s h

-- while a macro has this name, the lines change nothing
abbrev pub HasGuard : List FilePart → List ℕ → Type 0
HasGuard parts name = (table : Table) → is_defined name table ≡ true → IsSkipped table parts
