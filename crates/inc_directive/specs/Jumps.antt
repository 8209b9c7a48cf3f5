-- Where the links of a file lead: what a walk over its lines finds there.
use Rattle.std.specs.Prelude.{◌≡◌, ◌<◌, ◌≤◌, ℕ, suc, true, false, List, Some, None, Ok, length, drop, slice_get}
use Rattle.inc_directive.specs.Groups.{Group, Empty, Branches, Ending, AtElif, AtElse, FileLine, Link, link_at, directive_line, branches, group_at, group_tree, role}
use Rattle.inc_directive.specs.Parts.{FilePart, DirectivePart, lines_from, lines_of_parts, part_line, part_role}
use Rattle.inc_directive.specs.TreeLaws.{is_opening}
use Rattle.inc_directive.specs.declared.sections.BalanceFault.{BalanceFault}
use Rattle.inc_directive.specs.declared.sections.BalanceFault.TheVariants.{OpenIf, StrayBranch, AfterElse, NoMemory}

-- what ends the section that an ending is in: its #endif, and what follows that
abbrev pub closing : Ending → Ending
closing (AtElif l g e) = closing e
closing (AtElse l g e) = closing e
closing e = e

-- the link of the line at a place that opens a section or a branch: to what ends its group, and to what ends its section
pub record LeadsOn (lines : List FileLine) (list : List Link) (i : ℕ) : Type 0 where
  -- the link
  pub link : Link
  -- it is in the list
  pub found : link_at list i ≡ Some link
  -- its branch is behind the line
  pub onward : i < link.branch
  -- its end is not before its branch
  pub closed : link.branch ≤ link.end
  -- its end is a line of the file
  pub within : link.end < length lines
  -- at the branch the ending of the line's group begins
  pub at_branch : group_at (drop link.branch lines) ≡ (Empty, (group_at (drop (suc i) lines)).1)
  -- at the end the line that closes the section begins
  pub at_end : group_at (drop link.end lines) ≡ (Empty, closing (group_at (drop (suc i) lines)).1)

-- the line opens a section that closes, with these branches, and what follows it
pub record Closes (l : FileLine) (x : Group × Ending) : Type 0 where
  pub section : Branches × Group × Ending
  pub whole : branches (directive_line l) l x.0 x.1 ≡ Ok section

---- parts

-- the same of a part that is a directive
pub record LeadsTo (parts : List FilePart) (list : List Link) (i : ℕ) : Type 0 where
  -- the link
  pub link : Link
  -- it is in the list
  pub found : link_at list i ≡ Some link
  -- its branch is behind the part
  pub onward : i < link.branch
  -- its end is not before its branch
  pub closed : link.branch ≤ link.end
  -- its end is a part of the file
  pub within : link.end < length parts
  -- at the branch the ending of the part's group begins
  pub at_branch : group_at (lines_from link.branch parts) ≡ (Empty, (group_at (lines_from (suc i) parts)).1)
  -- at the end the line that closes the section begins
  pub at_end : group_at (lines_from link.end parts) ≡ (Empty, closing (group_at (lines_from (suc i) parts)).1)

-- the lines of parts have a tree, and the links are those of the parts that open a section or a branch
pub record IsPlanOf (parts : List FilePart) (list : List Link) : Type 0 where
  pub tree : (tree : Group) × (group_tree (lines_of_parts parts) ≡ Ok tree)
  pub leads : (i : ℕ) (l : FileLine) → slice_get parts i ≡ Some (DirectivePart l) → is_opening (role l.kind) ≡ true → LeadsTo parts list i
  pub none : (i : ℕ) (p : FilePart) → slice_get parts i ≡ Some p → is_opening (part_role p) ≡ false → link_at list i ≡ None

-- a fault with the physical line of the part that it has as its line
abbrev pub fault_in : List FilePart → BalanceFault → BalanceFault
fault_in parts (OpenIf i) = OpenIf (part_line parts i)
fault_in parts (StrayBranch i) = StrayBranch (part_line parts i)
fault_in parts (AfterElse i) = AfterElse (part_line parts i)
fault_in parts NoMemory = NoMemory
