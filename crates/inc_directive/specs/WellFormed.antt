-- The shape of trees by the grammar of ISO/IEC 9899:2018, 6.10 paragraph 1:
--   group: group-part, one or more     group-part: if-section, control-line, text-line or # non-directive
--   if-section: if-group elif-groups(opt) else-group(opt) endif-line
-- Where the grammar leaves a group out, it is Empty here; a run stands for the text lines that follow one another.
use Rattle.std.specs.Prelude.{◌≡◌, List, [], ◌∷◌}
use Rattle.inc_directive.specs.Groups.{FileLine, Group, Empty, Run, Control, Section, Branches, Branch, Otherwise, Close, role}
use Rattle.inc_directive.specs.declared.kinds.Role.{Role}
use Rattle.inc_directive.specs.declared.kinds.Role.TheVariants.{IfGroup, ElifGroup, ElseGroup, EndifLine, TextLine, ControlLine}

-- a line with this role
abbrev pub Acts : Role → FileLine → Type 0
Acts r l = role l.kind ≡ r

abbrev pub AreText : List FileLine → Type 0
AreText [] = Unit {0}
AreText (l ∷ ls) = Acts TextLine l × AreText ls

-- lines of text, one or more
abbrev pub IsRun : List FileLine → Type 0
IsRun [] = ⊥
IsRun (l ∷ ls) = Acts TextLine l × AreText ls

-- of a group after a run, so that no two runs touch
abbrev pub BeginsWithNoRun : Group → Type 0
BeginsWithNoRun (Run ls g) = ⊥
BeginsWithNoRun g = Unit {0}

abbrev mutual
  pub IsWellFormed : Group → Type 0
  IsWellFormed Empty = Unit {0}
  IsWellFormed (Run ls g) = IsRun ls × BeginsWithNoRun g × IsWellFormed g
  IsWellFormed (Control l g) = Acts ControlLine l × IsWellFormed g
  IsWellFormed (Section bs g) = AreBranches IfGroup bs × IsWellFormed g

  -- branches, the first of which has this role: none but the first of a section opens an if-group
  pub AreBranches : Role → Branches → Type 0
  AreBranches r (Branch l g bs) = Acts r l × IsWellFormed g × AreBranches ElifGroup bs
  AreBranches r (Otherwise l g e) = (r ≡ ElifGroup) × Acts ElseGroup l × IsWellFormed g × Acts EndifLine e
  AreBranches r (Close e) = (r ≡ ElifGroup) × Acts EndifLine e
