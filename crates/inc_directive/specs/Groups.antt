-- Groups and if-sections of a file (ISO/IEC 9899:2018, 6.10 paragraph 1 and 6.10.1): the tree of its lines, or the first
-- fault from the top. The tree is found from the end of the file: what is from a line on is a group and what ends it.
use Rattle.std.specs.Prelude.{ℕ, ◌+◌, ◌==◌, List, [], ◌∷◌, ◌++◌, Option, Result, Ok, Err, find}
use Rattle.inc_text.specs.declared.languages.Language.{Language}
use Rattle.inc_token.specs.TokenLines.{Tok, TokenLine}
use Rattle.inc_directive.specs.LineKinds.{LineKind, Text, Other, line_kind, line_of_tokens}
use Rattle.inc_directive.specs.declared.kinds.DirectiveKind.TheVariants.{If, Ifdef, Ifndef, Elif, Elifdef, Elifndef, Else, Endif}
use Rattle.inc_directive.specs.declared.kinds.Role.{Role}
use Rattle.inc_directive.specs.declared.kinds.Role.TheVariants.{IfGroup, ElifGroup, ElseGroup, EndifLine, TextLine, ControlLine}
use Rattle.inc_directive.specs.declared.sections.BalanceFault.{BalanceFault}
use Rattle.inc_directive.specs.declared.sections.BalanceFault.TheVariants.{OpenIf, StrayBranch, AfterElse}

-- a line of a file: its place, counted from 0, its kind and tokens, and the physical line of the LF that ends it
pub record FileLine : Type 0 where
  -- counted from 0
  pub place : ℕ
  -- by its tokens
  pub kind : LineKind
  -- none where a line of text has none, or where its directive is removed
  pub tokens : List Tok
  -- from 1
  pub last_line : ℕ

mutual
  -- the parts of a group, in order
  pub data Group : Type 0 where
    -- no part is left
    Empty : Group
    -- a run: the text lines up to the next directive or the end of the group, one or more
    Run : List FileLine → Group → Group
    -- a directive of no if-section
    Control : FileLine → Group → Group
    -- an if-section
    Section : Branches → Group → Group

  -- the branches of an if-section, in order
  pub data Branches : Type 0 where
    -- a line with a condition (#if, #ifdef, #ifndef, #elif, #elifdef or #elifndef) and its group
    Branch : (condition : FileLine) → Group → Branches → Branches
    -- #else, its group, and #endif
    Otherwise : (otherwise : FileLine) → Group → (endif : FileLine) → Branches
    -- #endif
    Close : (endif : FileLine) → Branches

-- what ends a group
pub data Ending : Type 0 where
  -- the end of the file
  FileEnd : Ending
  -- a fault in what comes after it
  Faulty : BalanceFault → Ending
  -- an #elif (or #elifdef, #elifndef), #else or #endif of a section that began before, the group after it, and what ends that one
  AtElif : FileLine → Group → Ending → Ending
  AtElse : FileLine → Group → Ending → Ending
  AtEndif : FileLine → Group → Ending → Ending

-- the physical line of a directive
abbrev pub directive_line : FileLine → ℕ
directive_line l = line_of_tokens l.tokens

-- the line as a part of the run at the front of the group, or as a run of its own
abbrev pub with_text : FileLine → Group → Group
with_text l (Run ls g) = Run (l ∷ ls) g
with_text l g = Run (l ∷ []) g

-- branches of a section, with the group after it and what ends that one
abbrev pub Closed : Type 0
Closed = Result (Branches × Group × Ending) BalanceFault

abbrev pub with_branch : FileLine → Group → Closed → Closed
with_branch condition g (Ok x) = Ok (Branch condition g x.0, x.1, x.2)
with_branch condition g (Err fault) = Err fault

-- the branches from an #else on, with its group and what ends that one; `opening` is the line of the directive that opens the section
abbrev pub else_branch : ℕ → FileLine → Group → Ending → Closed
else_branch opening l g FileEnd = Err (OpenIf opening)
else_branch opening l g (Faulty fault) = Err fault
else_branch opening l g (AtElif next after ending) = Err (AfterElse (directive_line next))
else_branch opening l g (AtElse next after ending) = Err (AfterElse (directive_line next))
else_branch opening l g (AtEndif endif after ending) = Ok (Otherwise l g endif, after, ending)

-- the branches from a condition on, with its group and what ends that one
abbrev pub branches : ℕ → FileLine → Group → Ending → Closed
branches opening l g FileEnd = Err (OpenIf opening)
branches opening l g (Faulty fault) = Err fault
branches opening l g (AtElif next after ending) = with_branch l g (branches opening next after ending)
branches opening l g (AtElse next after ending) = with_branch l g (else_branch opening next after ending)
branches opening l g (AtEndif endif after ending) = Ok (Branch l g (Close endif), after, ending)

-- the group that begins with a section
abbrev pub with_section : Closed → Group × Ending
with_section (Ok x) = (Section x.0 x.1, x.2)
with_section (Err fault) = (Empty, Faulty fault)

-- what a line of a kind is to the groups of its file, by the grammar's own words. A non-directive is a control line here
abbrev pub role : LineKind → Role
role Text = TextLine
role (Other If) = IfGroup
role (Other Ifdef) = IfGroup
role (Other Ifndef) = IfGroup
role (Other Elif) = ElifGroup
role (Other Elifdef) = ElifGroup
role (Other Elifndef) = ElifGroup
role (Other Else) = ElseGroup
role (Other Endif) = EndifLine
role _ = ControlLine

-- a line before what follows it
abbrev pub with_line : Role → FileLine → Group × Ending → Group × Ending
with_line TextLine l x = (with_text l x.0, x.1)
with_line IfGroup l x = with_section (branches (directive_line l) l x.0 x.1)
with_line ElifGroup l x = (Empty, AtElif l x.0 x.1)
with_line ElseGroup l x = (Empty, AtElse l x.0 x.1)
with_line EndifLine l x = (Empty, AtEndif l x.0 x.1)
with_line ControlLine l x = (Control l x.0, x.1)

-- the group that the lines begin with, and what ends it
abbrev pub group_at : List FileLine → Group × Ending
group_at [] = (Empty, FileEnd)
group_at (l ∷ ls) = with_line (role l.kind) l (group_at ls)

-- the group is the whole file where the end of the file ends it
abbrev pub whole : Group → Ending → Result Group BalanceFault
whole g FileEnd = Ok g
whole g (Faulty fault) = Err fault
whole g (AtElif l after ending) = Err (StrayBranch (directive_line l))
whole g (AtElse l after ending) = Err (StrayBranch (directive_line l))
whole g (AtEndif l after ending) = Err (StrayBranch (directive_line l))

abbrev pub group_tree : List FileLine → Result Group BalanceFault
group_tree lines = let x = group_at lines in whole x.0 x.1

-- the lines with their kinds and their places, the first at `place`
abbrev pub file_lines_from : Language → ℕ → List TokenLine → List FileLine
file_lines_from language place [] = []
file_lines_from language place (l ∷ ls) =
    record { place = place; kind = line_kind language l.tokens; tokens = l.tokens; last_line = l.last_line }
    ∷ file_lines_from language (place + 1) ls

abbrev pub file_lines : Language → List TokenLine → List FileLine
file_lines language lines = file_lines_from language 0 lines

-- the tree of a file
abbrev pub file_tree : Language → List TokenLine → Result Group BalanceFault
file_tree language lines = group_tree (file_lines language lines)

-- the lines of a tree, from the top: those of the file that it is the tree of
abbrev mutual
  pub lines_of : Group → List FileLine
  lines_of Empty = []
  lines_of (Run ls g) = ls ++ lines_of g
  lines_of (Control l g) = l ∷ lines_of g
  lines_of (Section bs g) = lines_of_branches bs ++ lines_of g

  pub lines_of_branches : Branches → List FileLine
  lines_of_branches (Branch l g bs) = l ∷ lines_of g ++ lines_of_branches bs
  lines_of_branches (Otherwise l g e) = l ∷ lines_of g ++ e ∷ []
  lines_of_branches (Close e) = e ∷ []

-- the place of a line that opens a section or a branch, that of the next branch or the #endif, and that of the #endif
pub record Link : Type 0 where
  pub from : ℕ
  pub branch : ℕ
  pub end : ℕ

-- the line with which the branches begin, and the #endif
abbrev pub first_line : Branches → FileLine
first_line (Branch l g bs) = l
first_line (Otherwise l g e) = l
first_line (Close e) = e

abbrev pub endif_of : Branches → FileLine
endif_of (Branch l g bs) = endif_of bs
endif_of (Otherwise l g e) = e
endif_of (Close e) = e

-- from a line to the first of these branches
abbrev pub link_to : FileLine → Branches → Link
link_to l bs = record { from = l.place; branch = (first_line bs).place; end = (endif_of bs).place }

-- the links of a tree, from the top
abbrev mutual
  pub links : Group → List Link
  links Empty = []
  links (Run ls g) = links g
  links (Control l g) = links g
  links (Section bs g) = links_of_branches bs ++ links g

  pub links_of_branches : Branches → List Link
  links_of_branches (Branch l g bs) = link_to l bs ∷ links g ++ links_of_branches bs
  links_of_branches (Otherwise l g e) = link_to l (Close e) ∷ links g
  links_of_branches (Close e) = []

-- the links of a tree, where there is one
abbrev pub links_of_tree : Result Group BalanceFault → Result (List Link) BalanceFault
links_of_tree (Ok tree) = Ok (links tree)
links_of_tree (Err fault) = Err fault

-- where the branches of a section lead: the link of the line at a place, if it opens a section or a branch
abbrev pub link_at : List Link → ℕ → Option Link
link_at links place = find (λ (k : Link). k.from == place) links

-- the links of a file, from the top, or its first fault
abbrev pub file_links : Language → List TokenLine → Result (List Link) BalanceFault
file_links language lines = links_of_tree (file_tree language lines)
