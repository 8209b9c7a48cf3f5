-- A file as parts: each a directive, or lines of text one after the other.
use Rattle.std.specs.Prelude.{◌≡◌, ◌≢◌, ℕ, ◌+◌, ◌≤◌, ◌==◌, Bool, true, false, List, [], ◌∷◌, ◌++◌, Option, Some, None, Ok, if◌then◌else◌, length, take, drop, map, flat_map, filter, slice_get, slice_range, count_by, is_some, MatchOption}
use Rattle.std.specs.List.{All, list_all}
use Rattle.std.specs.Option.{option_map_or}
use Rattle.inc_text.specs.PhaseText.{Cell, bytes_of, longest_text}
use Rattle.inc_token.specs.LineWalk.{are_none, lines_at}
use Rattle.inc_token.specs.Prefixes.{Operand, prefix_of}
use Rattle.inc_token.specs.TokenLines.{Tok, TokenLine, token_lines}
use Rattle.inc_text.specs.declared.languages.Language.{Language}
use Rattle.inc_token.specs.declared.lines.fronts.TextRun.{TextRun}
use Rattle.inc_directive.specs.FileDirectives.{Directive, directives_in}
use Rattle.inc_directive.specs.Groups.{FileLine, file_lines_from, role}
use Rattle.inc_directive.specs.LineKinds as kind
use Rattle.inc_directive.specs.LineKinds.{LineKind, Include, Quoted, Angled, ByName, defined_name, inner_bytes, is_header_kind, line_kind, line_of_tokens}
use Rattle.inc_directive.specs.Removal.{is_removable, with_line_removed, with_removed}
use Rattle.inc_directive.specs.declared.kinds.DirectiveKind.TheVariants.{Foreign}
use Rattle.inc_directive.specs.declared.kinds.Role.{Role}
use Rattle.inc_directive.specs.declared.kinds.Role.TheVariants.{TextLine}
use Rattle.inc_directive.specs.declared.parts.Inclusion.{Inclusion}
use Rattle.inc_directive.specs.declared.parts.Part.{Part}
use Rattle.inc_directive.specs.declared.parts.Tag.{Tag}
use Rattle.inc_directive.specs.declared.parts.Tag.TheVariants as tag

---- parts

pub data FilePart : Type 0 where
  TextPart : List FileLine → FilePart
  DirectivePart : FileLine → FilePart

abbrev pub lines_in : FilePart → List FileLine
lines_in (TextPart ls) = ls
lines_in (DirectivePart l) = l ∷ []

abbrev pub lines_of_parts : List FilePart → List FileLine
lines_of_parts ps = flat_map lines_in ps

-- the lines of a part and of those after it
abbrev pub lines_from : ℕ → List FilePart → List FileLine
lines_from i ps = lines_of_parts (drop i ps)

abbrev pub part_kind : FilePart → LineKind
part_kind (TextPart ls) = kind.Text
part_kind (DirectivePart l) = l.kind

abbrev pub part_role : FilePart → Role
part_role p = role (part_kind p)

-- the tokens of its first line
abbrev pub first_tokens : FilePart → List Tok
first_tokens (TextPart []) = []
first_tokens (TextPart (l ∷ ls)) = l.tokens
first_tokens (DirectivePart l) = l.tokens

-- the physical line of a part of these, of a directive that of its #, 0 where there is none
abbrev pub part_line : List FilePart → ℕ → ℕ
part_line ps i = option_map_or (λ (p : FilePart). line_of_tokens (first_tokens p)) (slice_get ps i) 0

-- the name that a part defines
abbrev pub part_definition : FilePart → Option (List ℕ)
part_definition (TextPart ls) = None
part_definition (DirectivePart l) = defined_name l.kind l.tokens

-- one or more lines of text, or a directive
abbrev pub IsPart : FilePart → Type 0
IsPart (TextPart []) = ⊥
IsPart (TextPart (l ∷ ls)) = All (λ (k : FileLine). role k.kind ≡ TextLine) (l ∷ ls)
IsPart (DirectivePart l) = role l.kind ≢ TextLine

---- how they are kept

-- the kind with a tag, and with a name if it has one
abbrev pub kind_of : Tag → List ℕ → LineKind
kind_of tag.Text name = kind.Text
kind_of tag.Blank name = kind.Text
kind_of tag.Removed name = kind.Text
kind_of (tag.Quoted by) name = Include by (Quoted name)
kind_of (tag.Angled by) name = Include by (Angled name)
kind_of (tag.ByName by) name = Include by (ByName name)
kind_of (tag.Computed by) name = Include by kind.Computed
kind_of (tag.Nothing by) name = Include by kind.Nothing
kind_of (tag.Other directive) name = kind.Other directive

-- it is that of lines of text
abbrev pub is_text : Tag → Bool
is_text tag.Text = true
is_text tag.Blank = true
is_text tag.Removed = true
is_text _ = false

-- it is that of lines without tokens
abbrev pub is_blank : Tag → Bool
is_blank tag.Blank = true
is_blank tag.Removed = true
is_blank _ = false

-- a kind with this tag has a name
abbrev pub is_named : Tag → Bool
is_named (tag.Quoted by) = true
is_named (tag.Angled by) = true
is_named (tag.ByName by) = true
is_named _ = false

-- the name of a kind, if it has one
abbrev pub name_of : LineKind → Option (List ℕ)
name_of (Include by (Quoted name)) = Some name
name_of (Include by (Angled name)) = Some name
name_of (Include by (ByName name)) = Some name
name_of _ = None

-- the tag of a kind, which has this name if it has one
pub record IsTagOf (k : LineKind) (t : Tag) (name : List ℕ) : Type 0 where
  pub kind : kind_of t name ≡ k
  pub named : is_named t ≡ is_some (name_of k)

-- a line without its tokens, where it is removed
abbrev pub kept_line : Tag → TokenLine → TokenLine
kept_line tag.Removed l = record { tokens = []; last_line = l.last_line }
kept_line _ l = l

abbrev pub directive_part : List FileLine → FilePart
directive_part [] = TextPart []
directive_part (l ∷ ls) = DirectivePart l

abbrev pub part_with : Tag → List FileLine → FilePart
part_with t ls = if is_text t then TextPart ls else directive_part ls

-- the parts that are kept of lines, the first of which is at a place of the file
abbrev pub parts_from : Language → ℕ → List Part → List TokenLine → List FilePart
parts_from language place [] ls = []
parts_from language place (p ∷ ps) ls =
    part_with p.tag (file_lines_from language place (map (kept_line p.tag) (take p.lines ls))) ∷ parts_from language (place + p.lines) ps (drop p.lines ls)

-- what a tag says of its lines
abbrev pub Fits : Language → Tag → List TokenLine → Type 0
Fits language tag.Text ls = All (λ (l : TokenLine). prefix_of language l.tokens ≡ None) ls × (list_all (λ (l : TokenLine). are_none l.tokens) ls ≡ false)
Fits language tag.Blank ls = All (λ (l : TokenLine). prefix_of language l.tokens ≡ None) ls × (list_all (λ (l : TokenLine). are_none l.tokens) ls ≡ true)
Fits language tag.Removed ls = Unit {0}
Fits language t ls = (name : List ℕ) × All (λ (l : TokenLine). IsTagOf (line_kind language l.tokens) t name) ls

-- a part is kept of the first of these lines, the first of which begins at its start
pub record IsKept (language : Language) (cells : List Cell) (p : Part) (ls : List TokenLine) : Type 0 where
  -- it starts within the text
  pub within : p.start ≤ length cells
  -- these are the lines from its start on
  pub lines : lines_at language cells p.start ≡ Ok ls
  -- it has a line
  pub some : 1 ≤ p.lines
  -- it has no more lines than there are
  pub enough : p.lines ≤ length ls
  -- a directive is one line
  pub one : is_text p.tag ≡ false → p.lines ≡ 1
  -- its tag says this of its lines
  pub fits : Fits language p.tag (take p.lines ls)

-- all parts are kept of these lines
abbrev pub AreKept : Language → List Cell → List Part → List TokenLine → Type 0
AreKept language cells [] ls = ls ≡ []
AreKept language cells (p ∷ ps) ls = IsKept language cells p ls × AreKept language cells ps (drop p.lines ls)

---- directives that include

abbrev pub is_inclusion : Directive → Bool
is_inclusion d = is_removable d.kind

-- those of some parts
abbrev pub inclusions_in : List FilePart → List Directive
inclusions_in ps = filter is_inclusion (directives_in (lines_of_parts ps))

-- a directive with this tag can be taken as removed
abbrev pub is_removable_tag : Tag → Bool
is_removable_tag (tag.Quoted by) = true
is_removable_tag (tag.Angled by) = true
is_removable_tag (tag.ByName by) = true
is_removable_tag (tag.Computed by) = true
is_removable_tag (tag.Nothing by) = true
is_removable_tag (tag.Other Foreign) = true
is_removable_tag _ = false

-- the directive that is kept with this tag, whose name is in the text
abbrev pub directive_with : List ℕ → Tag → Inclusion → Directive
directive_with text t i = record { kind = kind_of t (slice_range text i.at (i.at + i.len)); line = i.line }

-- the first of those that are kept; none is asked for where none is left
abbrev pub first_inclusion : List Inclusion → Inclusion
first_inclusion [] = record { line = 0; at = 0; len = 0 }
first_inclusion (i ∷ is) = i

abbrev pub rest_inclusions : List Inclusion → List Inclusion
rest_inclusions [] = []
rest_inclusions (i ∷ is) = is

-- those of parts, one for each that has a tag of them
abbrev pub directives_from : List ℕ → List Part → List Inclusion → List Directive
directives_from text [] is = []
directives_from text (p ∷ ps) is =
    if is_removable_tag p.tag then directive_with text p.tag (first_inclusion is) ∷ directives_from text ps (rest_inclusions is) else directives_from text ps is

-- what is kept of the directives of parts: as many as there are, with names within the text
pub record AreIncluded (size : ℕ) (parts : List Part) (is : List Inclusion) : Type 0 where
  pub count : count_by (λ (p : Part). is_removable_tag p.tag) parts ≡ length is
  pub names : All (λ (i : Inclusion). i.at + i.len ≤ size) is

---- how a text is split into parts

abbrev pub text_tag : (is_blank : Bool) → Tag
text_tag true = tag.Blank
text_tag false = tag.Text

-- lines of text as a part, if there are any
abbrev pub text_parts : TextRun → List Part
text_parts run = if run.lines == 0 then [] else record { start = run.start; lines = run.lines; tag = text_tag run.is_blank } ∷ []

-- it is that of an include directive
abbrev pub is_include_tag : Tag → Bool
is_include_tag (tag.Quoted by) = true
is_include_tag (tag.Angled by) = true
is_include_tag (tag.ByName by) = true
is_include_tag (tag.Computed by) = true
is_include_tag (tag.Nothing by) = true
is_include_tag _ = false

-- the name that the token after that of an include directive gives
abbrev pub operand_name : Operand → List ℕ
operand_name o = if is_header_kind o.kind then inner_bytes o.spelling else o.spelling

-- where the name in an include directive is, if it has one
abbrev pub IsNameAt : List ℕ → Option Operand → (at len : ℕ) → Type 0
IsNameAt text None at len = at + len ≤ length text
IsNameAt text (Some o) at len = (at + len ≤ length text) × (slice_range text at (at + len) ≡ operand_name o)

-- the directive of a line
abbrev pub directive_at : Language → TokenLine → Directive
directive_at language l = record { kind = line_kind language l.tokens; line = line_of_tokens l.tokens }

-- what is kept of a line
pub record IsPartOf (language : Language) (cells : List Cell) (removed : ℕ → Bool) (l : TokenLine) (p : Part) (i : Option Inclusion) : Type 0 where
  -- it is one line
  pub lines : p.lines ≡ 1
  -- its tag says this of the line
  pub fits : Fits language p.tag (l ∷ [])
  -- it leaves the line, without its tokens where it is removed
  pub kept : kept_line p.tag l ≡ with_line_removed language removed l
  -- a directive is kept if its tag is one of those, with a name that lies within the text
  pub included : MatchOption i (is_removable_tag p.tag ≡ false) (λ i. (is_removable_tag p.tag ≡ true) × (i.at + i.len ≤ length cells)
      × (directive_with (bytes_of cells) p.tag i ≡ directive_at language l))

-- the lines that the parts leave
abbrev pub kept_lines : List Part → List TokenLine → List TokenLine
kept_lines [] ls = []
kept_lines (p ∷ ps) ls = map (kept_line p.tag) (take p.lines ls) ++ kept_lines ps (drop p.lines ls)

-- parts and directives that are kept of these lines
pub record AreLines (language : Language) (cells : List Cell) (parts : List Part) (is : List Inclusion) (ls : List TokenLine) : Type 0 where
  -- the parts are kept of the lines
  pub kept : AreKept language cells parts ls
  -- a directive is kept for each part that has one
  pub included : AreIncluded (length cells) parts is
  -- these are the directives that include
  pub directives : directives_from (bytes_of cells) parts is ≡ inclusions_in (parts_from language 0 parts ls)
  -- a part has a line at least
  pub few : length parts ≤ longest_text

-- the same of a text whose lines are these, where directives are removed
pub record AreSplit (language : Language) (cells : List Cell) (removed : ℕ → Bool) (parts : List Part) (is : List Inclusion) (ls : List TokenLine) : Type 0 where
  pub whole : token_lines language cells ≡ Ok ls
  pub lines : AreLines language cells parts is ls
  pub removals : kept_lines parts ls ≡ with_removed language removed ls

-- the lines are at these places, one after the other
abbrev pub AreNumbered : ℕ → List FileLine → Type 0
AreNumbered place [] = Unit
AreNumbered place (l ∷ ls) = (l.place ≡ place) × AreNumbered (place + 1) ls
