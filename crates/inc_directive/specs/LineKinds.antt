-- Kinds of lines (ISO/IEC 9899:2018, 6.10): a line whose first token is # is a directive, and its second token says which.
-- Choices of this profile: include_next, import and embed are known by name as foreign directives; the extended language
-- knows elifdef, elifndef and warning. GNU C knows these, ident and sccs, includes by include_next and import, and takes a
-- number in place of a name for a line marker.
use Rattle.std.specs.Prelude.{ℕ, ◌-◌, ◌==◌, Bool, true, false, List, [], ◌∷◌, ◌++◌, if◌then◌else◌, length, slice_get, slice_range, slice_index, Option, Some, None, unwrap_or, option_map, find, codes, bytes_eq}
use Rattle.inc_text.specs.Ascii.{quotation_mark}
use Rattle.inc_text.specs.declared.languages.Language.{Language}
use Rattle.inc_text.specs.declared.languages.Language.TheVariants.{C17, Extended, Gnu}
use Rattle.inc_token.specs.declared.kinds.Kind.{Kind}
use Rattle.inc_token.specs.declared.kinds.Kind.TheVariants.{HeaderName, Identifier, Number}
use Rattle.inc_directive.specs.declared.kinds.DirectiveKind.{DirectiveKind}
use Rattle.inc_directive.specs.declared.kinds.DirectiveKind.TheVariants.{If, Ifdef, Ifndef, Elif, Elifdef, Elifndef, Else, Endif, Define, Undef, Line, Error, Warning, Pragma, Ident, Null, Foreign, Unknown}
use Rattle.inc_token.specs.Prefixes.{Operand, Prefix, first_operand}
use Rattle.inc_token.specs.TokenLines.{Tok, include_name, is_hash}
use Rattle.inc_token.specs.Spellings.{class_of}
use Rattle.inc_token.specs.declared.kinds.IncludeName.{IncludeName}
use Rattle.inc_token.specs.declared.kinds.IncludeName.TheVariants.{IncludeNext}

-- what an include directive names: the name without its delimiters, or tokens that are to be expanded, or nothing. Of the tokens
-- the first counts where it is an identifier
pub data Target : Type 0 where
  Quoted : List ℕ → Target
  Angled : List ℕ → Target
  ByName : List ℕ → Target
  Computed : Target
  Nothing : Target

-- text, an include directive by its name, or any other directive
pub data LineKind : Type 0 where
  Text : LineKind
  Include : IncludeName → Target → LineKind
  Other : DirectiveKind → LineKind

abbrev pub is_header_kind : Kind → Bool
is_header_kind HeaderName = true
is_header_kind _ = false

-- a text without its first and its last byte
abbrev pub inner_bytes : List ℕ → List ℕ
inner_bytes text = slice_range text 1 (length text - 1)

-- a header name begins with " or <
abbrev pub header_target : List ℕ → Target
header_target text = if slice_index text 0 == quotation_mark then Quoted (inner_bytes text) else Angled (inner_bytes text)

-- the target that tokens give which are to be expanded, by the first of them
abbrev pub expanded_target : Kind → List ℕ → Target
expanded_target Identifier name = ByName name
expanded_target _ text = Computed

-- the target that the token after the name of an include directive gives
abbrev pub target_of : Option Operand → Target
target_of None = Nothing
target_of (Some t) = if is_header_kind t.kind then header_target t.spelling else expanded_target t.kind t.spelling

-- the directives by their names, those that include aside
abbrev pub named_kinds : List (List ℕ × DirectiveKind)
named_kinds =
    (codes "if", If) ∷ (codes "ifdef", Ifdef) ∷ (codes "ifndef", Ifndef) ∷ (codes "elif", Elif) ∷ (codes "else", Else)
    ∷ (codes "endif", Endif) ∷ (codes "define", Define) ∷ (codes "undef", Undef) ∷ (codes "line", Line) ∷ (codes "error", Error)
    ∷ (codes "pragma", Pragma) ∷ (codes "include_next", Foreign) ∷ (codes "import", Foreign) ∷ (codes "embed", Foreign) ∷ []

-- those that the extended language adds
abbrev pub extended_kinds : List (List ℕ × DirectiveKind)
extended_kinds = (codes "elifdef", Elifdef) ∷ (codes "elifndef", Elifndef) ∷ (codes "warning", Warning) ∷ []

-- those that a language adds
abbrev pub added_kinds : Language → List (List ℕ × DirectiveKind)
added_kinds C17 = []
added_kinds Extended = extended_kinds
added_kinds Gnu = extended_kinds ++ (codes "ident", Ident) ∷ (codes "sccs", Ident) ∷ []

-- the kind beside a name in a list
abbrev pub kind_in : List (List ℕ × DirectiveKind) → List ℕ → Option DirectiveKind
kind_in kinds name = option_map (λ (p : List ℕ × DirectiveKind). p.1) (find (λ (p : List ℕ × DirectiveKind). bytes_eq name p.0) kinds)

-- a line marker has a number in place of a name, as # 3 "f" 1
abbrev pub marker_kind : Option Kind → DirectiveKind
marker_kind (Some Number) = Line
marker_kind _ = Unknown

-- the kind of a directive with none of these names: GNU C has line markers
abbrev pub unnamed_kind : Language → List ℕ → DirectiveKind
unnamed_kind Gnu name = marker_kind (class_of Gnu name)
unnamed_kind _ name = Unknown

-- the kind of a directive that does not include, by its name
abbrev pub other_kind : Language → List ℕ → DirectiveKind
other_kind language name = unwrap_or (kind_in (named_kinds ++ added_kinds language) name) (unnamed_kind language name)

-- an include directive, if the name is that of one, or another directive
abbrev pub include_or : Option IncludeName → Target → DirectiveKind → LineKind
include_or None target other = Other other
include_or (Some by) target other = Include by target

-- the kind of a directive by its name and the token after it, which counts of an include directive alone
abbrev pub named_kind : Language → List ℕ → Option Operand → LineKind
named_kind language name operand = include_or (include_name language name) (target_of operand) (other_kind language name)

-- the kind of a directive by the tokens after its #
abbrev pub directive_kind : Language → List Tok → LineKind
directive_kind language [] = Other Null
directive_kind language (t ∷ ts) = named_kind language t.spelling (first_operand ts)

abbrev pub line_kind : Language → List Tok → LineKind
line_kind language [] = Text
line_kind language (t ∷ ts) = if is_hash t.spelling then directive_kind language ts else Text

-- the line of a directive, in every answer: the physical line of its #
abbrev pub line_of_tokens : List Tok → ℕ
line_of_tokens [] = 0
line_of_tokens (t ∷ ts) = t.line

-- the kind of a directive by its name, if it has one
abbrev pub kind_of_name : Language → Option (List ℕ) → Option Operand → LineKind
kind_of_name language None operand = Other Null
kind_of_name language (Some name) operand = named_kind language name operand

-- the kind of a directive by its prefix, which is that of its whole line
abbrev pub prefix_kind : Language → Prefix → LineKind
prefix_kind language p = kind_of_name language p.name p.operand

-- the directory of the include path with which the search of an include directive begins, where that of an #include_next in the same
-- file begins at `next`; none: with the file's own, and then the first
abbrev pub search_after : IncludeName → (next : Option ℕ) → Option ℕ
search_after IncludeNext next = next
search_after _ next = None

-- the name that a line defines, by its kind and its tokens
abbrev pub defined_name : LineKind → List Tok → Option (List ℕ)
defined_name (Other Define) ts = option_map (λ (t : Tok). t.spelling) (slice_get ts 2)
defined_name _ ts = None
