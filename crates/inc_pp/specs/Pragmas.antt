-- Pragmas, and pragma operators (ISO/IEC 9899:2018, 6.10.9), which GNU C alone has here: what expanded tokens with some of them put out.
-- Choices of this profile: the tokens of an operator's pragma are those of the line that has its string, destringized, after `#pragma`;
-- `push_macro` and `pop_macro` of GNU C are directives alone.
use Rattle.std.specs.Prelude.{ℕ, ◌==◌, ◌&&◌, ◌||◌, not, Bool, true, false, List, [], ◌∷◌, ◌++◌, Option, Some, None, Result, Ok, Err, if◌then◌else◌, map, drop, codes, bytes_eq, nat_lt, ok_or, option_map, slice_index}
use Rattle.std.specs.List.{list_all, list_any}
use Rattle.inc_text.specs.Ascii.{apostrophe, backslash, quotation_mark}
use Rattle.inc_text.specs.PhaseText.{is_too_long, phase_text}
use Rattle.inc_token.specs.declared.kinds.Kind.{Kind}
use Rattle.inc_token.specs.declared.kinds.Kind.TheVariants.{Identifier, Other}
use Rattle.inc_text.specs.declared.languages.Language.{Language}
use Rattle.inc_text.specs.declared.languages.Language.TheVariants.{C17}
use Rattle.inc_text.specs.Languages.{is_gnu}
use Rattle.inc_token.specs.declared.lines.LexFault.{LexFault}
use Rattle.inc_token.specs.Spellings.{class_of}
use Rattle.inc_token.specs.TokenLines.{Tok, TokenLine, token_lines}
use Rattle.inc_directive.specs.LineKinds.{inner_bytes}
use Rattle.inc_macro.specs.Macros.{Table, first_tokens, is_among, is_identifier_kind, is_spelled, pop_macro, push_macro, stands_first}
use Rattle.inc_macro.specs.Results.{◌>>=◌}
use Rattle.inc_expand.specs.Expansion.{Item, Place, item_of, of_source}
use Rattle.inc_cond.specs.Headers.{is_str_kind}
use Rattle.inc_pp.specs.declared.causes.Cause.{Cause}
use Rattle.inc_pp.specs.declared.causes.Cause.TheVariants.{BadPragma}
use Rattle.inc_pp.specs.LineMarkers.{next_token, own_line}
use Rattle.inc_pp.specs.Poison.{names_poison}
use Rattle.inc_pp.specs.Tasks.{OutToken}

abbrev pub is_other_kind : Kind → Bool
is_other_kind Other = true
is_other_kind _ = false

-- tokens that are put out, and whether the file at hand is from now on read once
pub record Laid : Type 0 where
  pub tokens : List OutToken
  pub once : Bool

-- nothing
abbrev pub nothing : Laid
nothing = record { tokens = []; once = false }

-- these, and then those
abbrev pub joined : Laid → Laid → Laid
joined a b = record { tokens = a.tokens ++ b.tokens; once = a.once || b.once }

-- these before what follows, if that has no fault
abbrev pub before : Laid → Result Laid Cause → Result Laid Cause
before a r = r >>= λ b. Ok (joined a b)

-- a token that is no part of an operator
abbrev pub plain : Language → (marks : Option Place) → (last : Option ℕ) → Item → Laid
plain language marks last i = record { tokens = next_token language marks last i; once = false }

---- pragmas

-- `once` comes first
abbrev pub names_once : List Tok → Bool
names_once [] = false
names_once (t ∷ ts) = bytes_eq t.spelling (codes "once")

---- definitions that are put aside

-- pragmas that put the definition of a macro aside, and take it back
abbrev pub stacking_names : List (List ℕ)
stacking_names = codes "push_macro" ∷ codes "pop_macro" ∷ []

-- one of them comes first, in GNU C
abbrev pub is_stacking : Language → List Tok → Bool
is_stacking language [] = false
is_stacking language (t ∷ ts) = is_gnu language && is_among t.spelling stacking_names

abbrev pub is_identifier : Option Kind → Bool
is_identifier (Some Identifier) = true
is_identifier _ = false

-- an ASCII character other than a backslash
abbrev pub is_plain_byte : ℕ → Bool
is_plain_byte b = nat_lt b 128 && not (b == backslash)

-- an identifier of such characters
abbrev pub is_plain_name : List ℕ → Bool
is_plain_name text = is_identifier (class_of C17 text) && list_all is_plain_byte text

-- a string literal that has such a name between its quotation marks, and no prefix
abbrev pub is_name_literal : Tok → Bool
is_name_literal t = is_str_kind t.kind && ((slice_index t.spelling 0 == quotation_mark) && is_plain_name (inner_bytes t.spelling))

-- the name in such a literal, which a `)` follows: what is behind it does not count
abbrev pub closed_name : List Tok → Option (List ℕ)
closed_name [] = None
closed_name (t ∷ ts) = if is_name_literal t && stands_first (codes ")") ts then Some (inner_bytes t.spelling) else None

-- the name of the macro, after a `(`
abbrev pub stacked_name : List Tok → Option (List ℕ)
stacked_name [] = None
stacked_name (t ∷ ts) = if is_spelled (codes "(") t then closed_name ts else None

-- the macros after such a pragma of a name
abbrev pub stacked : Tok → (name : List ℕ) → Table → Table
stacked word name table = if is_spelled (codes "push_macro") word then push_macro name table else pop_macro name table

-- the macros after such a pragma with these tokens
abbrev pub restacked : List Tok → Table → Result Table Cause
restacked [] table = Err BadPragma
restacked (t ∷ ts) table = ok_or (option_map (λ name. stacked t name table) (stacked_name ts)) BadPragma

---- other pragmas

-- which pragmas of gcc are addressed to its preprocessor, and change nothing here
abbrev pub silent_names : List (List ℕ)
silent_names = codes "system_header" ∷ codes "warning" ∷ codes "dependency" ∷ []

-- a `#pragma` line with this after its name is not put out in GNU C
abbrev pub is_silent : Language → List Tok → Bool
is_silent language (t ∷ u ∷ ts) = is_gnu language && (bytes_eq t.spelling (codes "GCC") && is_among u.spelling silent_names)
is_silent language _ = false

-- what is put out of a `#pragma` line
abbrev pub put_tokens : Language → List Tok → List Tok
put_tokens language ts = if is_silent language (drop 2 ts) then [] else ts

-- what is put out of it, which is from a physical line, as a line of its own
abbrev pub put_pragma : Language → (marks : Option Place) → (line : ℕ) → List Tok → List OutToken
put_pragma language marks line ts = own_line language marks line (map (λ (t : Tok). item_of (of_source t)) (put_tokens language ts))

-- a `#pragma` line of these tokens: `#pragma once` has its file read once; any other pragma is put out as it is, or not at all
abbrev pub pragma_line : Language → (marks : Option Place) → (line : ℕ) → List Tok → Laid
pragma_line language marks line ts =
    if names_once (drop 2 ts) then record { tokens = []; once = true }
    else record { tokens = put_pragma language marks line ts; once = false }

-- the bytes after the first quotation mark: an encoding prefix is dropped with it
abbrev pub after_quote : List ℕ → List ℕ
after_quote [] = []
after_quote (b ∷ bs) = if b == quotation_mark then bs else after_quote bs

-- `\"` or `\\`
abbrev pub is_escape : ℕ → ℕ → Bool
is_escape b c = (b == backslash) && ((c == quotation_mark) || (c == backslash))

-- without the last byte, which is a quotation mark, and with `"` for `\"` and `\` for `\\`
abbrev pub unescaped : List ℕ → List ℕ
unescaped [] = []
unescaped (b ∷ []) = []
unescaped (b ∷ c ∷ bs) = if is_escape b c then c ∷ unescaped bs else b ∷ unescaped (c ∷ bs)

-- the line for a string literal
abbrev pub pragma_text : (literal : List ℕ) → List ℕ
pragma_text literal = codes "#pragma " ++ unescaped (after_quote literal)

-- a definition is not put aside, nor taken back, nor a name taken away, among tokens that are expanded before that is done
abbrev pub operated : Language → List Tok → Result (List Tok) Cause
operated language ts = if is_stacking language (drop 2 ts) || names_poison language (drop 2 ts) then Err BadPragma else Ok ts

abbrev pub tokens_or_bad : Language → Result (List TokenLine) LexFault → Result (List Tok) Cause
tokens_or_bad language (Ok lines) = operated language (first_tokens lines)
tokens_or_bad language (Err fault) = Err BadPragma

-- its tokens
abbrev pub pragma_tokens : Language → (literal : List ℕ) → Result (List Tok) Cause
pragma_tokens language literal =
    if is_too_long (pragma_text literal) then Err BadPragma
    else tokens_or_bad language (token_lines language (phase_text language (pragma_text literal)))

---- operators

-- an operator begins
abbrev pub is_operator : Language → Item → Bool
is_operator language i = is_gnu language && (is_identifier_kind i.kind && bytes_eq i.spelling (codes "_Pragma"))

-- what goes on where the token is the one that the operator has here
abbrev pub where_fits : Bool → Result Laid Cause → Result Laid Cause
where_fits true r = r
where_fits false r = Err BadPragma

-- a quote of GNU C without a partner
abbrev pub is_lone : Language → Item → Bool
is_lone language i = is_gnu language && (is_other_kind i.kind && list_any (λ b. (b == apostrophe) || (b == quotation_mark)) i.spelling)

-- the line of a token, with which what follows it goes on; a lone quote takes the rest of its line, so that what follows begins one
abbrev pub line_behind : Language → Item → Option ℕ
line_behind language i = if is_lone language i then None else Some i.line

-- expanded tokens, after one that is from a line, or first of a line that is put out: an operator ends the line before it, and what
-- follows its pragma, which is marked by the line of its `)`, begins one
abbrev mutual
  pub laid : Language → (marks : Option Place) → (last : Option ℕ) → List Item → Result Laid Cause
  laid language marks last [] = Ok nothing
  laid language marks last (i ∷ is) =
      if is_operator language i then after_name language marks is
      else before (plain language marks last i) (laid language marks (line_behind language i) is)

  -- after `_Pragma`
  pub after_name : Language → (marks : Option Place) → List Item → Result Laid Cause
  after_name language marks [] = Err BadPragma
  after_name language marks (i ∷ is) = where_fits (bytes_eq i.spelling (codes "(")) (after_open language marks is)

  -- after `_Pragma (`
  pub after_open : Language → (marks : Option Place) → List Item → Result Laid Cause
  after_open language marks [] = Err BadPragma
  after_open language marks (i ∷ is) = where_fits (is_str_kind i.kind) (after_literal language marks i.spelling is)

  -- after `_Pragma (` and a string literal
  pub after_literal : Language → (marks : Option Place) → (literal : List ℕ) → List Item → Result Laid Cause
  after_literal language marks literal [] = Err BadPragma
  after_literal language marks literal (i ∷ is) =
      where_fits (bytes_eq i.spelling (codes ")"))
      (pragma_tokens language literal >>= λ ts. before (pragma_line language marks i.line ts) (laid language marks None is))
