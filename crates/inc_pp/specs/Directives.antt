-- The other directives (ISO/IEC 9899:2018, 6.10.3 to 6.10.7). Choices of this profile: `#pragma once`; other pragmas are put out as they
-- are; `#warning` changes nothing. GNU C has line markers, `#pragma push_macro`, `pop_macro` and `GCC poison`.
use Rattle.std.specs.Prelude.{ℕ, ◌+◌, ◌&&◌, ◌||◌, Bool, true, false, List, [], ◌∷◌, Option, Some, None, Result, Ok, Err, if◌then◌else◌, take, drop, nat_le, nat_lt, codes, bytes_eq, pos, ◌-ℤ◌, ℤ, option_map, option_and_then, ok_or}
use Rattle.std.specs.List.{list_all}
use Rattle.inc_text.specs.declared.languages.Language.{Language}
use Rattle.inc_text.specs.declared.languages.Language.TheVariants.{Gnu}
use Rattle.inc_token.specs.declared.kinds.Kind.{Kind}
use Rattle.inc_token.specs.declared.kinds.Kind.TheVariants.{Number}
use Rattle.inc_token.specs.Spellings.{is_digit}
use Rattle.inc_token.specs.TokenLines.{Tok}
use Rattle.inc_directive.specs.LineKinds.{LineKind, Text, Include, Other, line_of_tokens}
use Rattle.inc_directive.specs.declared.kinds.DirectiveKind.{DirectiveKind}
use Rattle.inc_directive.specs.declared.kinds.DirectiveKind.TheVariants.{Define, Undef, Line, Error, Warning, Pragma, Ident, Null, Foreign, Unknown}
use Rattle.inc_directive.specs.Groups.{FileLine}
use Rattle.inc_macro.specs.Results.{◌>>=◌}
use Rattle.inc_macro.specs.Macros.{Table, define, is_among, undef}
use Rattle.inc_expand.specs.Expansion.{Item}
use Rattle.inc_cond.specs.Constants.{number_in}
use Rattle.inc_pp.specs.declared.causes.Cause.{Cause}
use Rattle.inc_pp.specs.declared.causes.Cause.TheVariants as cause
use Rattle.inc_pp.specs.Includes.{is_plain_string, include_target, included, with_once}
pub use Rattle.inc_pp.specs.Poison.{line_asked, names_poison, poisoned_by}
pub use Rattle.inc_pp.specs.Pragmas.{names_once, put_pragma, is_stacking, restacked}
use Rattle.inc_text.specs.Languages.{is_gnu}
use Rattle.inc_pp.specs.OpenCalls.{called_name}
use Rattle.inc_pp.specs.Runs.{bounded, expanded, marks_in, put_out, released}
use Rattle.inc_pp.specs.Sections.{operands}
use Rattle.inc_pp.specs.Tasks.{File, State, Here, Halt, caused, halting}

-- with another table
abbrev pub with_table : Table → State → State
with_table table s =
    record { table = table; once = s.once; poisoned = s.poisoned; meter = s.meter; reads = s.reads; bytes_read = s.bytes_read; output = s.output }

abbrev pub is_number_kind : Kind → Bool
is_number_kind Number = true
is_number_kind _ = false

-- `#line` gives a number from 1 to 2147483647, in GNU C from 0 to 4294967295
abbrev pub least_line : Language → ℕ
least_line Gnu = 0
least_line _ = 1

abbrev pub most_line : Language → ℕ
most_line Gnu = 4_294_967_295
most_line _ = 2_147_483_647

-- decimal digits of such a number
abbrev pub line_number : Language → Item → Option ℕ
line_number language i =
    if is_number_kind i.kind && (list_all is_digit i.spelling
    && (nat_le (least_line language) (number_in 10 i.spelling) && nat_le (number_in 10 i.spelling) (most_line language)))
    then Some (number_in 10 i.spelling) else None

-- the name that `#line` gives: perhaps one string, else the old one
abbrev pub line_name : Here → List Item → Option (List ℕ)
line_name h [] = Some h.name
line_name h (i ∷ []) = if is_plain_string i then Some i.spelling else None
line_name h (i ∷ j ∷ is) = None

-- a line marker has a number in place of the name `line`
abbrev pub is_marker : List Tok → Bool
is_marker (hash ∷ name ∷ ts) = is_number_kind name.kind
is_marker _ = false

-- the tokens that say a number of lines and perhaps a name, once they are expanded: those after the name, of a line marker those
-- after its #
abbrev pub line_operands : List Tok → List Tok
line_operands ts = if is_marker ts then drop 1 ts else drop 2 ts

-- those of them that count: flags are after the first two of a line marker
abbrev pub counted : List Tok → List Item → List Item
counted ts is = if is_marker ts then take 2 is else is

-- how lines are numbered: presumed minus physical line, and the literal for `__FILE__`
pub record Numbering : Type 0 where
  pub shift : ℤ
  pub name : List ℕ

-- the line after the directive's last gets the number (6.10.4)
abbrev pub renumbered : Language → Here → (last : ℕ) → List Item → Option Numbering
renumbered language h last [] = None
renumbered language h last (i ∷ is) =
    option_and_then (λ n. option_map (λ name. record { shift = pos n -ℤ pos (last + 1); name = name }) (line_name h is))
    (line_number language i)

-- the lines that follow are numbered so
abbrev pub with_numbering : Numbering → Here → Here
with_numbering n h = record h { shift = n.shift; name = n.name }

-- `#pragma GCC system_header` in GNU C
abbrev pub names_system : Language → List Tok → Bool
names_system language (t ∷ u ∷ ts) = is_gnu language && (bytes_eq t.spelling (codes "GCC") && bytes_eq u.spelling (codes "system_header"))
names_system language _ = false

-- by it what follows in a header is of a system header; it says nothing in the source
abbrev pub with_system : Language → List Tok → Here → Here
with_system language ts h =
    record h { standing = record h.standing { is_system = h.standing.is_system || (nat_lt 0 h.standing.level && names_system language ts) } }

-- `#pragma once` has its file read once; `#pragma push_macro` puts a definition aside, and `#pragma pop_macro` takes it back; `#pragma GCC poison`
-- takes names away; any other pragma is put out as it is, or not at all, if the text of what is put out is not too long then
abbrev pub after_pragma : File → FileLine → State → Here → Result State Cause
after_pragma f l s h =
    if names_once (operands l) then Ok (with_once f.index s) else
    if is_stacking s.table.language (operands l) then (restacked (operands l) s.table >>= λ t. Ok (with_table t s)) else
    if names_poison s.table.language (operands l) then poisoned_by (drop 2 (operands l)) s
    else bounded f.task.settings.most_output
    (put_out (put_pragma s.table.language (marks_in f h) (line_of_tokens l.tokens) l.tokens) s)

-- what a directive changes that is no include and of no section; `#warning`, `#ident`, `#sccs` and `#` alone change nothing
abbrev pub changed : DirectiveKind → File → FileLine → State → Here → Result (State × Here) Cause
changed Define f l s h = caused cause.Define (define (operands l) s.table) >>= λ t. Ok (with_table t s, h)
changed Undef f l s h = caused cause.Define (undef (operands l) s.table) >>= λ r. Ok (with_table r.1 s, h)
changed Line f l s h =
    expanded f h s (line_operands l.tokens) >>= λ r.
    ok_or (renumbered s.table.language h l.last_line (counted l.tokens r.0)) cause.BadLine >>= λ n. Ok (r.1, with_numbering n h)
changed Error f l s h = Err cause.ErrorDirective
changed Pragma f l s h = after_pragma f l s h >>= λ t. Ok (t, with_system s.table.language (operands l) h)
changed Foreign f l s h = Err cause.UnknownDirective
changed Unknown f l s h = Err cause.UnknownDirective
changed _ f l s h = Ok (s, h)

-- an include leads to a file perhaps; other directives change the state or the place
abbrev pub control_of : LineKind → File → FileLine → State → Here → Result (State × Here) Halt
control_of (Include by target) f l s h =
    halting f (line_of_tokens l.tokens) s (include_target by target f l s h) >>= λ r. included f.deeper r.0 r.1 h
control_of Text f l s h = Ok (s, h)
control_of (Other directive) f l s h = halting f (line_of_tokens l.tokens) s (changed directive f l s h)

abbrev pub control_line : File → FileLine → State → Here → Result (State × Here) Halt
control_line f l s h = control_of l.kind f l s h

-- no name of its line was taken away
abbrev pub control_read : File → FileLine → State → Here → Result (State × Here) Halt
control_read f l s h = line_asked f l s >>= λ _. control_line f l s h

-- a pragma that changes macros, and one that gcc puts out behind the other directives in a call
abbrev pub late_names : List (List ℕ)
late_names = codes "message" ∷ codes "redefine_extname" ∷ []

abbrev pub names_late : List Tok → Bool
names_late [] = false
names_late (t ∷ ts) = is_among t.spelling late_names

abbrev pub ends_by_pragma : Language → List Tok → Bool
ends_by_pragma language ts = is_stacking language ts || (names_poison language ts || names_late ts)

-- the first operand is the name of the call that waits
abbrev pub names_call : Option (List ℕ) → List Tok → Bool
names_call (Some name) (t ∷ ts) = bytes_eq t.spelling name
names_call _ _ = false

-- a directive of this kind that a call does not go over, by its operands
abbrev pub ends_call : LineKind → Language → (name : Option (List ℕ)) → List Tok → Bool
ends_call (Include by target) language name ts = true
ends_call (Other Line) language name ts = true
ends_call (Other Define) language name ts = names_call name ts
ends_call (Other Undef) language name ts = names_call name ts
ends_call (Other Pragma) language name ts = ends_by_pragma language ts
ends_call _ language name ts = false

-- no call waits on for such a directive
abbrev pub released_for : FileLine → File → State → Here → Result (State × Here) Halt
released_for l f s h = if ends_call l.kind s.table.language (called_name h.waiting) (operands l) then released f s h else Ok (s, h)

-- a directive of no section
abbrev pub directive_read : File → FileLine → State → Here → Result (State × Here) Halt
directive_read f l s h = released_for l f s h >>= λ p. control_read f l p.0 p.1
