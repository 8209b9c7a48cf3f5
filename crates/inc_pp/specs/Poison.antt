-- Names that `#pragma GCC poison` takes away in GNU C: they have no definition from then on, and a line that is read later and has one of
-- them stops. A choice of this profile: what `##` makes is not asked for such names, and a name that may not be undefined is not taken away.
use Rattle.std.specs.Prelude.{ℕ, ◌&&◌, ◌||◌, not, Bool, false, List, [], ◌∷◌, None, Result, Ok, Err, if◌then◌else◌, drop, codes, bytes_eq}
use Rattle.std.specs.List.{list_all, list_any}
use Rattle.inc_text.specs.declared.languages.Language.{Language}
use Rattle.inc_text.specs.Languages.{is_gnu}
use Rattle.inc_token.specs.TokenLines.{Tok}
use Rattle.inc_directive.specs.Groups.{FileLine}
use Rattle.inc_directive.specs.LineKinds.{line_of_tokens}
use Rattle.inc_macro.specs.Macros.{is_identifier_kind, is_reserved, is_spelled, with_found}
use Rattle.inc_pp.specs.declared.causes.Cause.{Cause}
use Rattle.inc_pp.specs.declared.causes.Cause.TheVariants.{BadPragma, Poisoned}
use Rattle.inc_pp.specs.Tasks.{File, State, Halt, halting}

---- the pragma

-- `GCC poison` comes first, in GNU C
abbrev pub names_poison : Language → List Tok → Bool
names_poison language (t ∷ u ∷ ts) = is_gnu language && (is_spelled (codes "GCC") t && is_spelled (codes "poison") u)
names_poison language _ = false

-- a name that may be taken away
abbrev pub is_poisonable : Language → Tok → Bool
is_poisonable language t = is_identifier_kind t.kind && not (is_reserved language t.spelling)

-- the state without a name
abbrev pub poison : List ℕ → State → State
poison name s = record s { table = with_found name None s.table; poisoned = λ n. bytes_eq n name || s.poisoned n }

abbrev pub poison_all : List Tok → State → State
poison_all [] s = s
poison_all (t ∷ ts) s = poison_all ts (poison t.spelling s)

-- the state without the names that these tokens are
abbrev pub poisoned_by : List Tok → State → Result State Cause
poisoned_by ts s = if list_all (is_poisonable s.table.language) ts then Ok (poison_all ts s) else Err BadPragma

---- lines that are read later

-- the token is such a name
abbrev pub is_poisoned : (List ℕ → Bool) → Tok → Bool
is_poisoned poisoned t = is_identifier_kind t.kind && poisoned t.spelling

-- tokens, where none of them is
abbrev pub asked : (List ℕ → Bool) → List Tok → Result (List Tok) Cause
asked poisoned ts = if list_any (is_poisoned poisoned) ts then Err Poisoned else Ok ts

-- the tokens of a directive after its `#` are those of the pragma, which may name such names again
abbrev pub poisons : Language → List Tok → Bool
poisons language [] = false
poisons language (t ∷ ts) = is_spelled (codes "pragma") t && names_poison language ts

-- the tokens of a directive
abbrev pub asked_directive : State → List Tok → Result (List Tok) Cause
asked_directive s ts = if poisons s.table.language (drop 1 ts) then Ok ts else asked s.poisoned ts

-- the same in the file at hand
abbrev pub line_asked : File → FileLine → State → Result (List Tok) Halt
line_asked f l s = halting f (line_of_tokens l.tokens) s (asked_directive s l.tokens)
