-- Calls that are open where a run of text lines ends (ISO/IEC 9899:2018, 6.10.3 paragraph 11, which leaves open what a directive within a call does).
-- GNU C obeys directives there, and the call goes on behind them. Its tokens that are read in the meantime wait until its parentheses are closed.
use Rattle.std.specs.Prelude.{ℕ, zero, suc, Bool, List, [], ◌∷◌, Option, Some, None, if◌then◌else◌, codes, bytes_eq, map}
use Rattle.inc_token.specs.TokenLines.{Tok}
use Rattle.inc_expand.specs.Openings.{Held}

abbrev pub is_open : List ℕ → Bool
is_open spelling = bytes_eq spelling (codes "(")

abbrev pub is_close : List ℕ → Bool
is_close spelling = bytes_eq spelling (codes ")")

-- how many parentheses of a call are open after a token: 0 once none is
abbrev pub open_after : (deep : ℕ) → (spelling : List ℕ) → ℕ
open_after zero spelling = zero
open_after (suc n) spelling = if is_open spelling then suc (suc n) else if is_close spelling then n else suc n

-- and after some tokens
abbrev pub open_behind : (deep : ℕ) → List (List ℕ) → ℕ
open_behind deep [] = deep
open_behind deep (spelling ∷ more) = open_behind (open_after deep spelling) more

abbrev pub spellings : List Tok → List (List ℕ)
spellings ts = map (λ (t : Tok). t.spelling) ts

abbrev pub held_spellings : List Held → List (List ℕ)
held_spellings hs = map (λ (h : Held). h.spelling) hs

-- after the tokens of a call that waits: its name, its first parenthesis, and others
abbrev pub open_in_call : List Held → ℕ
open_in_call [] = 0
open_in_call (name ∷ []) = 0
open_in_call (name ∷ first ∷ hs) = open_behind 1 (held_spellings hs)

-- its name, and the line that it stands on
abbrev pub called_name : List Held → Option (List ℕ)
called_name [] = None
called_name (name ∷ hs) = Some name.spelling

abbrev pub first_line_in : List Held → Option ℕ
first_line_in [] = None
first_line_in (name ∷ hs) = Some name.line
