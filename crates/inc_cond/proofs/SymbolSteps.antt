-- What tokens that are read one by one give, with those that are still to come.
use Rattle.std.proofs.Common.{◌≡◌, refl, ap, sym, ◌∙◌, ℕ, zero, suc, ◌≤◌, Bool, true, false, List, [], ◌∷◌, ◌++◌, Option, Some, None, Result, Ok, Err, arith, drop, length, if◌then◌else◌}
use Rattle.std.specs.Prelude.{◌&&◌, ◌||◌, not, codes, bytes_eq}
use Rattle.std.proofs.lemmas.Bool.{cond-false}
use Rattle.std.proofs.lemmas.List.{drop-append-le}
use Rattle.inc_token.specs.declared.kinds.Kind.{Kind}
use Rattle.inc_token.specs.declared.kinds.Kind.TheVariants.{HeaderName, Identifier, Number, Char, Str, Punct, Other}
use Rattle.inc_macro.specs.Results.{◌>>=◌}
use Rattle.inc_macro.specs.Macros.{Table, asks_headers, is_identifier_kind}
use Rattle.inc_expand.specs.Expansion.{Item}
use Rattle.inc_cond.specs.declared.faults.CondFault.{CondFault}
use Rattle.inc_cond.specs.declared.known.Known.{Known}
use Rattle.inc_cond.specs.declared.values.Value.{Value}
use Rattle.inc_cond.specs.Headers.{HeaderSearch}
use Rattle.inc_cond.specs.Known.{bounded_value}
use Rattle.inc_cond.specs.Symbols.{Symbol, Constant, asked, asked_symbol, asks, asks_header, identifier_symbol, symbol, symbols_from}
use Rattle.inc_cond.specs.Values.{truth}

---- what a token is does not depend on those that it does not ask for

-- where it is no question, an identifier is what it is without questions
no-question : (search : HeaderSearch) (table : Table) (text : List ℕ) (is : List Item) → asks_headers table.language text ≡ false
    → symbol search table Identifier text is ≡ Ok (identifier_symbol table text is)
no-question search table text is off = cond-false (asks_headers table.language text) _ _ off

pub by-asked : (search : HeaderSearch) (table : Table) (kind : Kind) (text : List ℕ) (is js : List Item) → asks_header table kind text ≡ false → asked is ≡ asked js
    → symbol search table kind text is ≡ symbol search table kind text js
by-asked search table Identifier text is js off e =
    no-question search table text is off
    ∙ ap (λ o. Ok (if bytes_eq text (codes "defined") then asked_symbol table o else (Constant (truth false), 0))) e
    ∙ sym (no-question search table text js off)
by-asked search table Number text is js off e = refl
by-asked search table Char text is js off e = refl
by-asked search table Punct text is js off e = refl
by-asked search table HeaderName text is js off e = refl
by-asked search table Str text is js off e = refl
by-asked search table Other text is js off e = refl

pub by-itself : (search : HeaderSearch) (table : Table) (kind : Kind) (text : List ℕ) (is js : List Item) → asks_header table kind text ≡ false → asks kind text ≡ false
    → symbol search table kind text is ≡ symbol search table kind text js
by-itself search table Identifier text is js off e =
    no-question search table text is off
    ∙ ap Ok (cond-false (bytes_eq text (codes "defined")) _ _ e ∙ sym (cond-false (bytes_eq text (codes "defined")) _ _ e))
    ∙ sym (no-question search table text js off)
by-itself search table Number text is js off e = refl
by-itself search table Char text is js off e = refl
by-itself search table Punct text is js off e = refl
by-itself search table HeaderName text is js off e = refl
by-itself search table Str text is js off e = refl
by-itself search table Other text is js off e = refl

---- how many tokens `defined` has to see

-- a name, or what is neither a name nor `(`
one-enough : (a : Item) (more : List Item) → (is_identifier_kind a.kind || not (bytes_eq a.spelling (codes "("))) ≡ true → asked (a ∷ more) ≡ asked (a ∷ [])
one-enough a [] e = refl
one-enough a (b ∷ []) e = refl
one-enough a (b ∷ c ∷ more) e =
    by (is_identifier_kind a.kind) (bytes_eq a.spelling (codes "(")) (is_identifier_kind b.kind && bytes_eq c.spelling (codes ")")) (Some (a.spelling, 1)) (Some (b.spelling, 3)) e
  where
    by : (i p x : Bool) (one three : Option (List ℕ × ℕ)) → (i || not p) ≡ true →
        (if i then one else if p && x then three else None) ≡ (if i then one else None)
    by true p x one three e = refl
    by false false x one three e = refl
    by false true x one three e = cc

pub name-enough : (a : Item) (ts more : List Item) → (is_identifier_kind a.kind || not (bytes_eq a.spelling (codes "("))) ≡ true
    → asked ((a ∷ ts) ++ more) ≡ asked (a ∷ ts)
name-enough a ts more e = one-enough a (ts ++ more) e ∙ sym (one-enough a ts e)

-- three
pub three-enough : (ts more : List Item) → 3 ≤ length ts → asked (ts ++ more) ≡ asked ts
three-enough [] more l = absurd (omega (arith, l))
three-enough (a ∷ []) more l = absurd (omega (arith, l))
three-enough (a ∷ b ∷ []) more l = absurd (omega (arith, l))
three-enough (a ∷ b ∷ c ∷ ts) more l = refl

---- one symbol

-- tokens that went with a `defined` are left out
passed : (search : HeaderSearch) (table : Table) (n : ℕ) (is : List Item) → symbols_from search n table is ≡ symbols_from search 0 table (drop n is)
passed search table zero is = refl
passed search table (suc n) [] = refl
passed search table (suc n) (i ∷ is) = passed search table n is

module _ (search : HeaderSearch) (table : Table) (i : Item) (rest is : List Item) (before after : List Symbol → Option Known) where
  -- the value that the symbols give
  abbrev value : (List Symbol → Option Known) → List Symbol → Result Value CondFault
  value read ss = bounded_value (read ss)

  pub symbol-read : (s : Symbol × ℕ) → ((ss : List Symbol) → after ss ≡ before (s.0 ∷ ss))
      → symbol search table i.kind i.spelling (rest ++ is) ≡ symbol search table i.kind i.spelling rest
      → symbol search table i.kind i.spelling rest ≡ Ok s → s.1 ≤ length rest
      → (symbols_from search 0 table (drop s.1 rest ++ is) >>= value after) ≡ (symbols_from search 0 table ((i ∷ rest) ++ is) >>= value before)
  symbol-read s goes settled is_s within =
      by (symbols_from search 0 table (drop s.1 rest ++ is))
      ∙ ap (λ ts. (symbols_from search 0 table ts >>= λ ss. Ok (s.0 ∷ ss)) >>= value before) (sym (drop-append-le s.1 rest is within))
      ∙ ap (λ r. (r >>= λ ss. Ok (s.0 ∷ ss)) >>= value before) (sym (passed search table s.1 (rest ++ is)))
      ∙ ap (λ r. (r >>= λ s. symbols_from search s.1 table (rest ++ is) >>= λ ss. Ok (s.0 ∷ ss)) >>= value before) (sym (settled ∙ is_s))
    where
      by : (r : Result (List Symbol) CondFault) → (r >>= value after) ≡ ((r >>= λ ss. Ok (s.0 ∷ ss)) >>= value before)
      by (Ok ss) = ap bounded_value (goes ss)
      by (Err f) = refl

  pub symbol-bad : (f : CondFault)
      → symbol search table i.kind i.spelling (rest ++ is) ≡ symbol search table i.kind i.spelling rest
      → symbol search table i.kind i.spelling rest ≡ Err f
      → Err f ≡ (symbols_from search 0 table ((i ∷ rest) ++ is) >>= value before)
  symbol-bad f settled is_f =
      ap (λ r. (r >>= λ s. symbols_from search s.1 table (rest ++ is) >>= λ ss. Ok (s.0 ∷ ss)) >>= value before) (sym (settled ∙ is_f))
