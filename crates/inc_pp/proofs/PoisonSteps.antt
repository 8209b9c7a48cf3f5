-- Lines that are looked through for names that were taken away, and the state after a name is.
use Rattle.std.proofs.Common.{◌≡◌, ℕ, ◌&&◌, ◌||◌, Bool, true, false, cond, not, List, [], ◌∷◌, ◌++◌, Result, Ok, Err, arith, bytes_eq, drop, length, map, nat_lt, refl, ap, sym, ◌∙◌}
use Rattle.std.specs.List.{list_all, list_any}
use Rattle.std.proofs.lemmas.Bool.{and_right, lt-ltb}
use Rattle.std.proofs.lemmas.List.Folds.{list_all-map, list_any-append}
use Rattle.std.proofs.lemmas.Slice.Eq.{bytes_eq-Decides}
use Rattle.inc_text.specs.declared.languages.Language.{Language}
use Rattle.inc_token.specs.declared.lines.Token.{Token}
use Rattle.inc_token.specs.TokenLines.{Tok}
use Rattle.inc_token.specs.Views.{seen}
use Rattle.inc_directive.specs.Groups.{FileLine}
use Rattle.inc_directive.specs.LineKinds.{line_of_tokens}
use Rattle.inc_macro.specs.Macros.{is_among, is_identifier_kind}
use Rattle.inc_macro.specs.Results.{◌>>=◌}
use Rattle.inc_pp.specs.declared.causes.Cause.{Cause}
use Rattle.inc_pp.specs.declared.causes.Cause.TheVariants.{BadPragma, Poisoned}
use Rattle.inc_pp.specs.HeldFiles.{NonePoisoned}
use Rattle.inc_pp.specs.Poison.{asked, asked_directive, is_poisonable, is_poisoned, line_asked, poison_all, poisoned_by, poisons}
use Rattle.inc_pp.specs.Tasks.{File, Halt, State, halting}
use Rattle.inc_pp.specs.StateViews.{among}
use Rattle.inc_pp.specs.Stops.{halt_at}

---- no name was taken away

-- an empty list has no name
pub none-among : (names : List (List ℕ)) → nat_lt 0 (length names) ≡ false → (name : List ℕ) → is_among name names ≡ false
none-among [] none name = refl
none-among (n ∷ ns) none name = let e : true ≡ false = sym (lt-ltb 0 (length (n ∷ ns)) (omega arith)) ∙ none in cc

none_asked : (poisoned : List ℕ → Bool) → ((name : List ℕ) → poisoned name ≡ false) → (ts : List Tok) → list_any (is_poisoned poisoned) ts ≡ false
none_asked poisoned none [] = refl
none_asked poisoned none (t ∷ ts) =
    ap (λ b. (is_identifier_kind t.kind && b) || list_any (is_poisoned poisoned) ts) (none t.spelling)
    ∙ ap (λ b. b || list_any (is_poisoned poisoned) ts) (and_right (is_identifier_kind t.kind) false refl) ∙ none_asked poisoned none ts

-- then no line has one
pub asked-none : (f : File) (l : FileLine) (s : State) → NonePoisoned s → line_asked f l s ≡ Ok l.tokens
asked-none f l s none =
    ap (λ b. halting f (line_of_tokens l.tokens) s (cond (poisons s.table.language (drop 1 l.tokens)) (Ok l.tokens) (cond b (Err Poisoned) (Ok l.tokens))))
    (none_asked s.poisoned none l.tokens)
    ∙ either (poisons s.table.language (drop 1 l.tokens))
  where
    all : Result (List Tok) Cause
    all = Ok l.tokens

    either : (b : Bool) → halting f (line_of_tokens l.tokens) s (cond b all all) ≡ Ok l.tokens
    either true = refl
    either false = refl

---- a line

module _ (f : File) (l : FileLine) (s : State) (ts : List Tok) (is : l.tokens ≡ ts) where
  pub line-done : asked_directive s ts ≡ Ok ts → line_asked f l s ≡ Ok l.tokens
  line-done done = ap (λ us. halting f (line_of_tokens us) s (asked_directive s us)) is ∙ ap (halting f (line_of_tokens ts) s) done ∙ ap (λ us. Ok us) (sym is)

  pub line-stop : (line : ℕ) (c : Cause) → line ≡ line_of_tokens ts → asked_directive s ts ≡ Err c → line_asked f l s ≡ Err (halt_at f s line c)
  line-stop line c at stop =
      ap (λ us. halting f (line_of_tokens us) s (asked_directive s us)) is ∙ ap (halting f (line_of_tokens ts) s) stop
      ∙ ap (λ n. Err (halt_at f s n c)) (sym at)

-- what follows a line that is read
pub read-on : {A : Type 0} (f : File) (l : FileLine) (s : State) (r : Result A Halt) → line_asked f l s ≡ Ok l.tokens → (line_asked f l s >>= λ _. r) ≡ r
read-on f l s r is = ap (λ (q : Result (List Tok) Halt). q >>= λ _. r) is

pub read-stop : {A : Type 0} (f : File) (l : FileLine) (s : State) (r : Result A Halt) (halt : Halt) → line_asked f l s ≡ Err halt → (line_asked f l s >>= λ _. r) ≡ Err halt
read-stop f l s r halt is = ap (λ (q : Result (List Tok) Halt). q >>= λ _. r) is

-- what follows tokens of text that are read
pub text-on : {A : Type 0} (poisoned : List ℕ → Bool) (ts : List Tok) (r : Result A Cause) → asked poisoned ts ≡ Ok ts → (asked poisoned ts >>= λ _. r) ≡ r
text-on poisoned ts r is = ap (λ (q : Result (List Tok) Cause). q >>= λ _. r) is

pub text-stopped : {A : Type 0} (poisoned : List ℕ → Bool) (ts : List Tok) (r : Result A Cause) (c : Cause) → asked poisoned ts ≡ Err c → (asked poisoned ts >>= λ _. r) ≡ Err c
text-stopped poisoned ts r c is = ap (λ (q : Result (List Tok) Cause). q >>= λ _. r) is

---- the names

-- a name among them
pub among-is : (names : List (List ℕ)) (name : List ℕ) → among names name ≡ is_among name names
unfolding among
among-is names name = refl

-- the names with one more
pub among-more : (names : List (List ℕ)) (name other : List ℕ) → among (names ++ name ∷ []) other ≡ (bytes_eq other name || among names other)
unfolding among
among-more names name other = list_any-append (bytes_eq other) names (name ∷ []) ∙ by (list_any (bytes_eq other) names) (bytes_eq other name)
  where
    by : (a b : Bool) → (a || (b || false)) ≡ (b || a)
    by true true = refl
    by true false = refl
    by false true = refl
    by false false = refl

-- those that have it already
pub among-again : (names : List (List ℕ)) (name other : List ℕ) → is_among name names ≡ true → among names other ≡ (bytes_eq other name || among names other)
unfolding among
among-again names name other is = by (bytes_eq other name) refl
  where
    by : (b : Bool) → bytes_eq other name ≡ b → is_among other names ≡ (b || is_among other names)
    by true same = ap (λ n. is_among n names) ((bytes_eq-Decides other name).0 same) ∙ is
    by false apart = refl

pub not-true : (b : Bool) → not b ≡ true → b ≡ false
not-true true e = cc
not-true false e = refl

---- tokens that are lent

any_map : {X Y : Type 0} (p : X → Bool) (h : Y → X) (ys : List Y) → list_any p (map h ys) ≡ list_any (λ y. p (h y)) ys
any_map p h [] = refl
any_map p h (y ∷ ys) = ap (λ b. p (h y) || b) (any_map p h ys)

-- whether a name among them was taken away
pub asked-by : (poisoned : List ℕ → Bool) (ts : List Token) (b : Bool) → b ≡ list_any (λ (t : Token). is_poisoned poisoned (seen t)) ts
    → asked poisoned (map seen ts) ≡ cond b (Err Poisoned) (Ok (map seen ts))
asked-by poisoned ts b is = ap (λ a. cond a (Err Poisoned) (Ok (map seen ts))) (any_map (is_poisoned poisoned) seen ts ∙ sym is)

-- whether all of them may be
pub poisoned-by : (language : Language) (ts : List Token) (s : State) (b : Bool) → language ≡ s.table.language → b ≡ list_all (λ (t : Token). is_poisonable language (seen t)) ts
    → poisoned_by (map seen ts) s ≡ cond b (Ok (poison_all (map seen ts) s)) (Err BadPragma)
poisoned-by language ts s b spoken is =
    ap (λ (l : Language). cond (list_all (is_poisonable l) (map seen ts)) (Ok (poison_all (map seen ts) s)) (Err BadPragma)) (sym spoken)
    ∙ ap (λ a. cond a (Ok (poison_all (map seen ts) s)) (Err BadPragma)) (list_all-map (is_poisonable language) seen ts ∙ sym is)
