-- A substitution, place by place.
use Rattle.std.proofs.Common.{◌≡◌, ℕ, zero, suc, ◌+◌, ◌<◌, ◌≤◌, Bool, true, List, [], ◌∷◌, ◌++◌, map, length, drop, get_or, slice_get, None, Some, Bor, Result, Ok, Err, refl, sym, ap, ◌∙◌, arith, append_assoc}
use Rattle.std.proofs.lemmas.List.{map-append, drop_all, append-nil}
use Rattle.inc_macro.specs.Results.{◌>>=◌}
use Rattle.inc_expand.specs.declared.carried.Carried.{Carried}
use Rattle.inc_expand.specs.declared.faults.ExpandFault.{ExpandFault}
use Rattle.inc_expand.specs.declared.body_elements.Word.{Word as WordStruct}
use Rattle.inc_expand.specs.declared.body_elements.Element.{Element as ElementEnum}
use Rattle.inc_expand.specs.declared.body_elements.Element.TheVariants.{Word as AWord, StringOf as AStringOf, AsWritten as AnAsWritten, Expanded as AnExpanded, Comma as AComma, Kept as AKept}
use Rattle.inc_expand.specs.declared.body_elements.Place.{Place as PlaceEnum}
use Rattle.inc_expand.specs.declared.body_elements.Place.TheVariants.{Made as AMade}
use Rattle.inc_expand.specs.ElementValues.{word_value, element_value, place_value}
use Rattle.inc_expand.specs.Sets.{Sets}
use Rattle.inc_expand.specs.Elements.{Element, Word, Glue, Silent, StringOf, AsWritten, Expanded, Comma, Optional, Kept, Empty, Made}
use Rattle.inc_expand.specs.Expansion.{Carrier, Argument, Part, Paste, Piece, as_part, of_body, operand, spaced, string_of, argument_at, comma_part, all_parts, made_string, unexpanded}
use Rattle.inc_expand.specs.Carriers.{carrier, carriers, AreKnown}
use Rattle.inc_expand.specs.Arguments.{ArgumentValue, argument_value, argument_values, AreKnownIn}
use Rattle.inc_expand.specs.Joins.{put_before}
use Rattle.inc_expand.specs.Substitutions.{made_strings, parts_with}
use Rattle.inc_expand.proofs.CallSteps.{drop-at}
use Rattle.inc_expand.proofs.ElementSteps.{place-at}

---- the argument of a parameter

pub argument-none : (s : Sets) (as' : List ArgumentValue) (n : ℕ) → length as' ≤ n → argument_at (argument_values s as') n ≡ unexpanded []
argument-none s [] n l = refl
argument-none s (a ∷ as') zero l = absurd (omega arith)
argument-none s (a ∷ as') (suc n) l = argument-none s as' n (omega (arith, l))

pub argument-some : (s : Sets) (as' : List ArgumentValue) (n : ℕ) (d : ArgumentValue) → n < length as' → argument_at (argument_values s as') n ≡ argument_value s (get_or as' n d)
argument-some s [] n d l = absurd (omega arith)
argument-some s (a ∷ as') zero d l = refl
argument-some s (a ∷ as') (suc n) d l = argument-some s as' n d (omega (arith, l))

pub argument-known : (m : ℕ) (as' : List ArgumentValue) (n : ℕ) (d : ArgumentValue) → n < length as' → AreKnownIn m as' →
    AreKnown m (get_or as' n d).written × AreKnown m (get_or as' n d).expanded
argument-known m [] n d l h = absurd (omega arith)
argument-known m (a ∷ as') zero d l h = (h.0, h.1.0)
argument-known m (a ∷ as') (suc n) d l h = argument-known m as' n d (omega (arith, l)) h.1.1

---- strings

pub string-made : (s : Sets) (args : List Argument) (old new : List Carried) (t : Carried) (space : Bool) (n : ℕ) (es : List Element) → new ≡ old ++ t ∷ [] →
    string_of space (argument_at args n).written ≡ Ok (carrier s t) →
    put_before (carriers s new) (made_strings args es) ≡ put_before (carriers s old) (made_strings args (StringOf space n ∷ es))
string-made s args old new t space n es e f =
    ap (λ ts. put_before ts (made_strings args es)) (ap (carriers s) e ∙ map-append (carrier s) old (t ∷ [])) ∙ by (made_strings args es)
    ∙ ap (λ r. put_before (carriers s old) (r >>= (λ x. made_strings args es >>= (λ ts. Ok (x ∷ ts))))) (sym f)
  where
    by : (r : Result (List Carrier) ExpandFault) → put_before (carriers s old ++ carrier s t ∷ []) r ≡ put_before (carriers s old) (r >>= (λ ts. Ok (carrier s t ∷ ts)))
    by (Ok ts) = ap Ok (append_assoc (carriers s old) (carrier s t ∷ []) ts)
    by (Err fault) = refl

pub string-fault : (front : List Carrier) (args : List Argument) (space : Bool) (n : ℕ) (es : List Element) (fault : ExpandFault) →
    string_of space (argument_at args n).written ≡ Err fault → put_before front (made_strings args (StringOf space n ∷ es)) ≡ Err fault
string-fault front args space n es fault f = ap (λ r. put_before front (r >>= (λ x. made_strings args es >>= (λ ts. Ok (x ∷ ts))))) f

-- the strings of a whole body are those made so far and those of the places that are left
abbrev pub AreMade : List ArgumentValue → List Element → ℕ → List Carried → Type 0
AreMade as' es i made = (s : Sets) → put_before (carriers s made) (made_strings (argument_values s as') (drop i es)) ≡ made_strings (argument_values s as') es

pub made-none : (as' : List ArgumentValue) (es : List Element) → AreMade as' es 0 []
made-none as' es s = by (made_strings (argument_values s as') es)
  where
    by : (r : Result (List Carrier) ExpandFault) → put_before [] r ≡ r
    by (Ok ts) = refl
    by (Err fault) = refl

pub made-more : (as' : List ArgumentValue) (es : List Element) (i : ℕ) (e : Element) (old new : List Carried) → slice_get es i ≡ Some e → AreMade as' es i old →
    ((s : Sets) (rest : List Element) → put_before (carriers s new) (made_strings (argument_values s as') rest) ≡ put_before (carriers s old) (made_strings (argument_values s as') (e ∷ rest))) →
    AreMade as' es (i + 1) new
made-more as' es i e old new g h f s =
    f s (drop (i + 1) es) ∙ ap (λ rest. put_before (carriers s old) (made_strings (argument_values s as') rest)) (sym (place-at es i e g)) ∙ h s

pub made-fault : (as' : List ArgumentValue) (es : List Element) (i : ℕ) (e : Element) (old : List Carried) (fault : ExpandFault) (s : Sets) → slice_get es i ≡ Some e → AreMade as' es i old →
    ((rest : List Element) → put_before (carriers s old) (made_strings (argument_values s as') (e ∷ rest)) ≡ Err fault) →
    made_strings (argument_values s as') es ≡ Err fault
made-fault as' es i e old fault s g h f =
    sym (h s) ∙ ap (λ rest. put_before (carriers s old) (made_strings (argument_values s as') rest)) (place-at es i e g) ∙ f (drop (i + 1) es)

pub made-all : (as' : List ArgumentValue) (es : List Element) (i : ℕ) (made : List Carried) → length es ≤ i → AreMade as' es i made →
    (s : Sets) → made_strings (argument_values s as') es ≡ Ok (carriers s made)
made-all as' es i made l h s =
    sym (h s) ∙ ap (λ rest. put_before (carriers s made) (made_strings (argument_values s as') rest)) (drop_all i es l) ∙ ap Ok (append-nil (carriers s made))

---- strings first, then the parts with them

strings-first-step : (args : List Argument) (t : Carrier) (space : Bool) (n : ℕ) (es : List Element) (r : Result (List Carrier) ExpandFault) (more : Result (List Part) ExpandFault) →
    more ≡ (r >>= (λ ts. Ok (parts_with args ts es))) →
    (more >>= (λ rest. Ok (as_part t ∷ rest))) ≡ ((r >>= (λ ts. Ok (t ∷ ts))) >>= (λ ts. Ok (parts_with args ts (StringOf space n ∷ es))))
strings-first-step args t space n es (Ok ts) more e = ap (λ m. m >>= (λ rest. Ok (as_part t ∷ rest))) e
strings-first-step args t space n es (Err fault) more e = ap (λ m. m >>= (λ rest. Ok (as_part t ∷ rest))) e

plain-first : (ps : List Part) (r : Result (List Carrier) ExpandFault) (f : List Carrier → List Part) (more : Result (List Part) ExpandFault) →
    more ≡ (r >>= (λ ts. Ok (f ts))) → (more >>= (λ rest. Ok (ps ++ rest))) ≡ (r >>= (λ ts. Ok (ps ++ f ts)))
plain-first ps (Ok ts) f more e = ap (λ m. m >>= (λ rest. Ok (ps ++ rest))) e
plain-first ps (Err fault) f more e = ap (λ m. m >>= (λ rest. Ok (ps ++ rest))) e

pub strings-first : (args : List Argument) (es : List Element) →
    all_parts args es ≡ (made_strings args es >>= (λ ts. Ok (parts_with args ts es)))
strings-first args [] = refl
strings-first args (Word b ∷ es) = plain-first (as_part (of_body b) ∷ []) (made_strings args es) (λ ts. parts_with args ts es) (all_parts args es) (strings-first args es)
strings-first args (Glue ∷ es) = plain-first (Paste ∷ []) (made_strings args es) (λ ts. parts_with args ts es) (all_parts args es) (strings-first args es)
strings-first args (Silent ∷ es) = plain-first [] (made_strings args es) (λ ts. parts_with args ts es) (all_parts args es) (strings-first args es)
strings-first args (StringOf space n ∷ es) =
    by (string_of space (argument_at args n).written) (strings-first args es)
  where
    by : (s : Result Carrier ExpandFault) → all_parts args es ≡ (made_strings args es >>= (λ ts. Ok (parts_with args ts es))) →
        ((s >>= (λ t. Ok (as_part t ∷ []))) >>= (λ ps. all_parts args es >>= (λ rest. Ok (ps ++ rest))))
        ≡ ((s >>= (λ t. made_strings args es >>= (λ ts. Ok (t ∷ ts)))) >>= (λ ts. Ok (parts_with args ts (StringOf space n ∷ es))))
    by (Ok t) e = strings-first-step args t space n es (made_strings args es) (all_parts args es) e
    by (Err fault) e = refl
strings-first args (AsWritten space n ∷ es) =
    plain-first (operand (spaced space (argument_at args n).written)) (made_strings args es) (λ ts. parts_with args ts es) (all_parts args es) (strings-first args es)
strings-first args (Expanded space n ∷ es) =
    plain-first (map as_part (spaced space (argument_at args n).expanded)) (made_strings args es) (λ ts. parts_with args ts es) (all_parts args es) (strings-first args es)
strings-first args (Comma b n ∷ es) =
    plain-first (comma_part (argument_at args n).given b ∷ []) (made_strings args es) (λ ts. parts_with args ts es) (all_parts args es) (strings-first args es)
strings-first args (Optional hash n ∷ es) = plain-first [] (made_strings args es) (λ ts. parts_with args ts es) (all_parts args es) (strings-first args es)
strings-first args (Kept space n ∷ es) =
    plain-first (operand (spaced space (argument_at args n).expanded)) (made_strings args es) (λ ts. parts_with args ts es) (all_parts args es) (strings-first args es)
strings-first args (Empty ∷ es) = plain-first (Piece None ∷ []) (made_strings args es) (λ ts. parts_with args ts es) (all_parts args es) (strings-first args es)
strings-first args (Made space text ∷ es) =
    plain-first (as_part (made_string space text) ∷ []) (made_strings args es) (λ ts. parts_with args ts es) (all_parts args es) (strings-first args es)

---- one place, where `all` gives all tokens from the parts that are left

module _ (all after : List Part → Result (List Carrier) ExpandFault) (args : List Argument) (es : List Element) where
  pub word-passed : (ts : List Carrier) (e : ElementEnum) (w : WordStruct) (t : Carrier) → e ≡ AWord w → t ≡ of_body (word_value w) →
      ((ps : List Part) → after ps ≡ all (as_part t ∷ ps)) → after (parts_with args ts es) ≡ all (parts_with args ts (element_value e ∷ es))
  word-passed ts e w t is same h =
      h (parts_with args ts es) ∙ ap (λ c. all (as_part c ∷ parts_with args ts es)) same ∙ ap (λ x. all (parts_with args ts (element_value x ∷ es))) (sym is)

  pub string-passed : (s : Sets) (strings : List Carried) (at : ℕ) (d : Carried) (e : ElementEnum) (space : Bool) (n : ℕ) → e ≡ AStringOf space n → at < length strings →
      ((ps : List Part) → after ps ≡ all (as_part (carrier s (get_or strings at d)) ∷ ps)) →
      after (parts_with args (carriers s (drop (at + 1) strings)) es) ≡ all (parts_with args (carriers s (drop at strings)) (element_value e ∷ es))
  string-passed s strings at d e space n is l h =
      h (parts_with args (carriers s (drop (at + 1) strings)) es)
      ∙ ap (λ ts. all (parts_with args (carriers s ts) (StringOf space n ∷ es))) (sym (drop-at strings at d l))
      ∙ ap (λ x. all (parts_with args (carriers s (drop at strings)) (element_value x ∷ es))) (sym is)

  pub written-passed : (ts : List Carrier) (e : ElementEnum) (space : Bool) (n : ℕ) (tokens : List Carrier) → e ≡ AnAsWritten space n → tokens ≡ (argument_at args n).written →
      ((ps : List Part) → after ps ≡ all (operand (spaced space tokens) ++ ps)) → after (parts_with args ts es) ≡ all (parts_with args ts (element_value e ∷ es))
  written-passed ts e space n tokens is same h =
      h (parts_with args ts es) ∙ ap (λ x. all (operand (spaced space x) ++ parts_with args ts es)) same ∙ ap (λ x. all (parts_with args ts (element_value x ∷ es))) (sym is)

  pub expanded-passed : (ts : List Carrier) (e : ElementEnum) (space : Bool) (n : ℕ) (tokens : List Carrier) → e ≡ AnExpanded space n → tokens ≡ (argument_at args n).expanded →
      ((ps : List Part) → after ps ≡ all (map as_part (spaced space tokens) ++ ps)) → after (parts_with args ts es) ≡ all (parts_with args ts (element_value e ∷ es))
  expanded-passed ts e space n tokens is same h =
      h (parts_with args ts es) ∙ ap (λ x. all (map as_part (spaced space x) ++ parts_with args ts es)) same ∙ ap (λ x. all (parts_with args ts (element_value x ∷ es))) (sym is)

  pub kept-passed : (ts : List Carrier) (e : ElementEnum) (space : Bool) (n : ℕ) (tokens : List Carrier) → e ≡ AKept space n → tokens ≡ (argument_at args n).expanded →
      ((ps : List Part) → after ps ≡ all (operand (spaced space tokens) ++ ps)) → after (parts_with args ts es) ≡ all (parts_with args ts (element_value e ∷ es))
  kept-passed ts e space n tokens is same h =
      h (parts_with args ts es) ∙ ap (λ x. all (operand (spaced space x) ++ parts_with args ts es)) same ∙ ap (λ x. all (parts_with args ts (element_value x ∷ es))) (sym is)

  pub made-passed : (ts : List Carrier) (e : PlaceEnum) (space : Bool) (bytes : Bor (List ℕ)) (t : Carrier) → e ≡ AMade space bytes → t ≡ made_string space bytes.now →
      ((ps : List Part) → after ps ≡ all (as_part t ∷ ps)) → after (parts_with args ts es) ≡ all (parts_with args ts (place_value e ∷ es))
  made-passed ts e space bytes t is same h =
      h (parts_with args ts es) ∙ ap (λ c. all (as_part c ∷ parts_with args ts es)) same ∙ ap (λ x. all (parts_with args ts (place_value x ∷ es))) (sym is)

  pub comma-passed : (ts : List Carrier) (e : ElementEnum) (w : WordStruct) (n : ℕ) (given : Bool) → e ≡ AComma w n → given ≡ (argument_at args n).given →
      ((ps : List Part) → after ps ≡ all (comma_part given (word_value w) ∷ ps)) → after (parts_with args ts es) ≡ all (parts_with args ts (element_value e ∷ es))
  comma-passed ts e w n given is same h =
      h (parts_with args ts es) ∙ ap (λ x. all (comma_part x (word_value w) ∷ parts_with args ts es)) same ∙ ap (λ x. all (parts_with args ts (element_value x ∷ es))) (sym is)

-- a comma before variable arguments that are given
pub comma-given : (all : List Part → Result (List Carrier) ExpandFault) (given : Bool) (w : WordStruct) (t : Carrier) (ps : List Part) → given ≡ true → t ≡ of_body (word_value w) →
    all (comma_part given (word_value w) ∷ ps) ≡ all (as_part t ∷ ps)
comma-given all given w t ps is same = ap (λ g. all (comma_part g (word_value w) ∷ ps)) is ∙ ap (λ c. all (as_part c ∷ ps)) (sym same)

-- an argument, where none is there
pub no_argument : ArgumentValue
no_argument = record { written = []; expanded = []; given = true }
