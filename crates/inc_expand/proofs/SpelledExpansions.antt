-- Expansion keeps the bytes of tokens in their classes.
use Rattle.std.proofs.Common.{◌≡◌, ℕ, zero, suc, ◌+◌, ◌&&◌, ◌||◌, not, Bool, true, false, cond, List, [], ◌∷◌, ◌++◌, Option, Some, None, Result, Ok, Err, IfOk, length, map, take, drop, refl, sym, subst, nat_lt}
use Rattle.std.specs.Prelude.{if◌then◌else◌, bytes_eq, find, IfSome}
use Rattle.std.specs.List.{list_all}
use Rattle.std.proofs.lemmas.Bool.{cond_both}
use Rattle.inc_macro.specs.Results.{◌>>=◌}
use Rattle.inc_macro.specs.Macros.{Definition, Params, definition_of, is_among, is_identifier_kind, predefined_names}
use Rattle.inc_token.specs.declared.kinds.Kind.{Kind}
use Rattle.inc_token.specs.Spellings.{is_spelling}
use Rattle.inc_token.specs.TokenLines.{Tok}
use Rattle.inc_token.specs.TokenLaws.{is_spelled}
use Rattle.inc_expand.specs.declared.faults.ExpandFault.{ExpandFault}
use Rattle.inc_expand.specs.declared.faults.ExpandFault.TheVariants.{OverBudget}
use Rattle.inc_expand.specs.declared.rules.Rule.{Rule}
use Rattle.inc_expand.specs.Elements.{Element, elements_of}
use Rattle.inc_expand.specs.Expansion.{Expander, Carrier, Item, Surroundings, Case, Passes, IsPredefined, IsObject, IsCall, Call, Argument, Content, Meter, union, only, intersection, replaced, treated, called, level, levels, all_levels, case_of, call_behind, taken_count, function_case, macro_case, name_case, is_asking, is_open, predefined, predefined_token, predefined_tokens, presumed_line, bound, expanded_arguments, expanded_argument, substituted, replacing, is_expanded_in, of_source, item_of, expansion, counted, spent, text_of, rule_in, rule_of, taken}
use Rattle.inc_expand.specs.SpelledItems.{is_spelled_item, HasSpelledBodies, HasLiterals}
use Rattle.inc_expand.proofs.SpelledNumbers.{decimal-number}
use Rattle.inc_expand.proofs.SpelledParts.{IsSpelled, AreSpelled, spelled-append, spelled-take, spelled-drop, then_spelled, IsSpelledCall, spelled-call, IsArgument, AreArguments, spelled-bound, AreElements, spelled-elements, spelled-substituted, spelled-replacing, spelled-taken, IsSpoken, spoken_own}
use Rattle.inc_text.specs.declared.languages.Language.{Language}

---- the case at the front

unfoldable pub IsSpelledCase : (language : Language) → Case → Type 0
IsSpelledCase language (Passes front rest) = AreSpelled language front × AreSpelled language rest
IsSpelledCase language (IsPredefined kind content) = (meter : Meter) → is_spelling language kind (text_of meter content) ≡ true
IsSpelledCase language (IsObject d) = AreElements language (elements_of d)
IsSpelledCase language (IsCall d p behind) = AreElements language (elements_of d) × AreSpelled language behind

-- an entry of the predefined names
abbrev IsEntry : Language → List ℕ × Kind × Content → Type 0
IsEntry language p = (meter : Meter) → is_spelling language p.1 (text_of meter p.2) ≡ true

abbrev AreEntries : Language → List (List ℕ × Kind × Content) → Type 0
AreEntries language [] = Unit {0}
AreEntries language (p ∷ ps) = IsEntry language p × AreEntries language ps

entry-found : (language : Language) (test : List ℕ × Kind × Content → Bool) (ps : List (List ℕ × Kind × Content)) → AreEntries language ps → IfSome (find test ps) (IsEntry language)
entry-found language test [] h = tt
entry-found language test (p ∷ ps) h = go (test p) (find test ps) (entry-found language test ps h.1)
  where
    go : (b : Bool) (more : Option (List ℕ × Kind × Content)) → IfSome more (IsEntry language) → IfSome (cond b (Some p) more) (IsEntry language)
    go true more k = h.0
    go false more k = k

predefined-entry : (language : Language) (s : Surroundings) (line : ℕ) (name : List ℕ) → HasLiterals s.place → IfSome (predefined s line name) (IsEntry language)
predefined-entry language s line name h =
    cond_both (is_among name (predefined_names s.table.language)) (predefined_token s.table.language s.place line name) None (λ o. IfSome o (IsEntry language))
    (λ _. entry-found language (λ p. bytes_eq name p.0) (predefined_tokens s.table.language s.place line) (
      (λ meter. decimal-number language (presumed_line s.table.language s.place line)),
      (
        (λ meter. h.name),
        (
          (λ meter. h.date),
          (
            (λ meter. h.time),
            (
              (λ meter. refl),
              (
                (λ meter. refl),
                (
                  (λ meter. refl),
                  (
                    (λ meter. h.base),
                    (
                      (λ meter. decimal-number language s.place.level),
                      ((λ meter. h.timestamp), ((λ meter. decimal-number language meter.counter), tt)),
                    ),
                  ),
                ),
              ),
            ),
          ),
        ),
      ),
    ))
    (λ _. tt)

function-spelled : (language : Language) (d : Definition) (p : Params) (t : Carrier) (ts : List Carrier) → AreElements language (elements_of d) → IsSpelled language t → AreSpelled language ts
    → IsSpelledCase language (function_case d p t ts)
unfolding IsSpelledCase
function-spelled language d p t [] e h k = ((h, tt), tt)
function-spelled language d p t (u ∷ us) e h k = go (is_open u)
  where
    go : (b : Bool) → IsSpelledCase language (if b then IsCall d p us else Passes (t ∷ []) (u ∷ us))
    go true = (e, k.1)
    go false = ((h, tt), k)

-- what is known of the definition of a name
IsDefined : (language : Language) → Option Definition → Type 0
IsDefined language None = Unit {0}
IsDefined language (Some d) = AreElements language (elements_of d)

macro-spelled : (language : Language) (t : Carrier) (ts : List Carrier) (d : Option Definition) → IsDefined language d → IsSpelled language t → AreSpelled language ts → IsSpelledCase language (macro_case t ts d)
unfolding IsSpelledCase IsDefined
macro-spelled language t ts None e h k = ((h, tt), k)
macro-spelled language t ts (Some d) e h k = go d.params
  where
    go : (p : Option Params) → IsSpelledCase language (elim p as (λ _. Case) [ None ↦ IsObject d | Some q ↦ function_case d q t ts ])
    go None = e
    go (Some q) = function-spelled language d q t ts e h k

defined : (language : Language) (s : Surroundings) (name : List ℕ) → HasSpelledBodies language s.table → IsDefined language (definition_of name s.table)
unfolding IsDefined
defined language s name h = go (definition_of name s.table) refl
  where
    go : (d : Option Definition) → definition_of name s.table ≡ d → IsDefined language d
    go None e = tt
    go (Some d) e = spelled-elements language d (h name d e)

name-spelled : (language : Language) (s : Surroundings) (t : Carrier) (ts : List Carrier) (p : Option (List ℕ × Kind × Content)) → HasSpelledBodies language s.table → IfSome p (IsEntry language)
    → IsSpelled language t → AreSpelled language ts → IsSpelledCase language (name_case s t ts p)
unfolding IsSpelledCase
name-spelled language s t ts (Some p) b e h k = e
name-spelled language s t ts None b e h k = macro-spelled language t ts (definition_of t.spelling s.table) (defined language s t.spelling b) h k

pub case-spelled : (language : Language) (s : Surroundings) (t : Carrier) (ts : List Carrier) → HasSpelledBodies language s.table → HasLiterals s.place → IsSpelled language t → AreSpelled language ts
    → IsSpelledCase language (case_of s t ts)
unfolding IsSpelledCase
case-spelled language s t ts b l h k = go (is_asking s.mode s.table.language t) (not (is_identifier_kind t.kind) || t.hidden t.spelling)
  where
    go : (x y : Bool) → IsSpelledCase language (if x then Passes (t ∷ take (taken_count t.spelling ts) ts) (drop (taken_count t.spelling ts) ts) else
        if y then Passes (t ∷ []) ts else name_case s t ts (predefined s t.line t.spelling))
    go true y = ((h, spelled-take language (taken_count t.spelling ts) ts k), spelled-drop language (taken_count t.spelling ts) ts k)
    go false true = ((h, tt), k)
    go false false = name-spelled language s t ts (predefined s t.line t.spelling) b (predefined-entry language s t.line t.spelling l) h k

---- lists

-- what an expander gives for tokens in their classes
unfoldable pub Keeps : Language → Expander → Type 0
Keeps language d = (meter : Meter) (ts : List Carrier) → AreSpelled language ts → IfOk (d meter ts) (λ r. AreSpelled language r.0)

argument-keeps : (language : Language) (d : Expander) (es : List Element) (meter : Meter) (n : ℕ) (a : Argument) → Keeps language d → IsArgument language a → IfOk (expanded_argument d es meter n a) (λ r. IsArgument language r.0)
unfolding Keeps
argument-keeps language d es meter n a h k = go (is_expanded_in es n)
  where
    ok : (r : Result (List Carrier × Meter) ExpandFault) → IfOk r (λ x. AreSpelled language x.0) →
        IfOk {T = Argument × Meter} (r >>= (λ e. Ok (record a { expanded = e.0 }, e.1))) (λ x. IsArgument language x.0)
    ok (Ok x) l = (k.0, l)
    ok (Err e) l = tt

    go : (b : Bool) → IfOk (elim b as (λ _. Result (Argument × Meter) ExpandFault) [ true ↦ d meter a.written >>= (λ e. Ok (record a { expanded = e.0 }, e.1)) | false ↦ Ok (a, meter) ]) (λ x. IsArgument language x.0)
    go true = ok (d meter a.written) (h meter a.written k.0)
    go false = k

pub arguments-keep : (language : Language) (d : Expander) (es : List Element) (meter : Meter) (n : ℕ) (as' : List Argument) → Keeps language d → AreArguments language as'
    → IfOk (expanded_arguments d es meter n as') (λ r. AreArguments language r.0)
arguments-keep language d es meter n [] h k = tt
arguments-keep language d es meter n (a ∷ as') h k =
    first (expanded_argument d es meter n a) (argument-keeps language d es meter n a h k.0) (λ u. arguments-keep language d es u (suc n) as' h k.1)
  where
    rest : (x : Argument × Meter) → IsArgument language x.0 → (r : Result (List Argument × Meter) ExpandFault) → IfOk r (λ y. AreArguments language y.0) →
        IfOk {T = List Argument × Meter} (r >>= (λ y. Ok (x.0 ∷ y.0, y.1))) (λ y. AreArguments language y.0)
    rest x l (Ok y) m = (l, m)
    rest x l (Err e) m = tt

    first : (r : Result (Argument × Meter) ExpandFault) → IfOk r (λ x. IsArgument language x.0) → ((u : Meter) → IfOk (expanded_arguments d es u (suc n) as') (λ y. AreArguments language y.0)) →
        IfOk {T = List Argument × Meter} (r >>= (λ e. expanded_arguments d es e.1 (suc n) as' >>= (λ y. Ok (e.0 ∷ y.0, y.1)))) (λ y. AreArguments language y.0)
    first (Ok x) l m = rest x l (expanded_arguments d es x.1 (suc n) as') (m x.1)
    first (Err e) l m = tt

replaced-keeps : (language : Language) (again : Expander) → Keeps language again → (meter : Meter) (new rest : List Carrier) → AreSpelled language new → AreSpelled language rest
    → IfOk (replaced again meter new rest) (λ r. AreSpelled language r.0)
unfolding Keeps
replaced-keeps language again h meter new rest k l = go (nat_lt meter.units (1 + length new))
  where
    go : (t : Bool) → IfOk (elim t as (λ _. Result (List Carrier × Meter) ExpandFault) [ true ↦ Err OverBudget | false ↦ again (spent (1 + length new) meter) (new ++ rest) ]) (λ r. AreSpelled language r.0)
    go true = tt
    go false = h (spent (1 + length new) meter) (new ++ rest) (spelled-append language new rest k l)

called-keeps : (rule : Rule) (language : Language) → IsSpoken rule language → (d again : Expander) → Keeps language d → Keeps language again → (t : Carrier) (meter : Meter) (m : Definition) (p : Params) (c : Option Call)
    → AreElements language (elements_of m) → IsSpelledCall language c → IfOk (called rule d again t meter m p c) (λ r. AreSpelled language r.0)
called-keeps rule language o d again h k t meter m p None e l = tt
called-keeps rule language o d again h k t meter m p (Some c) e l =
    then_spelled (bound p (taken rule c.close.hidden c.inside)) (AreArguments language) (λ r. AreSpelled language r.0) _ (spelled-bound language p (taken rule c.close.hidden c.inside) (spelled-taken rule language c.close.hidden c.inside l.0)) (λ args are.
    then_spelled (expanded_arguments d (elements_of m) meter 0 args) (λ x. AreArguments language x.0) (λ r. AreSpelled language r.0) _ (arguments-keep language d (elements_of m) meter 0 args h are) (λ x have.
    then_spelled (substituted rule x.0 (elements_of m)) (AreSpelled language) (λ r. AreSpelled language r.0) _ (spelled-substituted rule language o x.0 (elements_of m) have e) (λ new is.
    let names = union (only m.name) (intersection t.hidden c.close.hidden) in
    replaced-keeps language again k x.1 (replacing rule t names new) c.rest (spelled-replacing rule language t names new is) l.1)))

treated-keeps : (rule : Rule) (language : Language) → IsSpoken rule language → (d again : Expander) → Keeps language d → Keeps language again → (t : Carrier) (meter : Meter) (ts : List Carrier) (c : Case)
    → AreSpelled language ts → IsSpelledCase language c → IfOk (treated rule d again t meter ts c) (λ r. AreSpelled language r.0)
unfolding Keeps IsSpelledCase
treated-keeps rule language o d again h k t meter ts (Passes front rest) l e =
    then_spelled (again meter rest) (λ r. AreSpelled language r.0) (λ r. AreSpelled language r.0) _ (k meter rest e.1) (λ r is. spelled-append language front r.0 e.0 is)
treated-keeps rule language o d again h k t meter ts (IsPredefined kind content) l e =
    replaced-keeps language again k (counted content meter) (record t { kind = kind; spelling = text_of meter content; hidden = union (only t.spelling) t.hidden } ∷ []) ts (e meter, tt) l
treated-keeps rule language o d again h k t meter ts (IsObject m) l e =
    then_spelled (substituted rule [] (elements_of m)) (AreSpelled language) (λ r. AreSpelled language r.0) _ (spelled-substituted rule language o [] (elements_of m) tt e)
    (λ new is. replaced-keeps language again k meter (replacing rule t (union (only m.name) t.hidden) new) ts (spelled-replacing rule language t (union (only m.name) t.hidden) new is) l)
treated-keeps rule language o d again h k t meter ts (IsCall m p behind) l e =
    called-keeps rule language o d again h k t meter m p (call_behind 0 behind) e.0 (spelled-call language 0 behind e.1)

level-keeps : (language : Language) (s : Surroundings) → IsSpoken (rule_in s) language → (d : Expander) → HasSpelledBodies language s.table → HasLiterals s.place → Keeps language d → (steps : ℕ) → Keeps language (level s d steps)
unfolding Keeps
level-keeps language s o d b l h zero meter ts k = tt
level-keeps language s o d b l h (suc steps) meter [] k = tt
level-keeps language s o d b l h (suc steps) meter (t ∷ ts) k =
    treated-keeps (rule_in s) language o d (level s d steps) h (level-keeps language s o d b l h steps) t meter ts (case_of s t ts) k.1 (case-spelled language s t ts b l k.0 k.1)

pub levels-keep : (language : Language) (s : Surroundings) → IsSpoken (rule_in s) language → HasSpelledBodies language s.table → HasLiterals s.place → (n : ℕ) → Keeps language (levels s n)
unfolding Keeps
levels-keep language s o b l zero meter ts k = tt
levels-keep language s o b l (suc n) meter ts k = level-keeps language s o (levels s n) b l (levels-keep language s o b l n) (length ts + meter.units + 1) meter ts k

---- the list that is handed in, and the items

both : (a b : Bool) → (a && b) ≡ true → (a ≡ true) × (b ≡ true)
both true b h = (refl, h)
both false b h = cc

all-more : (a b : Bool) → a ≡ true → b ≡ true → (a && b) ≡ true
all-more true b h k = k
all-more false b h k = cc

pub source-spelled : (language : Language) (ts : List Tok) → list_all (is_spelled language) ts ≡ true → AreSpelled language (map of_source ts)
source-spelled language [] h = tt
source-spelled language (t ∷ ts) h = let parts = both (is_spelled language t) (list_all (is_spelled language) ts) h in (parts.0, source-spelled language ts parts.1)

items-spelled : (language : Language) (ts : List Carrier) → AreSpelled language ts → list_all (is_spelled_item language) (map item_of ts) ≡ true
items-spelled language [] h = refl
items-spelled language (t ∷ ts) h = all-more (is_spelled_item language (item_of t)) (list_all (is_spelled_item language) (map item_of ts)) h.0 (items-spelled language ts h.1)

pub expansion-spelled : (language : Language) (s : Surroundings) (meter : Meter) (tokens : List Tok) → s.table.language ≡ language → HasSpelledBodies language s.table → HasLiterals s.place → list_all (is_spelled language) tokens ≡ true
    → IfOk (expansion s meter tokens) (λ r. list_all (is_spelled_item language) r.0 ≡ true)
unfolding Keeps
expansion-spelled language s meter tokens spoken_is b l h =
    by (levels s all_levels meter (map of_source tokens))
    (levels-keep language s (subst (λ (m : Language). IsSpoken (rule_of m) language) (sym spoken_is) (spoken_own language)) b l all_levels meter (map of_source tokens) (source-spelled language tokens h))
  where
    by : (r : Result (List Carrier × Meter) ExpandFault) → IfOk r (λ x. AreSpelled language x.0) →
        IfOk {T = List Item × Meter} (r >>= (λ x. Ok (map item_of x.0, x.1))) (λ x. list_all (is_spelled_item language) x.0 ≡ true)
    by (Ok x) k = items-spelled language x.0 k
    by (Err e) k = tt
