-- Expansion by what tokens hide, and expansion by the ends of replacements in the list: in GNU C both give one result.
use Rattle.std.proofs.Common.{◌≡◌, ℕ, zero, suc, ◌+◌, ◌-◌, ◌==◌, ◌&&◌, ◌||◌, not, Bool, true, false, List, [], ◌∷◌, ◌++◌, Option, Some, None, Result, Ok, Err, IfOk, take, drop, length, map, refl, sym, ap, ap₂, subst, ◌∙◌, nat_lt, true≢false, arith}
use Rattle.std.specs.Prelude.{if◌then◌else◌, option_map, bytes_eq, codes, ⊤}
use Rattle.std.proofs.Math.Path.{fun_ext}
use Rattle.std.proofs.lemmas.Slice.Eq.{bytes_eq-Decides}
use Rattle.std.proofs.lemmas.List.{length-map, map-append}
use Rattle.inc_token.specs.declared.kinds.Kind.{Kind}
use Rattle.inc_token.specs.declared.kinds.Kind.TheVariants.{HeaderName, Identifier, Number, Char, Str, Punct, Other}
use Rattle.inc_token.specs.Spellings.{is_spelling}
use Rattle.inc_token.specs.TokenLines.{Tok}
use Rattle.inc_token.specs.TokenLaws.{is_spelled}
use Rattle.inc_macro.specs.Results.{◌>>=◌}
use Rattle.inc_macro.specs.Macros.{Definition, Params, definition_of, is_identifier_kind}
use Rattle.inc_text.specs.declared.languages.Language.{Language}
use Rattle.inc_text.specs.declared.languages.Language.TheVariants.{Gnu}
use Rattle.inc_expand.specs.declared.faults.ExpandFault.{ExpandFault}
use Rattle.inc_expand.specs.declared.faults.ExpandFault.TheVariants.{OverBudget}
use Rattle.inc_expand.specs.declared.places.Mode.{Mode}
use Rattle.inc_expand.specs.declared.places.Mode.TheVariants.{Plain, Condition}
use Rattle.inc_expand.specs.declared.rules.Rule.{Rule}
use Rattle.inc_expand.specs.declared.rules.Rule.TheVariants.{ByContexts}
use Rattle.inc_expand.specs.Elements.{Element, elements_of}
use Rattle.inc_expand.specs.Expansion.{Argument, Call, Carrier, Case, Content, Expander, IsCall, IsObject, IsPredefined, Item, Meter, Names, Passes, Surroundings, all_levels, asked_count, bound, call_behind, called, case_of, counted, depth_after, expanded_argument, expanded_arguments, expansion, function_case, header_count, hidden_at, intersection, is_asking, is_close, is_expanded_in, is_open, is_painted, item_of, level, levels, macro_case, name_case, no_names, of_source, only, predefined, replaced, replacing, rule_in, rule_of, spaced, spent, substituted, taken, taken_count, text_of, through_close, treated, union}
use Rattle.inc_expand.specs.Contexts.{Entry, Of, End, Reader, Taken, alone, as_read, behind_tokens, call_read, case_read, ends_in, entries, expansion_read, level_read, levels_read, marked, next, open_in, put_back, read_in, standing_for, taken_from, token_read}
use Rattle.inc_expand.specs.SpelledItems.{HasSpelledBodies, HasLiterals}
use Rattle.inc_expand.proofs.HiddenNames.{mapped, changed, changed_argument, bound-changed, substituted-changed}
use Rattle.inc_expand.proofs.NameNumbers.{same-bytes}
use Rattle.inc_expand.proofs.SpelledParts.{IsSpelled, AreSpelled, AreArguments, AreElements, spelled-append, spelled-drop, IsSpelledCall, spelled-call, spelled-bound, spelled-taken, spelled-substituted, spelled-replacing, IsSpoken}
use Rattle.inc_expand.proofs.SpelledExpansions.{IsSpelledCase, Keeps, case-spelled, arguments-keep, levels-keep, source-spelled}
use Rattle.std.specs.List.{list_all}

---- painted, or nothing

abbrev own : Carrier → Names
own t = if is_painted t then only t.spelling else no_names

abbrev pub bare : Carrier → Carrier
bare = changed own

abbrev bare_argument : Argument → Argument
bare_argument = changed_argument own

own-made : (t : Carrier) → own (record t { hidden = no_names }) ≡ no_names
own-made t = go (is_identifier_kind t.kind)
  where
    go : (b : Bool) → (if b && false then only t.spelling else no_names) ≡ no_names
    go true = refl
    go false = refl

-- where it goes
abbrev there : Names → Carrier → Carrier
there names = changed (hidden_at ByContexts names)

abbrev bares : Result (List Carrier × Meter) ExpandFault → Result (List Carrier × Meter) ExpandFault
bares r = r >>= λ x. Ok (map bare x.0, x.1)

if-at : (b : Bool) (f g : Names) (n : List ℕ) → (if b then f else g) n ≡ (if b then f n else g n)
if-at true f g n = refl
if-at false f g n = refl

own-hides : (c : Carrier) → own c c.spelling ≡ is_painted c
own-hides c = if-at (is_painted c) (only c.spelling) no_names c.spelling ∙ ap (λ b. if is_painted c then b else false) (same-bytes c.spelling) ∙ go (is_painted c)
  where
    go : (b : Bool) → (if b then true else false) ≡ b
    go true = refl
    go false = refl

both-and : (i h : Bool) → (i && (i && h)) ≡ (i && h)
both-and true h = refl
both-and false h = refl

bare-painted : (c : Carrier) → (is_identifier_kind c.kind && own c c.spelling) ≡ is_painted c
bare-painted c = ap (λ b. is_identifier_kind c.kind && b) (own-hides c) ∙ both-and (is_identifier_kind c.kind) (c.hidden c.spelling)

bare-hides : (c : Carrier) → (not (is_identifier_kind c.kind) || own c c.spelling) ≡ (not (is_identifier_kind c.kind) || c.hidden c.spelling)
bare-hides c = ap (λ b. not (is_identifier_kind c.kind) || b) (own-hides c) ∙ go (is_identifier_kind c.kind) (c.hidden c.spelling)
  where
    go : (i h : Bool) → (not i || (i && h)) ≡ (not i || h)
    go true h = refl
    go false h = refl

---- the case at the front

through-bare : (ts : List Carrier) → through_close (map bare ts) ≡ through_close ts
through-bare [] = refl
through-bare (t ∷ ts) = ap (λ n. if bytes_eq t.spelling (codes ">") then 1 else 1 + n) (through-bare ts)

header-bare : (ts : List Carrier) → header_count (map bare ts) ≡ header_count ts
header-bare [] = refl
header-bare (a ∷ []) = refl
header-bare (a ∷ b ∷ ts) = ap (λ n. if is_open a && bytes_eq b.spelling (codes "<") then 2 + n else 0) (through-bare ts)

asked-bare : (ts : List Carrier) → asked_count (map bare ts) ≡ asked_count ts
asked-bare [] = refl
asked-bare (a ∷ []) = refl
asked-bare (a ∷ b ∷ []) = refl
asked-bare (a ∷ b ∷ c ∷ ts) = refl

count-bare : (name : List ℕ) (ts : List Carrier) → taken_count name (map bare ts) ≡ taken_count name ts
count-bare name ts = ap₂ (λ a b. if bytes_eq name (codes "defined") then a else b) (asked-bare ts) (header-bare ts)

take-bare : (n : ℕ) (ts : List Carrier) → take n (map bare ts) ≡ map bare (take n ts)
take-bare zero ts = refl
take-bare (suc n) [] = refl
take-bare (suc n) (t ∷ ts) = ap (λ us. bare t ∷ us) (take-bare n ts)

drop-bare : (n : ℕ) (ts : List Carrier) → drop n (map bare ts) ≡ map bare (drop n ts)
drop-bare zero ts = refl
drop-bare (suc n) [] = refl
drop-bare (suc n) (t ∷ ts) = drop-bare n ts

abbrev bare_case : Case → Case
bare_case (Passes front rest) = Passes (map bare front) (map bare rest)
bare_case (IsPredefined kind content) = IsPredefined kind content
bare_case (IsObject d) = IsObject d
bare_case (IsCall d p behind) = IsCall d p (map bare behind)

function-bare : (d : Definition) (p : Params) (c : Carrier) (cs : List Carrier) → function_case d p (bare c) (map bare cs) ≡ bare_case (function_case d p c cs)
function-bare d p c [] = refl
function-bare d p c (u ∷ us) = go (is_open u)
  where
    go : (b : Bool) → (if b then IsCall d p (map bare us) else Passes (bare c ∷ []) (map bare (u ∷ us))) ≡ bare_case (if b then IsCall d p us else Passes (c ∷ []) (u ∷ us))
    go true = refl
    go false = refl

macro-bare : (c : Carrier) (cs : List Carrier) (d : Option Definition) → macro_case (bare c) (map bare cs) d ≡ bare_case (macro_case c cs d)
macro-bare c cs None = refl
macro-bare c cs (Some d) = go d.params
  where
    go : (p : Option Params) → (elim p as (λ _. Case) [ None ↦ IsObject d | Some q ↦ function_case d q (bare c) (map bare cs) ]) ≡ bare_case (elim p as (λ _. Case) [ None ↦ IsObject d | Some q ↦ function_case d q c cs ])
    go None = refl
    go (Some q) = function-bare d q c cs

name-bare : (s : Surroundings) (c : Carrier) (cs : List Carrier) (p : Option (List ℕ × Kind × Content)) → name_case s (bare c) (map bare cs) p ≡ bare_case (name_case s c cs p)
name-bare s c cs (Some p) = refl
name-bare s c cs None = macro-bare c cs (definition_of c.spelling s.table)

asking-bare : (mode : Mode) (language : Language) (c : Carrier) → is_asking mode language (bare c) ≡ is_asking mode language c
asking-bare Plain language c = refl
asking-bare Condition language c = refl

case-bare : (s : Surroundings) (c : Carrier) (cs : List Carrier) → case_of s (bare c) (map bare cs) ≡ bare_case (case_of s c cs)
case-bare s c cs =
    ap (λ a. by a (taken_count c.spelling (map bare cs)) (not (is_identifier_kind c.kind) || own c c.spelling)) (asking-bare s.mode s.table.language c)
    ∙ ap₂ (by (is_asking s.mode s.table.language c)) (count-bare c.spelling cs) (bare-hides c)
    ∙ go (is_asking s.mode s.table.language c) (not (is_identifier_kind c.kind) || c.hidden c.spelling)
  where
    by : Bool → ℕ → Bool → Case
    by a n b = if a then Passes (bare c ∷ take n (map bare cs)) (drop n (map bare cs)) else
        if b then Passes (bare c ∷ []) (map bare cs) else name_case s (bare c) (map bare cs) (predefined s c.line c.spelling)

    n : ℕ
    n = taken_count c.spelling cs

    go : (a b : Bool) →
        (if a then Passes (bare c ∷ take n (map bare cs)) (drop n (map bare cs)) else if b then Passes (bare c ∷ []) (map bare cs) else name_case s (bare c) (map bare cs) (predefined s c.line c.spelling))
        ≡ bare_case (if a then Passes (c ∷ take n cs) (drop n cs) else if b then Passes (c ∷ []) cs else name_case s c cs (predefined s c.line c.spelling))
    go true b = ap₂ (λ us vs. Passes (bare c ∷ us) vs) (take-bare n cs) (drop-bare n cs)
    go false true = refl
    go false false = name-bare s c cs (predefined s c.line c.spelling)

-- what a case leaves, and which tokens are replaced
abbrev Shape : Carrier → List Carrier → Case → Type 0
Shape c cs (Passes front rest) = rest ≡ drop (length front - 1) cs
Shape c cs (IsPredefined kind content) = is_painted c ≡ false
Shape c cs (IsObject d) = is_painted c ≡ false
Shape c cs (IsCall d p behind) = (is_painted c ≡ false) × (behind ≡ drop 1 cs)

drop-taken : (n : ℕ) (cs : List Carrier) → drop n cs ≡ drop (length (take n cs)) cs
drop-taken zero cs = refl
drop-taken (suc n) [] = refl
drop-taken (suc n) (c ∷ cs) = drop-taken n cs

function-shape : (d : Definition) (p : Params) (c : Carrier) (cs : List Carrier) → is_painted c ≡ false → Shape c cs (function_case d p c cs)
function-shape d p c [] h = refl
function-shape d p c (u ∷ us) h = go (is_open u)
  where
    go : (b : Bool) → Shape c (u ∷ us) (if b then IsCall d p us else Passes (c ∷ []) (u ∷ us))
    go true = (h, refl)
    go false = refl

macro-shape : (c : Carrier) (cs : List Carrier) (d : Option Definition) → is_painted c ≡ false → Shape c cs (macro_case c cs d)
macro-shape c cs None h = refl
macro-shape c cs (Some d) h = go d.params
  where
    go : (p : Option Params) → Shape c cs (elim p as (λ _. Case) [ None ↦ IsObject d | Some q ↦ function_case d q c cs ])
    go None = h
    go (Some q) = function-shape d q c cs h

name-shape : (s : Surroundings) (c : Carrier) (cs : List Carrier) (p : Option (List ℕ × Kind × Content)) → is_painted c ≡ false → Shape c cs (name_case s c cs p)
name-shape s c cs (Some p) h = h
name-shape s c cs None h = macro-shape c cs (definition_of c.spelling s.table) h

case-shape : (s : Surroundings) (c : Carrier) (cs : List Carrier) → Shape c cs (case_of s c cs)
case-shape s c cs = go (is_asking s.mode s.table.language c) (not (is_identifier_kind c.kind) || c.hidden c.spelling) refl
  where
    open_name : (i h : Bool) → (not i || h) ≡ false → (i && h) ≡ false
    open_name true h e = e
    open_name false h e = refl

    go : (a b : Bool) → (not (is_identifier_kind c.kind) || c.hidden c.spelling) ≡ b →
        Shape c cs (if a then Passes (c ∷ take (taken_count c.spelling cs) cs) (drop (taken_count c.spelling cs) cs) else if b then Passes (c ∷ []) cs else name_case s c cs (predefined s c.line c.spelling))
    go true b e =
        let k : length (take (taken_count c.spelling cs) cs) ≡ suc (length (take (taken_count c.spelling cs) cs)) - 1 = omega arith in
        drop-taken (taken_count c.spelling cs) cs ∙ ap (λ m. drop m cs) k
    go false true e = refl
    go false false e = name-shape s c cs (predefined s c.line c.spelling) (open_name (is_identifier_kind c.kind) (c.hidden c.spelling) e)

---- lists that say the same

pub record Fits (t c : Carrier) (es : List Entry) : Type 0 where
  pub read : as_read t es ≡ bare c
  pub hides : is_painted c ≡ false → c.hidden ≡ open_in es

abbrev pub Same : List Entry → List Carrier → Type 0
Same [] [] = ⊤
Same [] (c ∷ cs) = ⊥
Same (Of t ∷ es) [] = ⊥
Same (Of t ∷ es) (c ∷ cs) = Fits t c es × Same es cs
Same (End name ∷ es) cs = Same es cs

same-read : (es : List Entry) (cs : List Carrier) → Same es cs → read_in es ≡ map bare cs
same-read [] [] h = refl
same-read [] (c ∷ cs) h = absurd h
same-read (Of t ∷ es) [] h = absurd h
same-read (Of t ∷ es) (c ∷ cs) h = ap₂ (λ (u : Carrier) (us : List Carrier). u ∷ us) h.0.read (same-read es cs h.1)
same-read (End name ∷ es) cs h = same-read es cs h

same-behind : (n : ℕ) (es : List Entry) (cs : List Carrier) → Same es cs → Same (behind_tokens n es) (drop n cs)
same-behind zero es cs h = h
same-behind (suc n) [] [] h = tt
same-behind (suc n) [] (c ∷ cs) h = absurd h
same-behind (suc n) (Of t ∷ es) [] h = absurd h
same-behind (suc n) (Of t ∷ es) (c ∷ cs) h = same-behind n es cs h.1
same-behind (suc n) (End name ∷ es) cs h = same-behind (suc n) es cs h

next-none : (es : List Entry) → Same es [] → next es ≡ None
next-none [] h = refl
next-none (Of t ∷ es) h = absurd h
next-none (End name ∷ es) h = next-none es h

record IsNext (es : List Entry) (c : Carrier) (cs : List Carrier) : Type 0 where
  pub rest : List Entry
  pub is : next es ≡ Some (bare c, rest)
  pub hides : is_painted c ≡ false → c.hidden ≡ open_in rest
  pub same : Same rest cs

next-some : (es : List Entry) (c : Carrier) (cs : List Carrier) → Same es (c ∷ cs) → IsNext es c cs
next-some [] c cs h = absurd h
next-some (Of t ∷ es) c cs h = record { rest = es; is = ap (λ (u : Carrier). Some (u, es)) h.0.read; hides = h.0.hides; same = h.1 }
next-some (End name ∷ es) c cs h = let n = next-some es c cs h in record { rest = n.rest; is = n.is; hides = n.hides; same = n.same }

-- fewer names are open behind
or-right : (a b : Bool) → b ≡ true → (a || b) ≡ true
or-right true b e = refl
or-right false b e = e

behind-open : (n : ℕ) (es : List Entry) (x : List ℕ) → open_in (behind_tokens n es) x ≡ true → open_in es x ≡ true
behind-open zero es x h = h
behind-open (suc n) [] x h = h
behind-open (suc n) (Of t ∷ es) x h = behind-open n es x h
behind-open (suc n) (End name ∷ es) x h = or-right (bytes_eq x name) (open_in es x) (behind-open (suc n) es x h)

open-put : (ts : List Carrier) (es : List Entry) → open_in (entries ts ++ es) ≡ open_in es
open-put [] es = refl
open-put (t ∷ ts) es = open-put ts es

open-ends : (es : List Entry) → open_in (ends_in es) ≡ open_in es
open-ends [] = refl
open-ends (Of t ∷ es) = open-ends es
open-ends (End name ∷ es) = ap (union (only name)) (open-ends es)

ends-same : (es : List Entry) → Same (ends_in es) []
ends-same [] = tt
ends-same (Of t ∷ es) = ends-same es
ends-same (End name ∷ es) = ends-same es

---- tokens that are put

moved-flag : (i h n : Bool) → ((i && h) || (i && n)) ≡ (i && (if i && h then h else n))
moved-flag true true n = refl
moved-flag true false n = refl
moved-flag false h n = refl

or-false : (a b : Bool) → (a || b) ≡ false → a ≡ false
or-false true b e = e
or-false false b e = refl

-- whether a token is painted that goes where these names are hidden
there-painted : (names : Names) (p : Carrier) → is_painted (there names p) ≡ (is_painted p || (is_identifier_kind p.kind && names p.spelling))
there-painted names p =
    ap (λ b. is_identifier_kind p.kind && b) (if-at (is_painted p) p.hidden names p.spelling)
    ∙ sym (moved-flag (is_identifier_kind p.kind) (p.hidden p.spelling) (names p.spelling))

there-hides : (names : Names) (p : Carrier) → is_painted (there names p) ≡ false → hidden_at ByContexts names p ≡ names
there-hides names p e =
    ap (λ b. if b then p.hidden else names) (or-false (is_painted p) (is_identifier_kind p.kind && names p.spelling) (sym (there-painted names p) ∙ e))

abbrev on_line : ℕ → Carrier → Carrier
on_line line p = record p { line = line }

abbrev put_there : ℕ → Names → Carrier → Carrier
put_there line names p = record p { line = line; hidden = hidden_at ByContexts names p }

marked-same : (t : Carrier) (a b : Bool) → a ≡ b → marked a t ≡ marked b t
marked-same t a b e = ap (λ x. marked x t) e

put-same : (line : ℕ) (names : Names) (name : List ℕ) (es : List Entry) (cs : List Carrier) → names ≡ union (only name) (open_in es) → Same es cs → (ps : List Carrier) →
    Same (entries (map (on_line line) (map bare ps)) ++ End name ∷ es) (map (put_there line names) ps ++ cs)
put-same line names name es cs e h [] = h
put-same line names name es cs e h (p ∷ ps) = (
  record {
    read = marked-same (on_line line p) _ _
        (ap₂ (λ a b. a || (is_identifier_kind p.kind && b)) (bare-painted p) (ap (λ (f : Names). f p.spelling) open-is) ∙ sym (there-painted names p));
    hides = λ u. there-hides names p u ∙ sym open-is;
  },
  put-same line names name es cs e h ps,
)
  where
    open-is : open_in (entries (map (on_line line) (map bare ps)) ++ End name ∷ es) ≡ names
    open-is = open-put (map (on_line line) (map bare ps)) (End name ∷ es) ∙ sym e

argument-same : (names : Names) (es : List Entry) → names ≡ open_in es → (ts : List Carrier) → Same (entries (map bare (map (there names) ts)) ++ ends_in es) (map (there names) ts)
argument-same names es e [] = ends-same es
argument-same names es e (t ∷ ts) = (
  record {
    read = marked-same (there names t) _ _
        (ap₂ (λ a b. a || (is_identifier_kind t.kind && b)) (bare-painted (there names t) ∙ there-painted names t) (ap (λ (f : Names). f t.spelling) open-is)
        ∙ twice (is_painted t) (is_identifier_kind t.kind && names t.spelling) ∙ sym (there-painted names t));
    hides = λ u. there-hides names t u ∙ sym open-is;
  },
  argument-same names es e ts,
)
  where
    open-is : open_in (entries (map bare (map (there names) ts)) ++ ends_in es) ≡ names
    open-is = open-put (map bare (map (there names) ts)) (ends_in es) ∙ open-ends es ∙ sym e

    twice : (a b : Bool) → ((a || b) || b) ≡ (a || b)
    twice true b = refl
    twice false true = refl
    twice false false = refl

---- calls

close-plain : (c : Carrier) → IsSpelled Gnu c → is_close c ≡ true → is_painted c ≡ false
close-plain c h e = go c.kind h ((bytes_eq-Decides c.spelling (codes ")")).0 e)
  where
    go : (k : Kind) → is_spelling Gnu k c.spelling ≡ true → c.spelling ≡ codes ")" → (is_identifier_kind k && c.hidden c.spelling) ≡ false
    go HeaderName h e = refl
    go Identifier h e = absurd (true≢false (sym h ∙ ap (is_spelling Gnu Identifier) e))
    go Number h e = refl
    go Char h e = refl
    go Str h e = refl
    go Punct h e = refl
    go Other h e = refl

pub record IsCallRead (x : Taken) (k : Call) (es : List Entry) : Type 0 where
  pub rest : Same x.rest k.rest
  pub close : k.close.hidden ≡ open_in x.rest
  pub inside : x.inside ≡ map bare (map (there (open_in x.rest)) k.inside)
  pub shrinks : (n : List ℕ) → open_in x.rest n ≡ true → open_in es n ≡ true

abbrev CallsAgree : Option Taken → Option Call → List Entry → Type 0
CallsAgree None None es = ⊤
CallsAgree (Some x) (Some k) es = IsCallRead x k es
CallsAgree _ _ es = ⊥

stays : (i h n : Bool) → ((i && h) ≡ false → n ≡ true → h ≡ true) → (i && h) ≡ ((i && h) || (i && n))
stays true true n f = refl
stays true false true f = f refl refl
stays true false false f = refl
stays false h n f = refl

module _ (t c : Carrier) (es : List Entry) (cs : List Carrier) (fits : Fits t c es) (same : Same es cs) (spelled : IsSpelled Gnu c) where
  abbrev more_read : Option Taken → Option Taken
  more_read = option_map (λ (y : Taken). record y { inside = as_read t es ∷ y.inside })

  abbrev more_hidden : Option Call → Option Call
  more_hidden = option_map (λ (y : Call). record y { inside = c ∷ y.inside })

  inside-more : (x : Taken) (k : Call) → IsCallRead x k es → as_read t es ≡ bare (there (open_in x.rest) c)
  inside-more x k r =
      fits.read
      ∙ marked-same c _ _
      (stays (is_identifier_kind c.kind) (c.hidden c.spelling) (open_in x.rest c.spelling)
      (λ plain opened. ap (λ (f : Names). f c.spelling) (fits.hides plain) ∙ r.shrinks c.spelling opened)
      ∙ sym (there-painted (open_in x.rest) c))

  calls-step : (b : Bool) (x : Option Taken) (k : Option Call) → (b ≡ true → is_close c ≡ true) → CallsAgree x k es →
      CallsAgree (if b then Some (record { inside = []; rest = es }) else more_read x) (if b then Some (record { inside = []; close = c; rest = cs }) else more_hidden k) (Of t ∷ es)
  calls-step true x k e r = record { rest = same; close = fits.hides (close-plain c spelled (e refl)); inside = refl; shrinks = λ n h. h }
  calls-step false None None e r = tt
  calls-step false None (Some k) e r = absurd r
  calls-step false (Some x) None e r = absurd r
  calls-step false (Some x) (Some k) e r = record {
    rest = r.rest;
    close = r.close;
    inside = ap₂ (λ (u : Carrier) (us : List Carrier). u ∷ us) (inside-more x k r) r.inside;
    shrinks = r.shrinks;
  }

and-first : (a b : Bool) → (a && b) ≡ true → a ≡ true
and-first true b e = refl
and-first false b e = e

calls-agree : (deep : ℕ) (es : List Entry) (cs : List Carrier) → AreSpelled Gnu cs → Same es cs → CallsAgree (taken_from deep es) (call_behind deep cs) es
calls-agree deep [] [] s h = tt
calls-agree deep [] (c ∷ cs) s h = absurd h
calls-agree deep (Of t ∷ es) [] s h = absurd h
calls-agree deep (Of t ∷ es) (c ∷ cs) s h =
    subst (λ b. CallsAgree (if b && (deep == 0) then Some (record { inside = []; rest = es }) else option_map (λ (y : Taken). record y { inside = as_read t es ∷ y.inside }) (taken_from (depth_after deep t) es)) (call_behind deep (c ∷ cs)) (Of t ∷ es))
    (sym (ap is_close h.0.read))
    (subst (λ n. CallsAgree (if is_close c && (deep == 0) then Some (record { inside = []; rest = es }) else option_map (λ (y : Taken). record y { inside = as_read t es ∷ y.inside }) (taken_from n es)) (call_behind deep (c ∷ cs)) (Of t ∷ es))
    (sym (ap (depth_after deep) h.0.read))
    (calls-step t c es cs h.0 h.1 s.0 (is_close c && (deep == 0)) (taken_from (depth_after deep c) es) (call_behind (depth_after deep c) cs) (λ e. and-first (is_close c) (deep == 0) e)
    (calls-agree (depth_after deep c) es cs s.1 h.1)))
calls-agree deep (End name ∷ es) cs s h = wider (taken_from deep es) (call_behind deep cs) (calls-agree deep es cs s h)
  where
    wider : (x : Option Taken) (k : Option Call) → CallsAgree x k es → CallsAgree x k (End name ∷ es)
    wider None None r = tt
    wider None (Some k) r = absurd r
    wider (Some x) None r = absurd r
    wider (Some x) (Some k) r = record { rest = r.rest; close = r.close; inside = r.inside; shrinks = λ n o. or-right (bytes_eq n name) (open_in es n) (r.shrinks n o) }

---- the arguments of a call

-- a reader and an expander give the same
unfoldable Agree : Reader → Expander → Type 0
Agree r d = (meter : Meter) (es : List Entry) (cs : List Carrier) → AreSpelled Gnu cs → Same es cs → r meter es ≡ bares (d meter cs)

abbrev bare_given : Result (Argument × Meter) ExpandFault → Result (Argument × Meter) ExpandFault
bare_given r = r >>= λ x. Ok (bare_argument x.0, x.1)

abbrev bare_all : Result (List Argument × Meter) ExpandFault → Result (List Argument × Meter) ExpandFault
bare_all r = r >>= λ x. Ok (map bare_argument x.0, x.1)

argument-agrees : (r : Reader) (d : Expander) (es : List Entry) (names : Names) → names ≡ open_in es → Agree r d → (els : List Element) (meter : Meter) (n : ℕ) (a : Argument) →
    AreSpelled Gnu (map (there names) a.written) →
    expanded_argument (alone r es) els meter n (bare_argument (changed_argument (hidden_at ByContexts names) a)) ≡ bare_given (expanded_argument d els meter n (changed_argument (hidden_at ByContexts names) a))
unfolding Agree
argument-agrees r d es names e h els meter n a spelled = go (is_expanded_in els n)
  where
    b : Argument
    b = changed_argument (hidden_at ByContexts names) a

    by : (x : Result (List Carrier × Meter) ExpandFault) →
        (bares x >>= λ y. Ok (record (bare_argument b) { expanded = y.0 }, y.1)) ≡ bare_given (x >>= λ y. Ok (record b { expanded = y.0 }, y.1))
    by (Ok y) = refl
    by (Err fault) = refl

    go : (w : Bool) → (elim w as (λ _. Result (Argument × Meter) ExpandFault) [ true ↦ alone r es meter (bare_argument b).written >>= (λ y. Ok (record (bare_argument b) { expanded = y.0 }, y.1)) | false ↦ Ok (bare_argument b, meter) ])
        ≡ bare_given (elim w as (λ _. Result (Argument × Meter) ExpandFault) [ true ↦ d meter b.written >>= (λ y. Ok (record b { expanded = y.0 }, y.1)) | false ↦ Ok (b, meter) ])
    go true =
        ap (λ x. x >>= λ y. Ok (record (bare_argument b) { expanded = y.0 }, y.1)) (h meter (entries (map bare (map (there names) a.written)) ++ ends_in es) (map (there names) a.written) spelled (argument-same names es e a.written))
        ∙ by (d meter b.written)
    go false = refl

arguments-agree : (r : Reader) (d : Expander) (es : List Entry) (names : Names) → names ≡ open_in es → Agree r d → (els : List Element) (meter : Meter) (n : ℕ) (as' : List Argument) →
    AreArguments Gnu (map (changed_argument (hidden_at ByContexts names)) as') →
    expanded_arguments (alone r es) els meter n (map bare_argument (map (changed_argument (hidden_at ByContexts names)) as'))
    ≡ bare_all (expanded_arguments d els meter n (map (changed_argument (hidden_at ByContexts names)) as'))
arguments-agree r d es names e h els meter n [] s = refl
arguments-agree r d es names e h els meter n (a ∷ as') s =
    ap (λ x. x >>= λ y. expanded_arguments (alone r es) els y.1 (suc n) (map bare_argument others) >>= λ rest. Ok (y.0 ∷ rest.0, rest.1)) (argument-agrees r d es names e h els meter n a s.0.0)
    ∙ first (expanded_argument d els meter n (changed_argument (hidden_at ByContexts names) a)) (λ u. arguments-agree r d es names e h els u (suc n) as' s.1)
  where
    others : List Argument
    others = map (changed_argument (hidden_at ByContexts names)) as'

    rest-of : (b : Argument) (x : Result (List Argument × Meter) ExpandFault) → (bare_all x >>= λ rest. Ok (bare_argument b ∷ rest.0, rest.1)) ≡ bare_all (x >>= λ rest. Ok (b ∷ rest.0, rest.1))
    rest-of b (Ok rest) = refl
    rest-of b (Err fault) = refl

    first : (x : Result (Argument × Meter) ExpandFault) → ((u : Meter) → expanded_arguments (alone r es) els u (suc n) (map bare_argument others) ≡ bare_all (expanded_arguments d els u (suc n) others)) →
        (bare_given x >>= λ y. expanded_arguments (alone r es) els y.1 (suc n) (map bare_argument others) >>= λ rest. Ok (y.0 ∷ rest.0, rest.1))
        ≡ bare_all (x >>= λ y. expanded_arguments d els y.1 (suc n) others >>= λ rest. Ok (y.0 ∷ rest.0, rest.1))
    first (Ok y) k = ap (λ z. z >>= λ rest. Ok (bare_argument y.0 ∷ rest.0, rest.1)) (k y.1) ∙ rest-of y.0 (expanded_arguments d els y.1 (suc n) others)
    first (Err fault) k = refl

---- a replacement

standing-moved : (c : Carrier) (new : List Carrier) → standing_for (bare c) (map bare new) ≡ map (on_line c.line) (map bare (spaced c.space new))
standing-moved c [] = refl
standing-moved c (p ∷ ps) = refl

replacing-moved : (c : Carrier) (names : Names) (new : List Carrier) → replacing ByContexts c names new ≡ map (put_there c.line names) (spaced c.space new)
replacing-moved c names [] = refl
replacing-moved c names (p ∷ ps) = refl

put-agrees : (r : Reader) (d : Expander) → Agree r d → (meter : Meter) (c : Carrier) (name : List ℕ) (names : Names) (new : List Carrier) (es : List Entry) (cs : List Carrier) →
    names ≡ union (only name) (open_in es) → Same es cs → AreSpelled Gnu (replacing ByContexts c names new ++ cs) →
    put_back r meter name (standing_for (bare c) (map bare new)) es ≡ bares (replaced d meter (replacing ByContexts c names new) cs)
unfolding Agree
put-agrees r d h meter c name names new es cs e same spelled =
    ap (λ ts. put_back r meter name ts es) (standing-moved c new)
    ∙ ap (λ n. elim (nat_lt meter.units (1 + n)) as (λ _. Result (List Carrier × Meter) ExpandFault) [ true ↦ Err OverBudget | false ↦ r (spent (1 + n) meter) (entries (map (on_line c.line) (map bare ps)) ++ End name ∷ es) ])
    (length-map (map bare ps) (on_line c.line) ∙ length-map ps bare ∙ sym (length-map ps (put_there c.line names)))
    ∙ go (nat_lt meter.units (1 + length moved_ones))
    ∙ ap (λ ts. bares (replaced d meter ts cs)) (sym (replacing-moved c names new))
  where
    ps : List Carrier
    ps = spaced c.space new

    moved_ones : List Carrier
    moved_ones = map (put_there c.line names) ps

    go : (b : Bool) → (elim b as (λ _. Result (List Carrier × Meter) ExpandFault) [ true ↦ Err OverBudget | false ↦ r (spent (1 + length moved_ones) meter) (entries (map (on_line c.line) (map bare ps)) ++ End name ∷ es) ])
        ≡ bares (elim b as (λ _. Result (List Carrier × Meter) ExpandFault) [ true ↦ Err OverBudget | false ↦ d (spent (1 + length moved_ones) meter) (moved_ones ++ cs) ])
    go true = refl
    go false = h (spent (1 + length moved_ones) meter) (entries (map (on_line c.line) (map bare ps)) ++ End name ∷ es) (moved_ones ++ cs)
        (subst (λ ts. AreSpelled Gnu (ts ++ cs)) (replacing-moved c names new) spelled) (put-same c.line names name es cs e same ps)

-- what a substitution gives, put before the rest
substituted-agrees : (r : Reader) (d : Expander) → Agree r d → (meter : Meter) (c : Carrier) (m : Definition) (names : Names) (as' : List Argument) (es : List Entry) (cs : List Carrier) →
    names ≡ union (only m.name) (open_in es) → Same es cs → AreArguments Gnu as' → AreElements Gnu (elements_of m) → AreSpelled Gnu cs →
    (substituted ByContexts (map bare_argument as') (elements_of m) >>= λ new. put_back r meter m.name (standing_for (bare c) new) es)
    ≡ bares (substituted ByContexts as' (elements_of m) >>= λ new. replaced d meter (replacing ByContexts c names new) cs)
substituted-agrees r d h meter c m names as' es cs e same args body spelled =
    ap (λ x. x >>= λ new. put_back r meter m.name (standing_for (bare c) new) es) (substituted-changed own ByContexts own-made (λ t s. refl) (λ t a b. own-made t) as' (elements_of m))
    ∙ go (substituted ByContexts as' (elements_of m)) (spelled-substituted ByContexts Gnu tt as' (elements_of m) args body)
  where
    go : (x : Result (List Carrier) ExpandFault) → IfOk x (AreSpelled Gnu) →
        (mapped (map bare) x >>= λ new. put_back r meter m.name (standing_for (bare c) new) es) ≡ bares (x >>= λ new. replaced d meter (replacing ByContexts c names new) cs)
    go (Ok new) is = put-agrees r d h meter c m.name names new es cs e same (spelled-append Gnu (replacing ByContexts c names new) cs (spelled-replacing ByContexts Gnu c names new is) spelled)
    go (Err fault) is = refl

---- one level

and-second : (a b : Bool) → (b ≡ true → a ≡ true) → (a && b) ≡ b
and-second a false f = go a
  where
    go : (x : Bool) → (x && false) ≡ false
    go true = refl
    go false = refl
and-second a true f = ap (λ x. x && true) (f refl)

flag-none : (i n : Bool) → ((i && false) || (i && n)) ≡ (i && n)
flag-none true n = refl
flag-none false n = refl

-- a call that is read
call-agrees : (r q : Reader) (d again : Expander) → Agree r d → Agree q again → Keeps Gnu d → (meter : Meter) (c : Carrier) (m : Definition) (p : Params) (es : List Entry) (x : Option Taken) (k : Option Call) →
    c.hidden ≡ open_in es → (inner : List Entry) → ((n : List ℕ) → open_in inner n ≡ true → open_in es n ≡ true) → CallsAgree x k inner → AreElements Gnu (elements_of m) → IsSpelledCall Gnu k →
    call_read r q (bare c) meter m p x ≡ bares (called ByContexts d again c meter m p k)
call-agrees r q d again h i keeps meter c m p es None None hides inner more a body s = refl
call-agrees r q d again h i keeps meter c m p es None (Some k) hides inner more a body s = absurd a
call-agrees r q d again h i keeps meter c m p es (Some x) None hides inner more a body s = absurd a
call-agrees r q d again h i keeps meter c m p es (Some x) (Some k) hides inner more a body s =
    ap (λ y. y >>= with_args) (ap (bound p) inside-is ∙ bound-changed own p (map (there k.close.hidden) k.inside) ∙ ap (mapped (map bare_argument)) (bound-changed (hidden_at ByContexts k.close.hidden) p k.inside))
    ∙ go (bound p k.inside) (subst (λ y. IfOk y (AreArguments Gnu)) (bound-changed (hidden_at ByContexts k.close.hidden) p k.inside) (spelled-bound Gnu p (taken ByContexts k.close.hidden k.inside) (spelled-taken ByContexts Gnu k.close.hidden k.inside s.0)))
    ∙ ap (λ y. bares (y >>= with_hidden)) (sym (bound-changed (hidden_at ByContexts k.close.hidden) p k.inside))
  where
    names : Names
    names = union (only m.name) (intersection c.hidden k.close.hidden)

    names-are : names ≡ union (only m.name) (open_in x.rest)
    names-are =
        ap (union (only m.name))
        (ap₂ (λ (f g : Names). intersection f g) hides a.close ∙ fun_ext (λ n. and-second (open_in es n) (open_in x.rest n) (λ o. more n (a.shrinks n o))))

    inside-is : x.inside ≡ map bare (map (there k.close.hidden) k.inside)
    inside-is = a.inside ∙ ap (λ (f : Names). map bare (map (there f) k.inside)) (sym a.close)

    with_args : List Argument → Result (List Carrier × Meter) ExpandFault
    with_args args = expanded_arguments (alone r x.rest) (elements_of m) meter 0 args >>= λ e.
        substituted ByContexts e.0 (elements_of m) >>= λ new. put_back q e.1 m.name (standing_for (bare c) new) x.rest

    with_hidden : List Argument → Result (List Carrier × Meter) ExpandFault
    with_hidden args = expanded_arguments d (elements_of m) meter 0 args >>= λ e.
        substituted ByContexts e.0 (elements_of m) >>= λ new. replaced again e.1 (replacing ByContexts c names new) k.rest

    expanded-go : (y : Result (List Argument × Meter) ExpandFault) → IfOk y (λ e. AreArguments Gnu e.0) →
        (bare_all y >>= λ e. substituted ByContexts e.0 (elements_of m) >>= λ new. put_back q e.1 m.name (standing_for (bare c) new) x.rest)
        ≡ bares (y >>= λ e. substituted ByContexts e.0 (elements_of m) >>= λ new. replaced again e.1 (replacing ByContexts c names new) k.rest)
    expanded-go (Ok e) is = substituted-agrees q again i e.1 c m names e.0 x.rest k.rest names-are a.rest is body s.1
    expanded-go (Err fault) is = refl

    go : (y : Result (List Argument) ExpandFault) → IfOk (mapped (map (changed_argument (hidden_at ByContexts k.close.hidden))) y) (AreArguments Gnu) →
        (mapped (map bare_argument) (mapped (map (changed_argument (hidden_at ByContexts k.close.hidden))) y) >>= with_args)
        ≡ bares (mapped (map (changed_argument (hidden_at ByContexts k.close.hidden))) y >>= with_hidden)
    go (Ok as') are =
        ap (λ z. z >>= λ e. substituted ByContexts e.0 (elements_of m) >>= λ new. put_back q e.1 m.name (standing_for (bare c) new) x.rest)
        (arguments-agree r d x.rest k.close.hidden a.close h (elements_of m) meter 0 as' are)
        ∙ expanded-go (expanded_arguments d (elements_of m) meter 0 (map (changed_argument (hidden_at ByContexts k.close.hidden)) as'))
        (arguments-keep Gnu d (elements_of m) meter 0 (map (changed_argument (hidden_at ByContexts k.close.hidden)) as') keeps are)
    go (Err fault) are = refl

-- the front token
treated-agrees : (r q : Reader) (d again : Expander) → Agree r d → Agree q again → Keeps Gnu d → (meter : Meter) (c : Carrier) (es : List Entry) (cs : List Carrier) → AreSpelled Gnu cs →
    (is_painted c ≡ false → c.hidden ≡ open_in es) → Same es cs → (k : Case) → Shape c cs k → IsSpelledCase Gnu k →
    case_read r q (bare c) meter es (bare_case k) ≡ bares (treated ByContexts d again c meter cs k)
unfolding Agree IsSpelledCase
treated-agrees r q d again h i keeps meter c es cs spelled hides same (Passes front rest) shape body =
    ap (λ n. q meter (behind_tokens (n - 1) es) >>= λ x. Ok (map bare front ++ x.0, x.1)) (length-map front bare)
    ∙ ap (λ y. y >>= λ x. Ok (map bare front ++ x.0, x.1))
    (i meter (behind_tokens (length front - 1) es) (drop (length front - 1) cs) (spelled-drop Gnu (length front - 1) cs spelled) (same-behind (length front - 1) es cs same))
    ∙ by (again meter (drop (length front - 1) cs))
    ∙ ap (λ ts. bares (again meter ts >>= λ x. Ok (front ++ x.0, x.1))) (sym shape)
  where
    by : (y : Result (List Carrier × Meter) ExpandFault) → (bares y >>= λ x. Ok (map bare front ++ x.0, x.1)) ≡ bares (y >>= λ x. Ok (front ++ x.0, x.1))
    by (Ok x) = ap (λ ts. Ok (ts, x.1)) (sym (map-append bare front x.0))
    by (Err fault) = refl
treated-agrees r q d again h i keeps meter c es cs spelled hides same (IsPredefined kind content) shape body = go (nat_lt (counted content meter).units (1 + length (u ∷ [])))
  where
    t : Carrier
    t = record (bare c) { kind = kind; spelling = text_of meter content; hidden = no_names }

    u : Carrier
    u = record c { kind = kind; spelling = text_of meter content; hidden = union (only c.spelling) c.hidden }

    hides-is : u.hidden ≡ open_in (End c.spelling ∷ es)
    hides-is = ap (union (only c.spelling)) (hides shape)

    fits : Fits t u (End c.spelling ∷ es)
    fits = record {
      read = marked-same u _ _
          (flag-none (is_identifier_kind kind) (open_in (End c.spelling ∷ es) (text_of meter content)) ∙ ap (λ (f : Names). is_identifier_kind kind && f (text_of meter content)) (sym hides-is));
      hides = λ plain. hides-is;
    }

    go : (b : Bool) → (elim b as (λ _. Result (List Carrier × Meter) ExpandFault) [ true ↦ Err OverBudget | false ↦ q (spent (1 + length (t ∷ [])) (counted content meter)) (entries (t ∷ []) ++ End c.spelling ∷ es) ])
        ≡ bares (elim b as (λ _. Result (List Carrier × Meter) ExpandFault) [ true ↦ Err OverBudget | false ↦ again (spent (1 + length (u ∷ [])) (counted content meter)) ((u ∷ []) ++ cs) ])
    go true = refl
    go false = i (spent (1 + length (t ∷ [])) (counted content meter)) (Of t ∷ End c.spelling ∷ es) (u ∷ cs) (body meter, spelled) (fits, same)
treated-agrees r q d again h i keeps meter c es cs spelled hides same (IsObject m) shape body =
    substituted-agrees q again i meter c m (union (only m.name) c.hidden) [] es cs (ap (union (only m.name)) (hides shape)) same tt body spelled
treated-agrees r q d again h i keeps meter c es cs spelled hides same (IsCall m p behind) shape body =
    call-agrees r q d again h i keeps meter c m p es (taken_from 0 (behind_tokens 1 es)) (call_behind 0 (drop 1 cs)) (hides shape.0) (behind_tokens 1 es) (λ n o. behind-open 1 es n o)
    (calls-agree 0 (behind_tokens 1 es) (drop 1 cs) (spelled-drop Gnu 1 cs spelled) (same-behind 1 es cs same)) body.0 (spelled-call Gnu 0 (drop 1 cs) (spelled-drop Gnu 1 cs spelled))
    ∙ ap (λ ts. bares (called ByContexts d again c meter m p (call_behind 0 ts))) (sym shape.1)

-- the rule of the language treats each token of a list as that by contexts
abbrev pub IsAlike : Surroundings → Type 0
IsAlike s = (d again : Expander) (meter : Meter) (c : Carrier) (cs : List Carrier) →
    treated (rule_in s) d again c meter cs (case_of s c cs) ≡ treated ByContexts d again c meter cs (case_of s c cs)

level-agrees : (s : Surroundings) → HasSpelledBodies Gnu s.table → HasLiterals s.place → IsAlike s → (r : Reader) (d : Expander) → Agree r d → Keeps Gnu d → (steps : ℕ) →
    Agree (level_read s r steps) (level s d steps)
unfolding Agree
level-agrees s b l alike r d h keeps zero meter es cs k same = refl
level-agrees s b l alike r d h keeps (suc steps) meter es [] k same = ap (token_read s r (level_read s r steps) meter) (next-none es same)
level-agrees s b l alike r d h keeps (suc steps) meter es (c ∷ cs) k same =
    let n = next-some es c cs same in
    ap (token_read s r (level_read s r steps) meter) n.is
    ∙ ap (λ ts. case_read r (level_read s r steps) (bare c) meter n.rest (case_of s (bare c) ts)) (same-read n.rest cs n.same)
    ∙ ap (case_read r (level_read s r steps) (bare c) meter n.rest) (case-bare s c cs)
    ∙ treated-agrees r (level_read s r steps) d (level s d steps) h (level-agrees s b l alike r d h keeps steps) keeps meter c n.rest cs k.1 n.hides n.same (case_of s c cs)
    (case-shape s c cs) (case-spelled Gnu s c cs b l k.0 k.1)
    ∙ ap bares (sym (alike d (level s d steps) meter c cs))

levels-agree : (s : Surroundings) → HasSpelledBodies Gnu s.table → HasLiterals s.place → IsSpoken (rule_in s) Gnu → IsAlike s → (n : ℕ) → Agree (levels_read s n) (levels s n)
unfolding Agree
levels-agree s b l o alike zero meter es cs k same = refl
levels-agree s b l o alike (suc n) meter es cs k same =
    ap (λ m. level_read s (levels_read s n) (m + meter.units + 1) meter es) (ap length (same-read es cs same) ∙ length-map cs bare)
    ∙ level-agrees s b l alike (levels_read s n) (levels s n) (levels-agree s b l o alike n) (levels-keep Gnu s o b l n) (length cs + meter.units + 1) meter es cs k same

---- the list that is handed in, and the items

open-entries : (ts : List Carrier) → open_in (entries ts) ≡ no_names
open-entries [] = refl
open-entries (t ∷ ts) = open-entries ts

source-same : (ts : List Tok) → Same (entries (map of_source ts)) (map of_source ts)
source-same [] = tt
source-same (t ∷ ts) = (
  record {
    read = marked-same (of_source t) _ _
        (ap (λ (f : Names). is_painted (of_source t) || (is_identifier_kind t.kind && f t.spelling)) (open-entries (map of_source ts)) ∙ twice (is_identifier_kind t.kind && false));
    hides = λ plain. sym (open-entries (map of_source ts));
  },
  source-same ts,
)
  where
    twice : (b : Bool) → (b || b) ≡ b
    twice true = refl
    twice false = refl

pub expansion-alike : (s : Surroundings) (meter : Meter) (tokens : List Tok) → IsSpoken (rule_in s) Gnu → IsAlike s → HasSpelledBodies Gnu s.table → HasLiterals s.place → list_all (is_spelled Gnu) tokens ≡ true →
    expansion s meter tokens ≡ expansion_read s meter tokens
unfolding Agree
expansion-alike s meter tokens o alike b l h =
    sym (ap seen
    (levels-agree s b l o alike all_levels meter (entries (map of_source tokens)) (map of_source tokens) (source-spelled Gnu tokens h) (source-same tokens))
    ∙ by (levels s all_levels meter (map of_source tokens)))
  where
    seen : Result (List Carrier × Meter) ExpandFault → Result (List Item × Meter) ExpandFault
    seen r = r >>= λ x. Ok (map item_of x.0, x.1)

    items : (ts : List Carrier) → map item_of (map bare ts) ≡ map item_of ts
    items [] = refl
    items (t ∷ ts) = ap (λ is. item_of t ∷ is) (items ts)

    by : (r : Result (List Carrier × Meter) ExpandFault) → seen (bares r) ≡ seen r
    by (Ok x) = ap (λ is. Ok (is, x.1)) (items x.0)
    by (Err fault) = refl

pub expansion-agrees : (s : Surroundings) (meter : Meter) (tokens : List Tok) → s.table.language ≡ Gnu → HasSpelledBodies Gnu s.table → HasLiterals s.place → list_all (is_spelled Gnu) tokens ≡ true →
    expansion s meter tokens ≡ expansion_read s meter tokens
expansion-agrees s meter tokens e b l h =
    let by : rule_in s ≡ ByContexts = ap rule_of e in
    expansion-alike s meter tokens (subst (λ (r : Rule). IsSpoken r Gnu) (sym by) tt)
    (λ d again m c cs. ap (λ rule. treated rule d again c m cs (case_of s c cs)) by) b l h
