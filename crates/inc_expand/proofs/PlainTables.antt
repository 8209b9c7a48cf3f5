-- Where no macro takes arguments, and no body has `#` or `##`, both rules hide the same names.
use Rattle.std.proofs.Common.{◌≡◌, ℕ, ◌&&◌, ◌||◌, not, Bool, true, false, List, [], ◌∷◌, ◌++◌, Option, Some, None, Result, Ok, Err, map, take, drop, refl, sym, ap, ap₂, subst, ◌∙◌}
use Rattle.std.specs.Prelude.{if◌then◌else◌, ⊤}
use Rattle.std.specs.List.{list_all}
use Rattle.std.proofs.Math.Path.{fun_ext}
use Rattle.inc_text.specs.declared.languages.Language.{Language}
use Rattle.inc_text.specs.declared.languages.Language.TheVariants.{C17, Extended, Gnu}
use Rattle.inc_token.specs.declared.kinds.Kind.{Kind}
use Rattle.inc_token.specs.TokenLines.{Tok}
use Rattle.inc_token.specs.TokenLaws.{is_spelled}
use Rattle.inc_macro.specs.Results.{◌>>=◌}
use Rattle.inc_macro.specs.Macros.{Definition, Params, definition_of, is_identifier_kind}
use Rattle.inc_expand.specs.declared.faults.ExpandFault.{ExpandFault}
use Rattle.inc_expand.specs.declared.rules.Rule.{Rule}
use Rattle.inc_expand.specs.declared.rules.Rule.TheVariants.{BySets, ByContexts}
use Rattle.inc_expand.specs.Elements.{Element, Word, Glue, Silent, StringOf, AsWritten, Expanded, Comma, Optional, Kept, Empty, Made, elements_of}
use Rattle.inc_expand.specs.Expansion.{Carrier, Case, Content, Expander, IsCall, IsObject, IsPredefined, Item, Meter, Names, Passes, Surroundings, case_of, expansion, function_case, hidden_at, is_asking, is_painted, macro_case, name_case, no_names, of_body, only, predefined, replaced, replacing, rule_in, rule_of, spaced, substituted, taken_count, treated, union}
use Rattle.inc_expand.specs.Contexts.{expansion_read}
use Rattle.inc_expand.specs.Plain.{ArePlain, plain_tokens}
use Rattle.inc_expand.specs.PlainTables.{HasPlainMacros}
use Rattle.inc_expand.specs.SpelledItems.{HasSpelledBodies, HasLiterals}
use Rattle.inc_expand.proofs.ContextsAgree.{IsAlike, expansion-alike}
use Rattle.inc_expand.proofs.PlainSteps.{plain-substituted}
use Rattle.inc_expand.proofs.SpelledParts.{IsSpoken}

---- names that are hidden where a token goes that hides none

gone-nowhere : (names : Names) → union names no_names ≡ names
gone-nowhere names = fun_ext (λ n. or_none (names n))
  where
    or_none : (b : Bool) → (b || false) ≡ b
    or_none true = refl
    or_none false = refl

unpainted : (i : Bool) (names : Names) → (if i && false then no_names else names) ≡ names
unpainted true names = refl
unpainted false names = refl

-- a token with these names hidden, by each rule
hidden-alike : (names : Names) (t : Carrier) → t.hidden ≡ no_names → hidden_at BySets names t ≡ hidden_at ByContexts names t
hidden-alike names t none =
    ap (union names) none ∙ gone-nowhere names ∙ sym (unpainted (is_identifier_kind t.kind) names)
    ∙ ap (λ (h : Names). if is_identifier_kind t.kind && h t.spelling then h else names) (sym none)

---- bodies

-- none of these tokens hides a name
abbrev HideNone : List Carrier → Type 0
HideNone [] = ⊤
HideNone (t ∷ ts) = (t.hidden ≡ no_names) × HideNone ts

none-after : (ts us : List Carrier) → HideNone ts → HideNone us → HideNone (ts ++ us)
none-after [] us h k = k
none-after (t ∷ ts) us h k = (h.0, none-after ts us h.1 k)

body-hides : (es : List Element) → HideNone (plain_tokens [] es)
body-hides [] = tt
body-hides (Word b ∷ es) = (refl, body-hides es)
body-hides (Expanded space n ∷ es) = body-hides es
body-hides (Glue ∷ es) = body-hides es
body-hides (Silent ∷ es) = body-hides es
body-hides (StringOf space n ∷ es) = body-hides es
body-hides (AsWritten space n ∷ es) = body-hides es
body-hides (Comma b n ∷ es) = body-hides es
body-hides (Optional hash n ∷ es) = body-hides es
body-hides (Kept space n ∷ es) = body-hides es
body-hides (Empty ∷ es) = body-hides es
body-hides (Made space text ∷ es) = body-hides es

moved-alike : (line : ℕ) (names : Names) (ts : List Carrier) → HideNone ts →
    map (λ (p : Carrier). record p { line = line; hidden = hidden_at BySets names p }) ts ≡ map (λ (p : Carrier). record p { line = line; hidden = hidden_at ByContexts names p }) ts
moved-alike line names [] h = refl
moved-alike line names (t ∷ ts) h =
    ap₂ (λ (n : Names) (us : List Carrier). record t { line = line; hidden = n } ∷ us) (hidden-alike names t h.0) (moved-alike line names ts h.1)

replacing-alike : (t : Carrier) (names : Names) (ts : List Carrier) → HideNone ts → replacing BySets t names ts ≡ replacing ByContexts t names ts
replacing-alike t names ts h = ap (spaced t.space) (moved-alike t.line names ts h)

-- a body replaces by both rules alike
object-alike : (again : Expander) (meter : Meter) (t : Carrier) (names : Names) (rest : List Carrier) (es : List Element) → ArePlain es →
    (substituted BySets [] es >>= λ new. replaced again meter (replacing BySets t names new) rest) ≡ (substituted ByContexts [] es >>= λ new. replaced again meter (replacing ByContexts t names new) rest)
object-alike again meter t names rest es plain =
    ap (λ r. r >>= λ new. replaced again meter (replacing BySets t names new) rest) (plain-substituted BySets [] es plain)
    ∙ ap (λ new. replaced again meter new rest) (replacing-alike t names (plain_tokens [] es) (body-hides es))
    ∙ sym (ap (λ r. r >>= λ new. replaced again meter (replacing ByContexts t names new) rest) (plain-substituted ByContexts [] es plain))

---- the cases of a token

-- no call, and no other body
abbrev IsPlainCase : Case → Type 0
IsPlainCase (Passes front rest) = ⊤
IsPlainCase (IsPredefined kind content) = ⊤
IsPlainCase (IsObject d) = ArePlain (elements_of d)
IsPlainCase (IsCall d p behind) = ⊥

object-plain : (c : Carrier) (cs : List Carrier) (d : Definition) (params : Option Params) → params ≡ None → ArePlain (elements_of d) →
    IsPlainCase (elim params as (λ _. Case) [ None ↦ IsObject d | Some p ↦ function_case d p c cs ])
object-plain c cs d None h plain = plain
object-plain c cs d (Some p) h plain = cc

macro-plain : (s : Surroundings) (c : Carrier) (cs : List Carrier) → HasPlainMacros s.table → (o : Option Definition) → definition_of c.spelling s.table ≡ o → IsPlainCase (macro_case c cs o)
macro-plain s c cs has None is = tt
macro-plain s c cs has (Some d) is = let h = has c.spelling d is in object-plain c cs d d.params h.0 h.1

name-plain : (s : Surroundings) (c : Carrier) (cs : List Carrier) → HasPlainMacros s.table → (p : Option (List ℕ × Kind × Content)) → IsPlainCase (name_case s c cs p)
name-plain s c cs has (Some p) = tt
name-plain s c cs has None = macro-plain s c cs has (definition_of c.spelling s.table) refl

case-plain : (s : Surroundings) (c : Carrier) (cs : List Carrier) → HasPlainMacros s.table → IsPlainCase (case_of s c cs)
case-plain s c cs has = go (is_asking s.mode s.table.language c) (not (is_identifier_kind c.kind) || c.hidden c.spelling)
  where
    go : (a b : Bool) →
        IsPlainCase (if a then Passes (c ∷ take (taken_count c.spelling cs) cs) (drop (taken_count c.spelling cs) cs) else if b then Passes (c ∷ []) cs else name_case s c cs (predefined s c.line c.spelling))
    go true b = tt
    go false true = tt
    go false false = name-plain s c cs has (predefined s c.line c.spelling)

by-sets : (d again : Expander) (meter : Meter) (c : Carrier) (cs : List Carrier) (k : Case) → IsPlainCase k → treated BySets d again c meter cs k ≡ treated ByContexts d again c meter cs k
by-sets d again meter c cs (Passes front rest) h = refl
by-sets d again meter c cs (IsPredefined kind content) h = refl
by-sets d again meter c cs (IsObject m) h = object-alike again meter c (union (only m.name) c.hidden) cs (elements_of m) h
by-sets d again meter c cs (IsCall m p behind) h = absurd h

by-rule : (rule : Rule) (d again : Expander) (meter : Meter) (c : Carrier) (cs : List Carrier) (k : Case) → IsPlainCase k → treated rule d again c meter cs k ≡ treated ByContexts d again c meter cs k
by-rule BySets d again meter c cs k h = by-sets d again meter c cs k h
by-rule ByContexts d again meter c cs k h = refl

---- expansions

plain-alike : (s : Surroundings) → HasPlainMacros s.table → IsAlike s
plain-alike s has d again meter c cs = by-rule (rule_in s) d again meter c cs (case_of s c cs) (case-plain s c cs has)

spoken : (language : Language) → IsSpoken (rule_of language) Gnu
spoken C17 = tt
spoken Extended = tt
spoken Gnu = tt

pub plain-agrees : (s : Surroundings) (meter : Meter) (tokens : List Tok) → HasPlainMacros s.table → HasSpelledBodies Gnu s.table → HasLiterals s.place → list_all (is_spelled Gnu) tokens ≡ true →
    expansion s meter tokens ≡ expansion_read s meter tokens
plain-agrees s meter tokens has b l h = expansion-alike s meter tokens (spoken s.table.language) (plain-alike s has) b l h
