-- No list of tokens is refused for want of memory: the definitions know none.
use Rattle.std.proofs.Common.{ℕ, zero, suc, ◌+◌, ◌==◌, Bool, true, false, List, [], ◌∷◌, ◌++◌, Option, Some, None, Result, Ok, Err, drop, length, map, nat_lt}
use Rattle.std.specs.Prelude.{◌≢◌, IfErr, if◌then◌else◌}
use Rattle.inc_macro.specs.Macros.{Definition, Params, parameter_names}
use Rattle.inc_macro.specs.Results.{◌>>=◌}
use Rattle.inc_token.specs.declared.kinds.Kind.{Kind}
use Rattle.inc_token.specs.declared.kinds.Kind.TheVariants.{Str}
use Rattle.inc_token.specs.TokenLines.{Tok}
use Rattle.inc_token.specs.Spellings.{class_of}
use Rattle.inc_expand.specs.declared.faults.ExpandFault.{ExpandFault}
use Rattle.inc_expand.specs.declared.faults.ExpandFault.TheVariants.{ArgumentCount, BadString, TokenTooLong, OverBudget, NoMemory}
use Rattle.inc_expand.specs.declared.rules.Rule.{Rule}
use Rattle.inc_expand.specs.declared.rules.Rule.TheVariants.{ByContexts}
use Rattle.inc_expand.specs.Elements.{Element, Word, Glue, Silent, StringOf, AsWritten, Expanded, Comma, Optional, Kept, Empty, Made, elements_of}
use Rattle.inc_expand.specs.Expansion.{Expander, Carrier, Surroundings, Case, Passes, IsPredefined, IsObject, IsCall, Call, Argument, Part, Piece, Paste, Meter, union, only, intersection, no_names, in_quotes, spaced, spelled, longest_made, fits, is_str, string_of, kind_or_bad, made_kind, pasted_token, argument_at, parts_of, all_parts, pasted, paste_from, chosen, goes_with, has_tokens, inside, joined, standing, stands, substituted, replacing, bound, unexpanded, filled_up, arguments, is_expanded_in, expanded_argument, expanded_arguments, replaced, called, treated, level, levels, all_levels, call_behind, case_of, of_source, expansion, counted, spent, spoken, text_of, rule_in, taken}
use Rattle.inc_expand.specs.Openings.{Held, Opener, all_given, as_it_is, carried_on, goes_on, is_open_call, levels_above, opened, opened_by, opening, waits}
use Rattle.inc_text.specs.declared.languages.Language.TheVariants.{C17}

abbrev Has : {A : Type 0} → Result A ExpandFault → Type 0
Has r = IfErr r (λ fault. fault ≢ NoMemory)

then_has : {A B : Type 0} (r : Result A ExpandFault) (f : A → Result B ExpandFault) → Has r → ((a : A) → Has (f a)) → Has (r >>= f)
then_has (Ok a) f h k = k a
then_has (Err fault) f h k = h

if_has : {A : Type 0} (b : Bool) (r s : Result A ExpandFault) → Has r → Has s → Has (if b then r else s)
if_has true r s h k = h
if_has false r s h k = k

---- substitution

fits_has : (text : List ℕ) → Has (fits text)
fits_has text = if_has (nat_lt longest_made (length text)) (Err TokenTooLong) (Ok text) (λ e. cc) tt

string_has : (space : Bool) (written : List Carrier) → Has (string_of space written)
string_has space written =
    then_has (fits (in_quotes (spelled (spaced false written)))) _ (fits_has (in_quotes (spelled (spaced false written)))) (λ text.
    if_has (is_str (class_of C17 text)) (Ok (record { kind = Str; spelling = text; line = 0; space = space; hidden = no_names })) (Err BadString) tt (λ e. cc))

kind_has : (kind : Option Kind) → Has (kind_or_bad kind)
kind_has None = λ e. cc
kind_has (Some kind) = tt

pasted_token_has : (rule : Rule) (a b : Carrier) → Has (pasted_token rule a b)
pasted_token_has rule a b =
    then_has (made_kind rule (a.spelling ++ b.spelling)) _
    (then_has (fits (a.spelling ++ b.spelling)) _ (fits_has (a.spelling ++ b.spelling)) (λ t. kind_has (class_of (spoken rule) t)))
    (λ kind. tt)

parts_have : (args : List Argument) (e : Element) → Has (parts_of args e)
parts_have args (Word b) = tt
parts_have args Glue = tt
parts_have args Silent = tt
parts_have args (StringOf space n) = then_has (string_of space (argument_at args n).written) _ (string_has space (argument_at args n).written) (λ t. tt)
parts_have args (AsWritten space n) = tt
parts_have args (Expanded space n) = tt
parts_have args (Comma b n) = tt
parts_have args (Optional hash n) = tt
parts_have args (Kept space n) = tt
parts_have args Empty = tt
parts_have args (Made space text) = tt

all_have : (args : List Argument) (es : List Element) → Has (all_parts args es)
all_have args [] = tt
all_have args (e ∷ es) = then_has (parts_of args e) _ (parts_have args e) (λ ps. then_has (all_parts args es) _ (all_have args es) (λ rest. tt))

pasted_has : (rule : Rule) (a b : Option Carrier) → Has (pasted rule a b)
pasted_has rule None b = tt
pasted_has rule (Some a) None = tt
pasted_has rule (Some a) (Some b) = then_has (pasted_token rule a b) _ (pasted_token_has rule a b) (λ t. tt)

paste_has : (rule : Rule) (joins : Bool) (p : Option Carrier) (ps : List Part) → Has (paste_from rule joins p ps)
paste_has rule joins p [] = tt
paste_has rule joins p (Paste ∷ rest) = paste_has rule true p rest
paste_has rule false p (Piece q ∷ rest) = then_has (paste_from rule false q rest) _ (paste_has rule false q rest) (λ ts. tt)
paste_has rule true p (Piece q ∷ rest) = then_has (pasted rule p q) _ (pasted_has rule p q) (λ r. paste_has rule false r rest)

joined_has : (rule : Rule) (args : List Argument) (es : List Element) → Has (joined rule args es)
joined_has rule args es = then_has (all_parts args es) _ (all_have args es) (λ ps. paste_has rule false None ps)

standing_has : (args : List Argument) (hash : Option Bool) (es : List Element) → Has (standing args hash es)
standing_has args None es = tt
standing_has args (Some space) es = then_has (joined ByContexts args es) _ (joined_has ByContexts args es) (λ ts. then_has (string_of space ts) _ (string_has space ts) (λ t. tt))

stands_has : (args : List Argument) (e : Element) (es : List Element) → Has (stands args e es)
stands_has args (Word b) es = tt
stands_has args Glue es = tt
stands_has args Silent es = tt
stands_has args (StringOf space n) es = tt
stands_has args (AsWritten space n) es = tt
stands_has args (Expanded space n) es = tt
stands_has args (Comma b n) es = tt
stands_has args (Optional hash n) es = standing_has args hash (if has_tokens args n then inside 0 (drop 1 es) else [])
stands_has args (Kept space n) es = tt
stands_has args Empty es = tt
stands_has args (Made space text) es = tt

chosen_has : (args : List Argument) (skip : ℕ) (es : List Element) → Has (chosen args skip es)
chosen_has args skip [] = tt
chosen_has args (suc k) (e ∷ es) = chosen_has args k es
chosen_has args zero (e ∷ es) =
    let rest = chosen_has args (goes_with e es) es in
    then_has (stands args e es) _ (stands_has args e es) (λ cs. then_has (chosen args (goes_with e es) es) _ rest (λ more. tt))

substituted_has : (rule : Rule) (args : List Argument) (es : List Element) → Has (substituted rule args es)
substituted_has rule args es = then_has (chosen args 0 es) _ (chosen_has args 0 es) (λ cs. joined_has rule args cs)

---- lists

-- what an expander gives
unfoldable Gives : Expander → Type 0
Gives d = (meter : Meter) (ts : List Carrier) → Has (d meter ts)

bound_has : (p : Params) (inside : List Carrier) → Has (bound p inside)
bound_has p inside =
    let args : List Argument = filled_up p (map unexpanded (arguments p inside)) in
    if_has (length args == length (parameter_names (Some p))) (Ok args) (Err ArgumentCount) tt (λ e. cc)

argument_has : (d : Expander) (es : List Element) (meter : Meter) (n : ℕ) (a : Argument) → Gives d → Has (expanded_argument d es meter n a)
unfolding Gives
argument_has d es meter n a h = go (is_expanded_in es n)
  where
    go : (b : Bool) → Has (elim b as (λ _. Result (Argument × Meter) ExpandFault) [ true ↦ d meter a.written >>= (λ e. Ok (record a { expanded = e.0 }, e.1)) | false ↦ Ok (a, meter) ])
    go true = then_has (d meter a.written) _ (h meter a.written) (λ e. tt)
    go false = tt

arguments_have : (d : Expander) (es : List Element) (meter : Meter) (n : ℕ) (as' : List Argument) → Gives d → Has (expanded_arguments d es meter n as')
arguments_have d es meter n [] h = tt
arguments_have d es meter n (a ∷ as') h =
    then_has (expanded_argument d es meter n a) _ (argument_has d es meter n a h) (λ e.
    then_has (expanded_arguments d es e.1 (suc n) as') _ (arguments_have d es e.1 (suc n) as' h) (λ rest. tt))

replaced_has : (again : Expander) (meter : Meter) (new rest : List Carrier) → Gives again → Has (replaced again meter new rest)
unfolding Gives
replaced_has again meter new rest h = go (nat_lt meter.units (1 + length new))
  where
    go : (t : Bool) → Has (elim t as (λ _. Result (List Carrier × Meter) ExpandFault) [ true ↦ Err OverBudget | false ↦ again (spent (1 + length new) meter) (new ++ rest) ])
    go true = λ e. cc
    go false = h (spent (1 + length new) meter) (new ++ rest)

called_has : (rule : Rule) (d again : Expander) (t : Carrier) (meter : Meter) (m : Definition) (p : Params) (c : Option Call) → Gives d → Gives again → Has (called rule d again t meter m p c)
called_has rule d again t meter m p None h k = λ e. cc
called_has rule d again t meter m p (Some c) h k =
    then_has (bound p (taken rule c.close.hidden c.inside)) _ (bound_has p (taken rule c.close.hidden c.inside)) (λ args.
    then_has (expanded_arguments d (elements_of m) meter 0 args) _ (arguments_have d (elements_of m) meter 0 args h) (λ e.
    then_has (substituted rule e.0 (elements_of m)) _ (substituted_has rule e.0 (elements_of m)) (λ new.
    replaced_has again e.1 (replacing rule t (union (only m.name) (intersection t.hidden c.close.hidden)) new) c.rest k)))

treated_has : (rule : Rule) (d again : Expander) (t : Carrier) (meter : Meter) (rest : List Carrier) (c : Case) → Gives d → Gives again → Has (treated rule d again t meter rest c)
unfolding Gives
treated_has rule d again t meter ts (Passes front rest) h k = then_has (again meter rest) _ (k meter rest) (λ r. tt)
treated_has rule d again t meter ts (IsPredefined kind content) h k =
    replaced_has again (counted content meter) (record t { kind = kind; spelling = text_of meter content; hidden = union (only t.spelling) t.hidden } ∷ []) ts k
treated_has rule d again t meter ts (IsObject m) h k =
    then_has (substituted rule [] (elements_of m)) _ (substituted_has rule [] (elements_of m)) (λ new.
    replaced_has again meter (replacing rule t (union (only m.name) t.hidden) new) ts k)
treated_has rule d again t meter ts (IsCall m p behind) h k = called_has rule d again t meter m p (call_behind 0 behind) h k

level_has : (s : Surroundings) (d : Expander) → Gives d → (steps : ℕ) → Gives (level s d steps)
unfolding Gives
level_has s d h zero meter ts = λ e. cc
level_has s d h (suc steps) meter [] = tt
level_has s d h (suc steps) meter (t ∷ ts) = treated_has (rule_in s) d (level s d steps) t meter ts (case_of s t ts) h (level_has s d h steps)

levels_have : (s : Surroundings) (n : ℕ) → Gives (levels s n)
unfolding Gives
levels_have s zero meter ts = λ e. cc
levels_have s (suc n) meter ts = level_has s (levels s n) (levels_have s n) (length ts + meter.units + 1) meter ts

pub expansion_has : (s : Surroundings) (meter : Meter) (tokens : List Tok) → Has (expansion s meter tokens)
unfolding Gives
expansion_has s meter tokens = then_has (levels s all_levels meter (map of_source tokens)) _ (levels_have s all_levels meter (map of_source tokens)) (λ r. tt)

---- lists that go on in later lines

unfoldable Opens : Opener → Type 0
Opens again = (meter : Meter) (ts : List Carrier) → Has (again meter ts)

as_it_is_gives : Gives as_it_is
unfolding Gives
as_it_is_gives meter ts = tt

goes_on_has : (again : Opener) (r : Result (List Carrier × Meter) ExpandFault) → Opens again → Has r → Has (goes_on again r)
unfolding Opens
goes_on_has again r h k = then_has r _ k (λ x. h x.1 x.0)

opened_by_has : (rule : Rule) (d : Expander) (again : Opener) (t : Carrier) (meter : Meter) (rest : List Carrier) (c : Case) → Gives d → Opens again → Has (opened_by rule d again t meter rest c)
unfolding Opens
opened_by_has rule d again t meter ts (Passes front rest) h k = then_has (again meter rest) _ (k meter rest) (λ o. tt)
opened_by_has rule d again t meter ts (IsPredefined kind content) h k =
    goes_on_has again (treated rule d as_it_is t meter ts (IsPredefined kind content)) k (treated_has rule d as_it_is t meter ts (IsPredefined kind content) h as_it_is_gives)
opened_by_has rule d again t meter ts (IsObject m) h k =
    goes_on_has again (treated rule d as_it_is t meter ts (IsObject m)) k (treated_has rule d as_it_is t meter ts (IsObject m) h as_it_is_gives)
opened_by_has rule d again t meter ts (IsCall m p behind) h k =
    if_has (is_open_call (IsCall m p behind)) (Ok (waits meter (t ∷ ts))) (goes_on again (treated rule d as_it_is t meter ts (IsCall m p behind))) tt
    (goes_on_has again (treated rule d as_it_is t meter ts (IsCall m p behind)) k (treated_has rule d as_it_is t meter ts (IsCall m p behind) h as_it_is_gives))

opened_has : (s : Surroundings) (d : Expander) → Gives d → (steps : ℕ) → Opens (opened s d steps)
unfolding Opens
opened_has s d h zero meter ts = λ e. cc
opened_has s d h (suc steps) meter [] = tt
opened_has s d h (suc steps) meter (t ∷ ts) = opened_by_has (rule_in s) d (opened s d steps) t meter ts (case_of s t ts) h (opened_has s d h steps)

pub opening_has : (s : Surroundings) (meter : Meter) (waiting : List Held) (tokens : List Tok) → Has (opening s meter waiting tokens)
unfolding Opens
opening_has s meter waiting tokens =
    let all : List Carrier = carried_on waiting tokens in
    let n : ℕ = length all + meter.units + 1 in
    then_has (opened s (levels s levels_above) n meter all) _ (opened_has s (levels s levels_above) (levels_have s levels_above) n meter all) (λ o. tt)
