-- Macro expansion of GNU C in gcc's words (6.10.3.4 paragraph 2): a name is not replaced while its own replacement is read, and never again where it is met
-- in there. So the end of each replacement stays in the list of tokens. `Expansion.antt` goes by what tokens hide, as the program does; it is a law
-- that both give the same. What they share: arguments, `#`, `##`, the cases of the front token, work units and levels.
use Rattle.std.specs.Prelude.{ℕ, zero, suc, ◌+◌, ◌-◌, ◌==◌, ◌&&◌, ◌||◌, Bool, true, false, List, [], ◌∷◌, ◌++◌, Option, Some, None, Result, Ok, Err, if◌then◌else◌, length, map, nat_lt, option_map}
use Rattle.inc_token.specs.TokenLines.{Tok}
use Rattle.inc_macro.specs.Results.{◌>>=◌}
use Rattle.inc_macro.specs.Macros.{Params, Definition, is_identifier_kind}
use Rattle.inc_expand.specs.declared.faults.ExpandFault.{ExpandFault}
use Rattle.inc_expand.specs.declared.faults.ExpandFault.TheVariants.{UnclosedCall, OverBudget}
use Rattle.inc_expand.specs.declared.rules.Rule.TheVariants.{ByContexts}
use Rattle.inc_expand.specs.Elements.{elements_of}
use Rattle.inc_expand.specs.Expansion.{Carrier, Case, IsCall, IsObject, IsPredefined, Item, Meter, Names, Passes, Surroundings, all_levels, bound, case_of, counted, depth_after, expanded_arguments, is_close, is_painted, item_of, no_names, of_source, only, spaced, spent, substituted, text_of, union}

-- an entry of a list: a token, or the end of the replacement of the macro with this name
pub data Entry : Type 0 where
  Of : Carrier → Entry
  End : List ℕ → Entry

abbrev pub entries : List Carrier → List Entry
entries ts = map Of ts

-- the names whose replacement is being read: its end is in the rest of the list
abbrev pub open_in : List Entry → Names
open_in [] = no_names
open_in (Of t ∷ es) = open_in es
open_in (End name ∷ es) = union (only name) (open_in es)

-- a painted token hides its own name, and another one none
abbrev pub marked : (painted : Bool) → Carrier → Carrier
marked painted t = record t { hidden = if painted then only t.spelling else no_names }

-- a token as it is read before the rest: painted where it names a replacement that is being read, and for good
abbrev pub as_read : Carrier → List Entry → Carrier
as_read t es = marked (is_painted t || (is_identifier_kind t.kind && open_in es t.spelling)) t

-- the next token, and what is behind it. An end goes when the token behind it is asked for, not before
abbrev pub next : List Entry → Option (Carrier × List Entry)
next [] = None
next (Of t ∷ es) = Some (as_read t es, es)
next (End name ∷ es) = next es

-- the tokens, each as it is read
abbrev pub read_in : List Entry → List Carrier
read_in [] = []
read_in (Of t ∷ es) = as_read t es ∷ read_in es
read_in (End name ∷ es) = read_in es

-- the list behind so many tokens
abbrev pub behind_tokens : ℕ → List Entry → List Entry
behind_tokens zero es = es
behind_tokens (suc n) [] = []
behind_tokens (suc n) (Of t ∷ es) = behind_tokens n es
behind_tokens (suc n) (End name ∷ es) = behind_tokens (suc n) es

-- the ends
abbrev pub ends_in : List Entry → List Entry
ends_in [] = []
ends_in (Of t ∷ es) = ends_in es
ends_in (End name ∷ es) = End name ∷ ends_in es

-- a call after its `(`: what is inside, as it is read, and the list behind the matching `)`
pub record Taken : Type 0 where
  pub inside : List Carrier
  pub rest : List Entry

abbrev pub taken_from : (deep : ℕ) → List Entry → Option Taken
taken_from deep [] = None
taken_from deep (End name ∷ es) = taken_from deep es
taken_from deep (Of t ∷ es) =
    let more = option_map (λ (c : Taken). record c { inside = as_read t es ∷ c.inside }) (taken_from (depth_after deep t) es) in
    if is_close t && (deep == 0) then Some (record { inside = []; rest = es }) else more

-- what a list gives with this meter
abbrev pub Reader : Type 0
Reader = Meter → List Entry → Result (List Carrier × Meter) ExpandFault

-- a replacement and its end are before the rest
abbrev pub put_back : Reader → Meter → (name : List ℕ) → (new : List Carrier) → List Entry → Result (List Carrier × Meter) ExpandFault
put_back again meter name new es =
    elim (nat_lt meter.units (1 + length new)) [ true ↦ Err OverBudget | false ↦ again (spent (1 + length new) meter) (entries new ++ End name ∷ es) ]

-- as what replaces t: the first token spaced as t, each on its line
abbrev pub standing_for : Carrier → List Carrier → List Carrier
standing_for t ts = spaced t.space (map (λ (p : Carrier). record p { line = t.line }) ts)

-- an argument by itself: the replacements around it are still being read
abbrev pub alone : Reader → List Entry → Meter → List Carrier → Result (List Carrier × Meter) ExpandFault
alone deeper rest meter ts = deeper meter (entries ts ++ ends_in rest)

abbrev pub call_read : Reader → Reader → Carrier → Meter → Definition → Params → Option Taken → Result (List Carrier × Meter) ExpandFault
call_read deeper again t meter d p None = Err UnclosedCall
call_read deeper again t meter d p (Some c) =
    bound p c.inside >>= λ args.
    expanded_arguments (alone deeper c.rest) (elements_of d) meter 0 args >>= λ e.
    substituted ByContexts e.0 (elements_of d) >>= λ new.
    put_back again e.1 d.name (standing_for t new) c.rest

-- the next token by its case; again goes on with the list behind it
abbrev pub case_read : Reader → Reader → Carrier → Meter → List Entry → Case → Result (List Carrier × Meter) ExpandFault
case_read deeper again t meter es (Passes front rest) = again meter (behind_tokens (length front - 1) es) >>= λ r. Ok (front ++ r.0, r.1)
case_read deeper again t meter es (IsPredefined kind content) =
    put_back again (counted content meter) t.spelling (record t { kind = kind; spelling = text_of meter content; hidden = no_names } ∷ []) es
case_read deeper again t meter es (IsObject d) =
    substituted ByContexts [] (elements_of d) >>= λ new. put_back again meter d.name (standing_for t new) es
case_read deeper again t meter es (IsCall d p behind) = call_read deeper again t meter d p (taken_from 0 (behind_tokens 1 es))

abbrev pub token_read : Surroundings → Reader → Reader → Meter → Option (Carrier × List Entry) → Result (List Carrier × Meter) ExpandFault
token_read s deeper again meter None = Ok ([], meter)
token_read s deeper again meter (Some x) = case_read deeper again x.0 meter x.1 (case_of s x.0 (read_in x.1))

-- one level, with so many steps
abbrev pub level_read : Surroundings → Reader → ℕ → Reader
level_read s deeper zero meter es = Err OverBudget
level_read s deeper (suc steps) meter es = token_read s deeper (level_read s deeper steps) meter (next es)

-- so many levels
abbrev pub levels_read : Surroundings → ℕ → Reader
levels_read s zero meter es = Err OverBudget
levels_read s (suc n) meter es = level_read s (levels_read s n) (length (read_in es) + meter.units + 1) meter es

-- the expansion of a list: its items and the meter after it, or the first fault
abbrev pub expansion_read : Surroundings → (meter : Meter) → List Tok → Result (List Item × Meter) ExpandFault
expansion_read s meter ts = levels_read s all_levels meter (entries (map of_source ts)) >>= λ r. Ok (map item_of r.0, r.1)
