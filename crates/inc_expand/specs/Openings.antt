-- Expansion of text of GNU C that goes on in later lines, with directives between (ISO/IEC 9899:2018, 6.10.3 paragraph 11, leaves open what these do), as
-- in gcc: what is before a call that is open at the end of the list is expanded, and the call waits for its other tokens, which are read when the
-- directives are obeyed. What was read of it is not looked at again but for its end.
use Rattle.std.specs.Prelude.{ℕ, zero, suc, ◌+◌, ◌-◌, Bool, true, false, List, [], ◌∷◌, ◌++◌, Result, Ok, Err, if◌then◌else◌, length, map, is_some, not}
use Rattle.inc_token.specs.declared.kinds.Kind.{Kind}
use Rattle.inc_token.specs.TokenLines.{Tok}
use Rattle.inc_macro.specs.Results.{◌>>=◌}
use Rattle.inc_expand.specs.declared.faults.ExpandFault.{ExpandFault}
use Rattle.inc_expand.specs.declared.faults.ExpandFault.TheVariants.{OverBudget}
use Rattle.inc_expand.specs.declared.rules.Rule.{Rule}
use Rattle.inc_expand.specs.Expansion.{Carrier, Case, Expander, IsCall, Item, Meter, Names, Passes, Surroundings, all_levels, call_behind, case_of, is_painted, item_of, levels, no_names, of_source, only, rule_in, treated}

---- tokens that wait

-- a token of a call that is open. The replacement that it was read from is over once later lines are read, so that it hides its own name alone,
-- if it was met in its own replacement
pub record Held : Type 0 where
  -- its class
  pub kind : Kind
  -- its bytes
  pub spelling : List ℕ
  -- the physical line that it counts on
  pub line : ℕ
  -- whether white space is before it
  pub space : Bool
  -- whether it hides its own name
  pub painted : Bool

-- what it hides
abbrev pub held_names : Held → Names
held_names h = if h.painted then only h.spelling else no_names

-- the token on its way again
abbrev pub of_held : Held → Carrier
of_held h = record { kind = h.kind; spelling = h.spelling; line = h.line; space = h.space; hidden = held_names h }

-- a token on its way that waits
abbrev pub held : Carrier → Held
held t = record { kind = t.kind; spelling = t.spelling; line = t.line; space = t.space; painted = is_painted t }

-- a token of the text that waits
abbrev pub held_source : Tok → Held
held_source t = record { kind = t.kind; spelling = t.spelling; line = t.line; space = t.space; painted = false }

---- expansion up to a call that is open

-- what a list gives that goes on: tokens, the call that is open at its end, and the meter before it
pub record Opened : Type 0 where
  pub given : List Carrier
  pub call : List Carrier
  pub meter : Meter

abbrev pub Opener : Type 0
Opener = Meter → List Carrier → Result Opened ExpandFault

-- nothing is left of the list
abbrev pub all_given : Meter → Opened
all_given meter = record { given = []; call = []; meter = meter }

-- a call waits with all that is behind its name
abbrev pub waits : Meter → List Carrier → Opened
waits meter ts = record { given = []; call = ts; meter = meter }

-- tokens that passed come first
abbrev pub given_behind : List Carrier → Result Opened ExpandFault → Result Opened ExpandFault
given_behind front r = r >>= λ o. Ok (record o { given = front ++ o.given })

-- the front token begins a call whose `)` is not in the list
abbrev pub is_open_call : Case → Bool
is_open_call (IsCall d p behind) = not (is_some (call_behind 0 behind))
is_open_call _ = false

-- a list as it is
abbrev pub as_it_is : Expander
as_it_is meter ts = Ok (ts, meter)

-- the front token is replaced, and again goes on
abbrev pub goes_on : Opener → Result (List Carrier × Meter) ExpandFault → Result Opened ExpandFault
goes_on again r = r >>= λ x. again x.1 x.0

-- the front token by its case
abbrev pub opened_by : Rule → Expander → Opener → Carrier → Meter → (rest : List Carrier) → Case → Result Opened ExpandFault
opened_by rule deeper again t meter _ (Passes front rest) = given_behind front (again meter rest)
opened_by rule deeper again t meter rest case =
    if is_open_call case then Ok (waits meter (t ∷ rest)) else goes_on again (treated rule deeper as_it_is t meter rest case)

-- a list, with so many steps
abbrev pub opened : Surroundings → Expander → ℕ → Opener
opened s deeper zero meter ts = Err OverBudget
opened s deeper (suc steps) meter [] = Ok (all_given meter)
opened s deeper (suc steps) meter (t ∷ ts) = opened_by (rule_in s) deeper (opened s deeper steps) t meter ts (case_of s t ts)

-- how many levels are above that of a list that is handed in
abbrev pub levels_above : ℕ
levels_above = all_levels - 1

-- tokens that wait, and those of later lines
abbrev pub carried_on : List Held → List Tok → List Carrier
carried_on waiting ts = map of_held waiting ++ map of_source ts

-- the items, the tokens that wait, and the meter after the items; or the first fault
abbrev pub opening : Surroundings → Meter → (waiting : List Held) → List Tok → Result (List Item × List Held × Meter) ExpandFault
opening s meter waiting ts =
    opened s (levels s levels_above) (length (carried_on waiting ts) + meter.units + 1) meter (carried_on waiting ts) >>= λ o.
    Ok (map item_of o.given, map held o.call, o.meter)
