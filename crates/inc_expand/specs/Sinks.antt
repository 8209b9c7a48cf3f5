-- Tokens that are handed on, one after the other.
use Rattle.std.specs.Prelude.{◌≡◌, Bool, true, false, List, [], ◌∷◌, Ok, Err}
use Rattle.inc_token.specs.TokenLines.{Tok}
use Rattle.inc_expand.specs.declared.faults.ExpandFault.{ExpandFault}
use Rattle.inc_expand.specs.declared.carried.Carried.{Carried}
use Rattle.inc_expand.specs.declared.sinks.ItemRef.{ItemRef}
use Rattle.inc_expand.specs.Carriers.{bytes_in}
use Rattle.inc_expand.specs.Expansion.{Item, Meter, Surroundings, expansion, item_of, of_source}

abbrev pub seen_ref : ItemRef → Item
seen_ref i = record { kind = i.kind; spelling = i.bytes.now; line = i.line; space = i.space }

-- a token of the source as one of the result
abbrev pub item_of_source : Tok → Item
item_of_source t = item_of (of_source t)

-- these tokens were taken, one after the other; first: the first of them is the first of all
abbrev pub Taken : {S : Type 0} → (S → Bool → Item → S → Type 0) → Bool → S → List Item → S → Type 0
Taken takes first old [] new = old ≡ new
Taken {S} takes first old (i ∷ is) new = (s : S) × takes old first i s × Taken takes false s is new

-- the expansion of a list was handed on
pub record IsExpandedInto {S : Type 0} (takes : S → Bool → Item → S → Type 0) (s : Surroundings) (tokens : List Tok) (meter left : Meter) (old new : S) : Type 0 where
  pub items : List Item
  pub taken : Taken takes true old items new
  pub same : expansion s meter tokens ≡ Ok (items, left)

-- the expansion of a list has this fault; some tokens were handed on before
pub record IsStoppedInto {S : Type 0} (takes : S → Bool → Item → S → Type 0) (s : Surroundings) (tokens : List Tok) (meter : Meter) (old new : S) (fault : ExpandFault) : Type 0 where
  pub items : List Item
  pub taken : Taken takes true old items new
  pub same : expansion s meter tokens ≡ Err fault

-- a token on the way as one of the result
abbrev pub carried_item : Carried → Item
carried_item t = record { kind = t.kind; spelling = bytes_in t.text; line = t.line; space = t.space }

-- whether nothing was handed on
abbrev pub is_none : {A : Type 0} → List A → Bool
is_none [] = true
is_none (a ∷ as') = false
