-- The places of a call's arguments.
use Rattle.std.proofs.Common.{◌≡◌, ℕ, zero, suc, ◌<◌, true, List, [], ◌∷◌, map, take, drop, get_or, length, refl, sym, ap, ◌∙◌, arith}
use Rattle.std.proofs.Math.ListN.{set}
use Rattle.std.proofs.lemmas.List.{map-set, take-map, drop-map}
use Rattle.inc_token.specs.declared.lines.Token.{Token}
use Rattle.inc_expand.specs.declared.arguments.Slot.{Slot}
use Rattle.inc_expand.specs.declared.carried.Carried.{Carried}
use Rattle.inc_expand.specs.Arguments.{ArgumentValue}
use Rattle.inc_expand.specs.Carriers.{carried_of}
use Rattle.inc_expand.specs.Slots.{slot_value, slot_values, slot_written}

-- the argument at a place
pub slot-at : (inside : List Carried) (slots : List Slot) (i : ℕ) (x : Slot) (d : ArgumentValue) → i < length slots →
    x ≡ get_or slots i x →
    get_or (slot_values inside slots) i d ≡ slot_value inside x
slot-at inside [] i x d l is = absurd (omega (arith, l))
slot-at inside (s ∷ slots) i x d l is = by i l is
  where
    by : (i : ℕ) → i < length (s ∷ slots) → x ≡ get_or (s ∷ slots) i x → get_or (slot_values inside (s ∷ slots)) i d
        ≡ slot_value inside x
    by i l is = at (s ∷ slots) i l ∙ ap (slot_value inside) (sym is)
      where
        at : (ss : List Slot) (i : ℕ) → i < length ss → get_or (slot_values inside ss) i d ≡ slot_value inside
            (get_or ss i x)
        at [] i l = absurd (omega (arith, l))
        at (s ∷ ss) zero l = refl
        at (s ∷ ss) (suc i) l = at ss i (omega (arith, l))

-- one that is taken for what it expands to
pub slot-passes : (inside : List Carried) (slots : List Slot) (i : ℕ) (x : Slot) (d : ArgumentValue) →
    i < length slots → x ≡ get_or slots i x →
    slot_values inside (set slots i (record x { passes = true }))
    ≡ set (slot_values inside slots) i (record (get_or (slot_values inside slots) i d) {
      expanded =
          (get_or (slot_values inside slots) i d).written;
    })
slot-passes inside slots i x d l is =
    map-set (slot_value inside) slots i (record x { passes = true })
    ∙ ap (λ (a : ArgumentValue). set (slot_values inside slots) i (record a { expanded = a.written }))
    (sym (slot-at inside slots i x d l is))

-- one that was expanded
pub slot-expands : (inside : List Carried) (slots : List Slot) (i : ℕ) (x y : Slot) (d : ArgumentValue)
    (ts : List Carried) → i < length slots → x ≡ get_or slots i x →
    slot_value inside y ≡ record { written = slot_written inside x; expanded = ts; given = x.given } →
    slot_values inside (set slots i y) ≡ set (slot_values inside slots) i
    (record (get_or (slot_values inside slots) i d) { expanded = ts })
slot-expands inside slots i x y d ts l is e =
    map-set (slot_value inside) slots i y
    ∙ ap (set (slot_values inside slots) i) e
    ∙ ap (λ (a : ArgumentValue). set (slot_values inside slots) i (record a { expanded = ts }))
    (sym (slot-at inside slots i x d l is))

-- a part of the list that is handed in
pub source-part : (source : List Token) (begin len : ℕ) → map carried_of (take len (drop begin source)) ≡ take len
    (drop begin (map carried_of source))
source-part source begin len = sym (take-map carried_of len (drop begin source)) ∙ ap (take len)
    (sym (drop-map carried_of begin source))
