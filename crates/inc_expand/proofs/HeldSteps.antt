-- Tokens that wait, put before a list and taken from one.
use Rattle.std.proofs.Common.{◌≡◌, ℕ, zero, suc, ◌+◌, ◌-◌, ◌<◌, ◌≤◌, Bool, List, [], ◌∷◌, ◌++◌, map, length, drop, get_or, ap, ap₂, sym, refl, ◌∙◌, subst, arith, append_assoc}
use Rattle.std.proofs.Math.Path.{fun_ext}
use Rattle.std.proofs.lemmas.List.{append-nil, drop_all, map-append}
use Rattle.inc_expand.specs.declared.carried.Bytes.TheVariants.{Source}
use Rattle.inc_expand.specs.declared.carried.Carried.{Carried}
use Rattle.inc_expand.specs.declared.held.Held.{Held as HeldValue}
use Rattle.inc_expand.specs.declared.held.HeldRef.{HeldRef}
use Rattle.inc_expand.specs.declared.items.Item.{Item as ItemValue}
use Rattle.inc_expand.specs.Sets.{Sets, size, holds, Keeps}
use Rattle.inc_expand.specs.Expansion.{Carrier, Item, Names, is_painted, item_of}
use Rattle.inc_expand.specs.Carriers.{carrier, carriers, AreKnown}
use Rattle.inc_expand.specs.HeldTokens.{seen_held, seen_ref}
use Rattle.inc_expand.specs.Items.{seen_item}
use Rattle.inc_expand.specs.Openings.{Held, held, held_names, of_held}
use Rattle.inc_expand.proofs.CallSteps.{drop-at}
use Rattle.inc_expand.proofs.JoinSteps.{same-carriers, known-wider}

---- put before a list

module _ (u v : Sets) (keeps : Keeps u v) (h : HeldRef) (set : ℕ) (list new : List Carried) (known : AreKnown (size u) list)
    (is : new ≡ record { text = Source h.spelling; line = h.line; set = set; kind = h.kind; space = h.space } ∷ list) where
  pub pushed-list : ((n : List ℕ) → holds v set n ≡ held_names (seen_ref h) n) → carriers v new ≡ of_held (seen_ref h) ∷ carriers u list
  pushed-list members =
      ap (carriers v) is
      ∙ ap₂ (λ (names : Names) (cs : List Carrier). record { kind = h.kind; spelling = h.spelling.now; line = h.line; space = h.space; hidden = names } ∷ cs)
      (fun_ext members) (same-carriers u v keeps list known)

  pub pushed-known : set < size v → AreKnown (size v) new
  pushed-known l = subst (AreKnown (size v)) (sym is) (l, known-wider (size u) (size v) keeps.more list known)

-- all of them, the last one first
module _ (tokens : List HeldRef) (base : List Carrier) (at : ℕ) (d : HeldRef) (some : 0 < at) (within : at ≤ length tokens) where
  pub held-before : (cs ds : List Carrier) → cs ≡ map of_held (map seen_ref (drop at tokens)) ++ base → ds ≡ of_held (seen_ref (get_or tokens (at - 1) d)) ∷ cs
      → ds ≡ map of_held (map seen_ref (drop (at - 1) tokens)) ++ base
  held-before cs ds behind is =
      is ∙ ap (λ ts. of_held (seen_ref (get_or tokens (at - 1) d)) ∷ ts) behind
      ∙ sym (ap (λ hs. map of_held (map seen_ref hs) ++ base) (drop-at tokens (at - 1) d (omega (arith, some, within)) ∙ ap (λ n. get_or tokens (at - 1) d ∷ drop n tokens) next))
    where
      next : at - 1 + 1 ≡ at
      next = omega (arith, some)

-- none of them yet, and all
pub held-none : (tokens : List HeldRef) (base : List Carrier) (at : ℕ) → length tokens ≤ at → base ≡ map of_held (map seen_ref (drop at tokens)) ++ base
held-none tokens base at l = sym (ap (λ hs. map of_held (map seen_ref hs) ++ base) (drop_all at tokens l))

pub held-all : (tokens : List HeldRef) (base : List Carrier) (at : ℕ) → at ≤ 0 → map of_held (map seen_ref (drop at tokens)) ++ base ≡ map of_held (map seen_ref tokens) ++ base
held-all tokens base zero l = refl
held-all tokens base (suc n) l = absurd (omega (arith, l))

---- taken from one

pub held-begun : (s : Sets) (all : List HeldValue) (list : List Carried) → all ≡ [] → map seen_held all ++ map held (carriers s list) ≡ map held (carriers s list)
held-begun s all list none = ap (λ hs. map seen_held hs ++ map held (carriers s list)) none

-- one more
pub held-more : (s : Sets) (all more : List HeldValue) (it : HeldValue) (t : Carried) (list rest : List Carried) (whole : List Held) → list ≡ t ∷ rest → more ≡ all ++ it ∷ [] → seen_held it ≡ held (carrier s t)
    → map seen_held all ++ map held (carriers s list) ≡ whole → map seen_held more ++ map held (carriers s rest) ≡ whole
held-more s all more it t list rest whole popped pushed is so_far =
    ap (λ hs. map seen_held hs ++ map held (carriers s rest)) pushed
    ∙ ap (λ hs. hs ++ map held (carriers s rest)) (map-append seen_held all (it ∷ []))
    ∙ append_assoc (map seen_held all) (seen_held it ∷ []) (map held (carriers s rest))
    ∙ ap (λ h. map seen_held all ++ (h ∷ map held (carriers s rest))) is
    ∙ sym (ap (λ ts. map seen_held all ++ map held (carriers s ts)) popped)
    ∙ so_far

-- all
pub held-done : (s : Sets) (all : List HeldValue) (list : List Carried) (whole : List Held) → list ≡ [] → map seen_held all ++ map held (carriers s list) ≡ whole → map seen_held all ≡ whole
held-done s all list whole none so_far =
    sym (append-nil (map seen_held all)) ∙ sym (ap (λ ts. map seen_held all ++ map held (carriers s ts)) none) ∙ so_far

pub held-is : (i : ItemValue) (painted : Bool) (t : Carrier) → seen_item i ≡ item_of t → painted ≡ is_painted t → seen_held (record { item = i; painted = painted }) ≡ held t
held-is i painted t item paint =
    ap (λ (x : Item). record { kind = x.kind; spelling = x.spelling; line = x.line; space = x.space; painted = painted }) item
    ∙ ap (λ (b : Bool). record { kind = t.kind; spelling = t.spelling; line = t.line; space = t.space; painted = b }) paint
