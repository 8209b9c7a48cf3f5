-- Tokens of a call that are taken to where its `)` is, one after the other.
use Rattle.std.proofs.Common.{◌≡◌, ℕ, ◌+◌, ◌<◌, ◌≤◌, List, [], ◌∷◌, ◌++◌, map, length, take, get_or, sym, ap, ap₂, subst, ◌∙◌}
use Rattle.std.proofs.lemmas.List.{map-append, take_all, take_more}
use Rattle.inc_expand.specs.declared.carried.Carried.{Carried}
use Rattle.inc_expand.specs.declared.rules.Rule.TheVariants.{ByContexts}
use Rattle.inc_expand.specs.Sets.{Sets, size, holds}
use Rattle.inc_expand.specs.Expansion.{Carrier, Names, hidden_at, taken}
use Rattle.inc_expand.specs.Carriers.{carrier, carriers, AreKnown}
use Rattle.inc_expand.proofs.CallSteps.{known-append}

module _ (s : Sets) (names : ℕ) (ts : List Carried) where
  abbrev pub moved_there : Carrier → Carrier
  moved_there t = record t { hidden = hidden_at ByContexts (holds s names) t }

  -- the tokens before a place
  abbrev pub taken_before : ℕ → List Carrier
  taken_before i = taken ByContexts (holds s names) (carriers s (take i ts))

  module _ (i : ℕ) (t : Carried) (set : ℕ) (l : i < length ts) (there : get_or ts i t ≡ t) (hides : holds s set ≡ hidden_at ByContexts (holds s names) (carrier s t)) where
    split : carriers s (take (i + 1) ts) ≡ carriers s (take i ts) ++ carrier s t ∷ []
    split = ap (carriers s) (take_more ts i t l ∙ ap (λ u. take i ts ++ u ∷ []) there) ∙ map-append (carrier s) (take i ts) (t ∷ [])

    taken-split : taken_before (i + 1) ≡ taken_before i ++ moved_there (carrier s t) ∷ []
    taken-split = ap (map moved_there) split ∙ map-append moved_there (carriers s (take i ts)) (carrier s t ∷ [])

    -- one that hides what it is to hide
    pub taken-next : set ≡ t.set → carriers s (take i ts) ≡ taken_before i → carriers s (take (i + 1) ts) ≡ taken_before (i + 1)
    taken-next same before =
        split ∙ ap₂ (λ (cs : List Carrier) (h : Names). cs ++ record (carrier s t) { hidden = h } ∷ []) before (sym (ap (holds s) same) ∙ hides) ∙ sym taken-split

    -- one that is copied
    pub copied-next : (all new : List Carried) → new ≡ all ++ record t { set = set } ∷ [] → carriers s all ≡ taken_before i → carriers s new ≡ taken_before (i + 1)
    copied-next all new is before =
        ap (carriers s) is ∙ map-append (carrier s) all (record t { set = set } ∷ [])
        ∙ ap₂ (λ (cs : List Carrier) (h : Names). cs ++ record (carrier s t) { hidden = h } ∷ []) before hides ∙ sym taken-split

    pub copied-known : (all new : List Carried) → new ≡ all ++ record t { set = set } ∷ [] → set < size s → AreKnown (size s) all → AreKnown (size s) new
    copied-known all new is k h = subst (AreKnown (size s)) (sym is) (known-append (size s) all (record t { set = set } ∷ []) h (k, tt))

  -- all of them
  pub taken-all : (i : ℕ) → length ts ≤ i → carriers s (take i ts) ≡ taken_before i → carriers s ts ≡ taken ByContexts (holds s names) (carriers s ts)
  taken-all i over h = subst (λ (us : List Carried). carriers s us ≡ taken ByContexts (holds s names) (carriers s us)) (take_all i ts over) h

  pub copied-all : (all : List Carried) (i : ℕ) → length ts ≤ i → carriers s all ≡ taken_before i → carriers s all ≡ taken ByContexts (holds s names) (carriers s ts)
  copied-all all i over h = h ∙ ap (λ us. taken ByContexts (holds s names) (carriers s us)) (take_all i ts over)
