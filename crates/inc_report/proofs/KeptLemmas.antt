-- What was read by sources that keep what they give, and what they kept of it.
use Rattle.std.proofs.Common.{◌≡◌, ◌≢◌, ◌⊎◌, inl, inr, ℕ, zero, suc, ◌<◌, Bool, true, false, ◌==◌, List, [], ◌∷◌, Option, Some, None, Result, length, set, get_or, refl, sym, ap, ◌∙◌, subst, is_some, length-set, arith, cond, option_map}
use Rattle.std.specs.Prelude.{find, replicate}
use Rattle.std.specs.List.{list_any}
use Rattle.std.proofs.lemmas.Bool.{or_cases, or_parts, eqb-true, eqb-false}
use Rattle.std.proofs.lemmas.List.{get_or-set_same, get_or-set_other, length-replicate}
use Rattle.std.proofs.lemmas.List.Elements.{All-head, All-tail}
use Rattle.inc_text.specs.declared.devices.ReadFault.{ReadFault}
use Rattle.inc_lookup.specs.Given.{Given, Gave, Agrees, HoldsOfGiven}
use Rattle.inc_lookup.specs.Projects.{Layout, Listing, layout_of, bytes_at}
use Rattle.inc_answers.specs.DefinitionPlaces.{given_bytes}
use Rattle.inc_answers.specs.KeptFiles.{Kept, kept_at, Fits, keeps}
use Rattle.inc_answers.specs.declared.kept_sources.KeptSources.{KeptSources}
use Rattle.inc_answers.proofs.InnerSources as inner

---- the files that are kept

kept_by : (kept : Kept) (i : ℕ) → kept_at kept i ≡ get_or kept i None
kept_by [] i = refl
kept_by (k ∷ ks) zero = refl
kept_by (k ∷ ks) (suc i) = kept_by ks i

kept-same : (kept : Kept) (file : ℕ) (bytes : List ℕ) → file < length kept → kept_at (set kept file (Some bytes)) file ≡ Some bytes
kept-same kept file bytes low = kept_by (set kept file (Some bytes)) file ∙ get_or-set_same kept file (Some bytes) None low

kept-other : (kept : Kept) (file i : ℕ) (bytes : List ℕ) → i ≢ file → kept_at (set kept file (Some bytes)) i ≡ kept_at kept i
kept-other kept file i bytes ne = kept_by (set kept file (Some bytes)) i ∙ get_or-set_other kept file i (Some bytes) None ne ∙ sym (kept_by kept i)

-- past the list nothing is kept
kept-past : (kept : Kept) (i : ℕ) (bytes : List ℕ) → kept_at kept i ≡ Some bytes → i < length kept
kept-past [] i bytes is = cc
kept-past (k ∷ ks) zero bytes is = omega arith
kept-past (k ∷ ks) (suc i) bytes is = let low = kept-past ks i bytes is in omega arith

same_bytes : (a b : List ℕ) → Some a ≡ Some b → a ≡ b
same_bytes a b is = cc

unread_none : (n i : ℕ) (bytes : List ℕ) → kept_at (replicate n None) i ≡ Some bytes → ⊥
unread_none zero i bytes is = cc
unread_none (suc n) zero bytes is = cc
unread_none (suc n) (suc i) bytes is = unread_none n i bytes is

pub kept_none : (n i : ℕ) → kept_at (replicate n None) i ≡ None
kept_none zero i = refl
kept_none (suc n) zero = refl
kept_none (suc n) (suc i) = kept_none n i

-- where nothing is kept every listing fits
pub fits_unread : (kept : Kept) (n : ℕ) (listing : Listing) → kept ≡ replicate n None → Fits kept listing
fits_unread kept n listing is = λ file bytes there. absurd (unread_none n file bytes (ap (λ (k : Kept). kept_at k file) (sym is) ∙ there))

fits_when : (b : Bool) (kept : Kept) (listing : Listing) (file i : ℕ) (given bytes : List ℕ) → (i == file) ≡ b → Fits kept listing → bytes_at listing file ≡ given
    → kept_at (set kept file (Some given)) i ≡ Some bytes → bytes_at listing i ≡ bytes
fits_when true kept listing file i given bytes is fits agrees there =
    let same : i ≡ file = eqb-true i file is in
    let low : i < length kept = rw (length-set kept file (Some given)) at (kept-past (set kept file (Some given)) i bytes there) in
    let here = kept-same kept file given (omega (arith, low, same)) in
    let found : kept_at (set kept file (Some given)) file ≡ Some bytes = subst (λ k. kept_at (set kept file (Some given)) k ≡ Some bytes) same there in
    ap (bytes_at listing) same ∙ agrees ∙ same_bytes given bytes (sym here ∙ found)
fits_when false kept listing file i given bytes is fits agrees there =
    fits i bytes (sym (kept-other kept file i given (eqb-false i file is)) ∙ there)

fits_set : (kept new : Kept) (listing : Listing) (g : Given) → new ≡ set kept g.file (Some g.bytes) → Fits kept listing → bytes_at listing g.file ≡ g.bytes → Fits new listing
fits_set kept new listing g is fits agrees = λ i bytes there.
    fits_when (i == g.file) kept listing g.file i g.bytes bytes refl fits agrees (ap (λ (k : Kept). kept_at k i) (sym is) ∙ there)

---- what was given is what was given to them

module _ {S : Type 0} (gives : S → ℕ → Result (List ℕ) ReadFault → S → Type 0) where
  -- listings that agree with what was given fit what was kept
  pub fits_given : (old new : KeptSources S) (given : List Given) (listing : Listing) → Gave (keeps gives) old given new → Agrees given listing
      → Fits old.files listing → Fits new.files listing
  fits_given old new [] listing h agrees fits = subst (λ (k : KeptSources S). Fits k.files listing) h fits
  fits_given old new (g ∷ gs) listing h agrees fits =
      fits_set h.0.files new.files listing g h.2.1
      (fits_given old h.0 gs listing h.1 (All-tail (λ (x : Given). bytes_at listing x.file ≡ x.bytes) g gs agrees) fits)
      (All-head (λ (x : Given). bytes_at listing x.file ≡ x.bytes) g gs agrees)

  -- of a file that was not given the same is kept
  pub kept_ungiven : (old new : KeptSources S) (given : List Given) (file : ℕ) → Gave (keeps gives) old given new → list_any (λ (g : Given). g.file == file) given ≡ false
      → kept_at new.files file ≡ kept_at old.files file
  kept_ungiven old new [] file h none = ap (λ (k : KeptSources S). kept_at k.files file) (sym h)
  kept_ungiven old new (g ∷ gs) file h none =
      let parts = or_parts (g.file == file) (list_any (λ (x : Given). x.file == file) gs) none in
      ap (λ (k : Kept). kept_at k file) h.2.1 ∙ kept-other h.0.files g.file file g.bytes (λ e. eqb-false g.file file parts.0 (sym e)) ∙ kept_ungiven old h.0 gs file h.1 parts.1

  pub kept_long : (old new : KeptSources S) (given : List Given) → Gave (keeps gives) old given new → length new.files ≡ length old.files
  kept_long old new [] h = ap (λ (k : KeptSources S). length k.files) (sym h)
  kept_long old new (g ∷ gs) h = ap (λ (k : Kept). length k) h.2.1 ∙ length-set h.0.files g.file (Some g.bytes) ∙ kept_long old h.0 gs h.1

  stays_kept : (kept new : Kept) (file i : ℕ) (bytes : List ℕ) → new ≡ set kept file (Some bytes) → i < length kept → ((file == i) ≡ true) ⊎ (is_some (kept_at kept i) ≡ true)
      → is_some (kept_at new i) ≡ true
  stays_kept kept new file i bytes is low found =
      by_file (i == file) refl
    where
      at : kept_at new i ≡ kept_at (set kept file (Some bytes)) i
      at = ap (λ (k : Kept). kept_at k i) is

      by_file : (b : Bool) → (i == file) ≡ b → is_some (kept_at new i) ≡ true
      by_file true same =
          let e : i ≡ file = eqb-true i file same in
          ap (λ (o : Option (List ℕ)). is_some o) (at ∙ ap (λ k. kept_at (set kept file (Some bytes)) k) e ∙ kept-same kept file bytes (omega (arith, low, e)))
      by_file false other =
          elim found [
            | inl here ↦ absurd (eqb-false i file other (sym (eqb-true file i here)))
            | inr before ↦ ap (λ (o : Option (List ℕ)). is_some o) (at ∙ kept-other kept file i bytes (eqb-false i file other)) ∙ before
          ]

  -- what was given is kept
  pub kept_given : (old new : KeptSources S) (given : List Given) (file : ℕ) → Gave (keeps gives) old given new → file < length old.files
      → list_any (λ (g : Given). g.file == file) given ≡ true → is_some (kept_at new.files file) ≡ true
  kept_given old new [] file h low there = cc
  kept_given old new (g ∷ gs) file h low there =
      let long = kept_long old h.0 gs h.1 in
      stays_kept h.0.files new.files g.file file g.bytes h.2.1 (omega (arith, long, low))
      (elim (or_cases (g.file == file) (list_any (λ (x : Given). x.file == file) gs) there) [
        | inl here ↦ inl here
        | inr before ↦ inr (kept_given old h.0 gs file h.1 low before)
      ])

  -- of each file the latest is
  pub kept_is_given : (old new : KeptSources S) (given : List Given) (n file : ℕ) → Gave (keeps gives) old given new → old.files ≡ replicate n None → file < n
      → kept_at new.files file ≡ given_bytes given file
  kept_is_given old new [] n file h none low = ap (λ (k : KeptSources S). kept_at k.files file) (sym h) ∙ ap (λ (k : Kept). kept_at k file) none ∙ kept_none n file
  kept_is_given old new (g ∷ gs) n file h none low =
      ap (λ (k : Kept). kept_at k file) h.2.1 ∙ by (g.file == file) refl (kept_is_given old h.0 gs n file h.1 none low)
    where
      nothing : Option (List ℕ)
      nothing = None

      by : (b : Bool) → (g.file == file) ≡ b → kept_at h.0.files file ≡ given_bytes gs file
          → kept_at (set h.0.files g.file (Some g.bytes)) file ≡ option_map (λ (x : Given). x.bytes) (cond b (Some g) (find (λ (x : Given). x.file == file) gs))
      by true same before =
          let e : g.file ≡ file = eqb-true g.file file same in
          let long = kept_long old h.0 gs h.1 in
          let count : length old.files ≡ n = ap (λ (k : Kept). length k) none ∙ length-replicate n nothing in
          ap (λ k. kept_at (set h.0.files g.file (Some g.bytes)) k) (sym e) ∙ kept-same h.0.files g.file g.bytes (omega (arith, long, low, e, count))
      by false other before = kept-other h.0.files g.file file g.bytes (λ e. eqb-false g.file file other (sym e)) ∙ before

  -- what holds of the listings that agree with what was given
  pub holds_inner : (old new : KeptSources S) (layout : Layout) (P Q : List Given → Listing → Type 0) → HoldsOfGiven (keeps gives) old new layout P
      → ((given : List Given) (listing : Listing) → Gave (keeps gives) old given new → layout_of listing ≡ layout → Agrees given listing → P given listing → Q given listing)
      → HoldsOfGiven gives old.sources new.sources layout Q
  holds_inner = inner.holds_inner gives (keeps gives) (λ (s : KeptSources S). s.sources) (λ old file bytes new h. h.0)
