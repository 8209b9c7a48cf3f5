-- What words for sources come to, one more at a time.
use Rattle.std.proofs.Common.{◌≡◌, ℕ, zero, suc, ◌+◌, ◌<◌, true, false, List, [], ◌∷◌, ◌++◌, length, drop, get_or, map, refl, sym, ap, subst, ◌∙◌, arith}
use Rattle.std.proofs.lemmas.Grind.{flat_map-append}
use Rattle.std.proofs.lemmas.List.{append-nil, drop_more, map-append}
use Rattle.std.specs.List.{list_any, range_with_len}
use Rattle.std.specs.Prelude.{◌==◌, flat_map}
use Rattle.inc_build.specs.declared.builds.Use.{Use}
use Rattle.inc_globs.specs.Globs.{Piece}
use Rattle.inc_inputs.specs.BuildProjects.{Chosen, Ground, each_once, entries_in, with_fit, with_fitting, with_use}

-- a source of the build
pub fit_more : (g : Ground) (files : List (List ℕ)) (glob : List Piece) (n : ℕ) (sources : List (List ℕ)) (old new : Chosen) → n < length sources
    → new ≡ with_fit g files glob n (get_or sources n []) old
    → with_fitting g files glob (n + 1) (drop (n + 1) sources) new ≡ with_fitting g files glob n (drop n sources) old
fit_more g files glob n sources old new low is =
    let e : n + 1 ≡ suc n = omega arith in
    ap (λ (c : Chosen). with_fitting g files glob (n + 1) (drop (n + 1) sources) c) is
    ∙ ap (λ (k : ℕ). with_fitting g files glob k (drop (n + 1) sources) (with_fit g files glob n (get_or sources n []) old)) e
    ∙ ap (λ (ss : List (List ℕ)). with_fitting g files glob n ss old) (sym (drop_more sources n [] low))

pub range_more : (a n : ℕ) → range_with_len a (suc n) ≡ range_with_len a n ++ (a + n) ∷ []
range_more a zero = let e : a ≡ a + 0 = omega arith in ap (λ (k : ℕ). k ∷ []) e
range_more a (suc n) =
    let e : a + 1 + n ≡ a + suc n = omega arith in
    ap (λ (ks : List ℕ). a ∷ ks) (range_more (a + 1) n ∙ ap (λ (k : ℕ). range_with_len (a + 1) n ++ k ∷ []) e)

-- the entries of one more source
pub uses_more : (h : ℕ → List Use) (n : ℕ) → flat_map h (range_with_len 0 n) ++ h n ≡ flat_map h (range_with_len 0 (n + 1))
uses_more h n =
    let e : suc n ≡ n + 1 = omega arith in
    let z : 0 + n ≡ n = omega arith in
    ap (λ (us : List Use). flat_map h (range_with_len 0 n) ++ us) (sym (append-nil (h n)))
    ∙ sym (flat_map-append h (range_with_len 0 n) (n ∷ []))
    ∙ ap (flat_map h) (sym (range_more 0 n ∙ ap (λ (k : ℕ). range_with_len 0 n ++ k ∷ []) z))
    ∙ ap (λ (k : ℕ). flat_map h (range_with_len 0 k)) e

---- entries, each once

pub use_known : (u : Use) (old : List Use) (known : List ℕ) → known ≡ entries_in old → list_any (λ n. u.entry == n) known ≡ true → old ≡ with_use u old
use_known u old known are there =
    let is : list_any (λ n. u.entry == n) (entries_in old) ≡ true = subst (λ (ns : List ℕ). list_any (λ n. u.entry == n) ns ≡ true) are there in
    rw is refl

pub use_new : (u : Use) (old new : List Use) (known : List ℕ) → known ≡ entries_in old → list_any (λ n. u.entry == n) known ≡ false → new ≡ old ++ u ∷ [] → new ≡ with_use u old
use_new u old new known are absent pushed =
    let is : list_any (λ n. u.entry == n) (entries_in old) ≡ false = subst (λ (ns : List ℕ). list_any (λ n. u.entry == n) ns ≡ false) are absent in
    rw (is, pushed) refl

pub entries_more : (u : Use) (old new : List Use) (known more : List ℕ) → known ≡ entries_in old → more ≡ known ++ u.entry ∷ [] → new ≡ old ++ u ∷ [] → more ≡ entries_in new
entries_more u old new known more are added pushed =
    added ∙ ap (λ (ns : List ℕ). ns ++ u.entry ∷ []) are ∙ sym (ap entries_in pushed ∙ map-append (λ (v : Use). v.entry) old (u ∷ []))

pub once_more : (us : List Use) (at : ℕ) (u : Use) (old new : List Use) → at < length us → new ≡ with_use (get_or us at u) old
    → each_once new (drop (at + 1) us) ≡ each_once old (drop at us)
once_more us at u old new low made =
    ap (λ (ns : List Use). each_once ns (drop (at + 1) us)) made
    ∙ sym (ap (each_once old) (drop_more us at u low))
