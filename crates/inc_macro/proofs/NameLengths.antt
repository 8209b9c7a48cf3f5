-- Names of other lengths than those of a list.
use Rattle.std.proofs.Common.{◌≡◌, ◌≢◌, ◌==◌, ◌||◌, ℕ, Bool, true, false, List, [], ◌∷◌, length, ap, ap₂, refl, sym, ◌∙◌}
use Rattle.std.specs.Prelude.{⊤}
use Rattle.std.proofs.lemmas.Bool.{eqb-false, false_from_ne_true}
use Rattle.std.proofs.lemmas.Slice.Eq.{bytes_eq-Decides}
use Rattle.inc_text.specs.declared.languages.Language.{Language}
use Rattle.inc_text.specs.declared.languages.Language.TheVariants.{C17, Extended, Gnu}
use Rattle.inc_macro.specs.Macros.{is_among, predefined_names}

abbrev pub AreOther : ℕ → List (List ℕ) → Type 0
AreOther n [] = ⊤
AreOther n (k ∷ ks) = (n ≢ length k) × AreOther n ks

pub none-among : (name : List ℕ) (ks : List (List ℕ)) → AreOther (length name) ks → is_among name ks ≡ false
none-among name [] h = refl
none-among name (k ∷ ks) h =
    ap₂ (λ (a b : Bool). a || b) (false_from_ne_true _ (λ e. h.0 (ap length ((bytes_eq-Decides name k).0 e)))) (none-among name ks h.1)

-- none of the lengths of predefined names
abbrev pub IsOther : ℕ → Type 0
IsOther n = (n ≢ 8) × (n ≢ 11) × (n ≢ 13) × (n ≢ 15) × (n ≢ 16) × (n ≢ 17)

-- where one of two tests fails, both do
neither : (x y : Bool) → (x || y) ≡ false → (x ≡ false) × (y ≡ false)
neither false y e = (refl, e)
neither true y e = cc

pub no-length : (n : ℕ) (b : Bool) → b ≡ ((n == 8) || ((n == 11) || ((n == 13) || ((n == 15) || ((n == 16) || (n == 17)))))) → b ≡ false → IsOther n
no-length n b is none =
    let a = neither (n == 8) ((n == 11) || ((n == 13) || ((n == 15) || ((n == 16) || (n == 17))))) (sym is ∙ none) in
    let c = neither (n == 11) ((n == 13) || ((n == 15) || ((n == 16) || (n == 17)))) a.1 in
    let d = neither (n == 13) ((n == 15) || ((n == 16) || (n == 17))) c.1 in
    let e = neither (n == 15) ((n == 16) || (n == 17)) d.1 in
    let f = neither (n == 16) (n == 17) e.1 in
    (eqb-false _ _ a.0, eqb-false _ _ c.0, eqb-false _ _ d.0, eqb-false _ _ e.0, eqb-false _ _ f.0, eqb-false _ _ f.1)

-- no predefined name has another length
pub other-length : (language : Language) (name : List ℕ) → IsOther (length name) → is_among name (predefined_names language) ≡ false
other-length C17 name none = none-among name (predefined_names C17) (none.0, (none.0, (none.0, (none.0, (none.0, (none.3, (none.4, tt)))))))
other-length Extended name none = none-among name (predefined_names Extended) (none.0, (none.0, (none.0, (none.0, (none.0, (none.3, (none.4, tt)))))))
other-length Gnu name none =
    none-among name (predefined_names Gnu) (none.0, (none.0, (none.0, (none.0, (none.2, (none.5, (none.2, (none.1, tt))))))))
