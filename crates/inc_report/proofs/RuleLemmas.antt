-- Names in rules for make, from their ends.
use Rattle.std.proofs.Common.{◌≡◌, ℕ, ◌+◌, ◌-◌, ◌<◌, ◌≤◌, false, List, [], ◌∷◌, length, drop, get_or, refl, ap, ◌∙◌, arith}
use Rattle.std.proofs.lemmas.List.{drop_more}
use Rattle.std.proofs.Math.Seq.{drop-length}
use Rattle.inc_report.specs.MakeRules.{escaped, leads_to_blank}

-- nothing is behind the end
pub none_behind : (name : List ℕ) → ([] ≡ escaped (drop (length name) name)) × (false ≡ leads_to_blank (drop (length name) name))
none_behind name = rw (drop-length name) (refl, refl)

-- one byte more, which is read before the place e
pub behind : (name : List ℕ) (e d : ℕ) → 0 < e → e ≤ length name → drop (e - 1) name ≡ get_or name (e - 1) d ∷ drop e name
behind name e d more within =
    let next : e - 1 + 1 ≡ e = omega (arith, more) in
    drop_more name (e - 1) d (omega (arith, more, within)) ∙ ap (λ (n : ℕ). get_or name (e - 1) d ∷ drop n name) next
