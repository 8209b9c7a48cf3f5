-- Words that may be missing.
use Rattle.std.proofs.Common.{◌≡◌, ◌∙◌, ℕ, List, Option, Some, None, Bor, ap, option_map}
use Rattle.std.specs.Prelude.{unwrap_or}

-- a word, or what stands in its place
pub named_or : (o : Option (Bor (List ℕ))) (r d : Bor (List ℕ)) (x : List ℕ) → r ≡ unwrap_or o d → d.now ≡ x → r.now ≡ unwrap_or (option_map (λ n. n.now) o) x
named_or None r d x e missing = ap (λ (b : Bor (List ℕ)). b.now) e ∙ missing
named_or (Some n) r d x e missing = ap (λ (b : Bor (List ℕ)). b.now) e
