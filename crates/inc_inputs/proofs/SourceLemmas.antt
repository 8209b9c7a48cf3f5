-- Sources of a build, one more at a time, and their lists of include paths.
use Rattle.std.proofs.Common.{◌≡◌, ℕ, zero, suc, ◌+◌, ◌<◌, List, [], ◌∷◌, ◌++◌, length, drop, get_or, map, slice_set, sym, ap, ◌∙◌, arith}
use Rattle.std.specs.Prelude.{Some, Vec}
use Rattle.std.specs.Global.{Global}
use Rattle.std.proofs.lemmas.List.{append_assoc, drop_more}
use Rattle.inc_inputs.specs.BuildPlaces.{with_more}
use Rattle.inc_inputs.specs.BuildProjects.{BuildSource, Ground, build_source, build_sources}

pub source_more : (g : Ground) (used : List ℕ) (n : ℕ) (sources : List (List ℕ)) (old new : List BuildSource) → n < length sources
    → new ≡ old ++ build_source g used n (get_or sources n []) ∷ []
    → new ++ build_sources g used (n + 1) (drop (n + 1) sources) ≡ old ++ build_sources g used n (drop n sources)
source_more g used n sources old new low is =
    let e : n + 1 ≡ suc n = omega arith in
    let rest : List BuildSource = build_sources g used (n + 1) (drop (n + 1) sources) in
    ap (λ (ss : List BuildSource). ss ++ rest) is
    ∙ append_assoc old (build_source g used n (get_or sources n []) ∷ []) rest
    ∙ ap (λ (k : ℕ). old ++ build_source g used n (get_or sources n []) ∷ build_sources g used k (drop (n + 1) sources)) e
    ∙ ap (λ (ss : List (List ℕ)). old ++ build_sources g used n ss) (sym (drop_more sources n [] low))

-- the list at a place with more behind
pub more_there : (xs : List (Vec ℕ Global)) (n : ℕ) (more : List ℕ) (v d : Vec ℕ Global) → n < length xs → v.items ≡ (get_or xs n d).items ++ more
    → map (λ l. l.items) (slice_set xs n v) ≡ with_more (map (λ l. l.items) xs) (Some n) more
more_there [] n more v d low is = absurd (omega (arith, low))
more_there (x ∷ xs) zero more v d low is = ap (λ us. us ∷ map (λ l. l.items) xs) is
more_there (x ∷ xs) (suc n) more v d low is = ap (λ uss. x.items ∷ uss) (more_there xs n more v d (omega (arith, low)) is)
