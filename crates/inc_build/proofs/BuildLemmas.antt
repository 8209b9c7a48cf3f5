-- A build with one more entry.
use Rattle.std.proofs.Common.{◌≡◌, ℕ, zero, suc, ◌<◌, ◌≤◌, List, [], ◌∷◌, ◌++◌, length, get_or, map, slice_set, refl, sym, ap, ◌∙◌, arith}
use Rattle.std.specs.Prelude.{Vec}
use Rattle.std.specs.Global.{Global}
use Rattle.std.proofs.lemmas.List.{map-append}
use Rattle.inc_build.specs.Builds.{Build, added, put_use, with_entry}
use Rattle.inc_build.specs.CompilerWords.{items}
use Rattle.inc_build.specs.Configurations.{Row, configuration}
use Rattle.inc_build.specs.Entries.{Entry}
use Rattle.inc_build.specs.Paths.{path_from}
use Rattle.inc_build.specs.Views.{seen_uses}
use Rattle.inc_build.specs.declared.builds.Use.{Use}

-- one more of a source that is there
pub put_there : (xs : List (Vec Use Global)) (n : ℕ) (u : Use) (v d : Vec Use Global) → n < length xs → v.items ≡ (get_or xs n d).items ++ u ∷ [] → map seen_uses (slice_set xs n v) ≡ put_use n u (map seen_uses xs)
put_there [] n u v d low is = absurd (omega (arith, low))
put_there (x ∷ xs) zero u v d low is = ap (λ us. us ∷ map seen_uses xs) is
put_there (x ∷ xs) (suc n) u v d low is = ap (λ uss. x.items ∷ uss) (put_there xs n u v d (omega (arith, low)) is)

pub put_last : (xs : List (List Use)) (n : ℕ) (u : Use) → length xs ≤ n → put_use n u xs ≡ xs ++ (u ∷ []) ∷ []
put_last [] n u high = refl
put_last (x ∷ xs) zero u high = absurd (omega (arith, high))
put_last (x ∷ xs) (suc n) u high = ap (λ uss. x ∷ uss) (put_last xs n u (omega (arith, high)))

length-seen : (xs : List (Vec Use Global)) → length (map seen_uses xs) ≡ length xs
length-seen [] = refl
length-seen (x ∷ xs) = ap suc (length-seen xs)

-- the first of the next source
pub put_behind : (xs ys : List (Vec Use Global)) (n : ℕ) (u : Use) (v : Vec Use Global) → length xs ≤ n → ys ≡ xs ++ v ∷ [] → v.items ≡ u ∷ [] → map seen_uses ys ≡ put_use n u (map seen_uses xs)
put_behind xs ys n u v high pushed is =
    ap (map seen_uses) pushed ∙ map-append seen_uses xs (v ∷ []) ∙ ap (λ us. map seen_uses xs ++ us ∷ []) is
    ∙ sym (put_last (map seen_uses xs) n u (rw (length-seen xs) high))

-- an entry, step by step
pub entry_added : (base : List ℕ) (number : ℕ) (e : Entry) (b : Build) (directory source : List ℕ) (rows : List Row)
    → directory ≡ path_from base e.directory → source ≡ path_from directory e.file → rows ≡ configuration directory (items e.words)
    → added number source rows b ≡ with_entry base number e b
entry_added base number e b directory source rows at from by =
    rw (by, from, at) refl
