-- The build of a compiler's command, a word at a time.
use Rattle.std.proofs.Common.{◌≡◌, ℕ, ◌+◌, ◌<◌, true, false, List, [], ◌∷◌, ◌++◌, length, drop, get_or, map, refl, sym, ap, subst, ◌∙◌}
use Rattle.std.proofs.lemmas.List.{drop_more, map-append}
use Rattle.inc_build.specs.Builds.{Build, is_named, with_name}
use Rattle.inc_build.specs.CompilerCommands.{built, only_use, only_uses, source_with, sources_with}
use Rattle.inc_build.specs.CompilerWords.{Item}
use Rattle.inc_build.specs.Configurations.{Row}
use Rattle.inc_build.specs.declared.builds.Use.{Use}

-- a source that is not there
pub path_new : (rows : List Row) (sources : List (List ℕ)) (path : List ℕ) (b : Build) (ts : List (List ℕ)) (cs : List (List Row)) (ss : List (List ℕ)) (us : List (List Use))
    → b ≡ built rows sources → is_named path b.sources ≡ false
    → ts ≡ b.texts → cs ≡ b.configurations → ss ≡ with_name path b.sources → us ≡ b.uses ++ (only_use ∷ []) ∷ []
    → (let x : Build = record { texts = ts; configurations = cs; sources = ss; uses = us } in x) ≡ built rows (with_name path sources)
path_new rows sources path b ts cs ss us is absent t c s u =
    let none : is_named path sources ≡ false = subst (λ (x : Build). is_named path x.sources ≡ false) is absent in
    let name : with_name path sources ≡ sources ++ path ∷ [] = rw none refl in
    rw (t, c, s, u, is, name, map-append only_uses sources (path ∷ [])) refl

-- one that is
pub path_known : (rows : List Row) (sources : List (List ℕ)) (path : List ℕ) (b : Build) (ts : List (List ℕ)) (cs : List (List Row)) (ss : List (List ℕ)) (us : List (List Use))
    → b ≡ built rows sources → is_named path b.sources ≡ true
    → ts ≡ b.texts → cs ≡ b.configurations → ss ≡ with_name path b.sources → us ≡ b.uses
    → (let x : Build = record { texts = ts; configurations = cs; sources = ss; uses = us } in x) ≡ built rows (with_name path sources)
path_known rows sources path b ts cs ss us is there t c s u =
    let some : is_named path sources ≡ true = subst (λ (x : Build). is_named path x.sources ≡ true) is there in
    let name : with_name path sources ≡ sources = rw some refl in
    rw (t, c, s, u, is, name) refl

-- one more item
pub item_added : {X : Type 0} (f : X → Item) (directory : List ℕ) (rows : List Row) (items : List X) (at : ℕ) (x : X) (old : List (List ℕ)) (b : Build) → at < length items
    → b ≡ built rows (source_with directory (f (get_or items at x)) old)
    → (b ≡ built rows b.sources) × (sources_with directory (map f (drop (at + 1) items)) b.sources ≡ sources_with directory (map f (drop at items)) old)
item_added {X} f directory rows items at x old b low added =
    let named : b.sources ≡ source_with directory (f (get_or items at x)) old = ap (λ (y : Build). y.sources) added in (
      added ∙ ap (built rows) (sym named),
      ap (λ (ss : List (List ℕ)). sources_with directory (map f (drop (at + 1) items)) ss) named
          ∙ sym (ap (λ (xs : List X). sources_with directory (map f xs) old) (drop_more items at x low)),
    )
