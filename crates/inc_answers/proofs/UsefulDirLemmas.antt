-- Directories with which names are found.
use Rattle.std.proofs.Common.{◌≡◌, ◌∙◌, ◌+◌, ◌<◌, ℕ, suc, List, [], ◌∷◌, Some, drop, get_or, inl, inr, length, refl, ap, bytes_eq, sym}
use Rattle.std.proofs.lemmas.Bool.{cases_Bool}
use Rattle.std.proofs.lemmas.List.{drop_more}
use Rattle.std.proofs.lemmas.Option.{slice_get-get_or}
use Rattle.std.specs.Map.{lookup}
use Rattle.std.specs.Prelude.{slice_get, unwrap_or}
use Rattle.indexmap.specs.IndexMap.{insert_entry}
use Rattle.inc_lookup.specs.Projects.{Layout, path_at}
use Rattle.inc_answers.specs.UsefulDirs.{Best, best_of, with_best, with_dir, with_file, with_files}
use Rattle.inc_answers.proofs.NoteLemmas.{path_is}

-- one name more of a directory
pub one_counted : (counts : List (List ℕ × ℕ)) (dir : List ℕ) → insert_entry bytes_eq counts dir (suc (unwrap_or (lookup (bytes_eq dir) counts) 0)) ≡ with_dir counts dir
one_counted [] dir = refl
one_counted ((d, n) ∷ more) dir =
    elim (cases_Bool (bytes_eq dir d)) [
      | inl same ↦ rw same refl
      | inr other ↦ rw other (ap (λ (r : List (List ℕ × ℕ)). (d, n) ∷ r) (one_counted more dir))
    ]

-- one path more of those that are left
pub files_more : (names : List (List ℕ)) (layout : Layout) (counts new : List (List ℕ × ℕ)) (i : ℕ) → i < length layout.paths → new ≡ with_file names counts (path_at layout i)
    → with_files names new (drop (i + 1) layout.paths) ≡ with_files names counts (drop i layout.paths)
files_more names layout counts new i low is =
    let ps : List (List ℕ) = layout.paths in
    ap (λ (cs : List (List ℕ × ℕ)). with_files names cs (drop (i + 1) ps)) (is ∙ ap (λ (p : List ℕ). with_file names counts p) (path_is ps i))
    ∙ sym (ap (λ (l : List (List ℕ)). with_files names counts l) (drop_more ps i [] low))

-- one directory more of those that are left
pub best_more : (counts : List (List ℕ × ℕ)) (best new : Best) (i : ℕ) → i < length counts → ((d : List ℕ × ℕ) → slice_get counts i ≡ Some d → new ≡ with_best best d)
    → best_of new (drop (i + 1) counts) ≡ best_of best (drop i counts)
best_more counts best new i low step =
    let no_dir : List ℕ × ℕ = ([], 0) in
    ap (λ (b : Best). best_of b (drop (i + 1) counts)) (step (get_or counts i no_dir) (slice_get-get_or counts i no_dir low))
    ∙ sym (ap (λ (l : List (List ℕ × ℕ)). best_of best l) (drop_more counts i no_dir low))
