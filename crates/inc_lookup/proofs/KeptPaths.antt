-- A project keeps the normal forms of all paths and directories that it is made of.
use Rattle.std.proofs.Common.{◌≡◌, ℕ, ◌+◌, Bool, true, false, ◌||◌, cond, List, [], ◌∷◌, ◌++◌, Option, Some, None, refl, sym, ap, ◌∙◌}
use Rattle.std.specs.Prelude.{is_none, option_map, unwrap_or, map, Ok, Err}
use Rattle.std.specs.Option.{option_map_or}
use Rattle.std.specs.List.{position_from}
use Rattle.std.proofs.lemmas.Iterator.Adapters.{position_from-zero}
use Rattle.inc_lookup.specs.Paths.{normal_form}
use Rattle.inc_lookup.specs.declared.projects.ProjectFault.{ProjectFault}
use Rattle.inc_lookup.specs.declared.projects.ProjectFault.TheVariants.{BadPath}
use Rattle.inc_lookup.specs.Projects.{Layout, is_bad_path, is_bad_file_path, is_no_file, bad_path, normal_forms, first_some, project_fault, project_of, search_of}

or_left : (a b : Bool) → (a || b) ≡ false → a ≡ false
or_left true b e = cc
or_left false b e = refl

or_last : (a b : Bool) → (a || b) ≡ false → b ≡ false
or_last true b e = cc
or_last false b e = e

none_split : (b : Bool) (i : ℕ) (r : Option ℕ) → cond b (Some i) r ≡ None → (b ≡ false) × (r ≡ None)
none_split true i r e = cc
none_split false i r e = (refl, e)

some_form : (o : Option (List ℕ)) → is_none o ≡ false → o ≡ Some (unwrap_or o [])
some_form None e = cc
some_form (Some x) e = refl

-- a path that is not bad has a normal form
form_of : (path : List ℕ) → is_bad_path path ≡ false → normal_form path ≡ Some (unwrap_or (normal_form path) [])
form_of path good = some_form (normal_form path) (or_last _ _ good)

form_of_file : (path : List ℕ) → is_bad_file_path path ≡ false → normal_form path ≡ Some (unwrap_or (normal_form path) [])
form_of_file path good = form_of path (or_left _ (is_no_file (normal_form path)) good)

abbrev is_true : Bool → Bool
is_true bad = bad

-- no path is bad, and so none of those after them
files_kept : (i : ℕ) (paths : List (List ℕ)) (more : List Bool) → position_from is_true i (map is_bad_file_path paths ++ more) ≡ None →
    (map normal_form paths ≡ map (λ path. Some path) (normal_forms paths)) × (j : ℕ) × (position_from is_true j more ≡ None)
files_kept i [] more e = (refl, i, e)
files_kept i (p ∷ paths) more e =
    let here = none_split (is_bad_file_path p) i (position_from is_true (i + 1) (map is_bad_file_path paths ++ more)) e in
    let form = form_of_file p here.0 in
    let rest = files_kept (i + 1) paths more here.1 in
    (rw (form, rest.0) refl, rest.1, rest.2)

dirs_kept : (i : ℕ) (dirs : List (List ℕ)) → position_from is_true i (map is_bad_path dirs) ≡ None → map normal_form dirs ≡ map (λ dir. Some dir) (normal_forms dirs)
dirs_kept i [] e = refl
dirs_kept i (d ∷ dirs) e =
    let here = none_split (is_bad_path d) i (position_from is_true (i + 1) (map is_bad_path dirs)) e in
    let form = form_of d here.0 in
    let rest = dirs_kept (i + 1) dirs here.1 in
    rw (form, rest) refl

is_ok : (o : Option ProjectFault) (x y : Layout) → option_map_or Err o (Ok x) ≡ Ok y → (o ≡ None) × (x ≡ y)
is_ok None x y e = (refl, cc)
is_ok (Some f) x y e = cc

second_none : (a b : Option ProjectFault) (rest : List (Option ProjectFault)) → first_some (a ∷ b ∷ rest) ≡ None → b ≡ None
second_none None None rest e = refl
second_none None (Some f) rest e = cc
second_none (Some f) b rest e = cc

none_of : (o : Option ℕ) → option_map BadPath o ≡ None → o ≡ None
none_of None e = refl
none_of (Some i) e = cc

pub paths_kept : (paths : List (List ℕ)) (quoted : ℕ) (dirs : List (List ℕ)) (layout : Layout) → project_of paths quoted dirs ≡ Ok layout →
    (map normal_form paths ≡ map (λ path. Some path) layout.paths)
    × ((forms : List (List ℕ)) × (map normal_form dirs ≡ map (λ dir. Some dir) forms) × (layout.search ≡ search_of quoted forms))
paths_kept paths quoted dirs layout made =
    let ok = is_ok (project_fault paths dirs) (record { paths = normal_forms paths; search = search_of quoted (normal_forms dirs) }) layout made in
    let good = none_of (bad_path paths dirs) (second_none _ (option_map BadPath (bad_path paths dirs)) _ ok.0) in
    let kept = files_kept 0 paths (map is_bad_path dirs) (sym (position_from-zero is_true (map is_bad_file_path paths ++ map is_bad_path dirs)) ∙ good) in
    (kept.0 ∙ ap (λ (l : Layout). map (λ path. Some path) l.paths) ok.1, (normal_forms dirs, dirs_kept kept.1 dirs kept.2, sym (ap (λ (l : Layout). l.search) ok.1)))
