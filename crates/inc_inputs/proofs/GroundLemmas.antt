-- The deepest folder that several are in, and databases.
use Rattle.std.proofs.Common.{◌≡◌, ◌≢◌, ℕ, ◌+◌, ◌<◌, true, false, Option, List, [], ◌∷◌, ◌++◌, Some, None, Ok, Err, drop, length, inl, inr, refl, sym, ap, ap₂, subst, ◌∙◌, map, slice_get, get_or, arith}
use Rattle.std.specs.Prelude.{◌==◌, IsUtf8, is_some, unwrap_or}
use Rattle.std.specs.Str.{is_utf8}
use Rattle.std.proofs.lemmas.Bool.{cases_Bool, true≢false}
use Rattle.std.proofs.lemmas.List.{drop_all, drop_more}
use Rattle.std.proofs.lemmas.Option.{slice_get-get_or, slice_get_cases, slice_get_within}
use Rattle.std.proofs.lemmas.Str.{IsUtf8-from_is_utf8, is_utf8-from_IsUtf8}
use Rattle.serde_json.specs.Data.{Data}
use Rattle.serde_json.specs.Read.{read as read_json}
use Rattle.inc_args.specs.Meaning.{FileWords}
use Rattle.inc_build.specs.Builds.{Build}
use Rattle.inc_build.specs.CompilerCommands.{command_build, command_entry}
use Rattle.inc_build.specs.CompilerWords.{items}
use Rattle.inc_build.specs.Configurations.{Row}
use Rattle.inc_build.specs.Entries.{Entry}
use Rattle.inc_build.specs.Paths.{path_from}
use Rattle.inc_build.specs.declared.databases.DatabaseFault.{DatabaseFault}
use Rattle.inc_build.specs.declared.databases.DatabaseFault.TheVariants.{NoMemory}
use Rattle.inc_inputs.specs.BuildPaths.{common, common_of, folder_of}
use Rattle.inc_inputs.specs.BuildProjects.{Ground, IsDatabase, command_ground, ground_by_root, json_of, own_paths, own_rows}
use Rattle.inc_inputs.specs.BuildReports.{command_name, database_report}
use Rattle.inc_inputs.specs.Reports.{Report, no_command_source, out_of_memory}

-- by some folders, and then by more of them
pub common_more : (folder : List ℕ) (fs gs : List (List ℕ)) → common_of (common_of folder fs) gs ≡ common_of folder (fs ++ gs)
common_more folder [] gs = refl
common_more folder (f ∷ fs) gs = common_more (common folder f) fs gs

-- by the source at a place, and those after it
pub source_more : (folder : List ℕ) (ss : List (List ℕ)) (i : ℕ) (s : List ℕ) → slice_get ss i ≡ Some s
    → common_of folder (map folder_of (drop i ss)) ≡ common_of (common folder (folder_of s)) (map folder_of (drop (i + 1) ss))
source_more folder ss i s is =
    let low = slice_get_within ss i s is in
    let same : get_or ss i s ≡ s = ap (λ (o : Option (List ℕ)). unwrap_or o s) (sym (slice_get-get_or ss i s low) ∙ is) in
    ap (λ (l : List (List ℕ)). common_of folder (map folder_of l)) (drop_more ss i s low ∙ ap (λ (x : List ℕ). x ∷ drop (i + 1) ss) same)

pub source_none : (folder : List ℕ) (ss : List (List ℕ)) (i : ℕ) → slice_get ss i ≡ None
    → common_of folder (map folder_of (drop (i + 1) ss)) ≡ common_of folder (map folder_of (drop i ss))
source_none folder ss i none = elim (slice_get_cases ss i).1 [
  | inl (s, low, is, same) ↦ absurd (true≢false (ap is_some (sym is ∙ none)))
  | inr (far, past) ↦ ap (λ (l : List (List ℕ)). common_of folder (map folder_of l)) (drop_all (i + 1) ss (omega (arith, far)) ∙ sym (drop_all i ss far))
]

-- by the include path at a place, and those after it
pub rows_more : {X : Type 0} (f : X → List Row) (folder : List ℕ) (xs : List X) (i : ℕ) (d : X) → i < length xs
    → common_of (common_of folder (own_rows (f (get_or xs i d)))) (own_paths (map f (drop (i + 1) xs))) ≡ common_of folder (own_paths (map f (drop i xs)))
rows_more f folder xs i d low =
    common_more folder (own_rows (f (get_or xs i d))) (own_paths (map f (drop (i + 1) xs))) ∙ sym (ap (λ l. common_of folder (own_paths (map f l))) (drop_more xs i d low))

---- texts of JSON

pub json_read : (text : List ℕ) (v : Data) → IsUtf8 text → read_json text ≡ Some v → json_of text ≡ Some v
json_read text v utf8 read = rw (is_utf8-from_IsUtf8 text utf8) read

pub json_none : (text : List ℕ) → (IsUtf8 text → read_json text ≡ None) → json_of text ≡ None
json_none text none =
    elim (cases_Bool (is_utf8 text)) [
      | inl is ↦ rw is (none (IsUtf8-from_is_utf8 text is))
      | inr isnt ↦ rw isnt refl
    ]

pub is_none : (name text : List ℕ) (fault : DatabaseFault) (r : Report) → r ≢ out_of_memory → (r ≢ out_of_memory → r ≡ database_report name fault)
    → (fault ≢ NoMemory → IsUtf8 text → read_json text ≡ None) → IsDatabase name text (Err r)
is_none name text fault r not report none =
    let is = report not in
    (json_none text (none (λ e. not (is ∙ ap (database_report name) e))), fault, is)

---- a compiler's command

pub command_none : (here : List ℕ) (files : FileWords) (e : Entry) (b : Build) → e ≡ command_entry files.command → b ≡ command_build here (items e.words)
    → (length b.sources == 0) ≡ true → command_ground here files ≡ Err no_command_source
command_none here files e b entry build none =
    let same : b ≡ command_build here (items files.command) = build ∙ ap (λ (x : Entry). command_build here (items x.words)) entry in
    let is : (length (command_build here (items files.command)).sources == 0) ≡ true = subst (λ (x : Build). (length x.sources == 0) ≡ true) same none in
    rw is refl

pub command_some : (here : List ℕ) (files : FileWords) (e : Entry) (b : Build) (g : Ground) → e ≡ command_entry files.command → b ≡ command_build here (items e.words)
    → (length b.sources == 0) ≡ false → g ≡ ground_by_root here command_name files here (path_from here []) (e ∷ []) b → command_ground here files ≡ Ok g
command_some here files e b g entry build some made =
    let same : b ≡ command_build here (items files.command) = build ∙ ap (λ (x : Entry). command_build here (items x.words)) entry in
    let is : (length (command_build here (items files.command)).sources == 0) ≡ false = subst (λ (x : Build). (length x.sources == 0) ≡ false) same some in
    let whole : g ≡ ground_by_root here command_name files here (path_from here []) (command_entry files.command ∷ []) (command_build here (items files.command)) =
    made ∙ ap₂ (λ (x : Entry) (y : Build). ground_by_root here command_name files here (path_from here []) (x ∷ []) y) entry same in
    rw (is, whole) refl
