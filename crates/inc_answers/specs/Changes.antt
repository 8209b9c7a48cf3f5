-- The files that change where directives are blanked.
use Rattle.std.specs.Prelude.{ℕ, ◌+◌, ◌≤◌, ◌==◌, Bool, List, [], ◌∷◌, if◌then◌else◌, map, bytes_eq, ⊤}
use Rattle.std.specs.List.{list_any}
use Rattle.inc_text.specs.declared.languages.Language.{Language}
use Rattle.inc_directive.specs.BlankedSources.{blanked_source}
use Rattle.inc_lookup.specs.declared.projects.DirectiveId.{DirectiveId}
use Rattle.inc_lookup.specs.DirectiveLists.{is_listed}
use Rattle.inc_lookup.specs.Projects.{File, Listing}

-- a file that changes, with its bytes before and after
pub record Change : Type 0 where
  pub path : List ℕ
  pub before : List ℕ
  pub after : List ℕ

-- a directive of the list is in the file
abbrev pub is_held : List DirectiveId → (file : ℕ) → Bool
is_held ds file = list_any (λ (d : DirectiveId). d.file == file) ds

-- of the files from place i on those that hold a directive of the list, with these directives blanked
abbrev pub changes_from : Language → List DirectiveId → ℕ → List File → List Change
changes_from language ds i [] = []
changes_from language ds i (f ∷ fs) =
    let rest : List Change = changes_from language ds (i + 1) fs in
    if is_held ds i then record { path = f.path; before = f.bytes; after = blanked_source language (is_listed ds i) f.bytes } ∷ rest else rest

abbrev pub changes : Language → Listing → List DirectiveId → List Change
changes language listing ds = changes_from language ds 0 listing.files

---- the files after that

-- what a file holds then
abbrev pub bytes_after : List Change → File → List ℕ
bytes_after [] f = f.bytes
bytes_after (c ∷ cs) f = if bytes_eq c.path f.path then c.after else bytes_after cs f

-- the files and directories with changed files in place of the old ones
abbrev pub changed_listing : List Change → Listing → Listing
changed_listing cs listing = record {
  files = map (λ (f : File). record { path = f.path; bytes = bytes_after cs f }) listing.files;
  search = listing.search;
}

---- how they are found

-- directives in order of their files, the first in this file or a later one
abbrev pub AreRising : (file : ℕ) → List DirectiveId → Type 0
AreRising file [] = ⊤
AreRising file (d ∷ ds) = (file ≤ d.file) × AreRising d.file ds

-- the lines of the first directives of a list, up to one that is in another file
abbrev pub first_lines : (file : ℕ) → List DirectiveId → List ℕ
first_lines file [] = []
first_lines file (d ∷ ds) = if d.file == file then d.line ∷ first_lines file ds else []
