-- Words that are globs, whatever the project: of names of headers that another project has, and of files that are left out.
use Rattle.std.specs.Prelude.{ℕ, Bool, false, List, [], ◌∷◌, Option, Some, None, codes, filter_map}
use Rattle.std.specs.List.{list_any}
use Rattle.std.specs.Option.{option_map_or}
use Rattle.inc_text.specs.declared.languages.Language.{Language}
use Rattle.inc_lookup.specs.Paths.{normal_form}
use Rattle.inc_globs.specs.Globs.{fits, pieces}
use Rattle.inc_args.specs.Meaning.{FileWords, Question}
use Rattle.inc_inputs.specs.Reports.{Report, bad_glob}
use Rattle.inc_inputs.specs.UndefinedNames.{names_report}

-- what is reported of the first of the words of an option that is no glob
abbrev pub globs_report : (option : List ℕ) → (words : List (List ℕ)) → Option Report
globs_report option [] = None
globs_report option (w ∷ ws) = elim (pieces w) [ Some ps ↦ globs_report option ws | None ↦ Some (bad_glob option w) ]

-- of those for files that are left out
abbrev pub exclude_report : FileWords → Option Report
exclude_report files = globs_report (codes "--exclude") files.exclude

-- of those for headers of another project, and then for files
abbrev pub pattern_report : Question → Option Report
pattern_report q = elim (globs_report (codes "--external") q.external) [ Some r ↦ Some r | None ↦ exclude_report q.files ]

-- what is reported of the names that a question says of builds, and then of its globs
abbrev pub named_report : Language → Question → Option Report
named_report language q = elim (names_report language q.undefined) [ Some r ↦ Some r | None ↦ pattern_report q ]

-- a file is left out that one of these globs fits, by its path in normal form; a path that climbs above the folder of the run has none
abbrev pub is_excluded : (words : List (List ℕ)) → (path : List ℕ) → Bool
is_excluded words path = option_map_or (λ form. list_any (λ ps. fits ps form) (filter_map pieces words)) (normal_form path) false
