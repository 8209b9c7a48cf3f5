-- How the files of a project are read for a graph.
use Rattle.std.specs.Prelude.{ℕ, zero, suc, List, [], slice_index_or}
use Rattle.inc_text.specs.declared.languages.Language.{Language}
use Rattle.inc_lookup.specs.declared.projects.DirectiveId.{DirectiveId}
use Rattle.inc_lookup.specs.Projects.{Layout, Listing, SearchPath, each_once, layout_of}

-- their language, the directives that are taken as removed, names that no build defines, and include paths beside the project's own
pub record Setting : Type 0 where
  pub language : Language
  pub removed : List DirectiveId
  pub undefined : List (List ℕ)
  pub others : List SearchPath

-- of several equal names the first counts; there is no include path but the project's own
abbrev pub setting_of : Language → List DirectiveId → (names : List (List ℕ)) → Setting
setting_of language removed names = record { language = language; removed = removed; undefined = each_once names; others = [] }

-- with these include paths beside the project's own
abbrev pub with_paths : Setting → (others : List SearchPath) → Setting
with_paths setting others = record { language = setting.language; removed = setting.removed; undefined = setting.undefined; others = others }

-- an include path without directories
abbrev pub no_search : SearchPath
no_search = record { dirs = []; quoted = 0 }

-- an include path by its number: 0 is the project's own, and 1 the first of the others
abbrev pub search_in : (others : List SearchPath) → (own : SearchPath) → (path : ℕ) → SearchPath
search_in others own zero = own
search_in others own (suc k) = slice_index_or others k no_search

-- a layout with that include path in place of its own
abbrev pub layout_in : (others : List SearchPath) → Layout → (path : ℕ) → Layout
layout_in others layout path = record { paths = layout.paths; search = search_in others layout.search path }

-- and a listing
abbrev pub listing_in : (others : List SearchPath) → Listing → (path : ℕ) → Listing
listing_in others listing path = record { files = listing.files; search = search_in others listing.search path }

-- where files of a listing are looked for, by the number of the include path
abbrev pub layouts_of : Setting → Listing → (path : ℕ) → Layout
layouts_of setting listing path = layout_in setting.others (layout_of listing) path
