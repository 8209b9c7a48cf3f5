-- A project in whose files the include directives that are removed are blanked.
use Rattle.std.specs.Prelude.{◌≡◌, ℕ, ◌+◌, List, [], ◌∷◌, ◌++◌}
use Rattle.inc_text.specs.declared.languages.Language.{Language}
use Rattle.inc_directive.specs.BlankedSources.{blanked_source}
use Rattle.inc_lookup.specs.declared.projects.DirectiveId.{DirectiveId}
use Rattle.inc_lookup.specs.DirectiveLists.{is_listed}
use Rattle.inc_lookup.specs.Projects.{File, Listing}
use Rattle.inc_pp.specs.Preprocessing.{preprocessing}
use Rattle.inc_pp.specs.Settings.{Settings}

-- the files from place i on, each with its removed directives blanked
abbrev pub blanked_files : Language → List DirectiveId → ℕ → List File → List File
blanked_files language without i [] = []
blanked_files language without i (f ∷ fs) =
    record { path = f.path; bytes = blanked_source language (is_listed without i) f.bytes } ∷ blanked_files language without (i + 1) fs

abbrev pub blanked_listing : Language → Listing → List DirectiveId → Listing
blanked_listing language listing without =
    record { files = blanked_files language without 0 listing.files; search = listing.search }

-- blanked files preprocess as the old ones with the directives removed
abbrev pub BlankingIsRemoval : Type 0
BlankingIsRemoval =
    (listing : Listing) (source : ℕ) (words : List (List ℕ)) (settings : Settings) (without : List DirectiveId) →
    preprocessing (blanked_listing settings.language listing without) source words settings []
    ≡ preprocessing listing source words settings without

-- where some directives are blanked and others are taken as removed, both are
abbrev pub BlankingSomeIsRemoval : Type 0
BlankingSomeIsRemoval =
    (listing : Listing) (source : ℕ) (words : List (List ℕ)) (settings : Settings) (without others : List DirectiveId) →
    preprocessing (blanked_listing settings.language listing without) source words settings others
    ≡ preprocessing listing source words settings (without ++ others)
