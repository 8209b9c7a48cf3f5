-- What was read of a project's files on the way to an outcome.
use Rattle.std.specs.Prelude.{◌≡◌, ◌≢◌, ℕ, List, [], ◌∷◌, ◌++◌, Ok, Contains}
use Rattle.std.specs.List.{All}
use Rattle.inc_lookup.specs.declared.projects.DirectiveId.{DirectiveId}
use Rattle.inc_lookup.specs.Given.{Given, IsOnce}
use Rattle.inc_lookup.specs.Projects.{Listing}
use Rattle.inc_pp.specs.Preprocessing.{Outcome, preprocessing}
use Rattle.inc_pp.specs.Settings.{Settings}

-- after earlier readings the files of the list were read that had not been, and no others; in all each file was read once
pub record IsOfReadsAfter (earlier : List Given) (reads : List ℕ) (given : List Given) : Type 0 where
  -- what was given since then
  pub later : List Given
  -- this is all that was given
  pub is : given ≡ later ++ earlier
  -- no other file was read since then
  pub only : All (λ (g : Given). Contains reads g.file) later
  -- each file of the list was given
  pub each : (i : ℕ) → Contains reads i → (g : Given) × Contains given g × (g.file ≡ i)
  -- no file was read twice
  pub once : IsOnce given

-- the outcome of a listing, and that its files were read for it
pub record IsOutcomeAfter (earlier : List Given) (source : ℕ) (words : List (List ℕ)) (settings : Settings) (without : List DirectiveId) (outcome : Outcome) (given : List Given) (listing : Listing) : Type 0 where
  pub is : preprocessing listing source words settings without ≡ Ok outcome
  pub read : IsOfReadsAfter earlier outcome.reads given

-- the files that were read are the first of those that the outcome reads, and this file is the next
pub record IsNextReadAfter (earlier : List Given) (source : ℕ) (words : List (List ℕ)) (settings : Settings) (without : List DirectiveId) (file : ℕ) (given : List Given) (listing : Listing) : Type 0 where
  -- what comes of the whole listing
  pub outcome : Outcome
  -- it is the outcome of its preprocessing
  pub is : preprocessing listing source words settings without ≡ Ok outcome
  -- the files that it reads before this one
  pub before : List ℕ
  -- those that it reads after it
  pub more : List ℕ
  -- together these are its reads
  pub reads : outcome.reads ≡ before ++ file ∷ more
  -- those before were read, and no others
  pub read : IsOfReadsAfter earlier before given
  -- this file was not read
  pub fresh : All (λ (g : Given). g.file ≢ file) given

---- where nothing was read before

abbrev pub IsOfReads : (reads : List ℕ) → List Given → Type 0
IsOfReads = IsOfReadsAfter []

abbrev pub IsOutcome : (source : ℕ) → (words : List (List ℕ)) → Settings → (without : List DirectiveId) → Outcome → List Given → Listing → Type 0
IsOutcome = IsOutcomeAfter []

abbrev pub IsNextRead : (source : ℕ) → (words : List (List ℕ)) → Settings → (without : List DirectiveId) → (file : ℕ) → List Given → Listing → Type 0
IsNextRead = IsNextReadAfter []
