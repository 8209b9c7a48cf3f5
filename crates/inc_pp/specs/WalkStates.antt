-- What is known of a preprocessing on its way.
use Rattle.std.specs.Prelude.{◌≡◌, ◌≢◌, ◌<◌, ◌≤◌, ◌-◌, ℕ, suc, List, [], ◌∷◌, ◌++◌, Some, Result, Ok, length, Contains}
use Rattle.std.specs.List.{All}
use Rattle.inc_text.specs.declared.devices.ReadFault.{ReadFault}
use Rattle.inc_text.specs.declared.devices.ReadFault.TheVariants as read
use Rattle.inc_directive.specs.Parts.{FilePart}
use Rattle.inc_lookup.specs.declared.projects.DirectiveId.{DirectiveId}
use Rattle.inc_lookup.specs.Given.{Given, Agrees, FailsAfter}
use Rattle.inc_lookup.specs.Projects.{Layout, Listing, layout_of}
use Rattle.inc_macro.specs.Macros.{Table}
use Rattle.inc_pp.specs.declared.frames.Frame.{Frame}
use Rattle.inc_pp.specs.declared.faults.Break.{Break}
use Rattle.inc_pp.specs.declared.faults.Break.TheVariants as end
use Rattle.inc_pp.specs.Preprocessing.{Outcome, outcome_of, file_read, most_depth, reading}
use Rattle.inc_pp.specs.Readings.{IsOfReadsAfter}
use Rattle.inc_pp.specs.Settings.{Settings}
use Rattle.inc_pp.specs.Shared.{AreShared}
use Rattle.inc_pp.specs.Tasks.{Task, State, Entry, Halt, IsWithin, source_at, begun}
use Rattle.inc_pp.specs.Walks.{Held, held_at, size_at, deeper_at, all_read}

-- what stays the same in a preprocessing, but for the bytes of the files
pub record Job : Type 0 where
  -- language, date and time, and what an include does whose file is not found
  pub settings : Settings
  -- the include directives that are removed
  pub without : List DirectiveId
  -- the paths of the files and directories
  pub layout : Layout
  -- the place of the source
  pub source : ℕ
  -- the macros at the start
  pub table : Table
  -- what was read before
  pub earlier : List Given

abbrev pub task_of : Job → Listing → Task
task_of j listing = record { listing = listing; settings = j.settings; without = j.without }

-- the files that were read are those of the list, as far as this file, which is to be read next
pub record AreRead (earlier : List Given) (reads : List ℕ) (given : List Given) : Type 0 where
  -- what was given since the start
  pub later : List Given
  -- this is all that was given
  pub is : given ≡ later ++ earlier
  -- no other file was read since the start
  pub only : All (λ (g : Given). Contains reads g.file) later
  -- each file of the list was given
  pub each : (i : ℕ) → Contains reads i → (g : Given) × Contains given g × (g.file ≡ i)

-- with what was given so far, what is left of the preprocessing is this, in each listing that agrees
pub record IsReading {S : Type 0} (gives : S → ℕ → Result (List ℕ) ReadFault → S → Type 0) (old new : S) (j : Job) (held : Held) (reads : List ℕ) (left : Task → Result State Halt) : Type 0 where
  -- all that was given
  pub given : List Given
  -- what is held is what was given
  pub shared : AreShared gives old new j.layout j.settings.language j.without held given
  -- the files of the list were read, and no others
  pub read : AreRead j.earlier reads given
  -- in each listing that agrees this is left of the reading
  pub every : (listing : Listing) → layout_of listing ≡ j.layout → Agrees given listing
      → reading most_depth (task_of j listing) (source_at j.settings j.source) (begun j.table) ≡ left (task_of j listing)

---- the walk

-- the whole, in a listing
abbrev pub whole_of : Job → Listing → Result State Halt
whole_of j listing = reading most_depth (task_of j listing) (source_at j.settings j.source) (begun j.table)

-- each file that is being read is held
abbrev pub AreOpen : Held → List Frame → Type 0
AreOpen held frames = All (λ (o : Frame). (ps : List FilePart) × (held_at held o.at.file ≡ Some ps)) frames

-- these files are being read, the innermost first
pub record IsWalk {S : Type 0} (gives : S → ℕ → Result (List ℕ) ReadFault → S → Type 0) (old new : S) (j : Job) (held : Held) (frames : List Frame) (s : State) : Type 0 where
  -- what is left is that of these files
  pub reading : IsReading gives old new j held s.reads (λ t. all_read t held frames (Ok s))
  -- each is held
  pub are_open : AreOpen held frames
  -- no more files than includes may nest, and the source
  pub deep : length frames ≤ suc most_depth
  -- each is a file of the project
  pub within : All (λ (o : Frame). o.at.file < length j.layout.paths) frames

-- and this file is read next
pub record IsEntering {S : Type 0} (gives : S → ℕ → Result (List ℕ) ReadFault → S → Type 0) (old new : S) (j : Job) (held : Held) (frames : List Frame) (e : Entry) (s : State) : Type 0 where
  -- what is left is this file, and then that of those that are being read
  pub reading : IsReading gives old new j held s.reads
      (λ t. all_read t held frames (file_read t (deeper_at t (most_depth - length frames)) e s))
  -- each of those is held
  pub are_open : AreOpen held frames
  -- one more file may be entered
  pub deep : length frames ≤ most_depth
  -- each is a file of the project
  pub within : All (λ (o : Frame). o.at.file < length j.layout.paths) frames
  -- and so is this one, and that of the directive that leads to it
  pub file_within : IsWithin j.layout e

-- and this file, which is held, is read next and counts among those that were read
pub record IsCounted {S : Type 0} (gives : S → ℕ → Result (List ℕ) ReadFault → S → Type 0) (old new : S) (j : Job) (held : Held) (frames : List Frame) (e : Entry) (size : ℕ) (s : State) : Type 0 where
  -- what is left is this file, and then that of those that are being read
  pub reading : IsReading gives old new j held (s.reads ++ e.at.file ∷ [])
      (λ t. all_read t held frames (file_read t (deeper_at t (most_depth - length frames)) e s))
  -- each of those is held
  pub are_open : AreOpen held frames
  -- one more file may be entered
  pub deep : length frames ≤ most_depth
  -- each is a file of the project
  pub within : All (λ (o : Frame). o.at.file < length j.layout.paths) frames
  -- and so is this one, and that of the directive that leads to it
  pub file_within : IsWithin j.layout e
  -- it has so many bytes
  pub sized : size_at held e.at.file ≡ Some size

-- the whole is over, with this outcome and these files
pub record IsOver {S : Type 0} (gives : S → ℕ → Result (List ℕ) ReadFault → S → Type 0) (old new : S) (j : Job) (held : Held) (o : Outcome) : Type 0 where
  -- all that was given
  pub given : List Given
  -- what is held is what was given
  pub shared : AreShared gives old new j.layout j.settings.language j.without held given
  -- the files that the outcome reads were read, and no others
  pub read : IsOfReadsAfter j.earlier o.reads given
  -- in each listing that agrees this is the outcome
  pub every : (listing : Listing) → layout_of listing ≡ j.layout → Agrees given listing → outcome_of (whole_of j listing) ≡ o

-- the files that were read are the first of those that the whole reads, and this file is the next
pub record IsNext (j : Job) (file : ℕ) (given : List Given) (listing : Listing) : Type 0 where
  -- the files that the whole reads before this one
  pub before : List ℕ
  -- those that it reads after it
  pub more : List ℕ
  -- together these are its reads
  pub reads : (outcome_of (whole_of j listing)).reads ≡ before ++ file ∷ more
  -- those before were read, and no others
  pub read : IsOfReadsAfter j.earlier before given
  -- this file was not read
  pub fresh : All (λ (g : Given). g.file ≢ file) given

-- why the walk is over before its end, in this file
abbrev pub EndsBy : {S : Type 0} → (S → ℕ → Result (List ℕ) ReadFault → S → Type 0) → (old new : S) → Job → Held → State → (file : ℕ) → Break → Type 0
EndsBy gives old new j held s file (end.Stop line cause) =
    IsOver gives old new j held (record { tokens = s.output; reads = s.reads; stop = Some (record { file = file; line = line; cause = cause }) })
    × (file < length j.layout.paths)
EndsBy gives old new j held s file (end.Unread fault) =
    FailsAfter gives old new j.layout file fault (IsNext j file) × (file < length j.layout.paths) × (fault ≢ read.NoMemory)
EndsBy gives old new j held s file end.NoMemory = Unit {0}
