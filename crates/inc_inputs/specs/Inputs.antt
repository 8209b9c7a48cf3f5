-- What a run reads: files, standard input, and which files are below a folder.
use Rattle.std.specs.Prelude.{◌≡◌, ℕ, Bool, List, Option, Some, None, Result, Err, if◌then◌else◌, bytes_eq, codes, slice_get}
use Rattle.inc_text.specs.declared.devices.ReadFault.{ReadFault}
use Rattle.inc_text.specs.declared.devices.ReadFault.TheVariants.{Read}

pub data Input : Type 0 where
  StandardInput : Input
  FileAt : (path : List ℕ) → Input
  -- a file of the project, at its path of the list
  ListedAt : (path : List ℕ) → Input
  -- the paths of the files of C below a folder, each ended by NUL, but for those that words for globs leave out (`is_excluded`)
  FilesBelow : (folder : List ℕ) → (exclude : List (List ℕ)) → Input
  -- a file whose length memory alone bounds
  WholeAt : (path : List ℕ) → Input
  -- the absolute path of the folder of the run
  Here : Input

-- what a word names
abbrev pub named : List ℕ → Input
named word = if bytes_eq word (codes "-") then StandardInput else FileAt word

-- a reading of an input may answer this, and leads from one state to another
abbrev pub Gives : Type 0 → Type 1
Gives S = S → Input → Result (List ℕ) ReadFault → S → Type 0

-- it is set whether links are followed on the way to the files of the list, and whether notes are turned off, and that leads from one state to
-- another
abbrev pub Begins : Type 0 → Type 1
Begins S = S → (follows quiet : Bool) → S → Type 0

-- a text that is to be the file of a name is written whole, or not, and that leads from one state to another
abbrev pub Puts : Type 0 → Type 1
Puts S = S → (name text : List ℕ) → (whole : Bool) → S → Type 0

-- a reading of the file at a place of a list of paths
abbrev pub given_at : {S : Type 0} → Gives S → (path : Option (List ℕ)) → S → Result (List ℕ) ReadFault → S → Type 0
given_at gives (Some path) old answer new = gives old (ListedAt path) answer new
given_at gives None old answer new = answer ≡ Err Read

abbrev pub listed : {S : Type 0} → Gives S → (paths : List (List ℕ)) → S → (file : ℕ) → Result (List ℕ) ReadFault → S → Type 0
listed gives paths old file answer new = given_at gives (slice_get paths file) old answer new
