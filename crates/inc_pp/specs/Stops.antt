-- Why a step of a preprocessing does not go on, and what it knows of the file at hand.
use Rattle.std.specs.Prelude.{◌≡◌, ℕ, Bool, false, List, is_some}
use Rattle.std.specs.List.{All}
use Rattle.inc_text.specs.declared.devices.ReadFault.{ReadFault}
use Rattle.inc_text.specs.declared.languages.Language.{Language}
use Rattle.inc_directive.specs.Groups.{FileLine}
use Rattle.inc_directive.specs.LineKinds.{line_kind}
use Rattle.inc_lookup.specs.declared.projects.Found.{Found}
use Rattle.inc_lookup.specs.Projects.{Layout}
use Rattle.inc_cond.specs.Headers.{HeaderSearch}
use Rattle.inc_pp.specs.declared.causes.Cause.{Cause}
use Rattle.inc_pp.specs.declared.faults.Break.{Break}
use Rattle.inc_pp.specs.declared.faults.Break.TheVariants.{Stop, Unread, NoMemory}
use Rattle.inc_pp.specs.Runs.{is_unclosed}
use Rattle.inc_pp.specs.Settings.{Settings}
use Rattle.inc_pp.specs.Tasks.{File, State, Halt, layout_in, search_of}

-- P of the line and the cause of a stop, where no file is read; nothing where memory ran out
abbrev pub IfStop : Break → (ℕ → Cause → Type 0) → Type 0
IfStop (Stop line cause) P = P line cause
IfStop (Unread fault) P = ⊥
IfStop NoMemory P = Unit {0}

-- P of the line and the cause of a stop, where a file is read
abbrev pub IfBadFile : Break → (ℕ → Cause → Type 0) → Type 0
IfBadFile (Stop line cause) P = P line cause
IfBadFile _ P = Unit {0}

-- P of why a file was not read
abbrev pub IfUnread : Break → (ReadFault → Type 0) → Type 0
IfUnread (Unread fault) P = P fault
IfUnread _ P = Unit {0}

-- the stop at a line of the file at hand, in this state
abbrev pub halt_at : File → State → (line : ℕ) → Cause → Halt
halt_at f s line cause = record { state = s; stop = record { file = f.index; line = line; cause = cause } }

-- a file that is read under these settings
abbrev pub IsUnder : Settings → File → Type 0
IsUnder settings f = f.task.settings ≡ settings

-- the file is read under these settings, and its questions look for headers so
pub record IsSearched (settings : Settings) (search : HeaderSearch) (f : File) : Type 0 where
  -- the settings are these
  pub under : f.task.settings ≡ settings
  -- this is where headers are looked for
  pub looks : search_of f ≡ search

-- the file at a place of a layout, found so and with these settings; includes may nest one deeper or not
pub record IsIn (layout : Layout) (settings : Settings) (found : Found) (nests : Bool) (f : File) : Type 0 where
  -- the settings are these
  pub under : f.task.settings ≡ settings
  -- the paths are these
  pub laid : layout_in f.task ≡ layout
  -- the place of the file
  pub at : f.index ≡ found.file
  -- where an #include_next in it goes on
  pub next : f.next ≡ found.next
  -- whether an include may nest one deeper
  pub deeper : is_some f.deeper ≡ nests

-- the kinds of lines are those of a language
abbrev pub AreOf : Language → List FileLine → Type 0
AreOf language lines = All (λ (l : FileLine). l.kind ≡ line_kind language l.tokens) lines

-- a stop because a call has no end
abbrev pub is_unclosed_stop : Break → Bool
is_unclosed_stop (Stop line cause) = is_unclosed cause
is_unclosed_stop (Unread fault) = false
is_unclosed_stop NoMemory = false
