-- What a preprocessing carries, and how it stops.
use Rattle.std.specs.Prelude.{ℕ, ◌<◌, Bool, false, List, [], ◌∷◌, Option, None, Result, Ok, Err, ℤ, pos, length, unwrap_or}
use Rattle.inc_token.specs.declared.kinds.Kind.{Kind}
use Rattle.inc_lookup.specs.declared.projects.DirectiveId.{DirectiveId}
use Rattle.inc_lookup.specs.Projects.{Layout, Listing, layout_of, path_at}
use Rattle.inc_macro.specs.Macros.{Table}
use Rattle.inc_expand.specs.Expansion.{Place, Item, Meter, first_meter, in_quotes, escaped}
use Rattle.inc_expand.specs.Openings.{Held}
use Rattle.inc_cond.specs.Headers.{HeaderSearch}
use Rattle.inc_pp.specs.declared.causes.Cause.{Cause}
use Rattle.inc_pp.specs.declared.causes.Stop.{Stop}
pub use Rattle.inc_pp.specs.declared.entries.Entry.{Entry}
use Rattle.inc_pp.specs.FileNames.{Standing, source_standing}
use Rattle.inc_pp.specs.Settings.{Settings, base_of}

-- what stays the same: the files, the settings, and the include directives that are removed
pub record Task : Type 0 where
  pub listing : Listing
  pub settings : Settings
  pub without : List DirectiveId

-- a token that is put out, and whether it is the first of its line
pub record OutToken : Type 0 where
  pub kind : Kind
  pub spelling : List ℕ
  pub starts : Bool

-- the tokens of a line
abbrev pub line_tokens : (starts : Bool) → List Item → List OutToken
line_tokens starts [] = []
line_tokens starts (i ∷ is) = record { kind = i.kind; spelling = i.spelling; starts = starts } ∷ line_tokens false is

-- what the whole preprocessing changes: macros, a test of the files that `#pragma once` named, one of the names that `#pragma GCC poison` took away, work
-- units left and counts given, files read so far and their bytes, and tokens put out so far
pub record State : Type 0 where
  -- the macros
  pub table : Table
  -- whether `#pragma once` named a file
  pub once : ℕ → Bool
  -- whether `#pragma GCC poison` took a name away
  pub poisoned : List ℕ → Bool
  -- how many work units are left, and how many counts were given
  pub meter : Meter
  -- the files that were read, the first one first
  pub reads : List ℕ
  -- how many bytes they have
  pub bytes_read : ℕ
  -- the tokens that were put out
  pub output : List OutToken

-- of the file that is read
pub record Here : Type 0 where
  -- presumed minus physical line
  pub shift : ℤ
  -- the literal for `__FILE__`
  pub name : List ℕ
  -- how it came to be read
  pub standing : Standing
  -- the tokens of text lines that wait for the rest of a call
  pub waiting : List Held
  -- how many parentheses of the call are open
  pub deep : ℕ

-- where it stopped, and what was read and put out before
pub record Halt : Type 0 where
  pub state : State
  pub stop : Stop

-- how a file is read that the file at hand includes; none where that is too deep
abbrev pub Deeper : Type 0
Deeper = Option (Entry → State → Result State Halt)

-- the file at hand
pub record File : Type 0 where
  pub task : Task
  -- its place in the list
  pub index : ℕ
  -- the directory of the include path with which an `#include_next` in it begins; none: it looks as an `#include` does
  pub next : Option ℕ
  pub deeper : Deeper

-- the source, which no search has found
abbrev pub source_at : Settings → (file : ℕ) → Entry
source_at settings file = record {
  at = record { file = file; next = None };
  standing = source_standing settings;
  by = record { file = file; line = 1 };
}

-- a file that is to be read, and that of the directive that leads to it, are of the project
abbrev pub IsWithin : Layout → Entry → Type 0
IsWithin layout e = (e.at.file < length layout.paths) × (e.by.file < length layout.paths)

-- the paths and directories of a task
abbrev pub layout_in : Task → Layout
layout_in t = layout_of t.listing

-- the path of the file at a place as it is spelled, else that in the list
abbrev pub shown_path : Layout → (file : ℕ) → (spelled : Option (List ℕ)) → List ℕ
shown_path layout file spelled = unwrap_or spelled (path_at layout file)

-- how a file begins: unshifted, under the literal of its path
abbrev pub start : Layout → Entry → Here
start layout e = record {
  shift = pos 0;
  name = in_quotes (escaped (shown_path layout e.at.file e.standing.spelled));
  standing = e.standing;
  waiting = [];
  deep = 0;
}

-- nothing is read yet, all units are there, and no count was given
abbrev pub begun : Table → State
begun table = record { table = table; once = λ _. false; poisoned = λ _. false; meter = first_meter; reads = []; bytes_read = 0; output = [] }

---- stops

-- the fault of a part as a cause
abbrev pub caused : {A F : Type 0} → (F → Cause) → Result A F → Result A Cause
caused cause (Ok x) = Ok x
caused cause (Err f) = Err (cause f)

-- a cause as a stop at a line of the file at hand
abbrev pub halting : {A : Type 0} → File → ℕ → State → Result A Cause → Result A Halt
halting f line s (Ok x) = Ok x
halting f line s (Err c) = Err (record { state = s; stop = record { file = f.index; line = line; cause = c } })

-- where questions in the file at hand look for headers
abbrev pub search_of : File → HeaderSearch
search_of f = record { layout = layout_in f.task; file = f.index; next = f.next }

-- where the tokens of the file at hand are
abbrev pub place_of : File → Here → Place
place_of f h =
    record {
      name = h.name;
      base = base_of f.task.settings;
      shift = h.shift;
      level = h.standing.level;
      is_system = h.standing.is_system;
      date = f.task.settings.date;
      time = f.task.settings.time;
      timestamp = f.task.settings.timestamp;
    }
