-- A walk's job as the definitions see it.
use Rattle.std.specs.Prelude.{ℕ, suc, ◌+◌, ◌-◌, ◌*◌, List, [], ◌∷◌, Option, Result, length}
use Rattle.inc_macro.specs.Macros.{Table}
use Rattle.inc_text.specs.declared.devices.ReadFault.{ReadFault}
use Rattle.inc_lookup.specs.Given.{Given}
use Rattle.inc_lookup.specs.Projects.{Layout}
use Rattle.inc_pp.specs.declared.frames.Frame.{Frame}
use Rattle.inc_pp.specs.Includes.{most_reads}
use Rattle.inc_pp.specs.Shared.{AreShared}
use Rattle.inc_pp.specs.Tasks.{State, Entry, start}
use Rattle.inc_pp.specs.Walks.{Held, parts_in}
use Rattle.inc_pp.specs.declared.causes.Stop.{Stop}
use Rattle.inc_pp.specs.Preprocessing.{Outcome}
use Rattle.inc_pp.specs.declared.walks.Job.{Job as JobValue}
use Rattle.inc_pp.specs.WalkStates.{Job}

abbrev pub job_in : JobValue → (source : ℕ) → Table → (earlier : List Given) → Job
job_in job source table earlier = record {
  settings = job.settings.now;
  without = job.removed.now;
  layout = job.project.now;
  source = source;
  table = table;
  earlier = earlier;
}

-- a file that begins to be read
abbrev pub first_frame : Layout → Entry → Frame
first_frame layout e = record { at = e.at; part = 0; here = start layout e }

-- how many parts are left, and how many files, before the walk is over
abbrev pub frames_left : Held → List Frame → ℕ
frames_left held [] = 0
frames_left held (o ∷ os) = suc (length (parts_in held o.at.file) - o.part) + frames_left held os

-- a file has less parts than a machine's word can count
abbrev pub walk_left : Held → List Frame → (reads : ℕ) → ℕ
walk_left held frames reads = (most_reads - reads) * 36_893_488_147_419_103_232 + frames_left held frames

-- the outcome of a walk that is over in this state
abbrev pub over_by : State → Option Stop → Outcome
over_by s stop = record { tokens = s.output; reads = s.reads; stop = stop }

-- the files that a job shares
abbrev pub AreSharedIn : {S : Type 0} → (S → ℕ → Result (List ℕ) ReadFault → S → Type 0) → (first now : S) → JobValue → Held → (given : List Given) → Type 0
AreSharedIn gives first now job held given = AreShared gives first now job.project.now job.settings.now.language job.removed.now held given
