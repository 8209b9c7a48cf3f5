-- What one step of a walk over the parts of a file ensures.
use Rattle.std.specs.Prelude.{◌≡◌, ℕ, List, Option, Err, Result}
use Rattle.inc_directive.specs.Parts.{FilePart, lines_from}
use Rattle.inc_macro.specs.Results.{◌>>=◌}
use Rattle.inc_pp.specs.declared.causes.Cause.{Cause}
use Rattle.inc_pp.specs.Includes.{included}
use Rattle.inc_pp.specs.Stops.{halt_at}
use Rattle.inc_pp.specs.Tasks.{File, State, Entry, Here, Halt}
use Rattle.inc_pp.specs.Walks.{lines_read}

-- the same was read and put out
pub record HasPut (s t : State) : Type 0 where
  pub output : s.output ≡ t.output
  pub reads : s.reads ≡ t.reads

-- a stop at this line, in a state that has read and put out what another one has
abbrev pub StopsAt : File → Result (State × Here) Halt → (line : ℕ) → Cause → State → Type 0
StopsAt f r line cause now = (s : State) × HasPut s now × (r ≡ Err (halt_at f s line cause))

-- what is left from a part on, after a step that perhaps leads to a file
abbrev pub LeadsTo : List FilePart → File → (part : ℕ) → State → Here → (found : Option Entry) → (next : ℕ) → State → Here → Type 0
LeadsTo parts f part old here found next new after =
    lines_read f (lines_from part parts) old here ≡ (included f.deeper found new after >>= λ r. lines_read f (lines_from next parts) r.0 r.1)
