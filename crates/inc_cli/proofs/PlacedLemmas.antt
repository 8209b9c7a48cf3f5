-- Words that name no sources and headers, or no directives.
use Rattle.std.proofs.Common.{◌≡◌, ◌⊎◌, Ok, Err, List, Result, inl, inr}
use Rattle.std.specs.Io.KnownBytes.{Keeps}
use Rattle.inc_text.specs.declared.languages.Language.{Language}
use Rattle.inc_lookup.specs.Projects.{Layout}
use Rattle.inc_graph.specs.Marks.{Mark}
use Rattle.inc_args.specs.Meaning.{Limits, Question}
use Rattle.inc_inputs.specs.Places.{places_of}
use Rattle.inc_inputs.specs.Reports.{Report}
use Rattle.inc_cli.specs.Commands.{Command}
use Rattle.inc_cli.specs.Outputs.{Answer, Following, IsRun, Output}
use Rattle.inc_cli.specs.Runs.{Asked, Built, IsUnplaced, Opened, asked_marked, ends_for}
use Rattle.inc_cli.proofs.Askings.{with_ends, with_places}
use Rattle.inc_cli.proofs.RunLemmas.{run_came, run_came_err}

-- the run ends with the reason
pub run_unplaced : {S : Type 0} (language : Language) (command : Command) (q : Question) (l : Limits) (without fixed : List Mark) (o : Opened) (layout : Layout) (b : Built)
    (P : Following S Asked) (old : S) (out : Output) (answer : Result Answer Report) (r : Report)
    → IsUnplaced command layout q l without fixed r → answer ≡ Err r → Keeps out.before out.after
    → IsRun (asked_marked language command q l without fixed o layout b) P old out answer
run_unplaced language command q l without fixed o layout b P old out answer r (inl none) f keeps =
    run_came_err (ends_for command layout q) (with_ends language command q l without fixed o layout b) P old out answer r none f keeps
run_unplaced language command q l without fixed o layout b P old out answer r (inr (ends, there, none)) f keeps =
    run_came (ends_for command layout q) (with_ends language command q l without fixed o layout b) P old out answer ends there
    (run_came_err (places_of layout q l without fixed) (with_places language command q o layout b ends) P old out answer r none f keeps)
