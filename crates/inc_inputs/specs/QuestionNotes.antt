-- What is noted of the words and the lists of a question, beside what a build adds.
use Rattle.std.specs.Prelude.{ℕ, Bool, List, [], ◌++◌, if◌then◌else◌, codes}
use Rattle.inc_lookup.specs.Projects.{Layout}
use Rattle.inc_graph.specs.Marks.{Cost, Mark}
use Rattle.inc_args.specs.Meaning.{FileWords}
use Rattle.inc_inputs.specs.DirNotes.{dir_notes}
use Rattle.inc_inputs.specs.ListNotes.{list_notes}
use Rattle.inc_inputs.specs.MarkNotes.{cost_notes, mark_notes}
use Rattle.inc_inputs.specs.declared.texts.Firsts.{Firsts}

-- a build notes its directories itself
abbrev pub dirs_unless : (is_build : Bool) → Layout → FileWords → List ℕ
dirs_unless is_build layout files = if is_build then [] else dir_notes layout files

abbrev pub listed_notes : Layout → (firsts : Firsts) → (without fixed : List Mark) → List Cost → List ℕ
listed_notes layout firsts without fixed costs =
    mark_notes layout (codes "--without") firsts.without without ++ (mark_notes layout (codes "--fixed") firsts.fixed fixed ++ cost_notes layout costs)

-- by the paths of the list as they are written, and the marks and costs of lists, of which the first marks are at these lines
abbrev pub question_notes : Layout → (is_build : Bool) → FileWords → (written : List (List ℕ)) → (firsts : Firsts) → (without fixed : List Mark) → List Cost → List ℕ
question_notes layout is_build files written firsts without fixed costs =
    list_notes files written ++ (dirs_unless is_build layout files ++ listed_notes layout firsts without fixed costs)
