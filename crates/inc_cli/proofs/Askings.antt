-- What is left to do for a question once something of it is known.
use Rattle.std.proofs.Common.{◌≡◌, ◌++◌, [], ℕ, Bool, Ok, List, refl}
use Rattle.inc_text.specs.declared.languages.Language.{Language}
use Rattle.inc_lookup.specs.IncludePath.{NamedPath}
use Rattle.inc_lookup.specs.Projects.{Layout, SearchPath}
use Rattle.inc_graph.specs.Marks.{Cost, Mark}
use Rattle.inc_args.specs.Meaning.{Limits, Question, RuleWords}
use Rattle.inc_inputs.specs.Baselines.{Accepted, NamedLine}
use Rattle.inc_inputs.specs.BuildProjects.{Added}
use Rattle.inc_inputs.specs.Ends.{EndPaths}
use Rattle.inc_inputs.specs.IncludePath.{include_path}
use Rattle.inc_inputs.specs.Inputs.{Gives}
use Rattle.inc_inputs.specs.NamedPlaces.{Marked}
use Rattle.inc_inputs.specs.Places.{Places, places_of}
use Rattle.inc_inputs.specs.ProjectLists.{paths_in}
use Rattle.inc_inputs.specs.RuleLists.{Ruled}
use Rattle.inc_inputs.specs.Steps.{Step, comes_to, then}
use Rattle.inc_inputs.specs.Texts.{Texts}
use Rattle.inc_inputs.specs.declared.texts.Firsts.{Firsts}
use Rattle.inc_rules.specs.Rules.{Rule}
use Rattle.inc_cli.specs.Commands.{Command}
use Rattle.inc_cli.specs.Runs.{Asked, Built, Opened, asked_beside, asked_built, asked_for, asked_marked, asked_opened, built_by, notes_for, opened_by}

-- texts that were read
abbrev pub texts_with : (list : List ℕ) (fixed without : List Mark) (costs : List ℕ) (firsts : Firsts) → Texts
texts_with list fixed without costs firsts = record { list = list; fixed = fixed; without = without; costs = costs; firsts = firsts }

-- what they hold, part by part
pub opened_made : (q : Question) (t : Texts) (paths : List (List ℕ)) (costs : List Cost) (undefined external : List (List ℕ)) (strict : Bool) (path : NamedPath) (firsts : Firsts)
    → paths ≡ paths_in q.files t.list → undefined ≡ q.undefined → external ≡ q.external → strict ≡ q.is_strict → path ≡ include_path q.files [] → firsts ≡ t.firsts
    → (let o : Opened = record { paths = paths; costs = costs; undefined = undefined; is_strict = strict; external = external; path = path; firsts = firsts } in o) ≡ opened_by q t costs
opened_made q t paths costs undefined external strict path firsts a b c d e f = rw (a, b, c, d, e, f) refl

-- once the places are known, once sources and headers are, once all marks are, once those but of a baseline are, once the include paths are, and
-- once the costs are
abbrev pub with_places : {S : Type 0} → Language → Command → Question → Opened → Layout → Built → EndPaths → Places → Step S Asked
with_places language command q o layout b ends places = comes_to (Ok (asked_for language command o layout b ends places (b.notes ++ notes_for command layout q)))

abbrev pub with_ends : {S : Type 0} → Language → Command → Question → Limits → (without fixed : List Mark) → Opened → Layout → Built → EndPaths → Step S Asked
with_ends language command q l without fixed o layout b ends =
    then (comes_to (places_of layout q l without fixed)) (with_places language command q o layout b ends)

abbrev pub with_accepted : {S : Type 0} → Language → Command → Question → Limits → (fixed : List Mark) → Opened → Layout → Built → Accepted → Step S Asked
with_accepted language command q l fixed o layout b a =
    asked_marked language command q l a.without fixed o layout (record { others = b.others; read_with = b.read_with; notes = a.notes })

abbrev pub with_marks : {S : Type 0} → Gives S → Language → Command → Question → Limits → Opened → Layout → Built → Marked → Step S Asked
with_marks gives language command q l o layout b m = asked_beside gives language command q l m.without m.fixed o layout b

abbrev pub with_others : {S : Type 0} → Gives S → Language → Command → Question → Limits → Added → (without fixed : List Mark) → Opened → Layout → (others : List SearchPath) → Step S Asked
with_others gives language command q l a without fixed o layout others = asked_built gives language command q l without fixed o layout (built_by layout q.files o a without fixed others)

abbrev pub with_costs : {S : Type 0} → Gives S → Language → Command → Question → Limits → Added → Texts → List Cost → Step S Asked
with_costs gives language command q l a t costs = asked_opened gives language command q l a t.without t.fixed (opened_by q t costs)

-- rules once the lines of a baseline are known
abbrev pub with_lines : {S : Type 0} → RuleWords → List Rule → List NamedLine → Step S Ruled
with_lines w rules lines = comes_to (Ok (record { rules = rules; baseline = record { name = w.baseline; lines = lines } }))
