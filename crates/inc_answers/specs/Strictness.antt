-- Includes that are not found, for whose sake the answer to a strict question is refused: all but those whose header is excepted by name.
use Rattle.std.specs.Prelude.{◌≡◌, ℕ, ◌-◌, Bool, true, false, not, List, [], ◌∷◌, ◌++◌, if◌then◌else◌, codes, filter, flat_map, length, take}
use Rattle.std.specs.List.{list_any}
use Rattle.std.specs.Option.{option_map_or}
use Rattle.inc_globs.specs.Globs.{fits, pieces}
use Rattle.inc_lookup.specs.Projects.{Layout, path_at}
use Rattle.inc_graph.specs.IncludeGraph.{Graph}
use Rattle.inc_graph.specs.MissingLists.{Missing}
use Rattle.inc_graph.specs.declared.graphs.Blocker.{Blocker}
use Rattle.inc_answers.specs.FaultReasons.{reason_line}
use Rattle.inc_answers.specs.MissingNames.{spelled}
use Rattle.inc_answers.specs.MissingNotes.{shown}
use Rattle.inc_answers.specs.NearNames.{more_line, most_unnamed}
use Rattle.inc_answers.specs.Printed.{Printed}
use Rattle.inc_answers.specs.Questions.{Answer}
use Rattle.inc_answers.specs.Refusals.{NotFound, refusal_for}
use Rattle.inc_answers.specs.Terms.{Question}
use Rattle.inc_answers.specs.declared.asked.Asked.{Asked}
use Rattle.inc_answers.specs.declared.asked.Asked.TheVariants as asked

---- which they are

-- a glob fits the name of a header, as it stands between the quotes or the brackets; a word that is no glob fits none
abbrev pub fits_name : (name glob : List ℕ) → Bool
fits_name name glob = option_map_or (λ ps. fits ps name) (pieces glob) false

-- some of these does
abbrev pub is_excepted : (globs : List (List ℕ)) → Missing → Bool
is_excepted globs m = list_any (fits_name m.header.name) globs

-- the directives that are not excepted
abbrev pub strays : (globs : List (List ℕ)) → List Missing → List Missing
strays globs ms = filter (λ m. not (is_excepted globs m)) ms

-- those of a graph, where the question is strict
abbrev pub strays_of : Question → Graph → List Missing
strays_of q g = if q.is_strict then strays q.external g.missing else []

-- the same where blockers are refused before them
abbrev pub strays_behind : List Blocker → List Missing → List Missing
strays_behind [] ms = ms
strays_behind (b ∷ bs) ms = []

abbrev pub open_strays_of : Question → Graph → List Missing
open_strays_of q g = strays_behind g.blockers (strays_of q g)

-- the same of what is asked: a cut is refused for its blockers first
abbrev pub asked_strays_of : Asked → Question → Graph → List Missing
asked_strays_of asked.Cut q g = open_strays_of q g
asked_strays_of _ q g = strays_of q g

---- what is printed

-- the line on one
abbrev pub stray_reason : Layout → Missing → List ℕ
stray_reason layout m = reason_line (path_at layout m.file) m.line (shown (spelled m.header) ++ codes " is not found")

-- the line that says how to go on
abbrev pub except_line : List ℕ
except_line = codes "incut: if other projects have such headers, name them with --external NAME\n"

-- what is said beside the refusal: a line on each of the first directives, how many more there are, and how to go on
abbrev pub stray_reasons : Layout → List Missing → List ℕ
stray_reasons layout ms =
    flat_map (stray_reason layout) (take most_unnamed ms) ++ more_line (length ms - most_unnamed) ++ except_line

abbrev pub not_found : Layout → List Missing → Printed
not_found layout ms = refusal_for (stray_reasons layout ms) (NotFound layout ms)

-- what is printed where there are none of these, or the refusal in its place
abbrev pub Unless : Layout → List Missing → (Printed → Type 0) → Printed → Type 0
Unless layout [] Then p = Then p
Unless layout (m ∷ ms) Then p = p ≡ not_found layout (m ∷ ms)

abbrev pub Strict : (found : Graph → List Missing) → Answer → Answer
Strict found Then layout g p = Unless layout (found g) (Then layout g) p
