-- Printed lists of directives.
use Rattle.std.specs.Prelude.{◌≡◌, ℕ, ◌==◌, List, [], ◌++◌, Option, Some, if◌then◌else◌, length, map, flat_map, slice_get, codes}
use Rattle.inc_lookup.specs.Projects.{Layout, path_at}
use Rattle.inc_graph.specs.declared.graphs.Blocker.{Blocker}
use Rattle.inc_graph.specs.declared.graphs.BlockerKind.{BlockerKind}
use Rattle.inc_graph.specs.declared.graphs.BlockerKind.TheVariants.{Computed, Foreign, Several}
use Rattle.inc_graph.specs.declared.graphs.Edge.{Edge}
use Rattle.inc_graph.specs.MissingLists.{Missing}
use Rattle.inc_graph.specs.IncludeGraph.{Graph}
use Rattle.inc_graph.specs.Marks.{Mark}
use Rattle.inc_graph.specs.Views.{numbered}
use Rattle.inc_check.specs.Texts.{line_text, marks_text}
use Rattle.inc_answers.specs.Bounds.{first_of, left_out, more_words}
use Rattle.inc_answers.specs.Numbers.{count_text, directive_text}

abbrev pub mark_text : Mark → List ℕ
mark_text m = directive_text m.line m.path

-- a word and a number, and so many directives
abbrev pub list_text : List ℕ → List Mark → List ℕ
list_text word ms = count_text word (length ms) ++ marks_text ms

-- that so many more are not printed, where some are
abbrev pub more_text : ℕ → List ℕ
more_text n = if n == 0 then [] else line_text (more_words n)

-- how many chains there are, and at most so many of them
abbrev pub chains_text : (most : Option ℕ) → List (List Mark) → List ℕ
chains_text most chains =
    count_text (codes "chains") (length chains) ++ flat_map (list_text (codes "chain")) (first_of most chains) ++ more_text (left_out most (length chains))

-- the directive at a line of a file
abbrev pub mark_at : Layout → (file line : ℕ) → Mark
mark_at layout file line = record { path = path_at layout file; line = line }

abbrev pub missing_mark : Layout → Missing → Mark
missing_mark layout m = mark_at layout m.file m.line

-- why nothing can be said of a blocker
abbrev pub blocker_word : BlockerKind → List ℕ
blocker_word Computed = codes "computed "
blocker_word Foreign = codes "foreign "
blocker_word Several = codes "several "

abbrev pub blocker_text : Layout → Blocker → List ℕ
blocker_text layout b = blocker_word b.kind ++ mark_text (mark_at layout b.file b.line)

abbrev pub blockers_text : Layout → List Blocker → List ℕ
blockers_text layout bs = flat_map (blocker_text layout) bs

-- these are the edges of the graph with these numbers
abbrev pub AreFound : Graph → (is : List ℕ) → (found : List Edge) → Type 0
AreFound g is found = map (λ i. slice_get (numbered g.edges) i) is ≡ map (λ e. Some e) found
