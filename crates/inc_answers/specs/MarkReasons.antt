-- Why marks are refused: a mark that names no include directive, with those of its file that are nearest, or a second cost of one mark.
use Rattle.std.specs.Prelude.{ℕ, suc, ◌==◌, ◌&&◌, Bool, List, [], ◌∷◌, ◌++◌, if◌then◌else◌, bytes_eq, codes, decimal, fold, nat_lt, position, slice_get, unwrap_or}
use Rattle.std.specs.Option.{option_map_or}
use Rattle.inc_lookup.specs.Projects.{Layout, place_of}
use Rattle.inc_graph.specs.IncludeGraph.{Graph}
use Rattle.inc_graph.specs.Indexes.{edges_leaving}
use Rattle.inc_graph.specs.Marks.{Mark, Cost}
use Rattle.inc_graph.specs.MissingLists.{Missing}
use Rattle.inc_graph.specs.declared.fixing.FixedFault.{FixedFault}
use Rattle.inc_graph.specs.declared.fixing.FixedFault.TheVariants as fixed
use Rattle.inc_graph.specs.declared.graphs.Edge as declared
use Rattle.inc_answers.specs.MissingNotes.{shown}
use Rattle.inc_answers.specs.declared.mark_reasons.Nearest.{Nearest}

---- the nearest directives

-- the later of two lines before another one, and the earlier of two behind it; 0 is none
abbrev pub later : (best line : ℕ) → ℕ
later best line = if nat_lt best line then line else best

abbrev pub earlier : (best line : ℕ) → ℕ
earlier best line = if best == 0 then line else if nat_lt line best then line else best

-- no lines
abbrev pub no_lines : Nearest
no_lines = record { before = 0; after = 0 }

-- the nearest lines to one, with a line more
abbrev pub with_line : (at : ℕ) → Nearest → (line : ℕ) → Nearest
with_line at n line =
    if nat_lt line at then record { before = later n.before line; after = n.after }
    else if nat_lt at line then record { before = n.before; after = earlier n.after line } else n

abbrev pub with_edge : (at : ℕ) → Nearest → declared.Edge → Nearest
with_edge at n e = with_line at n e.line

-- with a line more of a file, if it is this one
abbrev pub with_line_of : (file at : ℕ) → Nearest → (other line : ℕ) → Nearest
with_line_of file at n other line = if other == file then with_line at n line else n

-- with that of a directive whose header is not found
abbrev pub with_missing : (file at : ℕ) → Nearest → Missing → Nearest
with_missing file at n m = with_line_of file at n m.file m.line

-- the lines of include directives of a file that are nearest to a line: of those that lead to files, and of those whose header is not found
abbrev pub nearest_in : Graph → (at : ℕ) → (file : ℕ) → Nearest
nearest_in g at file = fold (with_missing file at) (fold (with_edge at) no_lines (edges_leaving g.edges file)) g.missing

-- the same in the file of a mark, to its line
abbrev pub nearest_to : Layout → Graph → Mark → Nearest
nearest_to layout g m = option_map_or (nearest_in g m.line) (place_of m.path layout.paths) no_lines

---- the texts

-- a place as compilers write it
abbrev pub place : (path : List ℕ) → (line : ℕ) → List ℕ
place path line = shown path ++ codes ":" ++ decimal line

-- that a file has no include directive, or where the nearest are
abbrev pub none_words : (path : List ℕ) → List ℕ
none_words path = codes " (" ++ shown path ++ codes " has no include directive)"

abbrev pub one_words : (path : List ℕ) → (line : ℕ) → List ℕ
one_words path line = codes " (the nearest is " ++ place path line ++ codes ")"

abbrev pub two_words : (path : List ℕ) → (before after : ℕ) → List ℕ
two_words path before after = codes " (the nearest are " ++ place path before ++ codes ", " ++ place path after ++ codes ")"

abbrev pub after_words : (path : List ℕ) → (after : ℕ) → List ℕ
after_words path after = if after == 0 then none_words path else one_words path after

abbrev pub near_words : (path : List ℕ) → Nearest → List ℕ
near_words path n =
    if n.before == 0 then after_words path n.after else if n.after == 0 then one_words path n.before else two_words path n.before n.after

-- a mark that names no include directive, and where it stands
abbrev pub no_directive : Layout → Graph → (where_is : List ℕ) → Mark → List ℕ
no_directive layout g where_is m =
    codes "incut: " ++ where_is ++ codes ": no include directive at " ++ place m.path m.line ++ near_words m.path (nearest_to layout g m) ++ 10 ∷ []

-- where the marks of directives that may not be removed stand
abbrev pub fixed_place : List ℕ
fixed_place = codes "--fixed or --keep"

-- where the cost at this place stands in its list, which has one on each line
abbrev pub cost_place : (i : ℕ) → List ℕ
cost_place i = codes "--costs line " ++ decimal (suc i)

-- a cost has this mark
abbrev pub is_cost_of : Mark → Cost → Bool
is_cost_of m c = bytes_eq m.path c.mark.path && (m.line == c.mark.line)

-- the place of the first cost of a mark
abbrev pub first_cost : List Cost → Mark → ℕ
first_cost costs m = unwrap_or (position (is_cost_of m) costs) 0

-- the cost at this place is the second of its mark
abbrev pub cost_twice : List Cost → (i : ℕ) → Mark → List ℕ
cost_twice costs i m =
    codes "incut: " ++ cost_place i ++ codes ": " ++ place m.path m.line ++ codes " has a cost on line " ++ decimal (suc (first_cost costs m)) ++ codes " already"
    ++ 10 ∷ []

---- why marks are refused

abbrev pub fixed_reason : Layout → Graph → List Mark → (i : ℕ) → List ℕ
fixed_reason layout g marks i = option_map_or (no_directive layout g fixed_place) (slice_get marks i) []

abbrev pub cost_reason : Layout → Graph → List Cost → (i : ℕ) → List ℕ
cost_reason layout g costs i = option_map_or (λ (c : Cost). no_directive layout g (cost_place i) c.mark) (slice_get costs i) []

abbrev pub twice_reason : List Cost → (i : ℕ) → List ℕ
twice_reason costs i = option_map_or (λ (c : Cost). cost_twice costs i c.mark) (slice_get costs i) []

-- what is said of a fault of these marks and costs
abbrev pub marks_reason : Layout → Graph → List Mark → List Cost → FixedFault → List ℕ
marks_reason layout g marks costs (fixed.NoSuchDirective i) = fixed_reason layout g marks i
marks_reason layout g marks costs (fixed.NoSuchCost i) = cost_reason layout g costs i
marks_reason layout g marks costs (fixed.CostTwice i) = twice_reason costs i
marks_reason layout g marks costs fixed.NoMemory = []
