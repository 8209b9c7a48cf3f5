-- The directives that may not be removed, by marks and by the files that they are in, and what the others cost.
use Rattle.std.specs.Prelude.{ℕ, ◌==◌, ◌&&◌, ◌||◌, not, Bool, List, [], ◌∷◌, Option, Some, None, if◌then◌else◌, false, find, map, position, bytes_eq, option_map, slice_index_or}
use Rattle.std.specs.List.{list_any, range_with_len}
use Rattle.std.specs.Option.{option_map_or}
use Rattle.inc_graph.specs.MissingLists.{Missing}
use Rattle.inc_lookup.specs.Projects.{Layout, path_at}
use Rattle.inc_graph.specs.declared.fixing.FixedFault.{FixedFault}
use Rattle.inc_graph.specs.declared.fixing.FixedFault.TheVariants.{NoSuchDirective, NoSuchCost, CostTwice}
use Rattle.inc_graph.specs.IncludeGraph.{Edge, Graph}
use Rattle.inc_graph.specs.Marks.{Mark, Cost}
use Rattle.inc_graph.specs.Members.{is_member}

---- marks

-- equal paths and lines
abbrev pub same_mark : Mark → Mark → Bool
same_mark a b = bytes_eq a.path b.path && (a.line == b.line)

-- the mark names the directive at this line of the file whose path it has, byte for byte
abbrev pub names : Layout → Mark → (file line : ℕ) → Bool
names layout m file line = bytes_eq m.path (path_at layout file) && (m.line == line)

-- the mark names the directive of an edge
abbrev pub names_edge : Layout → Mark → Edge → Bool
names_edge layout m e = names layout m e.from e.line

-- the number of the first edge at a line of a file, if there is a file
abbrev pub in_place : Graph → Option ℕ → (line : ℕ) → Option ℕ
in_place g None line = None
in_place g (Some f) line = position (λ (e : Edge). (e.from == f) && (e.line == line)) g.edges

-- the number of the first edge that a mark names
abbrev pub edge_number : Layout → Graph → Mark → Option ℕ
edge_number layout g m = position (names_edge layout m) g.edges

-- the sources, and each file that an edge leads to
abbrev pub is_reached : Graph → ℕ → Bool
is_reached g f = is_member f g.sources || list_any (λ (e : Edge). e.to == f) g.edges

-- a mark in a reached file that is no header, at a line where neither an edge nor a missing one is
abbrev pub is_unknown : Layout → Graph → Mark → Bool
is_unknown layout g m =
    list_any (λ f. is_reached g f && (not (is_member f g.headers) && bytes_eq m.path (path_at layout f))) (range_with_len 0 g.files)
    && (not (list_any (names_edge layout m) g.edges)
    && not (list_any (λ (d : Missing). names layout m d.file d.line) g.missing))

-- the place of the first such mark
abbrev pub first_unknown : Layout → Graph → List Mark → Option ℕ
first_unknown layout g marks = position (is_unknown layout g) marks

---- fixed directives and costs

-- the marks of costs
abbrev pub marks_of_costs : List Cost → List Mark
marks_of_costs costs = map (λ (c : Cost). c.mark) costs

-- the cost given for the directive at a line of a file, 1 where none is; costs of other lines say nothing
abbrev pub amount_at : Layout → List Cost → (file line : ℕ) → ℕ
amount_at layout costs file line = option_map_or (λ (c : Cost). c.amount) (find (λ (c : Cost). names layout c.mark file line) costs) 1

abbrev pub amount_for : Layout → List Cost → Edge → ℕ
amount_for layout costs e = amount_at layout costs e.from e.line

-- the edge leaves a file that is kept as it is; there is a flag for each file, or none at all
abbrev pub is_kept : (kept : List Bool) → Edge → Bool
is_kept kept e = slice_index_or kept e.from false

-- 0 where the edge leaves a kept file or a mark names it, so that it is fixed, else what it costs
abbrev pub edge_amount : Layout → (kept : List Bool) → List Mark → List Cost → Edge → ℕ
edge_amount layout kept marks costs e =
    if is_kept kept e then 0 else if list_any (λ m. names_edge layout m e) marks then 0 else amount_for layout costs e

-- for each edge, by its number
abbrev pub amounts_by : Layout → Graph → (kept : List Bool) → List Mark → List Cost → List ℕ
amounts_by layout g kept marks costs = map (edge_amount layout kept marks costs) g.edges

---- what may be wrong with them

-- whether each mark equals one before it
abbrev pub are_repeated : (before : List Mark) → List Mark → List Bool
are_repeated before [] = []
are_repeated before (m ∷ ms) = list_any (same_mark m) before ∷ are_repeated (m ∷ before) ms

-- the place of the first mark that equals one before it
abbrev pub first_repeated : List Mark → Option ℕ
first_repeated marks = position (λ b. b) (are_repeated [] marks)

-- the first mark or cost that names no directive, or else the first mark that has a cost already
abbrev pub first_fault : (unknown unknown_cost twice : Option ℕ) → Option FixedFault
first_fault (Some i) c t = Some (NoSuchDirective i)
first_fault None (Some i) t = Some (NoSuchCost i)
first_fault None None t = option_map CostTwice t

-- what is wrong with the marks of fixed directives and with the costs, if anything is
abbrev pub marks_fault : Layout → Graph → (marks : List Mark) → List Cost → Option FixedFault
marks_fault layout g marks costs =
    first_fault (first_unknown layout g marks) (first_unknown layout g (marks_of_costs costs)) (first_repeated (marks_of_costs costs))
