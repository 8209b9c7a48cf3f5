-- Answers as graphs that graphviz draws: an edge for each directive, with its line.
use Rattle.std.specs.Prelude.{ℕ, suc, ◌==◌, ◌||◌, Bool, true, false, List, [], ◌∷◌, ◌++◌, Option, Some, None, if◌then◌else◌, codes, decimal, flat_map, nat_lt, slice_index_or}
use Rattle.inc_lookup.specs.Projects.{Layout, path_at}
use Rattle.inc_graph.specs.Cuts.{fixed_by}
use Rattle.inc_graph.specs.IncludeGraph.{Edge, Graph}
use Rattle.inc_graph.specs.Members.{is_member}
use Rattle.inc_answers.specs.JsonTexts.{hex_byte}

-- a byte of a quoted text, which `"` ends and in which `\` escapes. Control bytes are shown
abbrev pub dot_byte : ℕ → List ℕ
dot_byte b =
    if b == 34 || b == 92 then 92 ∷ b ∷ [] else if nat_lt b 32 || b == 127 then codes "\\\\x" ++ hex_byte b else b ∷ []

abbrev pub dot_path : List ℕ → List ℕ
dot_path path = 34 ∷ (flat_map dot_byte path ++ 34 ∷ [])

-- how an edge is drawn that a cut removes, and one that no cut may remove
abbrev pub look : (is_removed is_fixed : Bool) → List ℕ
look true is_fixed = codes ",color=red"
look false true = codes ",style=bold"
look false false = []

-- from which file it leads to which
abbrev pub ends_text : Layout → Edge → List ℕ
ends_text layout e = codes "  " ++ dot_path (path_at layout e.from) ++ codes " -> " ++ dot_path (path_at layout e.to)

abbrev pub label_text : (line : ℕ) → (look : List ℕ) → List ℕ
label_text line look = codes " [label=\"" ++ decimal line ++ codes "\"" ++ look ++ codes "];\n"

abbrev pub edge_line : Layout → Edge → (look : List ℕ) → List ℕ
edge_line layout e look = ends_text layout e ++ label_text e.line look

-- which edges are drawn, which of them a cut removes, and which no cut may remove
pub record Drawn : Type 0 where
  pub edges : ℕ → Bool
  pub removed : ℕ → Bool
  pub fixed : ℕ → Bool

abbrev pub line_of : Layout → Drawn → ℕ → Edge → List ℕ
line_of layout d i e = if d.edges i then edge_line layout e (look (d.removed i) (d.fixed i)) else []

-- the lines of edges, the first of which has this number
abbrev pub lines_from : Layout → Drawn → ℕ → List Edge → List ℕ
lines_from layout d i [] = []
lines_from layout d i (e ∷ es) = line_of layout d i e ++ lines_from layout d (suc i) es

abbrev pub dot_text : Layout → Graph → Drawn → List ℕ
dot_text layout g d = codes "digraph incut {\n" ++ lines_from layout d 0 g.edges ++ codes "}\n"

-- those whose amounts say so are fixed, where there are amounts
abbrev pub fixed_in : (amounts : Option (List ℕ)) → ℕ → Bool
fixed_in None i = false
fixed_in (Some amounts) i = fixed_by amounts i

-- these edges are drawn, and of them these are removed
abbrev pub drawn : (edges removed : List ℕ) → (amounts : Option (List ℕ)) → Drawn
drawn edges removed amounts =
    record { edges = λ i. is_member i edges; removed = λ i. is_member i removed; fixed = fixed_in amounts }

-- all edges are drawn, and nothing is said of them
abbrev pub all_drawn : Drawn
all_drawn = record { edges = λ i. true; removed = λ i. false; fixed = λ i. false }

-- those with a flag are drawn, where there are flags
abbrev pub drawn_in : (flags : Option (List Bool)) → ℕ → Bool
drawn_in None i = true
drawn_in (Some flags) i = slice_index_or flags i false

-- the same by flags
abbrev pub flagged : (edges : Option (List Bool)) → (removed : List Bool) → (amounts : Option (List ℕ)) → Drawn
flagged edges removed amounts =
    record { edges = drawn_in edges; removed = λ i. slice_index_or removed i false; fixed = fixed_in amounts }
