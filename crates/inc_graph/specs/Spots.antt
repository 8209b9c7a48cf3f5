-- Whether a graph has a directive at a line of a file.
use Rattle.std.specs.Prelude.{◌≡◌, ℕ, ◌<◌, ◌==◌, ◌&&◌, ◌||◌, not, Bool, List, length, slice_index}
use Rattle.std.specs.List.{list_any}
use Rattle.inc_graph.specs.MissingLists.{Missing}
use Rattle.inc_graph.specs.IncludeGraph.{Edge, Graph}
use Rattle.inc_graph.specs.Indexes.{edges_entering}
use Rattle.inc_graph.specs.MarkedEdges.{is_reached}
use Rattle.inc_graph.specs.Members.{is_member}

-- a directive is at this line of the file: an edge, or one whose header is not found
abbrev pub is_directive_at : Graph → (file line : ℕ) → Bool
is_directive_at g file line =
    list_any (λ (e : Edge). (e.from == file) && (e.line == line)) g.edges
    || list_any (λ (d : Missing). (d.file == file) && (d.line == line)) g.missing

-- for each file how many edges lead to it
pub record AreEntered (g : Graph) (counts : List ℕ) : Type 0 where
  pub long : length counts ≡ g.files
  pub each : (f : ℕ) → f < g.files → slice_index counts f ≡ length (edges_entering g.edges f)

-- none is there, in a reached file that is no header
abbrev pub is_unknown_at : Graph → (file line : ℕ) → Bool
is_unknown_at g file line = is_reached g file && (not (is_member file g.headers) && not (is_directive_at g file line))
