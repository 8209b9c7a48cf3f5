-- The text that `cost` prints: what all sources reach, by which headers and directives most of it comes in, and what groups of headers cost.
use Rattle.std.specs.Prelude.{◌≡◌, ℕ, List, [], ◌∷◌, ◌++◌, if◌then◌else◌, codes, decimal, flat_map, length, map, slice_index}
use Rattle.std.specs.List.{range_with_len}
use Rattle.inc_lookup.specs.Given.{Given}
use Rattle.inc_lookup.specs.Projects.{Layout, Listing, path_at}
use Rattle.inc_graph.specs.IncludeGraph.{Graph}
use Rattle.inc_graph.specs.Members.{is_member}
use Rattle.inc_check.specs.Certificates.{marks_of}
use Rattle.inc_check.specs.Texts.{line_text, marks_text}
use Rattle.inc_cost.specs.Costs.{Group, AreAllBrought, AreDearest, AreSaved, IsTotal}
use Rattle.inc_answers.specs.CostGroups.{Costed, AreCosted, AreGroupsRanked, group_line}
use Rattle.inc_answers.specs.FileSizes.{file_sizes}
use Rattle.inc_answers.specs.AnswerNotes.{empty_notes}
use Rattle.inc_answers.specs.Numbers.{count_text}
use Rattle.inc_answers.specs.Printed.{Printed, answered_of}
use Rattle.inc_answers.specs.Questions.{Answer, IsAnswer, IsAnswerBy}
use Rattle.inc_answers.specs.Strictness.{Strict, strays_of}
use Rattle.inc_answers.specs.Terms.{Question}

-- for each edge or file its bytes, and how many sources count in it
pub record Amounts : Type 0 where
  pub bytes : List ℕ
  pub counts : List ℕ

---- what is ranked

-- what a file brings, if it is no source
abbrev pub header_bytes_at : Graph → (bytes : List ℕ) → (file : ℕ) → ℕ
header_bytes_at g bytes f = if is_member f g.sources then 0 else slice_index bytes f

abbrev pub header_bytes : Graph → (bytes : List ℕ) → List ℕ
header_bytes g bytes = map (header_bytes_at g bytes) (range_with_len 0 g.files)

---- lines

-- what an edge or a file has
abbrev pub amount_text : Amounts → (place : ℕ) → List ℕ
amount_text a place = decimal (slice_index a.bytes place) ++ codes " " ++ decimal (slice_index a.counts place) ++ codes " "

-- what a header brings, and its path
abbrev pub header_line : Layout → Amounts → (file : ℕ) → List ℕ
header_line layout brought f = amount_text brought f ++ line_text (path_at layout f)

-- what goes with an edge, and its directive
abbrev pub edge_line : Layout → Graph → Amounts → (edge : ℕ) → List ℕ
edge_line layout g saved i = amount_text saved i ++ marks_text (marks_of layout g (i ∷ []))

-- what all sources reach together, and how many there are
abbrev pub total_line : (total sources : ℕ) → List ℕ
total_line total sources = line_text (codes "cost " ++ decimal total ++ codes " " ++ decimal sources)

-- how many includes are not found, and of how many nothing can be said
abbrev pub unknown_text : Graph → List ℕ
unknown_text g = count_text (codes "missing") (length g.missing) ++ count_text (codes "blocked") (length g.blockers)

---- the text

-- what is printed: the total, the headers, the groups and the edges
pub record Ranked : Type 0 where
  pub total : ℕ
  pub brought : Amounts
  pub headers : List ℕ
  -- the groups in the order in which they are given, and their places as they are printed
  pub costed : List Costed
  pub groups : List ℕ
  pub saved : Amounts
  pub edges : List ℕ

abbrev pub cost_text : Layout → Graph → Ranked → List ℕ
cost_text layout g r =
    total_line r.total (length g.sources) ++ (count_text (codes "headers") (length r.headers) ++ flat_map (header_line layout r.brought) r.headers)
    ++ (count_text (codes "groups") (length r.groups) ++ flat_map (group_line r.costed) r.groups)
    ++ (count_text (codes "directives") (length r.edges) ++ flat_map (edge_line layout g r.saved) r.edges) ++ unknown_text g

-- of a graph whose files weigh so much: at most so many headers, and as many edges, and these groups. Headers that are not found are noted
pub record IsRanked (weights : List ℕ) (most : ℕ) (groups : List Group) (layout : Layout) (g : Graph) (r : Ranked) : Type 0 where
  pub total : IsTotal g weights [] g.sources r.total
  pub brought : AreAllBrought g weights g.sources r.brought.bytes r.brought.counts
  pub headers : AreDearest (header_bytes g r.brought.bytes) most r.headers
  pub costed : AreCosted layout g weights groups r.costed
  pub ranked : AreGroupsRanked r.costed r.groups
  pub saved : AreSaved g weights g.sources r.saved.bytes r.saved.counts
  pub edges : AreDearest r.saved.bytes most r.edges

abbrev pub IsCostFor : (weights : List ℕ) → (most : ℕ) → (groups : List Group) → Answer
IsCostFor weights most groups layout g p =
    (r : Ranked) × IsRanked weights most groups layout g r × (p ≡ answered_of (empty_notes layout g) (cost_text layout g r))

-- of one whose files are those of a listing
abbrev pub IsCostOf : (most : ℕ) → (groups : List Group) → Listing → Answer
IsCostOf most groups listing layout g p = IsCostFor (file_sizes listing g.headers) most groups layout g p

-- what `cost` prints
abbrev pub IsCost : (most : ℕ) → (groups : List Group) → Question → Listing → Printed → Type 0
IsCost most groups q listing p = IsAnswer (Strict (strays_of q) (IsCostOf most groups listing)) q listing p

-- and which files are read for that
abbrev pub IsCostBy : (most : ℕ) → (groups : List Group) → Question → Printed → List Given → Listing → Type 0
IsCostBy most groups q p given listing = IsAnswerBy (Strict (strays_of q) (IsCostOf most groups listing)) q p given listing
