-- What groups of headers cost, and how many directives the smallest cut before each has.
use Rattle.std.specs.Prelude.{◌≡◌, ℕ, suc, ◌==◌, ◌&&◌, not, Bool, false, List, [], ◌∷◌, ◌++◌, Result, Ok, Err, codes, decimal, filter, length, map, slice_get, IsTrue}
use Rattle.std.specs.List.{list_any, range_with_len}
use Rattle.std.specs.Option.{option_map_or}
use Rattle.inc_lookup.specs.Projects.{Layout}
use Rattle.inc_graph.specs.Between.{between}
use Rattle.inc_graph.specs.Chains.{is_chain}
use Rattle.inc_graph.specs.Cuts.{Fixed as FixedEdges, IsSeparating, IsSmallest}
use Rattle.inc_graph.specs.FileSets.{AreFlags}
use Rattle.inc_graph.specs.IncludeGraph.{Graph}
use Rattle.inc_graph.specs.Members.{is_member}
use Rattle.inc_graph.specs.declared.graphs.Blocker.{Blocker}
use Rattle.inc_check.specs.Texts.{line_text}
use Rattle.inc_cost.specs.Costs.{Group, AreDearest, IsKeptOut}
use Rattle.inc_answers.specs.NamedFiles.{files_at}
use Rattle.inc_answers.specs.declared.cost_groups.CutCount.{CutCount}
use Rattle.inc_answers.specs.declared.cost_groups.CutCount.TheVariants.{Blocked, Fixed, Smallest}

---- the headers of a group

-- files, or none where a path names none
abbrev pub files_or_none : Result (List ℕ) ℕ → List ℕ
files_or_none (Ok files) = files
files_or_none (Err i) = []

-- the files that its paths name
abbrev pub group_files : Layout → Group → List ℕ
group_files layout x = files_or_none (files_at layout x.paths)

-- those that are no sources
abbrev pub group_headers : Layout → Graph → Group → List ℕ
group_headers layout g x = filter (λ f. not (is_member f g.sources)) (group_files layout x)

---- the smallest cut before headers

-- the part of the graph that leads from its sources to the headers
abbrev pub part_to : Graph → (headers : List ℕ) → Graph
part_to g headers = between g.sources headers g

-- files that are none of the headers, with a directive of which nothing can be said
abbrev pub open_files : Graph → (headers : List ℕ) → List ℕ
open_files g headers = filter (λ f. list_any (λ (b : Blocker). b.file == f) g.blockers && not (is_member f headers)) (range_with_len 0 g.files)

-- a chain leads to such a file in that part
abbrev pub IsOpen : Graph → (headers : List ℕ) → Type 0
IsOpen g headers = (chain : List ℕ) × IsTrue (is_chain (between g.sources (open_files g headers) (part_to g headers)) chain)

-- each edge may be removed
abbrev pub none_fixed : FixedEdges
none_fixed edge = false

-- how many edges the smallest set has of which each chain of the part has one, or that there is no such set
abbrev pub IsCounted : (part : Graph) → CutCount → Type 0
IsCounted part Blocked = ⊥
IsCounted part Fixed = (set : List ℕ) → IsSeparating part none_fixed set → ⊥
IsCounted part (Smallest n) = (set : List ℕ) × IsSmallest part none_fixed set × (n ≡ length set)

abbrev pub IsCutCount : Graph → (headers : List ℕ) → CutCount → Type 0
IsCutCount g headers Blocked = IsOpen g headers
IsCutCount g headers count = (IsOpen g headers → ⊥) × IsCounted (part_to g headers) count

-- where no header is left, nothing is to be removed
abbrev pub IsCutBefore : Graph → (headers : List ℕ) → CutCount → Type 0
IsCutBefore g [] count = count ≡ Smallest 0
IsCutBefore g (h ∷ hs) count = IsCutCount g (h ∷ hs) count

---- what groups cost

-- a group by its name: how much less all sources weigh without the edges that lead into it, and how many sources that is about
pub record Costed : Type 0 where
  pub name : List ℕ
  pub bytes : ℕ
  pub count : ℕ
  pub cut : CutCount

-- the headers have these costs
abbrev pub IsHeldBack : Graph → (weights headers : List ℕ) → (bytes count : ℕ) → Type 0
IsHeldBack g weights headers bytes count = (flags : List Bool) × AreFlags headers flags × IsKeptOut g weights flags bytes count

pub record IsCosted (layout : Layout) (g : Graph) (weights : List ℕ) (x : Group) (c : Costed) : Type 0 where
  pub name : c.name ≡ x.name
  pub costs : IsHeldBack g weights (group_headers layout g x) c.bytes c.count
  pub cut : IsCutBefore g (group_headers layout g x) c.cut

-- each of these groups
pub data AreCosted (layout : Layout) (g : Graph) (weights : List ℕ) : List Group → List Costed → Type 0 where
  no_group : AreCosted layout g weights [] []
  and_group : {x : Group} {c : Costed} {xs : List Group} {cs : List Costed} →
      IsCosted layout g weights x c → AreCosted layout g weights xs cs → AreCosted layout g weights (x ∷ xs) (c ∷ cs)

-- all of them are ranked: by one more than they cost, so that none is left out that costs nothing
abbrev pub AreGroupsRanked : List Costed → (places : List ℕ) → Type 0
AreGroupsRanked cs places = AreDearest (map (λ (c : Costed). suc c.bytes) cs) (length cs) places

---- lines

abbrev pub cut_words : CutCount → List ℕ
cut_words Blocked = codes "blocked"
cut_words Fixed = codes "fixed"
cut_words (Smallest n) = decimal n

abbrev pub costed_line : Costed → List ℕ
costed_line c =
    decimal c.bytes ++ codes " " ++ decimal c.count ++ codes " " ++ cut_words c.cut ++ codes " " ++ line_text c.name

-- of the group at a place
abbrev pub group_line : List Costed → (place : ℕ) → List ℕ
group_line cs place = option_map_or costed_line (slice_get cs place) []
