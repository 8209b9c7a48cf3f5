-- Which rules the files of a graph break, and by which chains of includes or in which files.
use Rattle.std.specs.Prelude.{◌≡◌, ℕ, ◌<◌, ◌==◌, ◌&&◌, ◌||◌, not, Bool, false, List, [], ◌∷◌, filter, flat_map, if◌then◌else◌, length, map, nat_lt, slice_get}
use Rattle.std.specs.List.{All, list_any, range_with_len}
use Rattle.std.specs.Option.{option_map_or}
use Rattle.inc_lookup.specs.Projects.{Layout, path_at}
use Rattle.inc_graph.specs.Between.{between, in_whole}
use Rattle.inc_graph.specs.IncludeGraph.{Graph}
use Rattle.inc_graph.specs.Indexes.{edges_leaving}
use Rattle.inc_graph.specs.MissingLists.{Missing}
use Rattle.inc_graph.specs.Reaching.{AreReaching, Reaching}
use Rattle.inc_graph.specs.declared.graphs.Blocker.{Blocker}
use Rattle.inc_graph.specs.declared.graphs.Edge as declared
use Rattle.inc_rules.specs.Rules.{Rule, is_left, is_right}
use Rattle.inc_rules.specs.declared.rules.Verb.TheVariants.{NotReach, NotInclude, Include, IncludeFirst}

-- a rule, the chains that may not be there, by the numbers of their edges, and the files that do not include what they must; it holds where
-- there are none of either
pub record Judged : Type 0 where
  pub rule : Rule
  pub chains : List (List ℕ)
  pub files : List ℕ

---- the files of a rule

-- the sources that it is about
abbrev pub left_files : Layout → Graph → Rule → List ℕ
left_files layout g r = filter (λ f. is_left r (path_at layout f)) g.sources

-- the file is one of its right side
abbrev pub is_right_file : Layout → Rule → ℕ → Bool
is_right_file layout r f = is_right r (path_at layout f)

-- the files of its right side
abbrev pub right_files : Layout → Graph → Rule → List ℕ
right_files layout g r = filter (is_right_file layout r) (range_with_len 0 g.files)

---- what they may not reach or include

-- a chain of the part of the graph that leads to these files, by its numbers in the graph
abbrev pub whole_chain : (to : List ℕ) → Graph → Reaching → List ℕ
whole_chain to g x = in_whole to g x.chain

-- of each file that reaches one of these the first of its shortest chains
abbrev pub AreReachChains : (from to : List ℕ) → Graph → List (List ℕ) → Type 0
AreReachChains from to g chains =
    (reaching : List Reaching) × AreReaching (between from to g) from reaching × (chains ≡ map (whole_chain to g) reaching)

-- an edge as a chain, where it leads to a file of the right side
abbrev pub across_chain : Layout → Rule → declared.Edge → List (List ℕ)
across_chain layout r e = if is_right_file layout r e.to then (e.id ∷ []) ∷ [] else []

-- the edges that lead from a file to files of the right side
abbrev pub across_chains : Layout → Graph → Rule → (file : ℕ) → List (List ℕ)
across_chains layout g r file = flat_map (across_chain layout r) (edges_leaving g.edges file)

---- what they must include

-- the file includes one of the right side
abbrev pub includes : Layout → Graph → Rule → (file : ℕ) → Bool
includes layout g r file = list_any (λ (e : declared.Edge). is_right_file layout r e.to) (edges_leaving g.edges file)

-- a directive of the file before this line leads to no file or to several
abbrev pub opens_before : Graph → (file line : ℕ) → Bool
opens_before g file line =
    list_any (λ (m : Missing). (m.file == file) && nat_lt m.line line) g.missing
    || list_any (λ (b : Blocker). (b.file == file) && nat_lt b.line line) g.blockers

-- an edge is the first of its file, and leads to one of the right side
abbrev pub is_first_across : Layout → Graph → Rule → declared.Edge → Bool
is_first_across layout g r e = is_right_file layout r e.to && not (opens_before g e.from e.line)

-- the first directive of the file includes one of the right side; edges are in the order of their lines
abbrev pub includes_first : Layout → Graph → Rule → (file : ℕ) → Bool
includes_first layout g r file = option_map_or (is_first_across layout g r) (slice_get (edges_leaving g.edges file) 0) false

---- whether a rule holds

-- these chains and files break the rule
abbrev pub AreBreaks : Layout → Graph → Rule → (chains : List (List ℕ)) → (files : List ℕ) → Type 0
AreBreaks layout g r chains files =
    let left : List ℕ = left_files layout g r in
    elim r.verb [
      | NotReach ↦ AreReachChains left (right_files layout g r) g chains × (files ≡ [])
      | NotInclude ↦ (chains ≡ flat_map (across_chains layout g r) left) × (files ≡ [])
      | Include ↦ (chains ≡ []) × (files ≡ filter (λ f. not (includes layout g r f)) left)
      | IncludeFirst ↦ (chains ≡ []) × (files ≡ filter (λ f. not (includes_first layout g r f)) left)
    ]

-- what breaks each of these rules
pub data AreJudged (layout : Layout) (g : Graph) : List Rule → List Judged → Type 0 where
  no_rule : AreJudged layout g [] []
  and_rule : {r : Rule} {chains : List (List ℕ)} {files : List ℕ} {rs : List Rule} {js : List Judged} →
      AreBreaks layout g r chains files → AreJudged layout g rs js →
      AreJudged layout g (r ∷ rs) (record { rule = r; chains = chains; files = files } ∷ js)

-- a rule is broken
abbrev pub is_broken : Judged → Bool
is_broken j = not ((length j.chains == 0) && (length j.files == 0))

-- its edges and files are those of a graph
pub record IsWithin (g : Graph) (j : Judged) : Type 0 where
  pub edges : All (λ chain. All (λ i. i < length g.edges) chain) j.chains
  pub files : All (λ f. f < g.files) j.files
