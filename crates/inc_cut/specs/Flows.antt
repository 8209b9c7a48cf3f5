-- Flows through an include graph, and what a search for a path answers. No statement about cuts rests on this file: it is the
-- contract between a search and the function that calls it.
use Rattle.std.specs.Prelude.{◌≡◌, ◌+◌, ◌<◌, ◌≤◌, ◌==◌, ◌&&◌, ◌||◌, ◌↔◌, ℕ, not, Bool, true, false, List, [], ◌∷◌, if◌then◌else◌, filter, map, nat_lt, length, slice_get, slice_index, slice_index_or, sum_by, IsTrue, ⊤}
use Rattle.std.specs.List.{list_any, range_with_len}
use Rattle.std.specs.Option.{option_map_or}
use Rattle.inc_graph.specs.IncludeGraph.{Edge, Graph}
use Rattle.inc_graph.specs.Chains.{target}
use Rattle.inc_graph.specs.Members.{is_member, is_distinct}
use Rattle.inc_graph.specs.Cuts.{Fixed, Costs, fixed_by, costs_by}
use Rattle.inc_cut.specs.declared.flows.Step.{Step}
use Rattle.inc_cut.specs.declared.flows.Found.{Found}
use Rattle.inc_cut.specs.declared.flows.Found.TheVariants.{Path, Reach}

-- the flow on each edge
abbrev pub Flow : Type 0
Flow = ℕ → ℕ

-- the flow on each edge, by the list of them
abbrev pub flow_by : List ℕ → Flow
flow_by flows i = slice_index flows i

-- as many amounts and as many flows as the graph has edges
pub record AreFor (g : Graph) (amounts flows : List ℕ) : Type 0 where
  pub amounts_long : length amounts ≡ length g.edges
  pub flows_long : length flows ≡ length g.edges

-- the file in which an edge begins
abbrev pub source_of : Graph → ℕ → ℕ
source_of g i = option_map_or (λ (e : Edge). e.from) (slice_get g.edges i) 0

-- where a step begins
abbrev pub step_from : Graph → Step → ℕ
step_from g s = if s.forward then source_of g s.edge else target g s.edge

-- where a step leads
abbrev pub step_to : Graph → Step → ℕ
step_to g s = if s.forward then target g s.edge else source_of g s.edge

-- forward on a fixed edge, and on an editable one whose flow is below its cost; back on an edge with flow
abbrev pub is_open : Fixed → Costs → Flow → Step → Bool
is_open fixed cost flow s = if s.forward then fixed s.edge || nat_lt (flow s.edge) (cost s.edge) else nat_lt 0 (flow s.edge)

-- steps over edges of the graph that pass the test and join up
abbrev pub is_walk_by : Graph → (Step → Bool) → ℕ → List Step → ℕ → Bool
is_walk_by g test a [] b = a == b
is_walk_by g test a (s ∷ ss) b =
    nat_lt s.edge (length g.edges) && (test s && (step_from g s == a && is_walk_by g test (step_to g s) ss b))

-- from this file to some header, no file twice
abbrev pub is_path_from : Graph → (Step → Bool) → List Step → ℕ → Bool
is_path_from g test ss a = list_any (is_walk_by g test a ss) g.headers && is_distinct (a ∷ map (step_to g) ss)

-- from some source
abbrev pub is_path_by : Graph → (Step → Bool) → List Step → Bool
is_path_by g test ss = list_any (is_path_from g test ss) g.sources

-- steps that pass the test lead from a source to the file
pub record IsLedTo (g : Graph) (test : Step → Bool) (f : ℕ) : Type 0 where
  -- where they begin
  pub source : ℕ
  -- which is at a source
  pub among : is_member source g.sources ≡ true
  -- the steps
  pub walk : List Step
  -- which lead to the file
  pub real : is_walk_by g test source walk f ≡ true

-- true for exactly the files that steps which pass the test reach, the sources with them and no header
pub record IsReach (g : Graph) (test : Step → Bool) (reach : ℕ → Bool) : Type 0 where
  pub exact : (f : ℕ) → IsTrue (reach f) ↔ IsLedTo g test f
  pub closed : (h : ℕ) → is_member h g.headers ≡ true → reach h ≡ false

-- a path with no more steps than any other
pub record IsShortestPath (g : Graph) (test : Step → Bool) (path : List Step) : Type 0 where
  pub real : IsTrue (is_path_by g test path)
  pub least : (other : List Step) → IsTrue (is_path_by g test other) → length path ≤ length other

-- the answer of a search over the steps that pass the test: a path, or for each file whether they reach it
abbrev pub IsFound : Graph → (Step → Bool) → Found → Type 0
IsFound g test (Path steps) = IsTrue (is_path_by g test steps.items)
IsFound g test (Reach reached) = (length reached.items ≡ g.files) × IsReach g test (λ f. slice_index_or reached.items f false)

-- a path that is found is a shortest one
abbrev pub IsFoundShortest : Graph → (Step → Bool) → Found → Type 0
IsFoundShortest g test (Path steps) = IsShortestPath g test steps.items
IsFoundShortest g test (Reach reached) = ⊤

-- over the steps that amounts and flows leave open
abbrev pub is_open_by : (amounts flows : List ℕ) → Step → Bool
is_open_by amounts flows = is_open (fixed_by amounts) (costs_by amounts) (flow_by flows)

-- forward on a fixed edge
abbrev pub is_fixed_ahead : (amounts : List ℕ) → Step → Bool
is_fixed_ahead amounts s = s.forward && fixed_by amounts s.edge

-- forward on an edge with flow
abbrev pub is_flowing : (flows : List ℕ) → Step → Bool
is_flowing flows s = s.forward && nat_lt 0 (flow_by flows s.edge)

---- what the flow keeps

-- the flow on those edges that pass the test
abbrev pub flow_on : Flow → (ℕ → Bool) → List ℕ → ℕ
flow_on flow test is = sum_by (λ i. if test i then flow i else 0) is

-- the numbers of all edges
abbrev pub edge_numbers : Graph → List ℕ
edge_numbers g = range_with_len 0 (length g.edges)

-- the flow on the edges that lead to files inside
abbrev pub flow_to : Graph → Flow → (inside : ℕ → Bool) → ℕ
flow_to g flow inside = flow_on flow (λ i. inside (target g i)) (edge_numbers g)

-- the flow on the edges that begin in files inside
abbrev pub flow_from : Graph → Flow → (inside : ℕ → Bool) → ℕ
flow_from g flow inside = flow_on flow (λ i. inside (source_of g i)) (edge_numbers g)

-- each source is inside and no header is
pub record IsSide (g : Graph) (inside : ℕ → Bool) : Type 0 where
  pub sources : (s : ℕ) → is_member s g.sources ≡ true → inside s ≡ true
  pub headers : (h : ℕ) → is_member h g.headers ≡ true → inside h ≡ false

-- no editable edge carries more than its cost, none more than the value, and across each side with the sources the value flows out
pub record IsFlow (g : Graph) (amounts flows : List ℕ) (value : ℕ) : Type 0 where
  pub within : (i : ℕ) → fixed_by amounts i ≡ false → flow_by flows i ≤ costs_by amounts i
  pub most : (i : ℕ) → flow_by flows i ≤ value
  pub balanced : (inside : ℕ → Bool) → IsSide g inside → flow_to g (flow_by flows) inside + value ≡ flow_from g (flow_by flows) inside

-- no fixed edge leads out of this side
pub record IsBarrier (g : Graph) (amounts : List ℕ) (inside : ℕ → Bool) : Type 0 where
  pub side : IsSide g inside
  pub editable : (i : ℕ) → i < length g.edges → inside (source_of g i) ≡ true → inside (target g i) ≡ false → fixed_by amounts i ≡ false

-- the edges that lead from a file inside to a file outside
abbrev pub leaving : Graph → (inside : ℕ → Bool) → List ℕ
leaving g inside = filter (λ i. inside (source_of g i) && not (inside (target g i))) (edge_numbers g)
