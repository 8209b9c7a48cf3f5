-- Paths with room for an amount are open.
use Rattle.std.proofs.Common.{◌≡◌, ℕ, ◌≤◌, Bool, true, false, List, [], ◌∷◌, length, inl, inr, arith}
use Rattle.std.specs.Prelude.{nat_lt, ◌==◌}
use Rattle.std.proofs.lemmas.Bool.{cases_Bool, and_parts, and_from, or_left, or_right, lt-ltb, leb-true}
use Rattle.inc_graph.specs.IncludeGraph.{Graph}
use Rattle.inc_graph.specs.Cuts.{fixed_by, costs_by}
use Rattle.inc_cut.specs.declared.flows.Step.{Step}
use Rattle.inc_cut.specs.Flows.{flow_by, step_from, step_to, is_walk_by, is_path_by, is_open_by}
use Rattle.inc_cut.specs.Raising.{room, is_wide}
use Rattle.inc_cut.proofs.RoomLemmas.{room_free}
use Rattle.inc_cut.proofs.PathEnds.{path_parts, path_of}

wide_step : (amounts flows : List ℕ) (n e : ℕ) (way : Bool) → 1 ≤ n → is_wide amounts flows n (record { edge = e; forward = way }) ≡ true → is_open_by amounts flows (record { edge = e; forward = way }) ≡ true
wide_step amounts flows n e true some wide = elim (cases_Bool (fixed_by amounts e)) [
  | inl fixed ↦ or_left (fixed_by amounts e) _ fixed
  | inr free ↦
      let x = leb-true n (room amounts flows (record { edge = e; forward = true })) wide in
      let y = room_free amounts flows e free in
      or_right (fixed_by amounts e) _ (lt-ltb (flow_by flows e) (costs_by amounts e) (omega arith))
]
wide_step amounts flows n e false some wide =
    let x = leb-true n (flow_by flows e) wide in
    lt-ltb 0 (flow_by flows e) (omega arith)

wide_walk : (g : Graph) (amounts flows : List ℕ) (n a b : ℕ) (ss : List Step) → 1 ≤ n → is_walk_by g (is_wide amounts flows n) a ss b ≡ true → is_walk_by g (is_open_by amounts flows) a ss b ≡ true
wide_walk g amounts flows n a b [] some walk = walk
wide_walk g amounts flows n a b (s ∷ ss) some walk =
    let p = and_parts (nat_lt s.edge (length g.edges)) _ walk in
    let q = and_parts (is_wide amounts flows n s) _ p.1 in
    let r = and_parts (step_from g s == a) (is_walk_by g (is_wide amounts flows n) (step_to g s) ss b) q.1 in
    and_from (nat_lt s.edge (length g.edges)) _ p.0 (and_from (is_open_by amounts flows s) _ (wide_step amounts flows n s.edge s.forward some q.0)
    (and_from (step_from g s == a) _ r.0 (wide_walk g amounts flows n (step_to g s) b ss some r.1)))

pub wide_path : (g : Graph) (amounts flows : List ℕ) (n : ℕ) (ss : List Step) → 1 ≤ n → is_path_by g (is_wide amounts flows n) ss ≡ true → is_path_by g (is_open_by amounts flows) ss ≡ true
wide_path g amounts flows n ss some path =
    let p = path_parts g (is_wide amounts flows n) ss path in
    path_of g (is_open_by amounts flows) ss (record {
      source = p.source;
      begins = p.begins;
      header = p.header;
      ends = p.ends;
      walk = wide_walk g amounts flows n p.source p.header ss some p.walk;
      distinct = p.distinct;
    })
