-- A path with its ends.
use Rattle.std.proofs.Common.{◌≡◌, ℕ, Bool, true, List, ◌∷◌, map}
use Rattle.std.specs.List.{list_any}
use Rattle.std.proofs.lemmas.Bool.{and_parts, and_from}
use Rattle.inc_graph.specs.IncludeGraph.{Graph}
use Rattle.inc_graph.specs.Members.{is_member, is_distinct}
use Rattle.inc_graph.proofs.Members.{any_member, any_by}
use Rattle.inc_cut.specs.declared.flows.Step.{Step}
use Rattle.inc_cut.specs.Flows.{step_to, is_walk_by, is_path_from, is_path_by}

pub record IsPathOf (g : Graph) (test : Step → Bool) (ss : List Step) : Type 0 where
  -- it begins at a source
  pub source : ℕ
  pub begins : is_member source g.sources ≡ true
  -- and ends at a header
  pub header : ℕ
  pub ends : is_member header g.headers ≡ true
  -- to which steps that pass lead
  pub walk : is_walk_by g test source ss header ≡ true
  -- no file twice
  pub distinct : is_distinct (source ∷ map (step_to g) ss) ≡ true

pub path_parts : (g : Graph) (test : Step → Bool) (ss : List Step) → is_path_by g test ss ≡ true → IsPathOf g test ss
path_parts g test ss path =
    let s = any_member (is_path_from g test ss) g.sources path in
    let parts = and_parts (list_any (is_walk_by g test s.0 ss) g.headers) (is_distinct (s.0 ∷ map (step_to g) ss)) s.2 in
    let h = any_member (is_walk_by g test s.0 ss) g.headers parts.0 in
    record { source = s.0; begins = s.1; header = h.0; ends = h.1; walk = h.2; distinct = parts.1 }

pub path_of : (g : Graph) (test : Step → Bool) (ss : List Step) → IsPathOf g test ss → is_path_by g test ss ≡ true
path_of g test ss p =
    any_by (is_path_from g test ss) g.sources p.source p.begins
    (and_from (list_any (is_walk_by g test p.source ss) g.headers) (is_distinct (p.source ∷ map (step_to g) ss)) (any_by (is_walk_by g test p.source ss) g.headers p.header p.ends p.walk) p.distinct)
