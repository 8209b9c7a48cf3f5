use Rattle.std.proofs.Common.{◌≡◌, ℕ, false, true, length, replicate, refl, ap, ◌∙◌, rules}
use Rattle.std.proofs.lemmas.List.{length-replicate}
use Rattle.inc_graph.proofs.NumberedEdges.{length-numbered_from}
use Rattle.inc_check.proofs.CutLemmas.{cut_none}
use Rattle.inc_check.proofs.checking.cut_edges.CutEdges.new.Goals as goal

pub returns-clause-fitted : goal.returns-clause-fitted
returns-clause-fitted c =
    let none : c.in_ok-flags.flags.items ≡ replicate (length c.edges.result.now) false = c.in_ok-flags.ensures.items_if_clones_equal (search rules) in
    record {
      long = ap length none ∙ length-replicate (length c.edges.result.now) false ∙ ap length c.edges.ensures.edges ∙ length-numbered_from 0 c.args.graph.now.edges;
      near = c.start.ensures;
    }

pub returns-clause-of : goal.returns-clause-of
returns-clause-of c layout amounts =
    let none : c.in_ok-flags.flags.items ≡ replicate (length c.edges.result.now) false = c.in_ok-flags.ensures.items_if_clones_equal (search rules) in
    cut_none layout c.args.graph.now amounts (record { flags = c.in_ok-flags.flags; cost = 0; editable = true; once = true; near = c.start.result }) refl refl refl
    (none ∙ ap (λ (n : ℕ). replicate n false) (ap length c.edges.ensures.edges ∙ length-numbered_from 0 c.args.graph.now.edges))
