use Rattle.std.proofs.Common.{sym, ap, ◌∙◌}
use Rattle.inc_graph.specs.MarkedEdges.{is_unknown}
use Rattle.inc_graph.proofs.EdgeCostLemmas.{now_unknown, still_twice, twice_of, of_twice}
use Rattle.inc_graph.proofs.edge_costs.EdgeCosts.look.Goals as goal

pub returns-then-is_unknown-clause-taken : goal.returns-then-is_unknown-clause-taken
returns-then-is_unknown-clause-taken c costs count are =
    let layout = c.args.project.now in
    let g = c.args.graph.now in
    now_unknown layout g costs c.args.cost.now c.args.index count (twice_of c.args.self.now.trouble layout g costs c.args.self.now c.requires.twice.0 c.requires.twice.1 are).known
    (ap (is_unknown layout g) (sym c.mark.ensures) ∙ sym c.is_unknown.ensures.unknown ∙ c.if-is_unknown.true)

pub returns-else-is_unknown-clause-taken : goal.returns-else-is_unknown-clause-taken
returns-else-is_unknown-clause-taken c costs count are =
    let layout = c.args.project.now in
    let g = c.args.graph.now in
    let i = c.requires.twice.0 in
    of_twice c.args.self.now.trouble layout g _ _ i c.requires.twice.1
    (still_twice layout g costs c.args.cost.now i (twice_of c.args.self.now.trouble layout g costs c.args.self.now i c.requires.twice.1 are)
    (ap (is_unknown layout g) (sym c.mark.ensures) ∙ sym c.is_unknown.ensures.unknown ∙ c.if-is_unknown.false))
