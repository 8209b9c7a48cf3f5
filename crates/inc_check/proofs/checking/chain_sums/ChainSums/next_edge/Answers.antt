use Rattle.std.proofs.Common.{◌≡◌, refl, subst}
use Rattle.std.specs.Prelude.{IfSome}
use Rattle.inc_graph.specs.Marks.{Mark}
use Rattle.inc_graph.specs.Near.{IsNamedFrom}
use Rattle.inc_check.proofs.FirstMarks.{goes_on_as}
use Rattle.inc_check.proofs.checking.chain_sums.ChainSums.next_edge.Goals as goal

pub returns-then-self-clause-edge : goal.returns-then-self-clause-edge
returns-then-self-clause-edge c =
    let mark : record { path = c.path.result.now; line = c.line.result } ≡ c.args.mark.now = rw (c.path.ensures, c.line.ensures) refl in
    goes_on_as c.args.project.now c.args.graph.now c.args.self.now c.args.mark.now c.edge_leaving_by-edge.result c.if-self.true
    (subst (λ (m : Mark). IfSome c.edge_leaving_by-edge.result (λ e. IsNamedFrom c.args.project.now c.args.graph.now c.args.self.now.at m e)) mark c.edge_leaving_by-edge.ensures.edge)
