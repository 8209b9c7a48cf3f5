use Rattle.std.proofs.Common.{set, refl, ap, arith}
use Rattle.inc_graph.proofs.AmountLists.{put_there, put_nowhere, amounts_set}
use Rattle.inc_graph.proofs.fixing.fix_mark.Goals as goal

pub returns-in-Some-clause-amounts : goal.returns-in-Some-clause-amounts
returns-in-Some-clause-amounts c =
    let old = c.args.amounts.now.items in
    put_there c.args.project.now c.args.graph.now c.args.mark.now 0 old _ c.edge_named.result c.edge_named.ensures.edge c.edge_named.ensures.only c.in-Some.edge c.in-Some.is
    (ap (λ i. set old i 0) c.index.ensures)

pub returns-in-Some-clause-within : goal.returns-in-Some-clause-within
returns-in-Some-clause-within c = amounts_set c.args.amounts.now.items _ c.index.result 0 (omega arith) refl

pub returns-in_default-clause-amounts : goal.returns-in_default-clause-amounts
returns-in_default-clause-amounts c =
    put_nowhere c.args.project.now c.args.graph.now c.args.mark.now 0 c.args.amounts.now.items _ c.edge_named.result c.edge_named.ensures.edge c.edge_named.ensures.only c.in_default.is refl
