use Rattle.std.proofs.Common.{sym, subst, arith}
use Rattle.inc_expand.specs.declared.shared_sets.Node.{Node}
use Rattle.inc_expand.specs.Nodes.{Grows, AllBelow, IsNode}
use Rattle.inc_expand.proofs.Sets.{grows-insert, below-insert, node_eq, node_eq-exact, node_eq-itself}
use Rattle.inc_expand.proofs.shared_sets.pair.Goals as goal

pub returns-clause-grows : goal.returns-clause-grows
returns-clause-grows c =
    let x : Node = record { level = c.args.level; left = c.args.left; right = c.args.right } in
    let node : IsNode c.args.nodes.now.keys x = record { left = c.requires.left; right = c.requires.right; filled = omega (arith, c.if-right-eq-EMPTY.false); shallow = c.requires.shallow } in
    subst (Grows c.args.nodes.now.keys) (sym c.in_ok-index.ensures.keys) (grows-insert node_eq node_eq-exact node_eq-itself c.requires.table x node)

pub returns-clause-below : goal.returns-clause-below
returns-clause-below c top below new =
    let x : Node = record { level = c.args.level; left = c.args.left; right = c.args.right } in
    let node : IsNode c.args.nodes.now.keys x = record { left = c.requires.left; right = c.requires.right; filled = omega (arith, c.if-right-eq-EMPTY.false); shallow = c.requires.shallow } in
    subst (AllBelow top) (sym c.in_ok-index.ensures.keys) (below-insert node_eq node_eq-exact node_eq-itself c.requires.table x node top below new)
