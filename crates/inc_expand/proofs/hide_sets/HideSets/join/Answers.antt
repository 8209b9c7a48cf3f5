use Rattle.std.proofs.Common.{◌≡◌, ◌+◌, ◌<◌, ◌||◌, refl, sym, subst, length, arith}
use Rattle.std.proofs.lemmas.List.Elements.{All-set}
use Rattle.inc_expand.specs.Sets.{size, holds, IsJoin, Keeps}
use Rattle.inc_expand.proofs.LowNames.{fits-either, low-either, Fits, IsLow}
use Rattle.inc_expand.proofs.Tables.{within-nodes, keeps-nodes, sound-nodes, members-nodes, known-nodes, hints-kept, joins-kept}
use Rattle.inc_expand.proofs.hide_sets.HideSets.join.Goals as goal

pub join_or_last-requires-clause-a_known : goal.join_or_last-requires-clause-a_known
join_or_last-requires-clause-a_known c =
    subst (λ n. n < length c.self.inside.nodes.keys + 2) (sym c.node_of-one.ensures)
    (within-nodes (record { names = c.self.inside.names; nodes = c.self.inside.nodes.keys }) _ c.self.invariant.0 (subst (λ s. c.args.a < size s) (sym c.self.view_is) c.requires.a))

pub join_or_last-requires-clause-b_known : goal.join_or_last-requires-clause-b_known
join_or_last-requires-clause-b_known c =
    subst (λ n. n < length c.self.inside.nodes.keys + 2) (sym c.node_of-other.ensures)
    (within-nodes (record { names = c.self.inside.names; nodes = c.self.inside.nodes.keys }) _ c.self.invariant.0 (subst (λ s. c.args.b < size s) (sym c.self.view_is) c.requires.b))

pub invariant_of-self : goal.invariant_of-self
invariant_of-self c = (
  sound-nodes (c.self.inside.names) _ _ c.self.invariant.0 c.join_or_last.ensures.grows c.join_or_last.ensures.below,
  hints-kept c.self.invariant.0.table c.join_or_last.ensures.grows c.self.inside.hints c.self.invariant.1,
  All-set (IsJoin c.join_or_last.new.nodes.keys) c.self.inside.joins _ c.join_or_last.new.last c.join_or_last.ensures.last (joins-kept c.self.invariant.0.table c.join_or_last.ensures.grows c.self.inside.joins c.self.invariant.2),
)

pub invariant_of-self-2 : goal.invariant_of-self-2
invariant_of-self-2 c = (
  sound-nodes (c.self.inside.names) _ _ c.self.invariant.0 c.join_or_last.ensures.grows c.join_or_last.ensures.below,
  hints-kept c.self.invariant.0.table c.join_or_last.ensures.grows c.self.inside.hints c.self.invariant.1,
  All-set (IsJoin c.join_or_last.new.nodes.keys) c.self.inside.joins _ c.join_or_last.new.last c.join_or_last.ensures.last (joins-kept c.self.invariant.0.table c.join_or_last.ensures.grows c.self.inside.joins c.self.invariant.2),
)

pub returns-in_err-node-clause-keeps : goal.returns-in_err-node-clause-keeps
returns-in_err-node-clause-keeps c =
    subst (λ s. Keeps s (record { names = c.self.inside.names; nodes = c.join_or_last.new.nodes.keys })) c.self.view_is
    (keeps-nodes (c.self.inside.names) _ _ c.self.invariant.0 c.join_or_last.ensures.grows)

pub returns-clause-keeps : goal.returns-clause-keeps
returns-clause-keeps c =
    subst (λ s. Keeps s (record { names = c.self.inside.names; nodes = c.join_or_last.new.nodes.keys })) c.self.view_is
    (keeps-nodes (c.self.inside.names) _ _ c.self.invariant.0 c.join_or_last.ensures.grows)

pub returns-clause-known : goal.returns-clause-known
returns-clause-known c =
    known-nodes (c.self.inside.names) c.self.inside.nodes.keys _ c.self.invariant.0 c.join_or_last.ensures.grows (λ x y. x || y) refl c.args.a c.args.b _ _ c.in_ok-node.node c.low_of.result c.set_of.result _ refl
    c.node_of-one.ensures c.node_of-other.ensures c.set_of.ensures c.in_ok-node.ensures.gives (rw c.low_of.ensures (omega arith)) (subst (IsLow (λ x y. x || y) c.args.a c.args.b) (sym c.low_of.ensures) (low-either c.args.a c.args.b))
    (subst (Fits c.args.a c.args.b) (sym c.low_of.ensures) (fits-either c.args.a c.args.b))
    (subst (λ s. c.args.a < size s) (sym c.self.view_is) c.requires.a) (subst (λ s. c.args.b < size s) (sym c.self.view_is) c.requires.b)

pub returns-clause-members : goal.returns-clause-members
returns-clause-members c n =
    subst (λ s. holds (record { names = c.self.inside.names; nodes = c.join_or_last.new.nodes.keys }) c.set_of.result n ≡ (holds s c.args.a n || holds s c.args.b n)) c.self.view_is
    (members-nodes (c.self.inside.names) c.self.inside.nodes.keys _ c.self.invariant.0 c.join_or_last.ensures.grows (λ x y. x || y) refl c.args.a c.args.b _ _ c.in_ok-node.node c.low_of.result c.set_of.result _ refl
    c.node_of-one.ensures c.node_of-other.ensures c.set_of.ensures c.in_ok-node.ensures.gives (rw c.low_of.ensures (omega arith)) (subst (IsLow (λ x y. x || y) c.args.a c.args.b) (sym c.low_of.ensures) (low-either c.args.a c.args.b)) n)
