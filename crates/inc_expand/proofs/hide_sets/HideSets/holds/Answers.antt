use Rattle.std.proofs.Common.{sym, ◌≡◌, ◌<◌, subst, false}
use Rattle.inc_expand.specs.Sets.{holds, number_of, size}
use Rattle.inc_expand.proofs.NameNumbers.{and-false}
use Rattle.inc_expand.proofs.Tables.{holds-some, holds-none, within-nodes}
use Rattle.inc_expand.proofs.LowNames.{in-empty}
use Rattle.inc_expand.proofs.hide_sets.HideSets.holds.Goals as goal

pub returns-then-set-eq-EMPTY_SET : goal.returns-then-set-eq-EMPTY_SET
returns-then-set-eq-EMPTY_SET c =
    subst (λ k. false ≡ holds c.args.self.now k c.args.name.now) (sym c.if-set-eq-EMPTY_SET.true) (sym (and-false _ _ (in-empty c.args.self.now.nodes (number_of c.args.self.now.names c.args.name.now))))

pub has_number-requires-clause-known : goal.has_number-requires-clause-known
has_number-requires-clause-known c =
    within-nodes (record { names = c.self.inside.names; nodes = c.self.inside.nodes.keys }) _ c.self.invariant.0 (subst (λ s. c.args.set < size s) (sym c.self.view_is) c.requires)

pub returns-in-Some : goal.returns-in-Some
returns-in-Some c =
    subst (λ s. c.has_number.result ≡ holds s c.args.set c.args.name.now) c.self.view_is
    (holds-some c.self.inside.names c.args.name.now c.self.inside.nodes.keys c.args.set c.in-Some.number _ c.in-Some.ensures.index c.has_number.ensures)

pub returns-in-None : goal.returns-in-None
returns-in-None c =
    subst (λ s. false ≡ holds s c.args.set c.args.name.now) c.self.view_is
    (holds-none c.self.inside.names c.args.name.now c.self.inside.nodes.keys c.args.set c.in-None.ensures.index)
