use Rattle.std.proofs.Common.{◌++◌, ap, sym, ◌∙◌, subst, IfSome, ◌<◌}
use Rattle.inc_expand.specs.declared.pastes.Joiner.{Joiner}
use Rattle.inc_expand.specs.declared.rules.Rule.{Rule}
use Rattle.inc_expand.specs.Sets.{size, holds}
use Rattle.inc_expand.specs.Expansion.{hidden_by_paste, made_kind}
use Rattle.inc_expand.specs.Carriers.{carrier, AreKnown}
use Rattle.inc_expand.specs.Joins.{tokens_in, before_of, IsOpened}
use Rattle.inc_expand.proofs.JoinSteps.{known-wider, pasted-made}
use Rattle.inc_expand.proofs.pastes.Joiner.join.Goals as goal

pub set_of_paste-requires-clause-a : goal.set_of_paste-requires-clause-a
set_of_paste-requires-clause-a c =
    subst (λ r. IfSome r (λ p. p.0 < size c.args.sets.now)) c.in-Some.is (c.in_ok-set.ensures.known (size c.args.sets.now) c.requires.known.1)

pub returns-clause-pasted : goal.returns-clause-pasted
returns-clause-pasted c =
    pasted-made c.args.self.now.rule c.args.sets.now c.set_of_paste.new.sets c.opened.new.self.text.items _ (c.in-Some.set, c.in-Some.space) (carrier c.args.sets.now c.args.token) c.in_ok-kind.kind c.in_ok-set-2.set c.lengthen.new.text.items
    (subst (IsOpened c.args.sets.now c.opened.new.self.text.items (before_of c.args.sets.now c.args.self.now.text.items c.args.self.now.before)) c.in-Some.is (c.in_ok-set.ensures.opened c.args.sets.now))
    (ap (λ (rule : Rule). made_kind rule (c.opened.new.self.text.items ++ (carrier c.args.sets.now c.args.token).spelling)) (sym (ap (λ (j : Joiner). j.rule) c.opened.ensures.same))
    ∙ ap (λ t. made_kind c.opened.new.self.rule (c.opened.new.self.text.items ++ t)) (sym c.bytes.ensures) ∙ c.in_ok-kind.ensures.kind)
    (c.in_ok-kind.ensures.text ∙ ap (λ t. c.opened.new.self.text.items ++ t) c.bytes.ensures)
    (λ n. c.in_ok-set-2.ensures.members n
    ∙ ap (λ (rule : Rule). hidden_by_paste rule (holds c.args.sets.now c.in-Some.set) (holds c.args.sets.now c.args.token.set) n) (ap (λ (j : Joiner). j.rule) c.opened.ensures.same))

pub returns-clause-known : goal.returns-clause-known
returns-clause-known c = (
  subst (AreKnown (size c.set_of_paste.new.sets)) (sym (ap (λ j. tokens_in j.done.items) c.opened.ensures.same)) (known-wider _ _ c.set_of_paste.ensures.keeps.more _ c.requires.known.0),
  c.in_ok-set-2.ensures.known,
)
