use Rattle.std.proofs.Common.{subst, sym}
use Rattle.inc_expand.specs.Sets.{size}
use Rattle.inc_expand.specs.Carriers.{AreKnown}
use Rattle.inc_expand.specs.Joins.{tokens_in}
use Rattle.inc_expand.specs.Cases.{surroundings_value}
use Rattle.inc_expand.specs.Expansion.{rule_in}
use Rattle.inc_expand.proofs.JoinSteps.{known-wider, keeps-more}
use Rattle.inc_expand.proofs.WalkSteps.{placed}
use Rattle.inc_expand.proofs.cases.Surroundings.replace_joined.Goals as goal

pub put-requires-clause-tokens : goal.put-requires-clause-tokens
put-requires-clause-tokens c =
    subst (λ xs. AreKnown (size c.with.new.self) (tokens_in xs)) (sym c.deref-2.ensures.value) (known-wider _ _ c.with.ensures.keeps.more _ c.in_ok-segments.ensures.known)

pub put-requires-clause-list : goal.put-requires-clause-list
put-requires-clause-list c = known-wider _ _ (keeps-more _ _ _ c.substituted.ensures.keeps c.with.ensures.keeps).more _ c.requires.list

pub returns-clause-replaced : goal.returns-clause-replaced
returns-clause-replaced c =
    placed (rule_in (surroundings_value c.args.self.now)) c.args.macro_.now c.args.args.now c.args.token.now c.args.work.now _ c.substituted.new.sets c.with.new.self c.args.hidden c.in_ok-names.names (tokens_in c.in_ok-segments.segments.items) c.args.list.now c.put.new.list
    c.requires.hidden c.requires.list c.substituted.ensures.keeps (rw c.rule-rule.ensures at c.in_ok-segments.ensures.tokens) c.in_ok-segments.ensures.known
    (rw c.deref.ensures.value at c.in_ok-pay.ensures.enough) (rw c.deref.ensures.value at c.in_ok-pay.ensures.paid) c.with.ensures.keeps
    (rw c.name.ensures at c.in_ok-names.ensures.members) c.in_ok-put.ensures.keeps
    (rw c.rule-rule.ensures at (rw c.deref-2.ensures.value at c.in_ok-put.ensures.put)) c.in_ok-put.ensures.known
