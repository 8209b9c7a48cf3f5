use Rattle.std.proofs.Common.{arith}
use Rattle.inc_expand.specs.Places.{content_value}
use Rattle.inc_expand.proofs.WalkSteps.{predefined-replaced}
use Rattle.inc_expand.proofs.walks.replace_predefined.Goals as goal

pub returns-clause-replaced : goal.returns-clause-replaced
returns-clause-replaced c rule deeper =
    predefined-replaced rule deeper c.args.made.now.kind (content_value c.args.made.now.content) c.in_ok-text.text c.args.made.now.name.now c.args.token.now c.args.work.now _ c.in_ok-set.set c.args.list.now c.push.new.self
    c.requires.list c.with.ensures.keeps c.in_ok-set.ensures.known c.in_ok-set.ensures.members c.requires.name c.in_ok-text.ensures.text (omega (arith, c.left.ensures, c.if-left-lt2.false)) c.in_ok-text.ensures.paid c.in_ok-push.ensures
