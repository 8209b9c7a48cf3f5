use Rattle.std.proofs.Common.{sym, arith}
use Rattle.inc_cond.proofs.Turns.{passed, first-at, turn-question, turn-no_infix, turn-weak, turn-infix}
use Rattle.std.proofs.lemmas.Bool.{le-leb, lt-leb}
use Rattle.inc_cond.proofs.parser.continued.Goals as goal

pub returns-then-is_question : goal.returns-then-is_question
returns-then-is_question c rest none =
    turn-question _ _ _ c.args.sign.now _ _ _ (passed _ _ _ rest c.requires c.pass.ensures) (sym c.if-is_question.ensures) c.in_ok-push.ensures

pub returns-in_default : goal.returns-in_default
returns-in_default c rest none =
    turn-no_infix _ _ _ c.args.sign.now _ _ (first-at _ _ rest c.requires) (sym c.if-is_question.ensures) (sym c.in_default.ensures)

pub returns-then-strength-least : goal.returns-then-strength-least
returns-then-strength-least c rest none =
    turn-weak _ _ _ c.args.sign.now c.in-Some.operator _ _ (first-at _ _ rest c.requires) (sym c.if-is_question.ensures) (sym c.in-Some.ensures) (lt-leb _ _ (omega arith))

pub returns : goal.returns
returns c rest none =
    turn-infix _ _ _ c.args.sign.now c.in-Some.operator _ _ _ _ (passed _ _ _ rest c.requires c.pass-2.ensures) (sym c.if-is_question.ensures) (sym c.in-Some.ensures)
    (le-leb _ _ (omega arith)) c.strength-strength.ensures c.in_ok-push-2.ensures
