use Rattle.std.proofs.Common.{sym}
use Rattle.inc_cond.proofs.Turns.{passed, first-at, turn-parenthesis, turn-prefix, turn-no_prefix}
use Rattle.inc_cond.proofs.parser.opened.Goals as goal

pub returns-then-is_parenthesis : goal.returns-then-is_parenthesis
returns-then-is_parenthesis c rest none =
    turn-parenthesis _ _ c.args.sign.now _ _ _ (passed _ _ _ rest c.requires c.pass.ensures) (sym c.if-is_parenthesis.ensures) c.in_ok-push.ensures

pub returns-in_default : goal.returns-in_default
returns-in_default c rest none = turn-no_prefix _ _ c.args.sign.now _ _ (first-at _ _ rest c.requires) (sym c.if-is_parenthesis.ensures) (sym c.in_default.ensures)

pub returns : goal.returns
returns c rest none =
    turn-prefix _ _ c.args.sign.now c.in-Some.operator _ _ _ (passed _ _ _ rest c.requires c.pass-2.ensures) (sym c.if-is_parenthesis.ensures) (sym c.in-Some.ensures) c.in_ok-push-2.ensures
