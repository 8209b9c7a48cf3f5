use Rattle.std.proofs.Common.{◌≡◌, suc, ◌+◌, ◌-◌, drop, sym, ◌∙◌, arith}
use Rattle.std.proofs.lemmas.List.{take_rest}
use Rattle.inc_token.proofs.Searches.{name_closes, name_breaks, name_missed}
use Rattle.inc_token.proofs.pieces.literals.name_len.Goals as goal

pub returns-in_default : goal.returns-in_default
returns-in_default c =
    sym (name_missed c.args.close (c.args.at - c.args.start) (drop c.args.at c.args.text.now) (rw take_rest at c.in_default.ensures))

pub returns-then-text-end : goal.returns-then-text-end
returns-then-text-end c =
    let n = c.args.at - c.args.start in
    let k = c.in-Some.plain in
    let count : c.args.at + k + 1 - c.args.start ≡ suc (n + k) = omega arith in
    count ∙ sym (name_closes c.args.close c.args.text.now n c.args.at k (rw take_rest at c.in-Some.ensures) c.if-text-end.true)

pub returns-else-text-end : goal.returns-else-text-end
returns-else-text-end c =
    sym (name_breaks c.args.close c.args.text.now (c.args.at - c.args.start) c.args.at c.in-Some.plain (rw take_rest at c.in-Some.ensures) c.if-text-end.false)
