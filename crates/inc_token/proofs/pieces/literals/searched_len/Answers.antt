use Rattle.std.proofs.Common.{◌≡◌, ◌+◌, ◌-◌, drop, false, ap, ◌∙◌, arith}
use Rattle.inc_token.specs.Scanning.{closed_at}
use Rattle.inc_token.proofs.pieces.literals.searched_len.Goals as goal

pub returns : goal.returns
returns c =
    let at = c.args.at in
    let one : at + 1 - at ≡ 1 = omega arith in
    c.closed_len.ensures ∙ ap (λ n. closed_at c.args.quote false n (drop (at + 1) c.args.text.now)) one
