use Rattle.std.proofs.Common.{◌≡◌, true, false, get_or, sym, ◌∙◌, arith}
use Rattle.inc_token.specs.Spellings.{is_hex_digit}
use Rattle.inc_token.proofs.Parts.{hex_past, hex_more, hex_no}
use Rattle.inc_token.proofs.pieces.identifiers.is_hex_row.Goals as goal
use Rattle.inc_token.proofs.pieces.identifiers.is_hex_row.Goals.{then-at-text-via-then-at-text, then-at-text-via-else-at-text+then-not-is_hex}

pub returns-then-at-text : goal.returns-then-at-text
returns-then-at-text c =
    let text = c.args.text.now in
    let at = c.loop-left.at in
    let left = c.loop-left.left in
    elim c.then-at-text.branch [
      | then-at-text-via-then-at-text w ↦ sym (hex_past left text at (omega arith) (omega arith)) ∙ c.loop-left.invariant.rest
      | then-at-text-via-else-at-text+then-not-is_hex w ↦
          let fails : is_hex_digit (get_or text at 0) ≡ false = cc in
          sym (hex_no left text at (omega arith) (omega arith) fails) ∙ c.loop-left.invariant.rest
    ]

pub loop-left-preserved : goal.loop-left-preserved
loop-left-preserved c =
    let text = c.args.text.now in
    let at = c.loop-left.at in
    let left = c.loop-left.left in
    let passes : is_hex_digit (get_or text at 0) ≡ true = cc in
    record { within = omega arith; rest = sym (hex_more left text at (omega arith) (omega arith) passes) ∙ c.loop-left.invariant.rest }
