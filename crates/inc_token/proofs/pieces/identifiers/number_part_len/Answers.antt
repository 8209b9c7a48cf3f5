use Rattle.std.proofs.Common.{◌≡◌, ◌+◌, false, ◌&&◌, get_or, drop, sym, ◌∙◌}
use Rattle.std.proofs.lemmas.Bool.{and_left, and_right}
use Rattle.inc_token.specs.Spellings.{is_exponent_letter}
use Rattle.inc_token.specs.Scanning.{begins_with_sign}
use Rattle.inc_token.proofs.Parts.{number_part-else}
use Rattle.inc_token.proofs.pieces.identifiers.number_part_len.Goals as goal
use Rattle.inc_token.proofs.pieces.identifiers.number_part_len.Goals.{else-is_exponent-via-then-is_exponent+else-is_signed, else-is_exponent-via-else-is_exponent}

pub returns-else-is_exponent : goal.returns-else-is_exponent
returns-else-is_exponent c =
    let text = c.args.text.now in
    let at = c.args.at in
    let exponent = is_exponent_letter (get_or text at 0) in
    let sign = begins_with_sign (drop (at + 1) text) in
    let neither : (exponent && sign) ≡ false =
    elim c.else-is_exponent.branch [
      | else-is_exponent-via-then-is_exponent+else-is_signed w ↦ (let unsigned : sign ≡ false = cc in and_right exponent sign unsigned)
      | else-is_exponent-via-else-is_exponent w ↦ (let other : exponent ≡ false = cc in and_left exponent sign other)
    ] in
    c.part_len.ensures ∙ sym (number_part-else c.args.language text at c.requires c.if-first-eq46.false neither)
