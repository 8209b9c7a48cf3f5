use Rattle.std.proofs.Common.{◌≡◌, Some, sym, ap, ◌∙◌}
use Rattle.std.specs.Prelude.{option_and_then}
use Rattle.inc_cond.specs.Constants.{character_code, unquoted}
use Rattle.inc_cond.specs.Numerals.{if_fits}
use Rattle.inc_cond.proofs.NumberLemmas.{narrow_fitted}
use Rattle.inc_cond.proofs.constants.narrow_character.Goals as goal

pub returns : goal.returns
returns c =
    let code = character_code (unquoted c.args.text.now) in
    let fits : option_and_then if_fits code ≡ Some c.in_ok-character_code.field-0 =
    ap (λ t. option_and_then if_fits (character_code t)) (sym c.unquoted.ensures) ∙ sym c.in_ok-character_code.ensures in
    c.narrow_value.ensures ∙ sym (narrow_fitted code (Some c.in_ok-character_code.field-0) fits)
