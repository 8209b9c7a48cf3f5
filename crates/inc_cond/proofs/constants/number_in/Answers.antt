use Rattle.std.proofs.Common.{◌≡◌, ◌+◌, ◌*◌, None, sym, ap, ◌∙◌}
use Rattle.std.specs.Prelude.{slice_index_or, drop}
use Rattle.inc_cond.specs.Constants.{digit_of}
use Rattle.inc_cond.specs.Numerals.{if_fits}
use Rattle.inc_cond.proofs.NumberLemmas.{stays_over, fits, first_left, none_left}
use Rattle.inc_cond.proofs.constants.number_in.Goals as goal

pub returns-in_err-number : goal.returns-in_err-number
returns-in_err-number c =
    let bs = c.loop-left.left.now in
    let next = c.loop-left.number * c.args.base + digit_of (slice_index_or bs 0 0) in
    let over : if_fits next ≡ None = sym c.with_digit.ensures ∙ c.in_err-number.was in
    let whole = sym (first_left c.args.base c.loop-left.number bs c.in-len1-up.len_at_least) ∙ c.loop-left.invariant.1 in
    c.from_residual.ensures ∙ sym (stays_over c.args.base next (drop 1 bs) c.requires.0 over) ∙ ap if_fits whole

pub returns : goal.returns
returns c =
    sym (fits c.loop-left.number c.loop-left.invariant.0) ∙ ap if_fits (sym (none_left c.args.base c.loop-left.number c.loop-left.left.now c.in_default.len_below) ∙ c.loop-left.invariant.1)
