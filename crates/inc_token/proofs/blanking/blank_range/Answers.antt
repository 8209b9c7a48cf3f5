use Rattle.std.proofs.Common.{rules, ◌≡◌, sym, ap, ◌∙◌, arith, length, min, set}
use Rattle.inc_token.specs.BlankingSteps.{with_blank}
use Rattle.inc_token.proofs.BlankedBytes.{blanked_nowhere, blanked_more, blanked_all}
use Rattle.inc_token.proofs.blanking.blank_range.Goals as goal

pub loop-at-init : goal.loop-at-init
loop-at-init c =
    sym (blanked_nowhere 0 (min c.args.first c.min-end.result) c.min-at.result c.args.bytes.now.items
    (λ some later. omega (arith, some, c.min-at.ensures)))

pub loop-at-preserved : goal.loop-at-preserved
loop-at-preserved c =
    let first = min c.args.first c.min-end.result in
    let at = c.loop-at.at in
    let old = c.args.bytes.now.items in
    let size : length old ≡ c.len.result = search rules in
    ap (λ items. set items at c.blank_byte.result) c.loop-at.invariant
    ∙ ap (λ b. set (with_blank (record { first = first; last = at }) old) at b) c.blank_byte.ensures
    ∙ blanked_more 0 at first at old c.index.result.now (omega arith)
    (omega (arith, c.loop-at.auto.at, c.min-at.ensures))
    (omega (arith, size, c.min-end.ensures, c.loop-at-test.true))
    (rw c.loop-at.invariant at c.index.ensures)

pub returns : goal.returns
returns c =
    let old = c.args.bytes.now.items in
    let size : length old ≡ c.len.result = search rules in
    let at : c.loop-at.at ≡ min c.args.last (length old) =
    omega (arith, size, c.min-end.ensures, c.min-at.ensures, c.loop-at.auto.at-end, c.loop-at-test.false) in
    let end : c.min-end.result ≡ c.loop-at.at =
    omega (arith, size, c.min-end.ensures, c.min-at.ensures, c.loop-at.auto.at-end, c.loop-at-test.false) in
    c.loop-at.invariant
    ∙ ap (λ e. with_blank (record { first = min c.args.first e; last = c.loop-at.at }) old) end
    ∙ blanked_all c.args.first c.args.last c.loop-at.at old at
