use Rattle.std.proofs.Common.{◌≡◌, suc, ◌+◌, ◌-◌, drop, false, ap, sym, ◌∙◌, arith}
use Rattle.std.proofs.lemmas.List.{take_rest}
use Rattle.memchr.specs.Find.{is_byte3}
use Rattle.inc_token.specs.Scanning.{closed_at}
use Rattle.inc_token.proofs.Searches.{closed_closes, closed_breaks, escapes_end, escapes_line, escapes_byte, closed_missed, found_within}
use Rattle.inc_token.proofs.pieces.literals.closed_len.Goals as goal
use Rattle.inc_token.proofs.pieces.literals.closed_len.Goals.{then-text-at-eq10-via-then-text-at-eq10, then-text-at-eq10-via-else-text-at-eq10+then-at-text, then-text-at-eq10-via-else-text-at-eq10+else-at-text+then-text-at-eq10-2}

pub returns-then-text-at : goal.returns-then-text-at
returns-then-text-at c =
    let at = c.loop-plain.at in
    let n = at - c.args.start in
    let k = c.in-Some.plain in
    let begun = c.loop-plain.invariant.begun in
    let count : at + k + 1 - c.args.start ≡ suc (n + k) = omega arith in
    count ∙ sym (closed_closes c.args.quote c.args.text.now n at k (rw take_rest at c.in-Some.ensures) c.if-text-at.true) ∙ c.loop-plain.invariant.rest

pub returns-then-text-at-eq10 : goal.returns-then-text-at-eq10
returns-then-text-at-eq10 c =
    let quote = c.args.quote in
    let text = c.args.text.now in
    let at = c.loop-plain.at in
    let n = at - c.args.start in
    let k = c.in-Some.plain in
    let found = rw take_rest at c.in-Some.ensures in
    let other = c.if-text-at.false in
    let none : closed_at quote false n (drop at text) ≡ 0 =
    elim c.then-text-at-eq10.branch [
      | then-text-at-eq10-via-then-text-at-eq10 w ↦ closed_breaks quote text n at k found other w.if-text-at-eq10.true
      | then-text-at-eq10-via-else-text-at-eq10+then-at-text w ↦
          escapes_end quote text n at k found other w.if-text-at-eq10.false w.if-at-text.true
      | then-text-at-eq10-via-else-text-at-eq10+else-at-text+then-text-at-eq10-2 w ↦
          escapes_line quote text n at k found other w.if-text-at-eq10.false w.if-at-text.false w.if-text-at-eq10-2.true
    ] in
    sym none ∙ c.loop-plain.invariant.rest

pub loop-plain-preserved : goal.loop-plain-preserved
loop-plain-preserved c =
    let quote = c.args.quote in
    let text = c.args.text.now in
    let at = c.loop-plain.at in
    let n = at - c.args.start in
    let k = c.in-Some.plain in
    let found = rw take_rest at c.in-Some.ensures in
    let begun = c.loop-plain.invariant.begun in
    let count : at + k + 2 - c.args.start ≡ n + k + 2 = omega arith in
    record {
      begun = omega arith;
      within = omega (arith, found_within (is_byte3 quote 92 10) text at k found, c.if-at-text.false);
      rest = ap (λ m. closed_at quote false m (drop (at + k + 2) text)) count
          ∙ sym (escapes_byte quote text n at k found c.if-text-at.false c.if-text-at-eq10.false c.if-at-text.false c.if-text-at-eq10-2.false)
          ∙ c.loop-plain.invariant.rest;
    }

pub returns : goal.returns
returns c =
    let at = c.loop-plain.at in
    sym (closed_missed c.args.quote (at - c.args.start) (drop at c.args.text.now) (rw take_rest at c.in_default.ensures)) ∙ c.loop-plain.invariant.rest
