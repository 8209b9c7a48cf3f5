use Rattle.std.proofs.Common.{◌≡◌, ◌+◌, ◌-◌, ◌<◌, [], ◌∷◌, ◌++◌, length, drop, sym, ap, ◌∙◌, subst, arith}
use Rattle.std.proofs.lemmas.List.{take_rest, drop-drop, length-drop, length_push}
use Rattle.inc_check.specs.Texts.{MarksFormat, IsMalformed, lines_text, mark_lines}
use Rattle.inc_check.proofs.MarksFormats.{bad_mark, open_mark, read_mark}
use Rattle.inc_check.proofs.read_texts.read_marks.Goals as goal

pub returns-in_default-2-clause-fault : goal.returns-in_default-2-clause-fault
returns-in_default-2-clause-fault c line e =
    let text = c.args.text.now in
    let at = c.loop-length.at in
    let n = c.in-Some.length in
    let found = rw take_rest at c.in-Some.ensures in
    let line' = rw take_rest at c.in_ok-mark.ensures in
    let bad = bad_mark text c.loop-length.marks.items (drop at text) n c.loop-length.line c.loop-length.invariant.small c.loop-length.invariant.read (sym found) (sym line' ∙ c.in_default-2.is) c.loop-length.invariant.counted in
    let same : c.loop-length.line ≡ line = cc in subst (IsMalformed MarksFormat text) same bad

pub loop-length-preserved : goal.loop-length-preserved
loop-length-preserved c =
    let text = c.args.text.now in
    let at = c.loop-length.at in
    let n = c.in-Some.length in
    let found = rw take_rest at c.in-Some.ensures in
    let line' = rw take_rest at c.in_ok-mark.ensures in
    let more = read_mark text c.loop-length.marks.items (drop at text) n c.in-Some-2.mark c.loop-length.invariant.small c.loop-length.invariant.read (sym found) (sym line' ∙ c.in-Some-2.is) in
    let low : n < length text - at = rw length-drop at more.2 in
    record {
      within = omega (arith, low);
      low = omega arith;
      read = rw (c.in_ok-push.ensures.items) (more.0 ∙ ap (λ t. lines_text (mark_lines (c.loop-length.marks.items ++ c.in-Some-2.mark ∷ [])) ++ t) (drop-drop (n + 1) at text));
      small = rw (c.in_ok-push.ensures.items) more.1;
      counted = rw (c.in_ok-push.ensures.items, length_push) (omega arith);
    }

pub returns-then-at-text-clause-fault : goal.returns-then-at-text-clause-fault
returns-then-at-text-clause-fault c line e =
    let text = c.args.text.now in
    let at = c.loop-length.at in
    let found = rw take_rest at c.in_default.ensures in
    let left = length-drop at text in
    let bad = open_mark text c.loop-length.marks.items (drop at text) c.loop-length.line c.loop-length.invariant.small c.loop-length.invariant.read (sym found) (λ none. let zero = ap length none in absurd (omega arith)) c.loop-length.invariant.counted in
    let same : c.loop-length.line ≡ line = cc in subst (IsMalformed MarksFormat text) same bad
