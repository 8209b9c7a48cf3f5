use Rattle.std.proofs.Common.{◌≡◌, ◌+◌, ◌-◌, ◌<◌, [], ◌∷◌, ◌++◌, length, drop, sym, ap, ◌∙◌, subst, arith}
use Rattle.std.proofs.lemmas.List.{take_rest, drop-drop, length-drop, length_push}
use Rattle.inc_check.specs.Texts.{CostsFormat, IsMalformed, lines_text, cost_lines}
use Rattle.inc_check.proofs.CostsFormats.{bad_cost, open_cost, read_cost}
use Rattle.inc_check.proofs.read_texts.read_costs.Goals as goal

pub returns-in_default-cost_in-clause-fault : goal.returns-in_default-cost_in-clause-fault
returns-in_default-cost_in-clause-fault c line e =
    let text = c.args.text.now in
    let at = c.loop-length.at in
    let n = c.in-Some.length in
    let found = rw take_rest at c.in-Some.ensures in
    let line' = rw take_rest at c.cost_in.ensures in
    let bad = bad_cost text c.loop-length.costs.items (drop at text) n c.loop-length.line c.loop-length.invariant.small c.loop-length.invariant.read (sym found) (sym line' ∙ c.in_default-cost_in.is) c.loop-length.invariant.counted in
    let same : c.loop-length.line ≡ line = cc in subst (IsMalformed CostsFormat text) same bad

pub loop-length-preserved : goal.loop-length-preserved
loop-length-preserved c =
    let text = c.args.text.now in
    let at = c.loop-length.at in
    let n = c.in-Some.length in
    let found = rw take_rest at c.in-Some.ensures in
    let line' = rw take_rest at c.cost_in.ensures in
    let more = read_cost text c.loop-length.costs.items (drop at text) n c.in-Some-cost_in.cost c.loop-length.invariant.small c.loop-length.invariant.read (sym found) (sym line' ∙ c.in-Some-cost_in.is) in
    let low : n < length text - at = rw length-drop at more.2 in
    record {
      within = omega (arith, low);
      low = omega arith;
      read = rw (c.in_ok-push.ensures.items) (more.0 ∙ ap (λ t. lines_text (cost_lines (c.loop-length.costs.items ++ c.in-Some-cost_in.cost ∷ [])) ++ t) (drop-drop (n + 1) at text));
      small = rw (c.in_ok-push.ensures.items) more.1;
      counted = rw (c.in_ok-push.ensures.items, length_push) (omega arith);
    }

pub returns-then-at-text-clause-fault : goal.returns-then-at-text-clause-fault
returns-then-at-text-clause-fault c line e =
    let text = c.args.text.now in
    let at = c.loop-length.at in
    let found = rw take_rest at c.in_default.ensures in
    let left = length-drop at text in
    let bad = open_cost text c.loop-length.costs.items (drop at text) c.loop-length.line c.loop-length.invariant.small c.loop-length.invariant.read (sym found) (λ none. let zero = ap length none in absurd (omega arith)) c.loop-length.invariant.counted in
    let same : c.loop-length.line ≡ line = cc in subst (IsMalformed CostsFormat text) same bad
