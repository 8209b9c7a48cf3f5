use Rattle.std.proofs.Common.{arith}
use Rattle.inc_expand.specs.Elements.{elements_of}
use Rattle.inc_expand.specs.ElementValues.{element_value, element_values}
use Rattle.inc_expand.proofs.ElementSteps.{places-of}
use Rattle.inc_expand.proofs.OptionalRuns.{element-pushed, inside-closed, inside-more, inside-over}
use Rattle.inc_expand.proofs.optionals.inside.Goals as goal

pub returns-then-is_match : goal.returns-then-is_match
returns-then-is_match c =
    inside-closed (elements_of c.args.definition.now) c.loop-i.i (element_value c.element_at-element.result) c.loop-i.deep c.own_spelling-spelling.result.now c.is_match.result
    c.element_at-element.ensures c.own_spelling-spelling.ensures c.is_match.ensures (element_values c.loop-i.all.items) _ c.if-is_match.true c.loop-i.invariant.rest

pub depth_at-deep-requires : goal.depth_at-deep-requires
depth_at-deep-requires c = omega (arith, c.loop-i.invariant.few, c.loop-i-test.true, c.body_len-i-end.type_inv)

pub loop-i-preserved : goal.loop-i-preserved
loop-i-preserved c = record {
  rest =
      inside-more (elements_of c.args.definition.now) c.loop-i.i (element_value c.element_at-element.result) c.loop-i.deep c.own_spelling-spelling.result.now c.is_match.result
      c.element_at-element.ensures c.own_spelling-spelling.ensures c.is_match.ensures (element_values c.loop-i.all.items) _ (element_values c.push.new.self.items)
      c.depth_at-deep.result (element_value c.kept.result) c.if-is_match.false c.depth_at-deep.ensures.depth c.kept.ensures
      (element-pushed c.loop-i.all.items c.push.new.self.items c.kept.result c.in_ok-push.ensures.items) c.loop-i.invariant.rest;
  few = omega (arith, c.depth_at-deep.ensures.most, c.loop-i.invariant.few);
}

pub returns : goal.returns
returns c =
    inside-over (elements_of c.args.definition.now) c.loop-i.i c.loop-i.deep (element_values c.loop-i.all.items) _
    (omega (arith, c.loop-i-test.false, c.body_len-i-end.ensures, places-of c.args.definition.now)) c.loop-i.invariant.rest
