use Rattle.std.proofs.Common.{◌∙◌, sym, arith}
use Rattle.inc_macro.proofs.OptionalParts.{closed-here, closed-other, closed-on}
use Rattle.inc_macro.proofs.define_directives.is_closed.Goals as goal

pub returns-then-is_match : goal.returns-then-is_match
returns-then-is_match c =
    closed-here c.args.tokens.now c.loop-i.i _ c.loop-i.deep c.loop-i.pastes c.loop-i-test.true (sym c.is_match.ensures ∙ c.if-is_match.true) ∙ c.loop-i.invariant.rest

pub returns-then-is_va_opt : goal.returns-then-is_va_opt
returns-then-is_va_opt c =
    closed-other c.args.tokens.now c.loop-i.i _ c.loop-i.deep c.loop-i.pastes c.loop-i-test.true (sym c.is_match.ensures ∙ c.if-is_match.false)
    (sym c.is_va_opt.ensures ∙ c.if-is_va_opt.true)
    ∙ c.loop-i.invariant.rest

pub loop-i-preserved : goal.loop-i-preserved
loop-i-preserved c = record {
  rest =
      closed-on c.args.tokens.now c.loop-i.i _ c.loop-i.deep c.loop-i.pastes c.loop-i-test.true c.depth_at-deep.result c.is_paste-pastes.result
      (sym c.is_match.ensures ∙ c.if-is_match.false) (sym c.is_va_opt.ensures ∙ c.if-is_va_opt.false) c.depth_at-deep.ensures.depth c.is_paste-pastes.ensures
      ∙ c.loop-i.invariant.rest;
  few = omega (arith, c.depth_at-deep.ensures.most, c.loop-i.invariant.few);
}
