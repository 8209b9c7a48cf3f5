use Rattle.std.proofs.Common.{◌∙◌, refl, sym}
use Rattle.inc_answers.proofs.StrictLemmas.{strays_by, strays_none}
use Rattle.inc_answers.proofs.strictness.strays.Goals as goal

pub loop-glob-preserved : goal.loop-glob-preserved
loop-glob-preserved c = record {
  strays = strays_by (λ g. g.now) c.args.globs.now c.loop-glob.glob-index _ c.args.missing.now _ c.deref.result.now c.loop-glob.places.items _ c.loop-glob-test.true refl
      c.in_ok-places-2.ensures.left c.deref.ensures.value c.loop-glob.invariant.strays;
  within = c.in_ok-places-2.ensures.within;
}

pub loop-glob-init : goal.loop-glob-init
loop-glob-init c = record { strays = c.in_ok-places.ensures.all ∙ sym (strays_none c.args.missing.now); within = c.in_ok-places.ensures.within }
