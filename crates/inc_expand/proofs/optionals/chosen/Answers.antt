use Rattle.std.proofs.Common.{◌∙◌, ap, sym, drop, arith}
use Rattle.std.proofs.lemmas.Result.{err_from_is_err_and}
use Rattle.inc_expand.specs.Arguments.{argument_values}
use Rattle.inc_expand.specs.Elements.{elements_of}
use Rattle.inc_expand.specs.ElementValues.{place_values}
use Rattle.inc_expand.specs.Expansion.{chosen}
use Rattle.inc_expand.specs.Optionals.{after_places}
use Rattle.inc_expand.proofs.ElementSteps.{places-of}
use Rattle.inc_expand.proofs.JoinSteps.{keeps-more}
use Rattle.inc_expand.proofs.OptionalSteps.{chosen-over, chosen-refused, nothing-before}
use Rattle.inc_expand.proofs.SubstitutionRuns.{known_in-wider, same-arguments}
use Rattle.inc_expand.proofs.Tables.{keeps-itself}
use Rattle.inc_expand.proofs.optionals.chosen.Goals as goal

pub loop-i-init : goal.loop-i-init
loop-i-init c =
    let es = elements_of c.args.definition.now in
    let values = argument_values c.args.sets.now c.args.args.now in record {
      keeps = keeps-itself c.args.sets.now;
      rest = ap (λ ps. after_places (place_values ps) (chosen values 0 es)) c.in_ok-all.ensures.items ∙ nothing-before (chosen values 0 es);
    }

pub choose-requires-clause-args : goal.choose-requires-clause-args
choose-requires-clause-args c = known_in-wider _ _ c.loop-i.invariant.keeps.more c.args.args.now c.requires

pub returns-in_err-i-clause-fault : goal.returns-in_err-i-clause-fault
returns-in_err-i-clause-fault c =
    let p = err_from_is_err_and c.from_residual-in_err-i.result c.from_residual-in_err-i.ensures.1 in
    let es = elements_of c.args.definition.now in
    let same = same-arguments c.args.sets.now c.loop-i.sets c.loop-i.invariant.keeps c.args.args.now c.requires in
    rw (p.1, p.2) (λ other.
    chosen-refused (argument_values c.args.sets.now c.args.args.now) es c.loop-i.i (place_values c.loop-i.all.items) _
    (ap (λ values. chosen values 0 (drop c.loop-i.i es)) (sym same) ∙ c.in_err-i.ensures.fault other) c.loop-i.invariant.rest)

pub loop-i-preserved : goal.loop-i-preserved
loop-i-preserved c =
    let es = elements_of c.args.definition.now in
    let same = same-arguments c.args.sets.now c.loop-i.sets c.loop-i.invariant.keeps c.args.args.now c.requires in record {
      keeps = keeps-more _ _ _ c.loop-i.invariant.keeps c.choose.ensures.keeps;
      rest =
          ap (λ values. after_places (place_values c.choose.new.all.items) (chosen values 0 (drop c.in_ok-i.i es))) (sym same)
          ∙ c.in_ok-i.ensures.chosen
          ∙ ap (λ values. after_places (place_values c.loop-i.all.items) (chosen values 0 (drop c.loop-i.i es))) same
          ∙ c.loop-i.invariant.rest;
    }

pub returns-clause-chosen : goal.returns-clause-chosen
returns-clause-chosen c =
    chosen-over (argument_values c.args.sets.now c.args.args.now) (elements_of c.args.definition.now) c.loop-i.i (place_values c.loop-i.all.items)
    (omega (arith, c.loop-i-test.false, c.body_len-in-loop-i.ensures, places-of c.args.definition.now)) c.loop-i.invariant.rest
