use Rattle.std.proofs.Common.{◌||◌, false, get_or, sym, ap, ◌∙◌, arith}
use Rattle.std.proofs.lemmas.List.{get_or-replicate}
use Rattle.inc_expand.specs.Elements.{elements_of}
use Rattle.inc_expand.specs.ElementValues.{hash_at}
use Rattle.inc_expand.proofs.ElementSteps.{asks-is, expanded-more, expanded-all, place-is}
use Rattle.inc_expand.proofs.body_elements.expanded_parameters.Goals as goal

pub loop-i-init : goal.loop-i-init
loop-i-init c n l = get_or-replicate 256 n false false l

pub loop-i-preserved : goal.loop-i-preserved
loop-i-preserved c n l =
    let d = c.args.definition.now in
    let i = c.loop-i.i in
    let place = place-is d i c.role.result (omega (arith, c.loop-i-test.true, c.body_len-i-end.ensures)) c.role.ensures in
    expanded-more (elements_of d) i _ n _ _ place.2
    (c.note_expanded.ensures n l ∙ ap (λ b. get_or c.loop-i.wanted n false || b) (sym (asks-is (hash_at d i) place.0 c.role.result n)))
    (c.loop-i.invariant n l)

pub returns : goal.returns
returns c n l = expanded-all c.args.definition.now c.loop-i.i n _ (omega (arith, c.loop-i-test.false, c.body_len-i-end.ensures)) (c.loop-i.invariant n l)
