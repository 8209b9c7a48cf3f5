use Rattle.std.proofs.Common.{◌∙◌, [], ap, sym}
use Rattle.inc_token.specs.Views.{seen}
use Rattle.inc_inputs.specs.NamedPlaces.{are_written}
use Rattle.inc_inputs.specs.PlaceWords.{unspaced}
use Rattle.inc_inputs.proofs.WrittenLemmas.{unspaced_again, written_end, written_next, written_not, written_unspaced}
use Rattle.inc_inputs.proofs.named_marks.are_written.Goals as goal

pub loop-token-init : goal.loop-token-init
loop-token-init c = record {
  clean = ap unspaced c.unspaced-left.ensures ∙ unspaced_again c.args.name.now ∙ sym c.unspaced-left.ensures;
  same = ap (are_written c.args.tokens) c.unspaced-left.ensures ∙ written_unspaced c.args.tokens c.args.name.now;
}

pub returns-in_default-strip_prefix : goal.returns-in_default-strip_prefix
returns-in_default-strip_prefix c =
    written_not (seen c.in-Some.token) c.next.new.self c.loop-token.left.now (are_written c.args.tokens c.args.name.now) c.loop-token.invariant.clean
    (ap (λ ts. are_written ts c.loop-token.left.now) (sym c.in-Some.ensures.some) ∙ c.loop-token.invariant.same) c.in_default-strip_prefix.ensures.cases

pub loop-token-preserved : goal.loop-token-preserved
loop-token-preserved c =
    let rest = c.in-Some-strip_prefix.rest.now in
    record {
      clean = ap unspaced c.unspaced-left-in-Some.ensures ∙ unspaced_again rest ∙ sym c.unspaced-left-in-Some.ensures;
      same =
          ap (are_written c.next.new.self) c.unspaced-left-in-Some.ensures
          ∙ written_next (seen c.in-Some.token) c.next.new.self c.loop-token.left.now (are_written c.args.tokens c.args.name.now) c.loop-token.invariant.clean
          (ap (λ ts. are_written ts c.loop-token.left.now) (sym c.in-Some.ensures.some) ∙ c.loop-token.invariant.same) rest
          c.in-Some-strip_prefix.ensures.cases.0 c.in-Some-strip_prefix.ensures.cases.1;
    }

pub returns : goal.returns
returns c =
    c.is_empty.ensures
    ∙ written_end c.loop-token.left.now (are_written c.args.tokens c.args.name.now) c.loop-token.invariant.clean
    (ap (λ ts. are_written ts c.loop-token.left.now) (sym c.in_default.ensures.none) ∙ c.loop-token.invariant.same)
