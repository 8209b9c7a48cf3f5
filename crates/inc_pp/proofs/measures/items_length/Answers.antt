use Rattle.std.proofs.Common.{◌∙◌, None, ap, map, option_map, sym}
use Rattle.inc_text.specs.declared.languages.Language.{Language}
use Rattle.inc_macro.specs.Tables.{table_of}
use Rattle.inc_expand.specs.Items.{seen_item}
use Rattle.inc_expand.specs.Places.{place_value}
use Rattle.inc_pp.specs.Measures.{length_after}
use Rattle.inc_pp.specs.Pragmas.{laid}
use Rattle.inc_pp.proofs.MeasureSteps.{bad-measured}
use Rattle.inc_pp.proofs.StopSteps.{if-stop}
use Rattle.inc_pp.proofs.measures.items_length.Goals as goal

pub returns-in-Ok-clause-done : goal.returns-in-Ok-clause-done
returns-in-Ok-clause-done c =
    let marks = option_map place_value c.args.marks in
    let items = map seen_item c.args.items.now in
    ap (λ (l : Language). length_after 0 (laid l marks None items)) (sym c.language.ensures) ∙ sym (c.new-measure.ensures items) ∙ sym c.in_ok-measure_all.ensures ∙ c.in-Ok.ensures.done

pub returns-clause-stop : goal.returns-clause-stop
returns-clause-stop c =
    let language = (table_of c.args.around.now.macros.now).language in
    let marks = option_map place_value c.args.marks in
    let items = map seen_item c.args.items.now in
    if-stop c.in-Err.fault _ _ (λ line cause p. (
      p.0,
      bad-measured (laid language marks None items) 0 cause
          (ap (λ (l : Language). length_after 0 (laid l marks None items)) (sym c.language.ensures) ∙ sym (c.new-measure.ensures items) ∙ sym c.in_ok-measure_all.ensures ∙ p.1),
    )) c.in-Err.ensures.stop
