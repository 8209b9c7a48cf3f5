use Rattle.std.proofs.Common.{◌∙◌, List, None, Result, ap, option_map, refl, rules, sym, true}
use Rattle.inc_text.specs.declared.languages.Language.{Language}
use Rattle.inc_macro.specs.Tables.{table_of}
use Rattle.inc_expand.specs.declared.faults.ExpandFault.{ExpandFault}
use Rattle.inc_expand.specs.Expansion.{Item, Meter}
use Rattle.inc_expand.specs.Places.{place_value}
use Rattle.inc_pp.specs.declared.causes.Cause.TheVariants.{Expand}
use Rattle.inc_pp.specs.Measures.{length_after}
use Rattle.inc_pp.specs.Pragmas.{laid}
use Rattle.inc_pp.specs.Tasks.{caused}
use Rattle.inc_pp.proofs.MeasureSteps.{all-measured, measured-bad, measured-done}
use Rattle.inc_pp.proofs.OperatorSteps.{paid}
use Rattle.inc_pp.proofs.StopSteps.{if-stop}
use Rattle.inc_pp.proofs.measures.expanded_length.Goals as goal

pub returns-in-Ok-finish-clause-done : goal.returns-in-Ok-finish-clause-done
returns-in-Ok-finish-clause-done c =
    let language = (table_of c.args.around.now.macros.now).language in
    let marks = option_map place_value c.args.marks in
    let e = c.in-Ok.ensures.items in
    measured-done language marks e.items c.expand_into.new.budget _ (ap (caused Expand) e.same) c.in-Ok-finish.bytes
    (ap (λ (l : Language). length_after 0 (laid l marks None e.items)) (sym c.language.ensures) ∙ sym (c.new-measure.ensures e.items)
    ∙ sym (all-measured true c.new-measure.result c.expand_into.new.sink e.items e.taken) ∙ c.in-Ok-finish.ensures.done)

pub returns-in-Ok-clause-stop : goal.returns-in-Ok-clause-stop
returns-in-Ok-clause-stop c =
    let language = (table_of c.args.around.now.macros.now).language in
    let marks = option_map place_value c.args.marks in
    let e = c.in-Ok.ensures.items in
    if-stop c.in-Err-finish.fault _ _ (λ line cause p. (
      p.0,
      measured-bad language marks e.items c.expand_into.new.budget _ (ap (caused Expand) e.same) cause
          (ap (λ (l : Language). length_after 0 (laid l marks None e.items)) (sym c.language.ensures) ∙ sym (c.new-measure.ensures e.items)
          ∙ sym (all-measured true c.new-measure.result c.expand_into.new.sink e.items e.taken) ∙ p.1),
    )) c.in-Err-finish.ensures.stop

pub returns-clause-stop : goal.returns-clause-stop
returns-clause-stop c =
    let e = c.in-Err.ensures.fault (search rules) in (
      refl,
      ap (λ (r : Result (List Item × Meter) ExpandFault). paid (table_of c.args.around.now.macros.now).language (option_map place_value c.args.marks) (caused Expand r)) e.same,
    )
