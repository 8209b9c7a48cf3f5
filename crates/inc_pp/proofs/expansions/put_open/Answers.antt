use Rattle.std.proofs.Common.{◌∙◌, None, ap, map, option_map, refl, sym}
use Rattle.std.proofs.lemmas.Result.{err_from_is_err_and}
use Rattle.inc_macro.specs.Tables.{table_of}
use Rattle.inc_macro.specs.Results.{◌>>=◌}
use Rattle.inc_expand.specs.Items.{seen_item}
use Rattle.inc_expand.specs.Places.{place_value}
use Rattle.inc_pp.specs.Pragmas.{laid}
use Rattle.inc_pp.specs.Steps.{short}
use Rattle.inc_pp.proofs.MeasureSteps.{opened-bad, opened-done, opened-none}
use Rattle.inc_pp.proofs.StopSteps.{if-stop}
use Rattle.inc_pp.proofs.expansions.put_open.Goals as goal

pub returns-in_err-items-clause-stop : goal.returns-in_err-items-clause-stop
returns-in_err-items-clause-stop c =
    let p = err_from_is_err_and c.from_residual.result c.from_residual.ensures.1 in
    rw (p.1, p.2) (if-stop c.in_err-items.field-0.0 _ _ (λ line cause e. (
      e.0,
      refl,
      opened-none (table_of c.args.around.now.macros.now).language (option_map place_value c.args.marks) c.args.most c.args.output.now _ cause e.1,
    )) c.in_err-items.ensures.stop)

pub returns-in_err-check_items-clause-stop : goal.returns-in_err-check_items-clause-stop
returns-in_err-check_items-clause-stop c =
    let p = err_from_is_err_and c.from_residual-in_err-check_items.result c.from_residual-in_err-check_items.ensures.1 in
    rw (p.1, p.2) (if-stop c.in_err-check_items.field-0.0 _ _ (λ line cause e. (
      e.0,
      refl,
      opened-bad (table_of c.args.around.now.macros.now).language (option_map place_value c.args.marks) c.args.most c.args.output.now
          (map seen_item c.in_ok-items.items.items) c.in_ok-items.held.waiting c.opened.new.budget _ c.in_ok-items.ensures.done cause
          (ap (λ is. laid (table_of c.args.around.now.macros.now).language (option_map place_value c.args.marks) None (map seen_item is) >>= short c.args.most c.args.output.now)
          (sym c.deref.ensures.value) ∙ e.1),
    )) c.in_err-check_items.ensures.stop)

pub returns-in_err-once-clause-stop : goal.returns-in_err-once-clause-stop
returns-in_err-once-clause-stop c =
    let p = err_from_is_err_and c.from_residual-in_err-once.result c.from_residual-in_err-once.ensures.1 in
    rw (p.1, p.2) (if-stop c.in_err-once.field-0.0 _ _ (λ line cause e. (
      e.0,
      e.1,
      opened-bad (table_of c.args.around.now.macros.now).language (option_map place_value c.args.marks) c.args.most c.args.output.now
          (map seen_item c.in_ok-items.items.items) c.in_ok-items.held.waiting c.opened.new.budget _ c.in_ok-items.ensures.done cause
          (ap (λ is. laid (table_of c.args.around.now.macros.now).language (option_map place_value c.args.marks) None (map seen_item is) >>= short c.args.most c.args.output.now)
          (sym c.deref.ensures.value) ∙ c.in_ok-check_items.ensures.fits ∙ e.2),
    )) c.in_err-once.ensures.stop)

pub returns-clause-done : goal.returns-clause-done
returns-clause-done c =
    let d = c.in_ok-once.ensures.done in
    let given = ap (λ is. laid (table_of c.args.around.now.macros.now).language (option_map place_value c.args.marks) None (map seen_item is)) (sym c.deref.ensures.value) in (
      d.0,
      d.1,
      opened-done (table_of c.args.around.now.macros.now).language (option_map place_value c.args.marks) c.args.most c.args.output.now
          (map seen_item c.in_ok-items.items.items) c.in_ok-items.held.waiting c.opened.new.budget _ c.in_ok-items.ensures.done
          (record { tokens = d.0; once = c.in_ok-once.once })
          (ap (λ r. r >>= short c.args.most c.args.output.now) given ∙ c.in_ok-check_items.ensures.fits ∙ sym given) (given ∙ d.2),
    )
