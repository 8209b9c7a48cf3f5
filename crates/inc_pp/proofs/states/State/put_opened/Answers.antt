use Rattle.std.proofs.Common.{◌∙◌, ap, map, option_map}
use Rattle.std.proofs.lemmas.Result.{err_from_is_err_and}
use Rattle.inc_token.specs.Views.{seen}
use Rattle.inc_expand.specs.HeldTokens.{seen_ref}
use Rattle.inc_expand.specs.Places.{place_value}
use Rattle.inc_pp.specs.StateViews.{state_of}
use Rattle.inc_pp.specs.Tasks.{Here}
use Rattle.inc_pp.proofs.RunSteps.{open-done, open-stop, same-state}
use Rattle.inc_pp.proofs.StopSteps.{if-stop}
use Rattle.inc_pp.proofs.states.State.put_opened.Goals as goal

pub returns-clause-done : goal.returns-clause-done
returns-clause-done c = λ f under index.
    let e = c.in_ok-once.ensures.done in
    open-done f c.args.settings.now under (map seen c.args.tokens.now) (state_of c.args.self.now) c.args.here.now c.most_output.result c.most_output.ensures c.args.file index
    (place_value c.place.result) c.place.ensures (option_map place_value c.marks-marks.result) c.marks-marks.ensures (map seen_ref c.deref.result.now) (ap (map seen_ref) c.deref.ensures.value ∙ c.in_ok-waiting.ensures ∙ ap (λ (h : Here). h.waiting) c.here.view_is)
    (state_of c.note_once.new.self) e.0 c.put_open.new.output c.in_ok-once.held.waiting c.put_open.new.budget c.in_ok-once.once
    e.2 e.1 c.in_ok-note_once.ensures.done

pub returns-in_err-once-clause-stop : goal.returns-in_err-once-clause-stop
returns-in_err-once-clause-stop c =
    let p = err_from_is_err_and c.from_residual-in_err-once.result c.from_residual-in_err-once.ensures.1 in
    rw (p.1, p.2)
    (if-stop c.in_err-once.field-0.0 _ _ (λ line cause e. (
      same-state (state_of c.args.self.now) c.put_open.new.budget c.put_open.new.output c.in_err-once.ensures.left e.1,
      e.0 ∙ c.line_of_run.ensures,
      λ f under index.
          open-stop f c.args.settings.now under (map seen c.args.tokens.now) (state_of c.args.self.now) c.args.here.now c.most_output.result c.most_output.ensures
          (place_value c.place.result) c.place.ensures (option_map place_value c.marks-marks.result) c.marks-marks.ensures (map seen_ref c.deref.result.now)
          (ap (map seen_ref) c.deref.ensures.value ∙ c.in_ok-waiting.ensures ∙ ap (λ (h : Here). h.waiting) c.here.view_is) cause e.2,
    )) c.in_err-once.ensures.stop)
