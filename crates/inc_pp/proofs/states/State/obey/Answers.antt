use Rattle.std.proofs.Common.{ap, sym, ◌∙◌, map, option_map}
use Rattle.std.proofs.lemmas.Result.{err_from_is_err_and}
use Rattle.inc_token.specs.Views.{seen}
use Rattle.inc_directive.specs.LineKinds.{line_of_tokens}
use Rattle.inc_expand.specs.Places.{place_value}
use Rattle.inc_pp.specs.DirectiveSteps.{here_by}
use Rattle.inc_pp.specs.Directives.{changed}
use Rattle.inc_pp.specs.StateViews.{state_of}
use Rattle.inc_pp.specs.Tasks.{State}
use Rattle.inc_pp.proofs.ControlSteps.{line-done, line-stop, rest-done, rest-stop}
use Rattle.inc_pp.proofs.StopSteps.{if-stop}
use Rattle.inc_pp.proofs.states.State.obey.Goals as goal

pub returns-in_ok-numbering-in-Line-clause-done : goal.returns-in_ok-numbering-in-Line-clause-done
returns-in_ok-numbering-in-Line-clause-done c f l u index at =
    ap (λ k. changed k f l (state_of c.args.self.now) c.args.here.now) c.in-Line.is
    ∙ line-done f l (state_of c.args.self.now) c.args.here.now c.args.settings.now u c.in_ok-numbering-in-Line.numbering
    c.renumbered.new.self.budget (state_of c.renumbered.new.self) c.renumber.new.self c.in_ok-numbering-in-Line.ensures.kept c.renumber.ensures
    (c.in_ok-numbering-in-Line.ensures.done l at)

pub returns-in_err-numbering-in-Line-clause-stop : goal.returns-in_err-numbering-in-Line-clause-stop
returns-in_err-numbering-in-Line-clause-stop c =
    let p = err_from_is_err_and c.from_residual.result c.from_residual.ensures.1 in
    rw (p.1, p.2) (if-stop c.in_err-numbering-in-Line.field-0.0 _ _ (λ line cause e. (
      ap (λ (t : State). t.output) c.in_err-numbering-in-Line.ensures.kept,
      λ f l u index at. (
        (e l at).0,
        ap (λ k. changed k f l (state_of c.args.self.now) c.args.here.now) c.in-Line.is
            ∙ line-stop f l (state_of c.args.self.now) c.args.here.now c.args.settings.now u cause (e l at).1,
      ),
    )) c.in_err-numbering-in-Line.ensures.stop)

pub returns-in_ok-change-in_default-clause-done : goal.returns-in_ok-change-in_default-clause-done
returns-in_ok-change-in_default-clause-done c f l u index at =
    rest-done f l (state_of c.args.self.now) c.args.here.now c.args.file index c.args.settings.now u (option_map place_value c.marks-marks.result) c.marks-marks.ensures c.most_output.result c.most_output.ensures
    c.args.kind (map seen c.deref.result.now)
    (sym (c.in_ok-tokens-in_default.ensures l at) ∙ ap (map seen) (sym c.deref.ensures.value)) c.in_default.not-Line
    (state_of c.change.new.self) c.obey.new.self c.language-language.result c.language-language.ensures
    (c.obey.ensures
    ∙ ap (λ ts. here_by c.args.kind c.language-language.result (map seen ts) c.args.here.now) (c.deref-in_default.ensures.value ∙ sym c.deref.ensures.value))
    c.in_ok-change-in_default.ensures.done

pub returns-in_err-change-in_default-clause-stop : goal.returns-in_err-change-in_default-clause-stop
returns-in_err-change-in_default-clause-stop c =
    let p = err_from_is_err_and c.from_residual-in_err-change-in_default.result c.from_residual-in_err-change-in_default.ensures.1 in
    rw (p.1, p.2) (if-stop c.in_err-change-in_default.field-0.0 _ _ (λ line cause e. (
      ap (λ (t : State). t.output) e.2,
      λ f l u index at.
          let tokens = sym (c.in_ok-tokens-in_default.ensures l at) ∙ ap (map seen) (sym c.deref.ensures.value) in (
            e.0 ∙ ap line_of_tokens (sym tokens),
            rest-stop f l (state_of c.args.self.now) c.args.here.now c.args.file index c.args.settings.now u (option_map place_value c.marks-marks.result) c.marks-marks.ensures c.most_output.result c.most_output.ensures
                c.args.kind (map seen c.deref.result.now) tokens c.in_default.not-Line cause e.1,
          ),
    )) c.in_err-change-in_default.ensures.stop)
