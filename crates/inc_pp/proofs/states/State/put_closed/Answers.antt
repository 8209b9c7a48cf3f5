use Rattle.std.proofs.Common.{◌∙◌, ap, map}
use Rattle.std.specs.Prelude.{◌&&◌}
use Rattle.inc_text.specs.Languages.{is_gnu}
use Rattle.inc_token.specs.Views.{seen}
use Rattle.inc_pp.specs.StateViews.{state_of}
use Rattle.inc_pp.specs.Stops.{is_unclosed_stop}
use Rattle.inc_pp.proofs.TextRuns.{closed-done, closed-stop, open-stop, open-then}
use Rattle.inc_pp.proofs.states.State.put_closed.Goals as goal

pub returns-in-Ok-clause-done : goal.returns-in-Ok-clause-done
returns-in-Ok-clause-done c = λ f under index.
    closed-done f (map seen c.args.tokens.now) (state_of c.args.self.now) (state_of c.put_asked.new.self) c.args.here.now c.none.result.waiting c.none.ensures.waiting c.requires.none (c.in-Ok.ensures.done f under index)

pub returns-then-not-is_open_run-clause-stop : goal.returns-then-not-is_open_run-clause-stop
returns-then-not-is_open_run-clause-stop c =
    closed-stop c.args.settings.now c.args.file (map seen c.args.tokens.now) (state_of c.args.self.now) (state_of c.put_asked.new.self) c.args.here.now c.in-Err.fault c.is_open_run.result
    (c.is_open_run.ensures ∙ ap (λ b. b && is_unclosed_stop c.in-Err.fault) (c.is_gnu-is_gnu.ensures ∙ ap is_gnu c.language.ensures)) c.if-not-is_open_run.true c.requires.none c.in-Err.ensures.stop

pub returns-in-Ok-put_opened-clause-done : goal.returns-in-Ok-put_opened-clause-done
returns-in-Ok-put_opened-clause-done c = λ f under index.
    let same =
    open-then c.args.settings.now c.args.file (map seen c.args.tokens.now) (state_of c.args.self.now) (state_of c.put_asked.new.self) c.args.here.now c.in-Err.fault c.is_open_run.result
    (c.is_open_run.ensures ∙ ap (λ b. b && is_unclosed_stop c.in-Err.fault) (c.is_gnu-is_gnu.ensures ∙ ap is_gnu c.language.ensures)) c.if-not-is_open_run.false c.requires.none c.in-Err.ensures.stop in
    same.1 f under index ∙ c.in-Ok-put_opened.ensures.done f under index

pub returns-in-Err-put_opened-clause-stop : goal.returns-in-Err-put_opened-clause-stop
returns-in-Err-put_opened-clause-stop c =
    open-stop c.args.settings.now c.args.file (map seen c.args.tokens.now) (state_of c.args.self.now) (state_of c.put_asked.new.self) (state_of c.put_opened.new.self) c.args.here.now c.in-Err-put_opened.fault
    (open-then c.args.settings.now c.args.file (map seen c.args.tokens.now) (state_of c.args.self.now) (state_of c.put_asked.new.self) c.args.here.now c.in-Err.fault c.is_open_run.result
    (c.is_open_run.ensures ∙ ap (λ b. b && is_unclosed_stop c.in-Err.fault) (c.is_gnu-is_gnu.ensures ∙ ap is_gnu c.language.ensures)) c.if-not-is_open_run.false c.requires.none c.in-Err.ensures.stop)
    c.in-Err-put_opened.ensures.stop
