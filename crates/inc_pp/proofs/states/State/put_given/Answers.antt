use Rattle.std.proofs.Common.{◌∙◌, ap, map}
use Rattle.inc_token.specs.Views.{seen}
use Rattle.inc_pp.specs.StateViews.{state_of}
use Rattle.inc_pp.specs.Tasks.{Here}
use Rattle.inc_pp.proofs.TextRuns.{some-is, some-stop, some-waits}
use Rattle.inc_pp.proofs.states.State.put_given.Goals as goal

pub returns-in-Ok-put_opened-clause-done : goal.returns-in-Ok-put_opened-clause-done
returns-in-Ok-put_opened-clause-done c = λ f under index.
    some-is f (map seen c.args.tokens.now) (state_of c.args.self.now) c.args.here.now
    (some-waits c.is_empty.result c.args.here.now.waiting (λ none. c.is_empty.ensures.some (ap (λ (h : Here). h.waiting) c.here.view_is ∙ none)) c.if-is_empty.false)
    ∙ c.in-Ok-put_opened.ensures.done f under index

pub returns-in-Err-put_opened-clause-stop : goal.returns-in-Err-put_opened-clause-stop
returns-in-Err-put_opened-clause-stop c =
    some-stop c.args.settings.now c.args.file (map seen c.args.tokens.now) (state_of c.args.self.now) (state_of c.put_opened.new.self) c.args.here.now c.in-Err-put_opened.fault
    (some-waits c.is_empty.result c.args.here.now.waiting (λ none. c.is_empty.ensures.some (ap (λ (h : Here). h.waiting) c.here.view_is ∙ none)) c.if-is_empty.false)
    c.in-Err-put_opened.ensures.stop
