use Rattle.std.proofs.Common.{◌∙◌, ap, map}
use Rattle.std.proofs.lemmas.Bool.{le-ltb}
use Rattle.inc_token.specs.Views.{seen}
use Rattle.inc_pp.specs.OpenCalls.{open_behind, spellings}
use Rattle.inc_pp.specs.StateViews.{state_of}
use Rattle.inc_pp.specs.Tasks.{Here}
use Rattle.inc_pp.proofs.TextRuns.{asked-put, asked-stop}
use Rattle.inc_pp.proofs.states.State.wait_or_put.Goals as goal

pub returns-in-Ok-clause-done : goal.returns-in-Ok-clause-done
returns-in-Ok-clause-done c = λ f under index.
    asked-put f (map seen c.args.tokens.now) (state_of c.args.self.now) c.args.here.now c.in_ok-deep.deep
    (c.in_ok-deep.ensures ∙ ap (λ (h : Here). open_behind h.deep (spellings (map seen c.args.tokens.now))) c.here.view_is) (le-ltb 0 c.in_ok-deep.deep c.if-deep-gt0.false)
    ∙ c.in-Ok.ensures.done f under index

pub returns-in-Err-clause-stop : goal.returns-in-Err-clause-stop
returns-in-Err-clause-stop c =
    asked-stop c.args.settings.now c.args.file (map seen c.args.tokens.now) (state_of c.args.self.now) (state_of c.put_tokens.new.self) c.args.here.now c.in_ok-deep.deep c.in-Err.fault
    (c.in_ok-deep.ensures ∙ ap (λ (h : Here). open_behind h.deep (spellings (map seen c.args.tokens.now))) c.here.view_is) (le-ltb 0 c.in_ok-deep.deep c.if-deep-gt0.false)
    c.in-Err.ensures.stop
