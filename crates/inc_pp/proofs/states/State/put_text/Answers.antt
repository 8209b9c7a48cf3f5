use Rattle.std.proofs.Common.{map}
use Rattle.inc_token.specs.Views.{seen}
use Rattle.inc_pp.specs.StateViews.{state_of}
use Rattle.inc_pp.proofs.TextRuns.{text-asked, text-poisoned, text-stop}
use Rattle.inc_pp.proofs.states.State.put_text.Goals as goal

pub returns-in-Err-clause-stop : goal.returns-in-Err-clause-stop
returns-in-Err-clause-stop c =
    text-poisoned c.args.settings.now c.args.file (map seen c.args.tokens.now) (state_of c.args.self.now) c.args.here.now c.in-Err.fault c.requires.some c.in-Err.ensures.stop

pub returns-in-Ok-wait_or_put-clause-done : goal.returns-in-Ok-wait_or_put-clause-done
returns-in-Ok-wait_or_put-clause-done c = λ f under index.
    text-asked f (map seen c.args.tokens.now) (state_of c.args.self.now) c.args.here.now _ c.requires.some c.in-Ok.ensures.done (c.in-Ok-wait_or_put.ensures.done f under index)

pub returns-in-Err-wait_or_put-clause-stop : goal.returns-in-Err-wait_or_put-clause-stop
returns-in-Err-wait_or_put-clause-stop c =
    text-stop c.args.settings.now c.args.file (map seen c.args.tokens.now) (state_of c.args.self.now) (state_of c.wait_or_put.new.self) c.args.here.now c.in-Err-wait_or_put.fault c.requires.some c.in-Ok.ensures.done
    c.in-Err-wait_or_put.ensures.stop
