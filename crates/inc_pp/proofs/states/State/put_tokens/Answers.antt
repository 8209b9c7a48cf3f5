use Rattle.std.proofs.Common.{map}
use Rattle.inc_token.specs.Views.{seen}
use Rattle.inc_pp.specs.StateViews.{state_of}
use Rattle.inc_pp.proofs.TextRuns.{tokens-done, tokens-stop}
use Rattle.inc_pp.proofs.states.State.put_tokens.Goals as goal

pub returns-in-Ok-clause-done : goal.returns-in-Ok-clause-done
returns-in-Ok-clause-done c = λ f under index.
    tokens-done f (map seen c.args.tokens.now) (state_of c.args.self.now) (state_of c.put_given.new.self) c.args.here.now c.hold.new.self c.in-Ok.held.waiting c.in-Ok.held.deep (c.in-Ok.ensures.done f under index)
    c.in-Ok.ensures.deep c.hold.ensures

pub returns-in-Err-clause-stop : goal.returns-in-Err-clause-stop
returns-in-Err-clause-stop c =
    tokens-stop c.args.settings.now c.args.file (map seen c.args.tokens.now) (state_of c.args.self.now) (state_of c.put_given.new.self) c.args.here.now c.in-Err.fault c.in-Err.ensures.stop
