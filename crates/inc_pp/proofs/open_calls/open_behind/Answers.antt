use Rattle.std.proofs.Common.{map}
use Rattle.inc_token.specs.Views.{seen}
use Rattle.inc_pp.specs.OpenCalls.{spellings}
use Rattle.inc_pp.proofs.TextRuns.{none-open}
use Rattle.inc_pp.proofs.open_calls.open_behind.Goals as goal

pub returns-then-deep-eq0 : goal.returns-then-deep-eq0
returns-then-deep-eq0 c = none-open c.args.deep (spellings (map seen c.args.tokens.now)) c.if-deep-eq0.true
