use Rattle.inc_token.proofs.FrontSteps.{word_brief}
use Rattle.inc_token.proofs.lines.fronts.Walk.sketch.Goals as goal

pub returns-in-Text-clause-brief : goal.returns-in-Text-clause-brief
returns-in-Text-clause-brief c = word_brief c.args.self.now.language
