use Rattle.std.proofs.Common.{◌∙◌}
use Rattle.inc_inputs.specs.Questions.{takes_away}
use Rattle.inc_inputs.specs.Views.{macro_of}
use Rattle.inc_inputs.proofs.QuestionLemmas.{any_map}
use Rattle.inc_inputs.proofs.questions.is_taken_away.Goals as goal

pub returns : goal.returns
returns c = c.any_takes_away.ensures ∙ any_map (takes_away c.args.name.now) macro_of c.args.macros.now
