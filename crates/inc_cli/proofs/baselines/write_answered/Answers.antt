use Rattle.inc_cli.specs.Views.{answer_in}
use Rattle.inc_cli.proofs.WrittenLemmas.{by_answer}
use Rattle.inc_cli.proofs.baselines.write_answered.Goals as goal

pub returns-in_default : goal.returns-in_default
returns-in_default g c not =
    by_answer g.I.Inputs.puts c.args.name.now (answer_in c.args.answer) c.args.answer.end.kind _ _ _ c.in_default.not-Refused (c.write_lines.ensures not)
