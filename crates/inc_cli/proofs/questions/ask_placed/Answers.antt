use Rattle.std.proofs.Common.{rules, subst}
use Rattle.inc_cli.specs.Questions.{IsAnswered, IsKnown}
use Rattle.inc_cli.specs.Views.{output_of, seen_command, seen_end}
use Rattle.inc_cli.proofs.questions.ask_placed.Goals as goal

pub returns : goal.returns
returns g c known not =
    let command = seen_command c.args.command in
    let out = output_of (g.O.ByteSink.written c.args.out) (g.O.ByteSink.written c.answer_beside.result.1) (g.O.ByteSink.has_failed c.answer_beside.result.1) in
    let P = IsAnswered g.I.Inputs.gives g.I.Inputs.puts (IsKnown known g.I.Inputs.gives (record { opens = g.I.Inputs.opens; left = g.I.Stream.ByteSource.left }) command) command in
    subst (λ a. P a c.args.inputs out (seen_end c.answer_beside.result.0)) (search rules) (c.answer_beside.ensures known not)
