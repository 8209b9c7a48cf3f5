use Rattle.std.proofs.Common.{map}
use Rattle.std.specs.String.{string_bytes}
use Rattle.inc_args.specs.Meaning.{Meaning, meaning}
use Rattle.inc_args.specs.Views.{seen_arguments}
use Rattle.inc_cli.specs.Processes.{IsAnswer, IsPromise}
use Rattle.inc_cli.specs.Views.{output_of, seen_end}
use Rattle.inc_cli.proofs.RunLemmas.{told_run}
use Rattle.inc_cli.proofs.runs.run_options.Goals as goal

pub returns-in-Ok-clause-answered : goal.returns-in-Ok-clause-answered
returns-in-Ok-clause-answered g c =
    told_run (λ (m : Meaning). IsAnswer g.I.Inputs.begins g.I.Inputs.gives g.I.Inputs.puts (record { opens = g.I.Inputs.opens; left = g.I.Stream.ByteSource.left }) c.args.is_terminal m c.args.inputs
    (output_of (g.O.ByteSink.written c.args.out) (g.O.ByteSink.written c.answer-ended.result.1) (g.O.ByteSink.has_failed c.answer-ended.result.1)))
    (seen_arguments c.in-Ok.args) (meaning (map string_bytes c.args.words.now)) _ _ (seen_end c.answer-ended.result.0) _ c.in-Ok.ensures.meaning c.tell-status.ensures c.answer-ended.ensures.answered

pub returns-in-Ok-clause-promised : goal.returns-in-Ok-clause-promised
returns-in-Ok-clause-promised g c =
    told_run (λ (m : Meaning). IsPromise g.I.Inputs.begins g.I.Inputs.gives g.I.Inputs.puts (record { opens = g.I.Inputs.opens; left = g.I.Stream.ByteSource.left }) c.args.is_terminal m c.args.inputs
    (output_of (g.O.ByteSink.written c.args.out) (g.O.ByteSink.written c.answer-ended.result.1) (g.O.ByteSink.has_failed c.answer-ended.result.1)))
    (seen_arguments c.in-Ok.args) (meaning (map string_bytes c.args.words.now)) _ _ (seen_end c.answer-ended.result.0) _ c.in-Ok.ensures.meaning c.tell-status.ensures c.answer-ended.ensures.promised
