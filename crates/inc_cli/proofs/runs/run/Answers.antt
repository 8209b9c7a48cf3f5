use Rattle.std.proofs.Common.{◌≡◌, ◌∙◌, List, ℕ, map, subst}
use Rattle.std.specs.String.{string_bytes}
use Rattle.inc_args.specs.CompilerWords.{as_options}
use Rattle.inc_args.specs.Meaning.{meaning}
use Rattle.inc_cli.specs.Processes.{IsAnswer, IsPromise, IsToldRun}
use Rattle.inc_cli.specs.Views.{output_of}
use Rattle.inc_cli.proofs.runs.run.Goals as goal

pub returns-in-Ok-clause-answered : goal.returns-in-Ok-clause-answered
returns-in-Ok-clause-answered g c =
    let same : map string_bytes c.taken-words.result.now ≡ as_options (map string_bytes c.args.words.now) = c.taken-words.ensures ∙ c.in-Ok.ensures in
    subst (λ (ws : List (List ℕ)). IsToldRun (meaning ws).is_quiet
    (IsAnswer g.I.Inputs.begins g.I.Inputs.gives g.I.Inputs.puts (record { opens = g.I.Inputs.opens; left = g.I.Stream.ByteSource.left }) c.args.is_terminal (meaning ws) c.args.inputs
    (output_of (g.O.ByteSink.written c.args.out) (g.O.ByteSink.written c.run_options.result.1) (g.O.ByteSink.has_failed c.run_options.result.1)))
    (output_of (g.E.ByteSink.written c.args.messages) (g.E.ByteSink.written c.run_options.result.2) (g.E.ByteSink.has_failed c.run_options.result.2)) c.run_options.result.0)
    same c.run_options.ensures.answered

pub returns-in-Ok-clause-promised : goal.returns-in-Ok-clause-promised
returns-in-Ok-clause-promised g c =
    let same : map string_bytes c.taken-words.result.now ≡ as_options (map string_bytes c.args.words.now) = c.taken-words.ensures ∙ c.in-Ok.ensures in
    subst (λ (ws : List (List ℕ)). IsToldRun (meaning ws).is_quiet
    (IsPromise g.I.Inputs.begins g.I.Inputs.gives g.I.Inputs.puts (record { opens = g.I.Inputs.opens; left = g.I.Stream.ByteSource.left }) c.args.is_terminal (meaning ws) c.args.inputs
    (output_of (g.O.ByteSink.written c.args.out) (g.O.ByteSink.written c.run_options.result.1) (g.O.ByteSink.has_failed c.run_options.result.1)))
    (output_of (g.E.ByteSink.written c.args.messages) (g.E.ByteSink.written c.run_options.result.2) (g.E.ByteSink.has_failed c.run_options.result.2)) c.run_options.result.0)
    same c.run_options.ensures.promised
