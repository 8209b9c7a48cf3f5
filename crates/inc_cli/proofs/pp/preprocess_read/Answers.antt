use Rattle.std.proofs.Common.{◌≡◌, Err, map, refl, rules, subst, sym}
use Rattle.std.specs.Io.KnownBytes.{Keeps}
use Rattle.inc_args.specs.Views.{seen_pp}
use Rattle.inc_cli.specs.Outputs.{IsRun}
use Rattle.inc_cli.specs.Preprocessings.{IsPreprocessed, pp_asked}
use Rattle.inc_cli.specs.Views.{output_of, seen_end}
use Rattle.inc_inputs.specs.Reports.{report_of}
use Rattle.inc_inputs.specs.Steps.{next_of}
use Rattle.inc_inputs.specs.Views.{macro_of, seen_pp_texts}
use Rattle.inc_cli.proofs.RunLemmas.{run_failed}
use Rattle.inc_cli.proofs.pp.preprocess_read.Goals as goal

pub returns-in-Ok : goal.returns-in-Ok
returns-in-Ok g c not =
    let P = IsPreprocessed g.I.Inputs.gives g.I.Inputs.puts (seen_pp c.args.args.now) in
    let next = pp_asked c.args.setup.now.language (seen_pp c.args.args.now) (map macro_of c.args.macros.now) c.args.notes.items in
    let ended = c.preprocess_texts-ended.result in
    let out = output_of (g.O.ByteSink.written c.args.out) (g.O.ByteSink.written ended.1) (g.O.ByteSink.has_failed ended.1) in
    subst (λ t. IsRun (next_of next (seen_pp_texts t)) P c.args.inputs out (seen_end ended.0)) (sym c.in-Ok.is) (c.preprocess_texts-ended.ensures not)

pub returns-in-Err : goal.returns-in-Err
returns-in-Err g c not =
    let P = IsPreprocessed g.I.Inputs.gives g.I.Inputs.puts (seen_pp c.args.args.now) in
    let next = pp_asked c.args.setup.now.language (seen_pp c.args.args.now) (map macro_of c.args.macros.now) c.args.notes.items in
    let written = g.O.ByteSink.written c.args.out in
    let out = output_of written written (g.O.ByteSink.has_failed c.args.out) in
    let answer = Err (report_of c.in-Err.failure) in
    let keeps : Keeps written written = search rules in
    subst (λ t. IsRun (next_of next (seen_pp_texts t)) P c.args.inputs out answer) (sym c.in-Err.is)
    (run_failed (report_of c.in-Err.failure) P c.args.inputs out answer refl keeps)
