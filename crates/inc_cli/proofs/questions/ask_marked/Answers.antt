use Rattle.std.proofs.Common.{◌++◌, ℕ, Err, List, ap, refl, rules, subst}
use Rattle.std.specs.Io.KnownBytes.{Keeps}
use Rattle.inc_args.specs.Views.{seen_limits, seen_question}
use Rattle.inc_inputs.specs.Places.{places_of}
use Rattle.inc_inputs.specs.Reports.{report_of}
use Rattle.inc_inputs.specs.Views.{end_paths_in, places_in}
use Rattle.inc_cli.specs.Questions.{IsAnswered, IsKnown}
use Rattle.inc_cli.specs.Runs.{asked_for, ends_for, notes_for}
use Rattle.inc_cli.specs.Views.{built_in, opened_in, output_of, seen_command, seen_end}
use Rattle.inc_cli.proofs.Askings.{with_ends, with_places}
use Rattle.inc_cli.proofs.PlacedLemmas.{run_unplaced}
use Rattle.inc_cli.proofs.RunLemmas.{run_came, run_here}
use Rattle.inc_cli.proofs.questions.ask_marked.Goals as goal

pub returns-in-Err : goal.returns-in-Err
returns-in-Err g c known not =
    let q = seen_question c.args.asking.question.now in
    let l = seen_limits c.args.asking.limits.now in
    let keeps : Keeps (g.O.ByteSink.written c.args.out) (g.O.ByteSink.written c.args.out) = search rules in
    run_unplaced c.args.setup.now.language (seen_command c.args.asking.command) q l c.args.marks.without.items c.args.marks.fixed.items (opened_in c.args.opened.now)
    c.args.project.now (built_in c.args.built) _ _ _ _ (report_of c.in-Err.failure) (c.in-Err.ensures.fault (λ same. not (ap (λ r. Err r) same))) refl keeps

pub returns : goal.returns
returns g c known not =
    let language = c.args.setup.now.language in
    let command = seen_command c.args.asking.command in
    let q = seen_question c.args.asking.question.now in
    let l = seen_limits c.args.asking.limits.now in
    let without = c.args.marks.without.items in
    let fixed = c.args.marks.fixed.items in
    let o = opened_in c.args.opened.now in
    let layout = c.args.project.now in
    let b = built_in c.args.built in
    let ends = end_paths_in c.in-Ok.placed.ends in
    let places = places_in c.in-Ok.placed.places in
    let out = output_of (g.O.ByteSink.written c.args.out) (g.O.ByteSink.written c.ask_placed.result.1) (g.O.ByteSink.has_failed c.ask_placed.result.1) in
    let answer = seen_end c.ask_placed.result.0 in
    let P = IsAnswered g.I.Inputs.gives g.I.Inputs.puts (IsKnown known g.I.Inputs.gives (record { opens = g.I.Inputs.opens; left = g.I.Stream.ByteSource.left }) command) command in
    run_came (ends_for command layout q) (with_ends language command q l without fixed o layout b) _ _ _ _ ends c.in-Ok.ensures.ends
    (run_came (places_of layout q l without fixed) (with_places language command q o layout b ends) _ _ _ _ places c.in-Ok.ensures.places
    (run_here (asked_for language command o layout b ends places (b.notes ++ notes_for command layout q)) P c.args.inputs out answer
    (subst (λ (notes : List ℕ). P (asked_for language command o layout b ends places (b.notes ++ notes)) c.args.inputs out answer) c.in-Ok.ensures.notes
    (c.ask_placed.ensures known not))))
