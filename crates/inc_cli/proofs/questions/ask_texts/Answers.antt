use Rattle.std.proofs.Common.{◌≡◌, Ok, Err, [], refl, rules, subst}
use Rattle.std.specs.Io.KnownBytes.{Keeps}
use Rattle.std.specs.Prelude.{unwrap_or}
use Rattle.inc_args.specs.Views.{seen_limits, seen_question}
use Rattle.inc_inputs.specs.ListNotes.{named_layout}
use Rattle.inc_inputs.specs.Reports.{report_of}
use Rattle.inc_inputs.specs.Texts.{AreCosts}
use Rattle.inc_inputs.specs.Views.{added_in}
use Rattle.inc_cli.specs.Outputs.{IsRun}
use Rattle.inc_cli.specs.Questions.{IsAnswered, IsKnown}
use Rattle.inc_cli.specs.Runs.{asked_listed, opened_by}
use Rattle.inc_cli.specs.Views.{opened_in, output_of, seen_command, seen_end}
use Rattle.inc_cli.proofs.Askings.{opened_made, texts_with, with_costs}
use Rattle.inc_cli.proofs.RunLemmas.{run_came, run_came_err, run_judged, run_judged_err}
use Rattle.inc_cli.proofs.questions.ask_texts.Goals as goal

pub returns-in-Err : goal.returns-in-Err
returns-in-Err g c known not =
    let command = seen_command c.args.asking.command in
    let q = seen_question c.args.asking.question.now in
    let l = seen_limits c.args.asking.limits.now in
    let t = texts_with c.args.list.now c.args.marks.fixed.items c.args.marks.without.items c.args.costs.now c.args.firsts in
    let keeps : Keeps (g.O.ByteSink.written c.args.out) (g.O.ByteSink.written c.args.out) = search rules in
    run_judged_err (AreCosts (unwrap_or l.costs []) t.costs) (with_costs g.I.Inputs.gives c.args.setup.now.language command q l (added_in c.args.added) t) _ _ _ _ _ c.in-Err.ensures.fault refl keeps

pub returns-in-Err-named_project : goal.returns-in-Err-named_project
returns-in-Err-named_project g c known not =
    let language = c.args.setup.now.language in
    let command = seen_command c.args.asking.command in
    let q = seen_question c.args.asking.question.now in
    let l = seen_limits c.args.asking.limits.now in
    let t = texts_with c.args.list.now c.args.marks.fixed.items c.args.marks.without.items c.args.costs.now c.args.firsts in
    let a = added_in c.args.added in
    let costs = c.in-Ok.opened.costs.items in
    let o = opened_by q t costs in
    let e : named_layout q.files o.paths o.path ≡ Err (report_of c.in-Err-named_project.failure) = search rules in
    let keeps : Keeps (g.O.ByteSink.written c.args.out) (g.O.ByteSink.written c.args.out) = search rules in
    run_judged (AreCosts (unwrap_or l.costs []) t.costs) (with_costs g.I.Inputs.gives language command q l a t) _ _ _ _ costs c.in-Ok.ensures.costs
    (run_came_err (named_layout q.files o.paths o.path) (asked_listed g.I.Inputs.gives language command q l a t.without t.fixed o) _ _ _ _ _ e refl keeps)

pub returns : goal.returns
returns g c known not =
    let language = c.args.setup.now.language in
    let command = seen_command c.args.asking.command in
    let q = seen_question c.args.asking.question.now in
    let l = seen_limits c.args.asking.limits.now in
    let t = texts_with c.args.list.now c.args.marks.fixed.items c.args.marks.without.items c.args.costs.now c.args.firsts in
    let a = added_in c.args.added in
    let costs = c.in-Ok.opened.costs.items in
    let o = opened_by q t costs in
    let layout = c.in-Ok-named_project.project in
    let e : named_layout q.files o.paths o.path ≡ Ok layout = search rules in
    let out = output_of (g.O.ByteSink.written c.args.out) (g.O.ByteSink.written c.ask_listed.result.1) (g.O.ByteSink.has_failed c.ask_listed.result.1) in
    let P = IsAnswered g.I.Inputs.gives g.I.Inputs.puts (IsKnown known g.I.Inputs.gives (record { opens = g.I.Inputs.opens; left = g.I.Stream.ByteSource.left }) command) command in
    let same = opened_made q t _ costs _ _ _ _ _ c.in-Ok.ensures.paths c.in-Ok.ensures.undefined c.in-Ok.ensures.external c.in-Ok.ensures.strict c.in-Ok.ensures.path c.in-Ok.ensures.firsts in
    run_judged (AreCosts (unwrap_or l.costs []) t.costs) (with_costs g.I.Inputs.gives language command q l a t) _ _ _ _ costs c.in-Ok.ensures.costs
    (run_came (named_layout q.files o.paths o.path) (asked_listed g.I.Inputs.gives language command q l a t.without t.fixed o) _ _ _ _ layout e
    (subst (λ k. IsRun (asked_listed g.I.Inputs.gives language command q l a t.without t.fixed k layout) P c.args.inputs out (seen_end c.ask_listed.result.0)) same (c.ask_listed.ensures known not)))
