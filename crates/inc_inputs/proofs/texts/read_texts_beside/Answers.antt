use Rattle.std.proofs.Common.{Ok, ℕ, List, ap, refl}
use Rattle.inc_args.specs.Meaning.{Limits, Question}
use Rattle.inc_args.specs.Views.{seen_limits, seen_question}
use Rattle.inc_inputs.specs.Inputs.{Gives}
use Rattle.inc_inputs.specs.MarkLists.{MarkList}
use Rattle.inc_inputs.specs.Texts.{Texts, marks_of, texts_by}
use Rattle.inc_inputs.specs.Steps.{Step, comes_to, reads_if, then}
use Rattle.inc_inputs.specs.Views.{mark_list_in, seen_mark_list, seen_text, texts_in}
use Rattle.inc_inputs.proofs.StepLemmas.{comes_err, comes_on, passed}
use Rattle.inc_inputs.proofs.texts.read_texts_beside.Goals as goal

-- what is left to read after the fixed directives, after the removed ones, and after the costs
abbrev with_costs : {S : Type 0} → List ℕ → MarkList → MarkList → List ℕ → Step S Texts
with_costs list fixed without costs = comes_to (Ok (texts_by list fixed without costs))

abbrev with_without : {S : Type 0} → Gives S → Limits → List ℕ → MarkList → MarkList → Step S Texts
with_without gives l list fixed without = then (reads_if gives l.costs) (with_costs list fixed without)

abbrev with_fixed : {S : Type 0} → Gives S → Question → Limits → List ℕ → MarkList → Step S Texts
with_fixed gives q l list fixed = then (marks_of gives q.without) (with_without gives l list fixed)

pub returns-in_err-fixed : goal.returns-in_err-fixed
returns-in_err-fixed g c =
    let q = seen_question c.args.question.now in
    let l = seen_limits c.args.limits.now in
    let gives = g.I.Inputs.gives in
    let told = passed texts_in c.from_residual.result c.in_err-fixed.field-0.0 c.from_residual.ensures.1 in
    let list = c.args.list.items in
    comes_err (marks_of gives l.fixed) (with_fixed gives q l list) c.args.inputs.now c.read_directives.new.inputs _ _ _ (ap seen_mark_list c.in_err-fixed.was) told c.read_directives.ensures

pub returns-in_err-without : goal.returns-in_err-without
returns-in_err-without g c =
    let q = seen_question c.args.question.now in
    let l = seen_limits c.args.limits.now in
    let gives = g.I.Inputs.gives in
    let told = passed texts_in c.from_residual-in_err-without.result c.in_err-without.field-0.0 c.from_residual-in_err-without.ensures.1 in
    let list = c.args.list.items in
    let fixed = mark_list_in c.in_ok-fixed.fixed in
    comes_on (marks_of gives l.fixed) (with_fixed gives q l list) c.args.inputs.now c.read_directives.new.inputs _ _ fixed _ (ap seen_mark_list c.in_ok-fixed.was) c.read_directives.ensures
    (comes_err (marks_of gives q.without) (with_without gives l list fixed) c.read_directives.new.inputs c.read_directives-2.new.inputs _ _ _ (ap seen_mark_list c.in_err-without.was) told c.read_directives-2.ensures)

pub returns-in_err-read_text_if : goal.returns-in_err-read_text_if
returns-in_err-read_text_if g c =
    let q = seen_question c.args.question.now in
    let l = seen_limits c.args.limits.now in
    let gives = g.I.Inputs.gives in
    let told = passed texts_in c.from_residual-in_err-read_text_if.result c.in_err-read_text_if.field-0.0 c.from_residual-in_err-read_text_if.ensures.1 in
    let list = c.args.list.items in
    let fixed = mark_list_in c.in_ok-fixed.fixed in
    let without = mark_list_in c.in_ok-without.without in
    comes_on (marks_of gives l.fixed) (with_fixed gives q l list) c.args.inputs.now c.read_directives.new.inputs _ _ fixed _ (ap seen_mark_list c.in_ok-fixed.was) c.read_directives.ensures
    (comes_on (marks_of gives q.without) (with_without gives l list fixed) c.read_directives.new.inputs c.read_directives-2.new.inputs _ _ without _ (ap seen_mark_list c.in_ok-without.was) c.read_directives-2.ensures
    (comes_err (reads_if gives l.costs) (with_costs list fixed without) c.read_directives-2.new.inputs c.read_text_if.new.inputs _ _ _ (ap seen_text c.in_err-read_text_if.was) told c.read_text_if.ensures))

pub returns : goal.returns
returns g c not =
    let q = seen_question c.args.question.now in
    let l = seen_limits c.args.limits.now in
    let gives = g.I.Inputs.gives in
    let list = c.args.list.items in
    let fixed = mark_list_in c.in_ok-fixed.fixed in
    let without = mark_list_in c.in_ok-without.without in
    let costs = c.in_ok-read_text_if.field-0.items in
    let made = ap (λ (t : Texts). Ok t) (c.texts_by.ensures costs c.in_ok-costs.ensures) in
    comes_on (marks_of gives l.fixed) (with_fixed gives q l list) c.args.inputs.now c.read_directives.new.inputs _ _ fixed _ (ap seen_mark_list c.in_ok-fixed.was) c.read_directives.ensures
    (comes_on (marks_of gives q.without) (with_without gives l list fixed) c.read_directives.new.inputs c.read_directives-2.new.inputs _ _ without _ (ap seen_mark_list c.in_ok-without.was) c.read_directives-2.ensures
    (comes_on (reads_if gives l.costs) (with_costs list fixed without) c.read_directives-2.new.inputs c.read_text_if.new.inputs _ _ costs _ (ap seen_text c.in_ok-read_text_if.was) c.read_text_if.ensures
    (λ _. (made, refl)))) not
