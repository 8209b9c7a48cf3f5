use Rattle.std.proofs.Common.{Ok, List, ap, map, refl, subst}
use Rattle.inc_graph.specs.Marks.{Mark}
use Rattle.inc_args.specs.Meaning.{Limits}
use Rattle.inc_args.specs.Views.{seen_limits, seen_question}
use Rattle.inc_inputs.specs.Inputs.{Gives}
use Rattle.inc_inputs.specs.NamedPlaces.{Listed, Marked, with_word}
use Rattle.inc_inputs.specs.Steps.{Comes, Step, comes_to, each, then}
use Rattle.inc_inputs.specs.Views.{listed_in, marked_in, seen_marks}
use Rattle.inc_inputs.specs.declared.sides.Side.TheVariants.{Drop, Keep}
use Rattle.inc_inputs.proofs.StepLemmas.{comes_err, comes_on, passed}
use Rattle.inc_inputs.proofs.named_marks.named_places.Goals as goal

-- what is left once the directives are known that are taken as removed, and then once the others are
abbrev with_fixed : {S : Type 0} → (without fixed : List Mark) → Step S Marked
with_fixed without fixed = comes_to (Ok (record { without = without; fixed = fixed }))

abbrev with_without : {S : Type 0} → Gives S → Listed → Limits → (fixed without : List Mark) → Step S Marked
with_without gives p l fixed without = then (each (with_word gives p Keep) l.keep fixed) (with_fixed without)

pub returns-in_err-without : goal.returns-in_err-without
returns-in_err-without g c =
    let q = seen_question c.args.question.now in
    let l = seen_limits c.args.limits.now in
    let p = listed_in c.args.listed in
    let gives = g.I.Inputs.gives in
    let told = passed marked_in c.from_residual.result c.in_err-without.field-0.0 c.from_residual.ensures.1 in
    comes_err (each (with_word gives p Drop) q.drop c.args.marked.without.items) (with_without gives p l c.args.marked.fixed.items) c.args.inputs.now c.with_words.new.inputs _ _ _
    (ap seen_marks c.in_err-without.was) told (subst (λ ws. Comes (each (with_word gives p Drop) (map (λ w. w.now) ws) c.args.marked.without.items) c.args.inputs.now (seen_marks c.with_words.result) c.with_words.new.inputs)
    c.deref.ensures.value c.with_words.ensures)

pub returns-in_err-fixed : goal.returns-in_err-fixed
returns-in_err-fixed g c =
    let q = seen_question c.args.question.now in
    let l = seen_limits c.args.limits.now in
    let p = listed_in c.args.listed in
    let gives = g.I.Inputs.gives in
    let told = passed marked_in c.from_residual-in_err-fixed.result c.in_err-fixed.field-0.0 c.from_residual-in_err-fixed.ensures.1 in
    let without = c.in_ok-without.without.items in
    comes_on (each (with_word gives p Drop) q.drop c.args.marked.without.items) (with_without gives p l c.args.marked.fixed.items) c.args.inputs.now c.with_words.new.inputs _ _ without _
    (ap seen_marks c.in_ok-without.was) (subst (λ ws. Comes (each (with_word gives p Drop) (map (λ w. w.now) ws) c.args.marked.without.items) c.args.inputs.now (seen_marks c.with_words.result) c.with_words.new.inputs)
    c.deref.ensures.value c.with_words.ensures)
    (comes_err (each (with_word gives p Keep) l.keep c.args.marked.fixed.items) (with_fixed without) c.with_words.new.inputs c.with_words-2.new.inputs _ _ _
    (ap seen_marks c.in_err-fixed.was) told (subst (λ ws. Comes (each (with_word gives p Keep) (map (λ w. w.now) ws) c.args.marked.fixed.items) c.with_words.new.inputs (seen_marks c.with_words-2.result) c.with_words-2.new.inputs)
    c.deref-2.ensures.value c.with_words-2.ensures))

pub returns : goal.returns
returns g c =
    let q = seen_question c.args.question.now in
    let l = seen_limits c.args.limits.now in
    let p = listed_in c.args.listed in
    let gives = g.I.Inputs.gives in
    let without = c.in_ok-without.without.items in
    let fixed = c.in_ok-fixed.fixed.items in
    comes_on (each (with_word gives p Drop) q.drop c.args.marked.without.items) (with_without gives p l c.args.marked.fixed.items) c.args.inputs.now c.with_words.new.inputs _ _ without _
    (ap seen_marks c.in_ok-without.was) (subst (λ ws. Comes (each (with_word gives p Drop) (map (λ w. w.now) ws) c.args.marked.without.items) c.args.inputs.now (seen_marks c.with_words.result) c.with_words.new.inputs)
    c.deref.ensures.value c.with_words.ensures)
    (comes_on (each (with_word gives p Keep) l.keep c.args.marked.fixed.items) (with_fixed without) c.with_words.new.inputs c.with_words-2.new.inputs c.with_words-2.new.inputs _ fixed _
    (ap seen_marks c.in_ok-fixed.was) (subst (λ ws. Comes (each (with_word gives p Keep) (map (λ w. w.now) ws) c.args.marked.fixed.items) c.with_words.new.inputs (seen_marks c.with_words-2.result) c.with_words-2.new.inputs)
    c.deref-2.ensures.value c.with_words-2.ensures) (λ not. (refl, refl)))
