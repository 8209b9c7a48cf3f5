use Rattle.std.proofs.Common.{◌≡◌, ◌+◌, ℕ, length, None, true, false, sym, ap, subst, ◌∙◌, arith}
use Rattle.std.specs.Prelude.{◌&&◌, nat_lt}
use Rattle.std.specs.List.{list_any}
use Rattle.inc_graph.specs.IncludeGraph.{Graph, AreEnds, most_directives, source_files}
use Rattle.inc_graph.specs.GraphLists.{bad_states, first_refusal, flag_at, state_defines, total, with_states}
use Rattle.inc_graph.proofs.AnswerLemmas.{length_states, empty_parts, bad_answer, many_answer, whole_answer}
use Rattle.inc_graph.proofs.GatherLemmas.{many_counted, few_counted}
use Rattle.inc_lookup.proofs.GivenLemmas.{laid_count, given_all, given_one}
use Rattle.inc_graph.proofs.PartsLemmas.{are_parts}
use Rattle.inc_graph.proofs.SourceLemmas.{asked_ends}
use Rattle.inc_graph.proofs.graphs.Graph.build_in.Goals as goal

pub first_bad-requires : goal.first_bad-requires
first_bad-requires g c =
    let given = c.in_ok-states.ensures.states in
    length_states c.args.setting.now given.witness c.args.from.now c.args.to c.in_ok-states.states (given_one given).0 ∙ laid_count c.args.project.now given.witness given.laid_out

pub returns-in-Some-clause-refusal : goal.returns-in-Some-clause-refusal
returns-in-Some-clause-refusal g c = λ _.
    given_all c.in_ok-states.ensures.states (λ given listing laid both.
    (bad_answer c.args.setting.now listing c.args.from.now c.args.to c.in_ok-states.states c.in-Some.refusal both.0 (sym c.in-Some.ensures.first), both.1))

pub returns-in_default-count_directives-clause-refusal : goal.returns-in_default-count_directives-clause-refusal
returns-in_default-count_directives-clause-refusal g c = λ _.
    let ss = c.in_ok-states.states in
    let none : first_refusal (bad_states 0 ss) ≡ None = sym c.first_bad.ensures.first ∙ c.in_default.is in
    let many : nat_lt most_directives (total ss) ≡ true =
    many_counted (total ss) (sym c.count_directives.ensures ∙ c.in_default-count_directives.is) in
    given_all c.in_ok-states.ensures.states (λ given listing laid both. (many_answer c.args.setting.now listing c.args.from.now c.args.to ss both.0 none many, both.1))

pub add_states-requires-clause-files : goal.add_states-requires-clause-files
add_states-requires-clause-files g c =
    let given = c.in_ok-states.ensures.states in
    length_states c.args.setting.now given.witness c.args.from.now c.args.to c.in_ok-states.states (given_one given).0 ∙ laid_count c.args.project.now given.witness given.laid_out

pub new-requires-4 : goal.new-requires-4
new-requires-4 g c =
    let given = c.in_ok-states.ensures.states in
    let listing = given.witness in
    let count = laid_count c.args.project.now listing given.laid_out in
    let ss = c.in_ok-states.states in
    let states = (given_one given).0 in
    let start = empty_parts c.count.result _ _ (source_files c.args.from.now) _ c.args.to c.in_ok-with_capacity.field-0.items c.new.result c.new-2.result.items c.new-3.result.items (c.count.ensures.count ∙ sym count) (c.starts.view_is ∙ c.requires.starts) c.to.view_is c.in_ok-with_capacity.ensures.items c.new.ensures c.new-2.ensures.items c.new-3.ensures.items in
    let sized : nat_lt most_directives (total ss) ≡ false =
    few_counted (total ss) c.in-Some-count_directives.count
    (sym c.count_directives.ensures ∙ c.in-Some-count_directives.is) in
    let flags : (name : ℕ) → flag_at c.deref.result.now name ≡ (nat_lt name c.undefined_count.result && list_any (state_defines name) ss) =
    subst (λ bs. (name : ℕ) → flag_at bs name ≡ (nat_lt name c.undefined_count.result && list_any (state_defines name) ss)) (sym c.deref.ensures.value) c.in_ok-defined.ensures in
    are_parts c.args.setting.now listing c.args.from.now c.args.to ss c.add_states.new.parts states (omega (arith, count)) (subst (λ (n : ℕ). AreEnds n (source_files c.args.from.now) c.args.to) (sym count) (asked_ends (length c.args.project.now.paths) (length c.args.setting.now.others + 1) c.args.from.now c.args.to c.requires.asked)) sized
    c.in_ok-add_states.ensures.numbers (flag_at c.deref.result.now) c.undefined_count.result c.undefined_count.ensures flags
    (c.in_ok-add_states.ensures.lists ∙ ap (λ (g : Graph). with_states (flag_at c.deref.result.now) g 0 ss) start)

pub returns-clause-graph : goal.returns-clause-graph
returns-clause-graph g c =
    let ss = c.in_ok-states.states in
    let none : first_refusal (bad_states 0 ss) ≡ None =
    sym c.first_bad.ensures.first ∙ c.in_default.is in
    let sized : nat_lt most_directives (total ss) ≡ false =
    few_counted (total ss) c.in-Some-count_directives.count
    (sym c.count_directives.ensures ∙ c.in-Some-count_directives.is) in
    let flags : (name : ℕ) → flag_at c.deref.result.now name ≡ (nat_lt name c.undefined_count.result && list_any (state_defines name) ss) =
    subst (λ bs. (name : ℕ) → flag_at bs name ≡ (nat_lt name c.undefined_count.result && list_any (state_defines name) ss)) (sym c.deref.ensures.value) c.in_ok-defined.ensures in
    given_all c.in_ok-states.ensures.states (λ given listing laid both.
    let start = empty_parts c.count.result _ _ (source_files c.args.from.now) _ c.args.to c.in_ok-with_capacity.field-0.items c.new.result c.new-2.result.items c.new-3.result.items
    (c.count.ensures.count ∙ sym (laid_count c.args.project.now listing laid)) (c.starts.view_is ∙ c.requires.starts) c.to.view_is c.in_ok-with_capacity.ensures.items c.new.ensures c.new-2.ensures.items c.new-3.ensures.items in (
      whole_answer c.args.setting.now listing c.args.from.now c.args.to ss c.in_ok-new.field-0 both.0 none sized (flag_at c.deref.result.now) c.undefined_count.result c.undefined_count.ensures flags
          (c.in_ok-new.ensures ∙ c.in_ok-add_states.ensures.lists ∙ ap (λ (g : Graph). with_states (flag_at c.deref.result.now) g 0 ss) start),
      both.1,
    ))
