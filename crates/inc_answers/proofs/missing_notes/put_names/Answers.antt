use Rattle.std.proofs.Common.{◌∙◌, List, ap, arith, length, take}
use Rattle.std.proofs.lemmas.List.Elements.{All-same}
use Rattle.inc_answers.specs.MissingNames.{MissingName, missing_names, ranked}
use Rattle.inc_answers.specs.Views.{IsWithin}
use Rattle.inc_answers.proofs.MissingNameLemmas.{few_listed, left_out}
use Rattle.inc_answers.proofs.NoteLemmas.{names_added}
use Rattle.inc_answers.proofs.missing_notes.put_names.Goals as goal

pub put_each-requires-clause-within : goal.put_each-requires-clause-within
put_each-requires-clause-within c =
    let count = length c.args.missing.now in
    All-same (IsWithin count) c.deref.result.now c.in_ok-first.first.items c.deref.ensures.value (c.in_ok-first.ensures.within count c.in_ok-names.ensures.within)

pub overflow_sub-len : goal.overflow_sub-len
overflow_sub-len c =
    let few = few_listed c.args.missing.now c.in_ok-names.names.names.items c.in_ok-first.first.items (c.in_ok-first.ensures.names c.args.missing.now) in
    omega (arith, few, c.len.ensures, c.len-2.ensures, c.in_ok-first.first.ok.0)

pub returns : goal.returns
returns c =
    let ms = c.args.missing.now in
    let first = c.in_ok-first.ensures.names ms in
    let left = left_out ms c.in_ok-names.names.names.items c.in_ok-first.first.items (missing_names ms) first c.in_ok-names.ensures.names in
    names_added c.args.project.now ms c.args.text.now.items c.put_each.new.text.items c.put_more.new.text.items c.in_ok-first.first.items c.deref.result.now (missing_names ms) _
    c.in_ok-put_each.ensures c.deref.ensures.value (first ∙ ap (λ (l : List MissingName). take 10 (ranked l)) c.in_ok-names.ensures.names) c.in_ok-put_more.ensures (omega (arith, left, c.len.ensures, c.len-2.ensures, c.in_ok-first.first.ok.0))
