use Rattle.std.proofs.Common.{ap}
use Rattle.inc_args.specs.Views.{seen_limits, seen_question}
use Rattle.inc_inputs.specs.ProjectLists.{list_of}
use Rattle.inc_inputs.specs.Texts.{texts_beside}
use Rattle.inc_inputs.specs.Views.{seen_text, texts_in}
use Rattle.inc_inputs.proofs.StepLemmas.{comes_err, comes_on, passed}
use Rattle.inc_inputs.proofs.texts.read_texts.Goals as goal

pub returns-in_err-list : goal.returns-in_err-list
returns-in_err-list g c =
    let q = seen_question c.args.question.now in
    let l = seen_limits c.args.limits.now in
    let told = passed texts_in c.from_residual.result c.in_err-list.field-0.0 c.from_residual.ensures.1 in
    comes_err (list_of g.I.Inputs.gives q.files) (λ list. texts_beside g.I.Inputs.gives list q l) c.args.inputs.now c.read_list.new.inputs _ _ _ (ap seen_text c.in_err-list.was) told c.read_list.ensures

pub returns : goal.returns
returns g c =
    let q = seen_question c.args.question.now in
    let l = seen_limits c.args.limits.now in
    comes_on (list_of g.I.Inputs.gives q.files) (λ list. texts_beside g.I.Inputs.gives list q l) c.args.inputs.now c.read_list.new.inputs c.read_texts_beside.new.inputs _ c.in_ok-list.list.items _
    (ap seen_text c.in_ok-list.was) c.read_list.ensures c.read_texts_beside.ensures
