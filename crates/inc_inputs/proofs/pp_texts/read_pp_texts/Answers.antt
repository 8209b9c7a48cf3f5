use Rattle.std.proofs.Common.{ap}
use Rattle.inc_args.specs.Views.{seen_pp}
use Rattle.inc_inputs.specs.PpTexts.{pp_texts_beside}
use Rattle.inc_inputs.specs.ProjectLists.{list_of}
use Rattle.inc_inputs.specs.Views.{pp_texts_in, seen_text}
use Rattle.inc_inputs.proofs.StepLemmas.{comes_err, comes_on, passed}
use Rattle.inc_inputs.proofs.pp_texts.read_pp_texts.Goals as goal

pub returns-in_err-list : goal.returns-in_err-list
returns-in_err-list g c =
    let p = seen_pp c.args.args.now in
    let told = passed pp_texts_in c.from_residual.result c.in_err-list.field-0.0 c.from_residual.ensures.1 in
    comes_err (list_of g.I.Inputs.gives p.files) (λ list. pp_texts_beside g.I.Inputs.gives c.args.language list p) c.args.inputs.now c.read_list.new.inputs _ _ _ (ap seen_text c.in_err-list.was) told c.read_list.ensures

pub returns : goal.returns
returns g c =
    let p = seen_pp c.args.args.now in
    comes_on (list_of g.I.Inputs.gives p.files) (λ list. pp_texts_beside g.I.Inputs.gives c.args.language list p) c.args.inputs.now c.read_list.new.inputs c.read_pp_texts_beside.new.inputs _ c.in_ok-list.list.items _
    (ap seen_text c.in_ok-list.was) c.read_list.ensures c.read_pp_texts_beside.ensures
