use Rattle.std.proofs.Common.{◌≡◌, [], ap, arith, length, map, subst, sym}
use Rattle.inc_inputs.specs.ProjectLists.{with_folder}
use Rattle.inc_inputs.specs.Reports.{report_of}
use Rattle.inc_inputs.specs.Views.{seen_text}
use Rattle.inc_inputs.proofs.EachLemmas.{Leads, each_end, each_fault, each_more}
use Rattle.inc_inputs.proofs.StepLemmas.{passed}
use Rattle.inc_inputs.proofs.project_lists.list_below.Goals as goal

pub loop-folder-init : goal.loop-folder-init
loop-folder-init g c =
    subst (λ t. Leads (with_folder g.I.Inputs.gives (map (λ e. e.now) c.args.exclude.now)) (λ f. f.now) c.args.folders.now [] t 0 c.args.inputs.now c.args.inputs.now) (sym c.new-list.ensures.items) (λ x new h. h)

pub loop-folder-preserved : goal.loop-folder-preserved
loop-folder-preserved g c =
    each_more (with_folder g.I.Inputs.gives (map (λ e. e.now) c.args.exclude.now)) (λ f. f.now) c.args.folders.now c.loop-folder.folder-index _ c.loop-folder-test.true [] c.loop-folder.list.items c.in_ok-list.list.items
    c.args.inputs.now c.loop-folder.inputs c.with_folder.new.inputs (seen_text c.with_folder.result) c.loop-folder.invariant (ap seen_text c.in_ok-list.was) c.with_folder.ensures

pub returns-in_err-list : goal.returns-in_err-list
returns-in_err-list g c =
    let told = passed (λ text. text.items) c.from_residual.result c.in_err-list.field-0.0 c.from_residual.ensures.1 in
    each_fault (with_folder g.I.Inputs.gives (map (λ e. e.now) c.args.exclude.now)) (λ f. f.now) c.args.folders.now c.loop-folder.folder-index _ c.loop-folder-test.true [] c.loop-folder.list.items
    c.args.inputs.now c.loop-folder.inputs c.with_folder.new.inputs (seen_text c.with_folder.result) _ (report_of c.in_err-list.field-0.0) c.loop-folder.invariant
    (ap seen_text c.in_err-list.was) told c.with_folder.ensures

pub returns : goal.returns
returns g c not =
    let end : c.loop-folder.folder-index ≡ length c.args.folders.now = omega (arith, c.loop-folder-test.false, c.loop-folder.auto.folder-index-end) in
    each_end (with_folder g.I.Inputs.gives (map (λ e. e.now) c.args.exclude.now)) (λ f. f.now) c.args.folders.now [] c.loop-folder.list.items c.loop-folder.folder-index c.args.inputs.now c.loop-folder.inputs end c.loop-folder.invariant
