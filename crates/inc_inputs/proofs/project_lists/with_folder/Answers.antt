use Rattle.std.proofs.Common.{◌++◌, ◌∙◌, Ok, ap, map, refl}
use Rattle.inc_inputs.specs.Inputs.{FilesBelow}
use Rattle.inc_inputs.specs.Reports.{report_of}
use Rattle.inc_inputs.specs.Steps.{comes_to, reads_as}
use Rattle.inc_inputs.specs.Views.{seen_text}
use Rattle.inc_inputs.proofs.StepLemmas.{comes_err, comes_then, passed}
use Rattle.inc_inputs.proofs.project_lists.with_folder.Goals as goal

pub returns-in_err-more : goal.returns-in_err-more
returns-in_err-more g c =
    let folder = c.args.folder.now in
    let told = passed (λ text. text.items) c.from_residual.result c.in_err-more.field-0.0 c.from_residual.ensures.1 in
    comes_err (reads_as g.I.Inputs.gives folder (FilesBelow folder (map (λ e. e.now) c.args.exclude.now))) (λ more. comes_to (Ok (c.args.known.items ++ more))) c.args.inputs.now c.list_folder.new.inputs _ _ _
    (ap seen_text c.in_err-more.was) told c.list_folder.ensures

pub returns : goal.returns
returns g c not =
    let folder = c.args.folder.now in
    let more = c.in_ok-more.more.items in
    let longer = c.in_ok-extend_from_slice.ensures.items ∙ ap (λ m. c.args.known.items ++ m) c.deref.ensures.value in
    comes_then (reads_as g.I.Inputs.gives folder (FilesBelow folder (map (λ e. e.now) c.args.exclude.now))) (λ m. comes_to (Ok (c.args.known.items ++ m))) c.args.inputs.now c.list_folder.new.inputs c.list_folder.new.inputs _ more _
    (ap seen_text c.in_ok-more.was) c.list_folder.ensures (ap (λ t. Ok t) longer, refl)
