use Rattle.std.proofs.Common.{◌∙◌, ap, sym}
use Rattle.std.specs.List.{list_any}
use Rattle.inc_inputs.specs.BuildFolders.{is_kept}
use Rattle.inc_inputs.proofs.FrontLemmas.{below_of}
use Rattle.inc_inputs.proofs.build_files.BuildFiles.has_below.Goals as goal

pub returns : goal.returns
returns c =
    c.has_front.ensures ∙ ap (λ f. list_any (is_kept f) c.args.self.now) c.front_of.ensures
    ∙ below_of c.args.self.now c.args.folder.now (sym c.is_run_folder.ensures ∙ c.if-is_run_folder.false)
