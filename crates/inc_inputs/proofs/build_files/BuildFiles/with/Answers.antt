use Rattle.std.proofs.Common.{subst, sym}
use Rattle.std.specs.Prelude.{◌||◌, not}
use Rattle.inc_build.specs.Paths.{is_absolute}
use Rattle.inc_inputs.specs.BuildFolders.{AreFolders}
use Rattle.inc_inputs.proofs.FrontLemmas.{folders_more}
use Rattle.inc_inputs.proofs.build_files.BuildFiles.with.Goals as goal

pub invariant_of-result : goal.invariant_of-result
invariant_of-result c =
    let self = c.self.inside in
    let path = c.args.path.now in
    let new = c.add_kept.new.fronts.keys in
    let more = folders_more self.paths.keys self.fronts.keys new self.has_relative path c.in_ok-add_kept.ensures c.self.invariant in
    subst (λ b. AreFolders c.insert.new.names.keys new (self.has_relative || not b)) (sym c.is_absolute.ensures)
    (subst (λ ks. AreFolders ks new (self.has_relative || not (is_absolute path))) (sym c.in_ok-insert.ensures.names) more)
