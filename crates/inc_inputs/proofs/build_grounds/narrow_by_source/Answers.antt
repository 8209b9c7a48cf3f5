use Rattle.std.proofs.Common.{◌+◌, ◌∙◌, ap, drop, map, sym}
use Rattle.inc_inputs.specs.BuildPaths.{common, common_of, folder_of}
use Rattle.inc_inputs.proofs.GroundLemmas.{source_more, source_none}
use Rattle.inc_inputs.proofs.build_grounds.narrow_by_source.Goals as goal

pub returns-in_default : goal.returns-in_default
returns-in_default c = source_none c.args.root.now.items c.args.build.now.sources.keys c.args.number (sym c.in_default.ensures)

pub returns : goal.returns
returns c =
    let sources = c.args.build.now.sources.keys in
    let root = c.args.root.now.items in
    ap (λ r. common_of r (map folder_of (drop (c.args.number + 1) sources))) (c.in_ok-narrow.ensures ∙ ap (common root) (c.deref.ensures.value ∙ c.in_ok-folder.ensures))
    ∙ sym (source_more root sources c.args.number c.in-Some.source.now (sym c.in-Some.ensures))
