use Rattle.std.proofs.Common.{ℕ, List, [], ◌∷◌, ◌++◌, map, take, sym, ap, ◌∙◌}
use Rattle.std.proofs.lemmas.List.{map_push, map_more, take_all}
use Rattle.inc_lookup.specs.declared.sources.SourceFile.{SourceFile}
use Rattle.inc_lookup.proofs.HeldLemmas.{paths_of-seen}
use Rattle.inc_lookup.proofs.sources.HeldFiles.paths.Goals as goal

pub loop-file-preserved : goal.loop-file-preserved
loop-file-preserved c =
    let files = c.args.self.now.files.now in
    rw (c.in_ok-push.ensures.items, map_push (λ p. p.now) c.loop-file.paths.items _, c.loop-file.invariant, map_more (λ (f : SourceFile). f.path.items) files c.loop-file.file-index c.file-item.result c.loop-file-test.true)
    (ap (λ (p : List ℕ). map (λ (f : SourceFile). f.path.items) (take c.loop-file.file-index files) ++ p ∷ [])
    (c.as_slice.ensures.value ∙ ap (λ (f : SourceFile). f.path.items) c.file-item.is))

pub returns : goal.returns
returns c =
    let files = c.args.self.now.files.now in
    c.loop-file.invariant ∙ ap (map (λ (f : SourceFile). f.path.items)) (take_all c.loop-file.file-index files c.loop-file-test.false) ∙ sym (paths_of-seen files)
