use Rattle.std.proofs.Common.{◌<◌, ◌++◌, ◌∷◌, [], ◌∙◌, List, ℕ, length, arith, length-set, sym, ap}
use Rattle.std.proofs.lemmas.List.{get_or-map}
use Rattle.inc_graph.specs.declared.building.Source.{Source}
use Rattle.inc_graph.proofs.SourceLemmas.{source_path_within, sources_pushed}
use Rattle.inc_graph.proofs.building.closures.files_by_path.Goals as goal

pub loop-source-preserved : goal.loop-source-preserved
loop-source-preserved c =
    let s : Source = c.source-item.result in
    let so_far = c.loop-source.invariant in
    let low : s.path < c.args.paths = source_path_within c.args.paths c.args.from.now c.loop-source.source-index s c.requires c.loop-source-test.true c.source-item.is in
    let within : s.path < length c.loop-source.lists.items = omega (arith, low, so_far.long) in
    record {
      long = length-set c.loop-source.lists.items s.path c.push.new.self ∙ so_far.long;
      lists = λ path here.
          sources_pushed (λ v. v.items) c.loop-source.lists.items c.push.new.self c.args.from.now c.loop-source.source-index s path c.loop-source-test.true c.source-item.is within
          (c.in_ok-push.ensures.items ∙ ap (λ (l : List ℕ). l ++ s.file ∷ []) (ap (λ v. v.items) c.index_mut.ensures.value ∙ sym (get_or-map (λ v. v.items) c.loop-source.lists.items s.path c.index_mut.result.now [] within)))
          (λ p less. so_far.lists p (omega (arith, less, so_far.long))) (omega (arith, here, so_far.long));
    }
