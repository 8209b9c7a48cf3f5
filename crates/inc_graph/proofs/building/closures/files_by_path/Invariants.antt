use Rattle.std.proofs.Common.{◌≡◌, ◌<◌, ℕ, [], length, map, take}
use Rattle.std.specs.Prelude.{slice_index_or}
use Rattle.inc_graph.specs.OnePath.{path_sources}
use Rattle.inc_graph.proofs.building.closures.files_by_path.Given as goal

-- the files of the sources so far
abbrev pub invariant-loop-source : goal.invariant-loop-source
invariant-loop-source l = record {
  long : length l.lists.items ≡ l.paths;
  lists : (path : ℕ) → path < l.paths → slice_index_or (map (λ v. v.items) l.lists.items) path [] ≡ path_sources path (take l.source-index l.from);
}
