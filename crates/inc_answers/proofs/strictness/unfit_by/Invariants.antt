use Rattle.std.proofs.Common.{◌≡◌, ◌<◌, length, map, take}
use Rattle.std.specs.List.{All}
use Rattle.std.specs.Prelude.{filter, not}
use Rattle.inc_globs.specs.Globs.{fits}
use Rattle.inc_graph.specs.MissingLists.{Missing, missing_at}
use Rattle.inc_answers.proofs.strictness.unfit_by.Given as goal

-- those so far that the glob does not fit
abbrev pub invariant-loop-place : goal.invariant-loop-place
invariant-loop-place l = record {
  left : map (missing_at l.missing) l.left.items
      ≡ filter (λ (m : Missing). not (fits l.initial.glob m.header.name)) (map (missing_at l.missing) (take l.place-index l.places));
  within : All (λ i. i < length l.missing) l.left.items;
  same : l.glob ≡ l.initial.glob;
}
