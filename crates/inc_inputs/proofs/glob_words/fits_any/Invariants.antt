use Rattle.std.proofs.Common.{◌≡◌, drop}
use Rattle.std.specs.List.{list_any}
use Rattle.inc_globs.specs.Globs.{fits}
use Rattle.inc_inputs.proofs.glob_words.fits_any.Given as goal

-- one that fits is among those that are left
abbrev pub invariant-loop-index : goal.invariant-loop-index
invariant-loop-index l = record {
  same : l.globs.items ≡ l.fn.globs.items;
  left : list_any (λ ps. fits ps l.path) l.fn.globs.items ≡ list_any (λ ps. fits ps l.path) (drop l.index l.fn.globs.items);
}
