use Rattle.std.proofs.Common.{◌≡◌, map, take}
use Rattle.inc_inputs.proofs.build_places.slices_of.Given as goal

-- those so far
abbrev pub invariant-loop-dir : goal.invariant-loop-dir
invariant-loop-dir l = map (λ s. s.now) l.slices.items ≡ map (λ d. d.items) (take l.dir-index l.dirs)
