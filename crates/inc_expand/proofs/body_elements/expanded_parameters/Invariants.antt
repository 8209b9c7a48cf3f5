use Rattle.std.proofs.Common.{◌≡◌, ◌<◌, ℕ, false, take, get_or}
use Rattle.inc_expand.specs.Elements.{elements_of}
use Rattle.inc_expand.specs.Expansion.{is_expanded_in}
use Rattle.inc_expand.proofs.body_elements.expanded_parameters.Given as goal

abbrev pub invariant-loop-i : goal.invariant-loop-i
invariant-loop-i l = (n : ℕ) → n < 256 → get_or l.wanted n false ≡ is_expanded_in (take l.i (elements_of l.definition)) n
