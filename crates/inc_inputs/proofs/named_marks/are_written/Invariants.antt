use Rattle.std.proofs.Common.{◌≡◌, length}
use Rattle.inc_inputs.specs.NamedPlaces.{are_written}
use Rattle.inc_inputs.specs.PlaceWords.{unspaced}
use Rattle.inc_inputs.proofs.named_marks.are_written.Given as goal

-- what is left of the name begins with no white space, and is how the tokens that are left have to be written
abbrev pub invariant-loop-token : goal.invariant-loop-token
invariant-loop-token l = record {
  clean : unspaced l.left ≡ l.left;
  same : are_written l.tokens l.left ≡ are_written l.fn.tokens l.fn.name;
}

abbrev pub decreases-loop-token : goal.decreases-loop-token
decreases-loop-token l = length l.tokens
