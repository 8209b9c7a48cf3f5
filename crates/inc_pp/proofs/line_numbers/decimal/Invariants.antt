use Rattle.std.proofs.Common.{◌≡◌, ◌≤◌, drop}
use Rattle.inc_pp.proofs.Decimals.{decimal_from}
use Rattle.inc_pp.proofs.line_numbers.decimal.Given as goal

-- what the bytes that are left make of the number so far
abbrev pub invariant-loop-byte : goal.invariant-loop-byte
invariant-loop-byte l = (l.number ≤ l.most) × (decimal_from l.most l.number (drop l.byte-index l.text) ≡ decimal_from l.most 0 l.text)
