use Rattle.std.proofs.Common.{◌≡◌, ◌≤◌, ◌-◌, take}
use Rattle.std.specs.Str.Parse.{digits_value, AllDigits}
use Rattle.inc_check.proofs.line_parts.front_digits.Given as goal

-- the digits so far, and their value
abbrev pub invariant-loop-digits : goal.invariant-loop-digits
invariant-loop-digits l = record {
  few : l.digits ≤ l.most;
  digits : AllDigits 10 (take l.digits l.text);
  value : l.value ≡ digits_value 10 (take l.digits l.text);
}

abbrev pub decreases-loop-digits : goal.decreases-loop-digits
decreases-loop-digits l = l.most - l.digits
