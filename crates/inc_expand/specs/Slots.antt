-- The places of a call's arguments as the definitions see them.
use Rattle.std.specs.Prelude.{List, if◌then◌else◌, map, take, drop}
use Rattle.inc_expand.specs.declared.carried.Carried.{Carried as CarriedToken}
use Rattle.inc_expand.specs.declared.arguments.Inside.{Inside}
use Rattle.inc_expand.specs.declared.arguments.Inside.TheVariants.{Source, Shared}
use Rattle.inc_expand.specs.declared.arguments.Slot.{Slot}
use Rattle.inc_expand.specs.Carriers.{carried_of}
use Rattle.inc_expand.specs.Arguments.{ArgumentValue}

-- the tokens inside a call
abbrev pub inside_tokens : Inside → List CarriedToken
inside_tokens (Source ts) = map carried_of ts.now
inside_tokens (Shared ts) = ts

-- the tokens of an argument
abbrev pub slot_written : List CarriedToken → Slot → List CarriedToken
slot_written inside s = take s.len (drop s.begin inside)

abbrev pub slot_value : List CarriedToken → Slot → ArgumentValue
slot_value inside s = record {
  written = slot_written inside s;
  expanded = if s.passes then slot_written inside s else s.expanded.items;
  given = s.given;
}

abbrev pub slot_values : List CarriedToken → List Slot → List ArgumentValue
slot_values inside slots = map (slot_value inside) slots
