-- Slots that tell most names apart from those of a table.
use Rattle.std.specs.Prelude.{◌≡◌, ℕ, ◌+◌, ◌-◌, ◌*◌, ◌/◌, ◌%◌, ◌==◌, Bool, true, List, Some, if◌then◌else◌, get_or, length, nat_lt, slice_index}
use Rattle.inc_macro.specs.Macros.{Definition}
use Rattle.inc_macro.specs.Tables.{Entries, found}
use Rattle.inc_macro.specs.declared.slots.TheConstants.{SLOTS}

-- the slot of a name
abbrev pub slot_of : List ℕ → ℕ
slot_of name =
    if length name == 0 then 0 else
    (slice_index name 0 + 37 * slice_index name (length name / 2) + 1009 * slice_index name (length name - 1) + 4099 * (length name % 64)) % SLOTS

-- a slot is taken; those past the list are not
abbrev pub is_taken : List ℕ → ℕ → Bool
is_taken slots slot = nat_lt 0 (get_or slots slot 0)

-- the slot of each name that is found is taken
abbrev pub HasSlots : List ℕ → Entries → Type 0
HasSlots slots entries = (name : List ℕ) (d : Definition) → found entries name ≡ Some d → is_taken slots (slot_of name) ≡ true
