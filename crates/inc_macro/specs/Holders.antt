-- Definitions of a table as they are held.
use Rattle.inc_macro.specs.Macros.{Definition}
use Rattle.inc_macro.specs.declared.named.Held.{Held}
use Rattle.inc_macro.specs.declared.named.Held.TheVariants.{Own, Shared}

abbrev pub held_definition : Held → Definition
held_definition (Own d) = d
held_definition (Shared d) = d.value
