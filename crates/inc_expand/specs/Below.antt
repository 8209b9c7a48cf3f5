-- The tokens of a list that are not copied, as the definitions see them.
use Rattle.std.specs.Prelude.{List, map}
use Rattle.inc_expand.specs.declared.carried.Carried.{Carried}
use Rattle.inc_expand.specs.declared.stacks.Below.{Below}
use Rattle.inc_expand.specs.declared.stacks.Below.TheVariants.{Source, Shared}
use Rattle.inc_expand.specs.Carriers.{carried_of}

abbrev pub below_tokens : Below → List Carried
below_tokens (Source ts) = map carried_of ts.now
below_tokens (Shared ts) = ts
