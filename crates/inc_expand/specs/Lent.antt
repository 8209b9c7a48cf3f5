-- Tokens that are lent as the definitions see them.
use Rattle.std.specs.Prelude.{List, map}
use Rattle.inc_expand.specs.declared.carried.Carried.{Carried}
use Rattle.inc_expand.specs.declared.lent.Lent.{Lent}
use Rattle.inc_expand.specs.declared.lent.Lent.TheVariants.{Source, Carried as Own}
use Rattle.inc_expand.specs.Carriers.{carried_of}

abbrev pub lent_tokens : Lent → List Carried
lent_tokens (Source ts) = map carried_of ts.now
lent_tokens (Own ts) = ts.now
