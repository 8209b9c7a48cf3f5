-- What hashes of keys begin with.
use Rattle.std.specs.Hash as fed
use Rattle.std.specs.Hash.DefaultHasher as sip
use Rattle.std.specs.List.{fold}
use Rattle.std.specs.declared.hash.DefaultHasher.{DefaultHasher}
use Rattle.inc_text.specs.declared.keys.SeededState.{SeededState}

-- a hasher that has taken the seed
abbrev pub seeded : SeededState → DefaultHasher
seeded s = fold sip.write sip.initial (fed.u64 s.seed)
