use Rattle.std.proofs.lemmas.List.Elements.{All-replicate}
use Rattle.inc_expand.specs.Sets.{IsJoin}
use Rattle.inc_expand.proofs.Tables.{sound-empty, hints-first, join-empty}
use Rattle.inc_expand.proofs.hide_sets.HideSets.new.Goals as goal

pub invariant_of-result : goal.invariant_of-result
invariant_of-result c =
    let sound = sound-empty _ _ c.new.ensures c.with_hasher.ensures.empty in
    (sound, hints-first sound.table, All-replicate (IsJoin c.with_hasher.result.keys) 16 _ (join-empty sound.table))
