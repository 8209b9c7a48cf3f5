use Rattle.std.proofs.Common.{◌<◌, length, subst, arith}
use Rattle.inc_lookup.specs.PathLists.{Rises}
use Rattle.inc_lookup.proofs.RisingLists.{inserted_more}
use Rattle.inc_lookup.proofs.path_lists.RisingPaths.table.Goals as goal

pub loop-index-preserved : goal.loop-index-preserved
loop-index-preserved c =
    let low : c.loop-index.index < length c.args.self.now = omega (arith, c.loop-index-test.true, c.len-index-end.ensures) in
    inserted_more c.args.self.now c.insert_key.new.table.keys c.loop-index.index c.in_ok-insert_key.field-0.0 c.in_ok-insert_key.field-0.1 (subst Rises c.self.view_is c.self.invariant) low
    (rw (c.loop-index.invariant, c.path.ensures) at c.in_ok-insert_key.ensures)
