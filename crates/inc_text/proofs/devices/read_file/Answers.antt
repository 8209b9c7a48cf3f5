use Rattle.std.proofs.Common.{◌≡◌, ℕ, List, length, take, ap, ◌∙◌, arith, rules}
use Rattle.inc_text.proofs.ReadLemmas.{taken_more}
use Rattle.inc_text.proofs.SpliceLemmas.{lent}
use Rattle.inc_text.proofs.devices.read_file.Goals as goal

pub loop-bytes-preserved : goal.loop-bytes-preserved
loop-bytes-preserved g c =
    let l = c.loop-bytes in
    let read = c.in_ok-count.ensures in
    let room : List ℕ = c.make_room.new.bytes.items in
    let lend : c.deref_mut.result.now ≡ room = c.deref_mut.ensures.value in
    let size : length c.read_at.new.bytes ≡ length room = search rules in
    let long : length room ≡ c.make_room.new.bytes.len = search rules in
    let front : take l.len c.read_at.new.bytes ≡ take l.len l.bytes.items = read.front ∙ (ap (take l.len) lend ∙ c.in_ok-make_room.ensures.front) in
    record {
      short = search rules;
      within = omega (arith, read.fits, size, long);
      taken = rw (lent room c.read_at.new.bytes c.make_room.new.bytes.len size long) (taken_more _ _ _ l.bytes.items _ l.len _ front l.invariant.taken read.bytes);
      sound = search rules;
    }
