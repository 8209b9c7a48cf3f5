use Rattle.std.proofs.Common.{◌≡◌, length, rules, ap, ◌∙◌}
use Rattle.inc_text.proofs.SpliceLemmas.{run_spliced, lent}
use Rattle.inc_text.proofs.splicing.Splicer.take_run.Goals as goal

pub returns-clause-read : goal.returns-clause-read
returns-clause-read c language source h =
    let s = c.args.self.now in
    let moved = c.move_down.ensures in
    let lend : c.deref_mut.result.now ≡ s.bytes.items = c.deref_mut.ensures.value in
    let view : c.deref.result.now ≡ s.bytes.items = c.deref.ensures.value in
    let size : length c.move_down.new.bytes ≡ length s.bytes.items = moved.len ∙ ap length lend in
    rw (lent _ _ s.bytes.len size (search rules)) (run_spliced language source _ _ s.bytes.items _ s.len c.args.at c.plain_end-end.result h (rw (← view) c.plain_end-end.ensures.end) (rw (← lend) moved.front) (rw (← lend) moved.back) size)
