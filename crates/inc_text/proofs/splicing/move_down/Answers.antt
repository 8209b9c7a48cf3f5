use Rattle.std.proofs.Common.{arith}
use Rattle.std.proofs.lemmas.Simd.{length-put_chunk}
use Rattle.std.proofs.Common.{◌∙◌}
use Rattle.inc_text.proofs.MoveLemmas.{chunk_front, chunk_back, rest_front, rest_back}
use Rattle.inc_text.proofs.splicing.move_down.Goals as goal

pub loop-done-preserved : goal.loop-done-preserved
loop-done-preserved c =
    let a = c.args in
    let l = c.loop-done in
    record {
      within = omega arith;
      front = chunk_front a.bytes.now l.bytes a.from a.to l.done 32 c.requires.down (omega arith) l.invariant.front l.invariant.back;
      back = chunk_back a.bytes.now l.bytes a.from a.to l.done 32 c.requires.down (omega arith) l.invariant.back;
      size = length-put_chunk _ l.bytes _ ∙ l.invariant.size;
    }

pub returns-clause-front : goal.returns-clause-front
returns-clause-front c =
    let a = c.args in
    let l = c.loop-done in
    rest_front a.bytes.now l.bytes _ a.from a.to l.done a.len c.requires.down l.invariant.within (omega arith) l.invariant.front l.invariant.back c.copy_within.ensures.after

pub returns-clause-back : goal.returns-clause-back
returns-clause-back c =
    let a = c.args in
    let l = c.loop-done in
    rest_back a.bytes.now l.bytes _ a.from a.to l.done a.len c.requires.down l.invariant.within (omega arith) l.invariant.back c.copy_within.ensures.after
