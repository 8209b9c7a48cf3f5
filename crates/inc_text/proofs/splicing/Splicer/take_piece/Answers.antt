use Rattle.std.proofs.Common.{◌≡◌}
use Rattle.inc_text.proofs.SpliceLemmas.{byte_spliced, splice_spliced}
use Rattle.inc_text.proofs.splicing.Splicer.take_piece.Goals as goal

pub returns-in_ok-put_byte-in-Byte-clause-read : goal.returns-in_ok-put_byte-in-Byte-clause-read
returns-in_ok-put_byte-in-Byte-clause-read c source h =
    let says = c.in_ok-put_byte-in-Byte.ensures in
    let piece = c.in-Byte.ensures in
    let view : c.deref.result.now ≡ c.args.self.now.bytes.items = c.deref.ensures.value in
    rw (says.origins, says.splices, says.bytes, says.len) (byte_spliced c.args.language source _ _ _ _ _ _ _ h c.requires.more (rw (← view) piece.value) piece.some (rw (← view) piece.within))

pub returns-in_ok-push-in-Splice-clause-read : goal.returns-in_ok-push-in-Splice-clause-read
returns-in_ok-push-in-Splice-clause-read c source h =
    let says = c.in_ok-skip-in-Splice.ensures in
    let piece = c.in-Splice.ensures in
    let view : c.deref.result.now ≡ c.args.self.now.bytes.items = c.deref.ensures.value in
    rw (c.in_ok-push-in-Splice.ensures.items, says.origins, says.splices, says.bytes, says.len) (splice_spliced c.args.language source _ _ _ _ _ _ h c.requires.more (rw (← view) piece.value) piece.some (rw (← view) piece.within))
