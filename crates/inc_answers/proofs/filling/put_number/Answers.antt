use Rattle.std.proofs.Common.{◌≡◌, ◌+◌, length, rules, ap, arith}
use Rattle.std.specs.Prelude.{decimal}
use Rattle.inc_answers.proofs.FillingLemmas.{put_before}
use Rattle.inc_answers.proofs.filling.put_number.Goals as goal

pub write_digits-requires : goal.write_digits-requires
write_digits-requires c =
    let long : length c.deref_mut.result.now ≡ length c.args.bytes.now.items = ap length c.deref_mut.ensures.value in
    (omega (arith, c.number_len.ensures.len), omega (arith, c.requires, c.number_len.ensures.few, long))

pub returns-clause-put : goal.returns-clause-put
returns-clause-put c =
    let old = c.args.bytes.now.items in
    let whole : c.args.bytes.now.len ≡ length old = search rules in
    let same = c.deref_mut.ensures.value in
    put_before old c.write_digits.new.buf (decimal c.args.n) c.args.bytes.now.len c.args.at (c.args.at + c.number_len.result) c.write_digits.result whole (ap (λ k. c.args.at + k) c.number_len.ensures.len) c.write_digits.ensures.start
    (omega (arith, c.requires, c.number_len.ensures.few)) (rw same at c.write_digits.ensures.written) (rw same at c.write_digits.ensures.before)
