use Rattle.std.proofs.Common.{refl, arith, ◌∙◌}
use Rattle.inc_lookup.proofs.HeldLemmas.{held_at}
use Rattle.inc_lookup.proofs.sources.HeldFilesSources.read.Goals as goal

pub returns-then-len-gt-LONGEST_FILE-clause-gives : goal.returns-then-len-gt-LONGEST_FILE-clause-gives
returns-then-len-gt-LONGEST_FILE-clause-gives c =
    let files = c.args.self.now.files.now in
    let held = c.in-Some.held.now in
    let at = rw c.index.ensures at c.in-Some.ensures.lookup in
    (refl, (held.bytes.items, held_at files c.args.file held at.3.0 (at.3.1 held), omega (arith, c.if-len-gt-LONGEST_FILE.true, c.len.ensures, held.bytes.ok.0)))

pub returns-clause-gives : goal.returns-clause-gives
returns-clause-gives c =
    let files = c.args.self.now.files.now in
    let held = c.in-Some.held.now in
    let at = rw c.index.ensures at c.in-Some.ensures.lookup in
    let same = c.in_ok-from_slice.ensures.items ∙ c.deref.ensures.value in
    rw same (refl, (held_at files c.args.file held at.3.0 (at.3.1 held), omega (arith, c.if-len-gt-LONGEST_FILE.false, c.len.ensures, held.bytes.ok.0)))
