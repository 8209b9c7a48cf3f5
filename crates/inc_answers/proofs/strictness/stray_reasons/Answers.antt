use Rattle.std.proofs.Common.{rules}
use Rattle.inc_answers.proofs.StrictLemmas.{reasons_made}
use Rattle.inc_answers.proofs.strictness.stray_reasons.Goals as goal

pub returns : goal.returns
returns c =
    rw c.of.ensures (reasons_made c.args.project.now c.args.graph.now.missing c.args.strays.now c.most_of-count.result c.new-text.result.items
    c.put_strays.new.text.items c.put_more.new.text.items c.extend_from_slice.new.self.items c.most_of-count.ensures.most c.new-text.ensures.items
    (rw c.missing.ensures.missing at c.in_ok-put_strays.ensures) c.in_ok-put_more.ensures c.in_ok-extend_from_slice.ensures.items)
