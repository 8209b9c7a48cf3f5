use Rattle.std.proofs.Common.{codes}
use Rattle.inc_answers.proofs.NearNameLemmas.{lines_added}
use Rattle.inc_answers.proofs.near_names.put_lines.Goals as goal

pub returns : goal.returns
returns c =
    lines_added (codes "source") c.args.project.now.paths (λ w. w.now) c.args.words.now c.args.text.now.items c.put_each.new.text.items c.put_more.new.text.items c.most_of-count.result
    c.most_of-count.ensures.most c.in_ok-put_each.ensures c.in_ok-put_more.ensures
