use Rattle.std.proofs.Common.{ℕ, ap, bytes_eq, ◌∙◌}
use Rattle.indexmap.specs.IndexMap.{insert_entry}
use Rattle.inc_answers.proofs.UsefulDirLemmas.{one_counted}
use Rattle.inc_answers.proofs.useful_dirs.count_dir.Goals as goal

pub returns : goal.returns
returns c =
    let dir = c.args.dir.now in
    c.in_ok-insert.ensures.entries
    ∙ ap (λ k. insert_entry bytes_eq c.args.counts.now.entries k c.in_ok-number.number) c.in_ok-key.ensures
    ∙ ap (λ (n : ℕ). insert_entry bytes_eq c.args.counts.now.entries dir n) c.in_ok-number.ensures
    ∙ one_counted c.args.counts.now.entries dir
