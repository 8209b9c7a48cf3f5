use Rattle.std.proofs.Common.{◌≡◌, ◌∙◌, ◌++◌, map, subst, take}
use Rattle.inc_answers.specs.DirectiveNames.{kept_kind}
use Rattle.inc_answers.specs.NameTables.{NameSource}
use Rattle.inc_answers.specs.NamedReasons.{named_reasons, names_line, open_names, sight_kept}
use Rattle.inc_answers.specs.Terms.{Question}
use Rattle.inc_answers.proofs.NamedReasonLemmas.{reasons_made}
use Rattle.inc_answers.proofs.named_reasons.named_reasons.Goals as goal

pub returns-clause-reasons : goal.returns-clause-reasons
returns-clause-reasons c =
    let language = c.question.inside.language in
    let undefined = map (λ n. n.now) c.question.inside.undefined.now in
    let layout = c.args.project.now in
    let sight = sight_kept c.args.names.now.language layout c.args.names.now.kept in
    let bs = c.args.blockers.now in
    let firsts = take c.most_of-count.result bs in
    let named =
    subst (λ (n : NameSource). c.put_open.new.text.items ≡ c.put_more.new.text.items ++ names_line (open_names language undefined (kept_kind n.language n.kept) firsts))
    c.in_ok-put_blockers.ensures.same c.in_ok-put_open.ensures.text in
    subst (λ (q : Question). c.of.result ≡ named_reasons q.language q.undefined sight layout bs) c.question.view_is
    (c.of.ensures
    ∙ reasons_made language undefined sight layout bs c.most_of-count.result c.new-text.result.items c.put_blockers.new.text.items c.put_more.new.text.items c.put_open.new.text.items
    c.put_drops.new.text.items c.most_of-count.ensures.most c.new-text.ensures.items c.in_ok-put_blockers.ensures.text c.in_ok-put_more.ensures named c.in_ok-put_drops.ensures)
