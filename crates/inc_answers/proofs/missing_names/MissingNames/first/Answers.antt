use Rattle.inc_answers.proofs.MissingNameLemmas.{first_more, within_at}
use Rattle.inc_answers.proofs.missing_names.MissingNames.first.Goals as goal

pub loop-name-preserved : goal.loop-name-preserved
loop-name-preserved c =
    let items = c.args.self.now.names.items in
    let lent = c.deref-name-items.result.now in
    record {
      names = λ ms.
          first_more ms items lent c.loop-name.first.items c.put_name.new.first.items c.loop-name.name-index _ c.deref-name-items.ensures.value c.loop-name-test.true
          (c.loop-name.invariant.names ms) (c.in_ok-put_name.ensures.names ms);
      within = λ count are.
          c.in_ok-put_name.ensures.within count (c.loop-name.invariant.within count are)
          (within_at count items lent c.loop-name.name-index _ c.deref-name-items.ensures.value c.loop-name-test.true are);
    }
