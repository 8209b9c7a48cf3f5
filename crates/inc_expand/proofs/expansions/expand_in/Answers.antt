use Rattle.inc_expand.proofs.expansions.expand_in.Goals as goal

pub expanded-requires : goal.expanded-requires
expanded-requires c = c.of_source-list.ensures.known c.new.result
