use Rattle.inc_expand.proofs.expansions.stream_in.Goals as goal

pub stream-requires : goal.stream-requires
stream-requires g c = c.of_source-list.ensures.known c.new.result
