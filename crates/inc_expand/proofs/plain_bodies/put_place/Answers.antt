use Rattle.inc_expand.specs.Sets.{size}
use Rattle.inc_expand.proofs.plain_bodies.put_place.Goals as goal

pub put_argument-requires-clause-tokens : goal.put_argument-requires-clause-tokens
put_argument-requires-clause-tokens c = c.expanded_at-tokens.ensures.known (size c.args.sets.now) c.requires.args
