use Rattle.std.proofs.Common.{rules}
use Rattle.inc_globs.proofs.ClassLemmas.{byte_first, last_first, range_first}
use Rattle.inc_globs.proofs.pieces.first_member.Goals as goal

pub returns-then-members-le2-clause-member : goal.returns-then-members-le2-clause-member
returns-then-members-le2-clause-member c = last_first c.args.members.now c.args.byte c.requires (search rules)

pub returns-then-members-ne45-clause-member : goal.returns-then-members-ne45-clause-member
returns-then-members-ne45-clause-member c = byte_first c.args.members.now c.args.byte (search rules) (search rules)

pub returns-clause-member : goal.returns-clause-member
returns-clause-member c = range_first c.args.members.now c.args.byte (search rules) (search rules)
