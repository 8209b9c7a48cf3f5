use Rattle.std.proofs.Common.{rules}
use Rattle.inc_build.proofs.BuildLemmas.{put_behind, put_there}
use Rattle.inc_build.proofs.builds.put_use.Goals as goal

pub returns-then-source-len : goal.returns-then-source-len
returns-then-source-len c = put_there c.args.uses.now.items c.args.source c.args.one c.push.new.self c.index_mut.result.now (search rules) (search rules)

pub returns : goal.returns
returns c = put_behind c.args.uses.now.items c.push-3.new.self.items c.args.source c.args.one c.push-2.new.self (search rules) (search rules) (search rules)
