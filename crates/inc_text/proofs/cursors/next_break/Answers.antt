use Rattle.std.proofs.Common.{◌<◌, arith}
use Rattle.inc_text.proofs.cursors.next_break.Goals as goal

pub returns-clause-after : goal.returns-clause-after
returns-clause-after c =
    let first : c.args.at < c.min-end.result = omega (arith, c.min-end.ensures, c.requires.within) in
    let second : c.args.at < c.next_origin-end.result = c.next_origin-end.ensures.one c.args.at first c.requires.before.origins_passed.after in
    c.next_splice.ensures.one c.args.at second c.requires.before.splices_passed.after
