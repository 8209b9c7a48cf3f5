use Rattle.std.proofs.Common.{◌≡◌, suc, ◌-◌, ap, ◌∙◌, sym, arith, get_or, length, ◌<◌}
use Rattle.std.proofs.lemmas.Option.{slice_get-get_or}
use Rattle.inc_token.specs.LineEnds.{start_of}
use Rattle.inc_token.specs.declared.lines.LineEnd.{LineEnd}
use Rattle.inc_token.proofs.KeptLines.{start_of-behind}
use Rattle.inc_token.proofs.lines.start_of.Goals as goal

pub returns-else-i-eq0 : goal.returns-else-i-eq0
returns-else-i-eq0 c =
    let ends = c.args.ends.now in
    let i = c.args.i in
    let none : LineEnd = record { tokens = 0; last_line = 0 } in
    let behind : suc (i - 1) ≡ i = omega (arith, c.if-i-eq0.false) in
    let before : i - 1 < length ends = omega (arith, c.if-i-eq0.false, c.requires) in
    sym (start_of-behind 0 ends (i - 1) (get_or ends (i - 1) none) (slice_get-get_or ends (i - 1) none before)) ∙ ap (start_of 0 ends) behind
