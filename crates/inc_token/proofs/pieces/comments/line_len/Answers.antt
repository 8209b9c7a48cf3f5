use Rattle.std.proofs.Common.{drop, sym}
use Rattle.std.proofs.lemmas.List.{take_rest}
use Rattle.inc_token.proofs.Searches.{line_found, line_missed}
use Rattle.inc_token.proofs.pieces.comments.line_len.Goals as goal

pub returns-in-Some : goal.returns-in-Some
returns-in-Some c = sym (line_found c.in-Some.len (drop c.args.at c.args.text.now) (rw take_rest at c.in-Some.ensures))

pub returns-in-None : goal.returns-in-None
returns-in-None c =
    let none = rw take_rest at c.in-None.ensures in
    rw take_rest (sym (line_missed (drop c.args.at c.args.text.now) none))
