use Rattle.std.proofs.Common.{drop, arith, length-drop}
use Rattle.std.proofs.lemmas.List.Sums.{prefix_len-le-length}
use Rattle.inc_token.specs.Spellings.{is_blank}
use Rattle.inc_token.proofs.Places.{spaces_at, bare_behind}
use Rattle.inc_token.proofs.UnmatchedQuotes.{unmatched_moved}
use Rattle.inc_token.proofs.lexing.Lexer.skip.Goals as goal

pub returns-then-self-after-clause-walk : goal.returns-then-self-after-clause-walk
returns-then-self-after-clause-walk c =
    let w = c.args.self.now in
    let h = c.requires in
    record {
      bytes = h.bytes;
      len = h.len;
      short = h.short;
      within = omega (arith, h.len, h.within, c.skip_blanks-after.ensures, prefix_len-le-length is_blank (drop w.at w.bytes.now), length-drop w.at w.bytes.now);
      unmatched = unmatched_moved w.unmatched w.at c.skip_blanks-after.result w.bytes.now (omega (arith, c.if-self-after.true)) h.unmatched;
    }

pub returns-then-self-after-clause-rest : goal.returns-then-self-after-clause-rest
returns-then-self-after-clause-rest c =
    let w = c.args.self.now in
    spaces_at c.args.self.now.language w.bytes.now w.cursor w.at c.skip_blanks-after.result w.progress w.space c.requires.bytes c.skip_blanks-after.ensures c.if-self-after.true

pub returns-then-self-after-clause-bare : goal.returns-then-self-after-clause-bare
returns-then-self-after-clause-bare c = bare_behind c.args.self.now.bytes.now c.args.self.now.at c.skip_blanks-after.result c.skip_blanks-after.ensures
