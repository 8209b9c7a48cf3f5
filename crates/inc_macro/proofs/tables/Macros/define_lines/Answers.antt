use Rattle.std.proofs.Common.{◌≡◌, ◌∙◌, ap, sym, Err, map, rules}
use Rattle.inc_token.specs.TokenLines.{token_lines}
use Rattle.inc_token.specs.declared.lines.LexFault.TheVariants.{OpenComment}
use Rattle.inc_macro.proofs.WordLines.{no_fault}
use Rattle.inc_macro.proofs.tables.Macros.define_lines.Goals as goal

pub unreachable-requires : goal.unreachable-requires
unreachable-requires c =
    let line = c.in-Err-OpenComment.field-0-0 in
    let fault : token_lines c.args.self.now.language c.args.text.now ≡ Err (OpenComment line) = search rules in
    no_fault c.args.self.now.language (map (λ w. w.now) c.args.words.now) (OpenComment line) (ap (token_lines c.args.self.now.language) (sym c.requires) ∙ fault)
