use Rattle.std.proofs.Common.{◌∙◌, ℕ, suc, ap, drop, map}
use Rattle.std.specs.String.{string_bytes}
use Rattle.inc_args.proofs.CompilerWordLists.{after_one}
use Rattle.inc_args.proofs.compiler_command.split.Goals as goal

pub returns-clause-compiler : goal.returns-clause-compiler
returns-clause-compiler c =
    let words = c.args.words.now in
    ap (map string_bytes) (c.after_first.ensures ∙ ap (drop 1) c.split_at.ensures.back)
    ∙ after_one string_bytes words c.own_count.result
    ∙ ap (λ (n : ℕ). drop (suc n) (map string_bytes words)) c.own_count.ensures.count
