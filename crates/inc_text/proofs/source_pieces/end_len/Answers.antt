use Rattle.std.proofs.Common.{sym, ◌∙◌}
use Rattle.std.proofs.lemmas.Bool.{cond-false, cond-true, le-ltb, lt-ltb}
use Rattle.inc_text.proofs.PhaseLemmas.{end-found}
use Rattle.inc_text.proofs.source_pieces.end_len.Goals as goal

pub returns-then-new_line-gt0-clause-value : goal.returns-then-new_line-gt0-clause-value
returns-then-new_line-gt0-clause-value c =
    sym (end-found c.args.language c.args.source.now c.passed_end-passed.result c.new_line_len-new_line.result c.passed_end-passed.ensures.end c.new_line_len-new_line.ensures.value
    ∙ cond-true _ _ _ (lt-ltb 0 c.new_line_len-new_line.result c.if-new_line-gt0.true))

pub returns-else-new_line-gt0-clause-value : goal.returns-else-new_line-gt0-clause-value
returns-else-new_line-gt0-clause-value c =
    sym (end-found c.args.language c.args.source.now c.passed_end-passed.result c.new_line_len-new_line.result c.passed_end-passed.ensures.end c.new_line_len-new_line.ensures.value
    ∙ cond-false _ _ _ (le-ltb 0 c.new_line_len-new_line.result c.if-new_line-gt0.false))
