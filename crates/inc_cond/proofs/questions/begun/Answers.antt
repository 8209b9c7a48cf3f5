use Rattle.std.proofs.Common.{rules, ◌≡◌, ◌∙◌, codes, sym, true}
use Rattle.std.specs.Prelude.{bytes_eq}
use Rattle.inc_expand.specs.Sinks.{seen_ref}
use Rattle.inc_cond.proofs.QuestionSteps.{begun-angled}
use Rattle.inc_cond.proofs.questions.begun.Goals as goal

pub returns-then-eq : goal.returns-then-eq
returns-then-eq c = λ is.
    let opens : bytes_eq c.args.token.bytes.now (codes "<") ≡ true = search rules in
    begun-angled c.args.search.now c.args.is_next (seen_ref c.args.token) is c.new.result c.more-then-eq.result
    (sym c.is_plain_string.ensures ∙ c.if-is_plain_string.false) opens c.new.ensures.items c.more-then-eq.ensures
