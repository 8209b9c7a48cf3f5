use Rattle.std.proofs.Common.{rules, ◌≡◌, ◌∙◌, ◌++◌, List, ℕ, ap, codes, false}
use Rattle.std.specs.Prelude.{bytes_eq}
use Rattle.inc_expand.specs.Sinks.{seen_ref}
use Rattle.inc_cond.proofs.QuestionSteps.{gone-on}
use Rattle.inc_cond.proofs.questions.gone_on.Goals as goal

pub returns : goal.returns
returns c = λ is.
    let other : bytes_eq c.args.token.bytes.now (codes ">") ≡ false = search rules in
    gone-on c.args.search.now c.args.is_next (seen_ref c.args.token) is c.args.name.items c.extend_from_slice.new.self c.more-2.result
    other (c.in_ok-extend_from_slice.ensures.items ∙ ap (λ (bs : List ℕ). bs ++ c.args.token.bytes.now) c.in_ok-name.ensures) c.more-2.ensures
