use Rattle.std.proofs.Common.{◌∙◌, ℕ, List, Option, ap, length, map, option_map, refl, sym}
use Rattle.inc_token.specs.Views.{seen}
use Rattle.inc_macro.specs.Tables.{table_of}
use Rattle.inc_expand.specs.Places.{place_value}
use Rattle.inc_pp.specs.Steps.{fitting, laid_at}
use Rattle.inc_pp.proofs.MeasureSteps.{fitting-fits, fitting-over}
use Rattle.inc_pp.proofs.measures.check_expanded.Goals as goal

pub returns-then-is_over-clause-stop : goal.returns-then-is_over-clause-stop
returns-then-is_over-clause-stop c =
    let given = laid_at (option_map place_value c.args.marks) (place_value c.args.around.now.place) (table_of c.args.around.now.macros.now) c.args.budget.now (map seen c.args.tokens.now) in (
      refl,
      ap (λ (m : Option ℕ). fitting m c.args.output.now given) c.in-Some.is
          ∙ fitting-over c.in-Some.most (length c.text.result.now) c.in_ok-bytes.bytes c.args.output.now (ap (λ (t : List ℕ). length t) c.text.ensures) given c.in_ok-bytes.ensures.done
          (sym c.is_over.ensures ∙ c.if-is_over.true),
    )

pub returns-clause-fits : goal.returns-clause-fits
returns-clause-fits c =
    let given = laid_at (option_map place_value c.args.marks) (place_value c.args.around.now.place) (table_of c.args.around.now.macros.now) c.args.budget.now (map seen c.args.tokens.now) in
    ap (λ (m : Option ℕ). fitting m c.args.output.now given) c.in-Some.is
    ∙ fitting-fits c.in-Some.most (length c.text.result.now) c.in_ok-bytes.bytes c.args.output.now (ap (λ (t : List ℕ). length t) c.text.ensures) given c.in_ok-bytes.ensures.done
    (sym c.is_over.ensures ∙ c.if-is_over.false)
