use Rattle.std.proofs.Common.{◌∙◌, ℕ, List, None, Option, ap, length, map, option_map, refl, sym}
use Rattle.inc_macro.specs.Tables.{table_of}
use Rattle.inc_expand.specs.Items.{seen_item}
use Rattle.inc_expand.specs.Places.{place_value}
use Rattle.inc_pp.specs.Pragmas.{laid}
use Rattle.inc_pp.specs.Steps.{short_of}
use Rattle.inc_pp.proofs.MeasureSteps.{short-fits, short-over}
use Rattle.inc_pp.proofs.measures.check_items.Goals as goal

pub returns-then-is_over-clause-stop : goal.returns-then-is_over-clause-stop
returns-then-is_over-clause-stop c =
    let given = laid (table_of c.args.around.now.macros.now).language (option_map place_value c.args.marks) None (map seen_item c.args.items.now) in (
      refl,
      ap (λ (m : Option ℕ). short_of m c.args.output.now given) c.in-Some.is
          ∙ short-over c.in-Some.most (length c.text.result.now) c.in_ok-bytes.bytes c.args.output.now (ap (λ (t : List ℕ). length t) c.text.ensures) given c.in_ok-bytes.ensures.done
          (sym c.is_over.ensures ∙ c.if-is_over.true),
    )

pub returns-clause-fits : goal.returns-clause-fits
returns-clause-fits c =
    let given = laid (table_of c.args.around.now.macros.now).language (option_map place_value c.args.marks) None (map seen_item c.args.items.now) in
    ap (λ (m : Option ℕ). short_of m c.args.output.now given) c.in-Some.is
    ∙ short-fits c.in-Some.most (length c.text.result.now) c.in_ok-bytes.bytes c.args.output.now (ap (λ (t : List ℕ). length t) c.text.ensures) given c.in_ok-bytes.ensures.done
    (sym c.is_over.ensures ∙ c.if-is_over.false)
