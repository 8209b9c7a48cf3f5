use Rattle.std.proofs.Common.{ap, ap₂, sym, ◌∙◌, false, List, ◌++◌, Option, None, map, option_map, take}
use Rattle.std.proofs.Math.Seq.{take-append_seam}
use Rattle.inc_text.specs.declared.languages.Language.{Language}
use Rattle.inc_token.specs.Views.{seen}
use Rattle.inc_macro.specs.Tables.{table_of}
use Rattle.inc_expand.specs.Expansion.{Place}
use Rattle.inc_expand.specs.Places.{place_value}
use Rattle.inc_pp.specs.Pragmas.{before, laid}
use Rattle.inc_pp.specs.Steps.{laid_at}
use Rattle.inc_pp.specs.Tasks.{OutToken}
use Rattle.inc_pp.proofs.OperatorSteps.{begun-operators}
use Rattle.inc_pp.proofs.StopSteps.{if-stop}
use Rattle.inc_pp.proofs.expansions.put_operated.Goals as goal

pub operated-result-requires : goal.operated-result-requires
operated-result-requires c =
    begun-operators c.args.around.now.macros.now.language (option_map place_value c.args.marks) c.new-operators.result c.replace-before.result
    (λ is. c.new-operators.ensures.none is
    ∙ ap (λ (l : Language). before (record { tokens = c.replace-before.result; once = false }) (laid l (option_map place_value c.args.marks) None is)) c.language.ensures)
    c.new-operators.ensures.marks c.new-operators.ensures.output

pub returns-in-Ok-clause-done : goal.returns-in-Ok-clause-done
returns-in-Ok-clause-done c =
    let d = c.in-Ok.ensures.done in (
      d.0,
      d.1 ∙ ap (λ (ts : List OutToken). ts ++ d.0) (c.new-operators.ensures.output ∙ c.replace-before.ensures.value),
      ap (λ (m : Option Place). laid_at m (place_value c.args.around.now.place) (table_of c.args.around.now.macros.now) c.args.budget.now (map seen c.args.tokens.now))
          (sym c.new-operators.ensures.marks) ∙ d.2,
    )

pub returns-clause-stop : goal.returns-clause-stop
returns-clause-stop c =
    if-stop c.in-Err.fault _ _ (λ line cause e. (
      e.0,
      c.truncate.ensures ∙ ap₂ (λ k ts. take k ts) c.count-already.ensures (e.1.1
          ∙ ap (λ (ts : List OutToken). ts ++ e.1.0) (c.new-operators.ensures.output ∙ c.replace-before.ensures.value))
          ∙ take-append_seam c.args.output.now e.1.0,
      ap (λ (m : Option Place). laid_at m (place_value c.args.around.now.place) (table_of c.args.around.now.macros.now) c.args.budget.now (map seen c.args.tokens.now))
          (sym c.new-operators.ensures.marks) ∙ e.2,
    )) c.in-Err.ensures.stop
