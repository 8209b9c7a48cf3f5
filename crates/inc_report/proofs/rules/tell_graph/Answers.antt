use Rattle.std.proofs.Common.{◌∙◌, [], ap, map, refl, subst, sym}
use Rattle.std.specs.List.{All}
use Rattle.inc_answers.specs.Printed.{end_of}
use Rattle.inc_report.specs.RulesText.{rules_kind, rules_printed, rules_text}
use Rattle.inc_answers.specs.Sending.{Sends}
use Rattle.inc_rules.specs.Judging.{IsWithin}
use Rattle.inc_rules.specs.Views.{seen_judged}
use Rattle.inc_report.proofs.rules.tell_graph.Goals as goal

pub send_rules-requires-clause-within : goal.send_rules-requires-clause-within
send_rules-requires-clause-within g c = subst (λ js. All (λ j. IsWithin c.args.graph.now (seen_judged j)) js) (sym c.deref.ensures.value) c.in_ok-judged.ensures.within

pub returns-clause-sent : goal.returns-clause-sent
returns-clause-sent g c =
    let judged = c.in_ok-judged.judged.items in
    record {
      text = (
        rules_printed c.args.project.now c.args.graph.now (map seen_judged judged),
        (map seen_judged judged, c.in_ok-judged.ensures.judged, refl),
        record {
          ends = c.plain.ensures ∙ ap (end_of []) (c.rules_kind.ensures ∙ ap (λ js. rules_kind (map seen_judged js)) c.deref-2.ensures.value);
          sent = subst (λ js. Sends c.args.out.now c.send_rules.new.out (rules_text c.args.project.now c.args.graph.now (map seen_judged js))) c.deref.ensures.value c.send_rules.ensures;
        },
      );
      nothing = tt;
    }
