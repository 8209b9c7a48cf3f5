-- Rules that are asked about, and how much is asked about costs, as the code holds them.
use Rattle.std.specs.Prelude.{map}
use Rattle.inc_answers.specs.Terms.{CostWords, RuleList}
use Rattle.inc_answers.specs.declared.asked.CostWords.{CostWords as declared_costs}
use Rattle.inc_answers.specs.declared.asked.RuleList.{RuleList as declared}
use Rattle.inc_rules.specs.Views.{seen_rule}

abbrev pub seen_list : declared → RuleList
seen_list l = record { name = l.name.now; rules = map seen_rule l.rules.now }

abbrev pub seen_costs : declared_costs → CostWords
seen_costs c = record { most = c.most; groups = c.groups.now }
