use Rattle.std.proofs.Common.{List, ℕ, drop, map}
use Rattle.inc_answers.specs.JsonAnswers.{edges_text}
use Rattle.inc_answers.proofs.JsonSteps.{Makes, with_items}
use Rattle.inc_answers.proofs.json_parts.JsonText.put_edge_lists.Given as goal

-- the lists that are left make the list
abbrev pub invariant-loop-place : goal.invariant-loop-place
invariant-loop-place l = Makes edges_text l.self l.place (drop l.place (map (λ c. c.items) l.chains)) (with_items edges_text l.initial.self (map (λ c. c.items) l.chains))
