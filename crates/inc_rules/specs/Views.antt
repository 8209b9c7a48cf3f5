-- How definitions see rules, faults and sides.
use Rattle.std.specs.Prelude.{◌≡◌, ℕ, Option, Some, None, Result, Err, IfSome, map}
use Rattle.inc_rules.specs.Rules.{Rule, Fault, fault}
use Rattle.inc_rules.specs.Judging.{Judged}
use Rattle.inc_rules.specs.declared.judging.Judged.{Judged as JudgedValue}
use Rattle.inc_rules.specs.declared.rules.Rule.{Rule as RuleValue}
use Rattle.inc_rules.specs.declared.rules.RuleFault.{RuleFault}
use Rattle.inc_rules.specs.declared.rules.RuleFault.TheVariants.{Malformed, NoMemory}

abbrev pub seen_rule : RuleValue → Rule
seen_rule r = record {
  line = r.line;
  words = map (λ w. w.now) r.words.items;
  left = r.left.now;
  verb = r.verb;
  right = r.right.now;
  except = map (λ g. g.now) r.except.items;
}

-- what a fault says of a text: the number of a line, and what is wrong with it
abbrev pub seen_fault : RuleFault → Option (ℕ × Fault)
seen_fault (Malformed line kind words) = Some (line, fault kind (map (λ w. w.now) words.items))
seen_fault NoMemory = None

-- where a fault says something of a text, that is the fault of a line with this number
abbrev pub IsFault : {A : Type 0} → RuleFault → (line : ℕ) → Result A Fault → Type 0
IsFault f line r = IfSome (seen_fault f) (λ (e : ℕ × Fault). (e.0 ≡ line) × (r ≡ Err e.1))

-- a rule and what breaks it
abbrev pub seen_judged : JudgedValue → Judged
seen_judged j = record { rule = seen_rule j.rule.now; chains = map (λ c. c.items) j.chains.items; files = j.files.items }
