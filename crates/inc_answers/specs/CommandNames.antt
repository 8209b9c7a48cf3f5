-- What is asked, by the names of commands.
use Rattle.std.specs.Prelude.{ℕ, Bool, true, false, List, codes}
use Rattle.inc_answers.specs.declared.asked.Asked.{Asked}
use Rattle.inc_answers.specs.declared.asked.Asked.TheVariants as asked

abbrev pub command_name : Asked → List ℕ
command_name asked.Why = codes "why"
command_name asked.Who = codes "who"
command_name asked.Graph = codes "graph"
command_name asked.Cut = codes "cut"
command_name asked.Rules = codes "rules"
command_name asked.Cost = codes "cost"
command_name asked.Tree = codes "cost"

-- whether it is about headers, too
abbrev pub asks_headers : Asked → Bool
asks_headers asked.Graph = false
asks_headers asked.Rules = false
asks_headers asked.Cost = false
asks_headers asked.Tree = false
asks_headers _ = true
