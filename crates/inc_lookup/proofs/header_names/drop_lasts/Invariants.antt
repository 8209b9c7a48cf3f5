use Rattle.inc_lookup.proofs.ReducedLemmas.{IsWithout}
use Rattle.inc_lookup.proofs.header_names.drop_lasts.Given as goal

-- as many components are taken off as the loop has taken steps
abbrev pub invariant-loop : goal.invariant-loop
invariant-loop l = IsWithout l.root l.counter l.initial.out.items l.out.items
