-- Which causes of a stop are not that memory ran out, in none of the crates that they come from.
use Rattle.std.specs.Prelude.{◌≢◌, ⊤}
use Rattle.inc_token.specs.declared.lines.LexFault.TheVariants as lex
use Rattle.inc_directive.specs.declared.sections.BalanceFault.TheVariants as balance
use Rattle.inc_macro.specs.declared.faults.DefineFault.TheVariants as define
use Rattle.inc_expand.specs.declared.faults.ExpandFault.TheVariants as expand
use Rattle.inc_cond.specs.declared.faults.CondFault.TheVariants as cond
use Rattle.inc_pp.specs.declared.causes.Cause.{Cause}
use Rattle.inc_pp.specs.declared.causes.Cause.TheVariants.{Lex, Balance, Define, Expand, Condition}

-- no fault in the cause is that memory ran out
abbrev pub IsNotMemory : Cause → Type 0
IsNotMemory (Lex fault) = fault ≢ lex.NoMemory
IsNotMemory (Balance fault) = fault ≢ balance.NoMemory
IsNotMemory (Define fault) = fault ≢ define.NoMemory
IsNotMemory (Expand fault) = fault ≢ expand.NoMemory
IsNotMemory (Condition fault) = (fault ≢ cond.NoMemory) × (fault ≢ cond.Expand expand.NoMemory)
IsNotMemory _ = ⊤
