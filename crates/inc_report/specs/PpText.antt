-- The text that `pp` prints of an outcome: the tokens, and where it stopped, if it did.
use Rattle.std.specs.Prelude.{ℕ, List, ◌++◌, Some, None, codes}
use Rattle.inc_directive.specs.declared.sections.BalanceFault.{BalanceFault}
use Rattle.inc_directive.specs.declared.sections.BalanceFault.TheVariants as balance
use Rattle.inc_lookup.specs.Projects.{Layout}
use Rattle.inc_macro.specs.declared.faults.DefineFault.{DefineFault}
use Rattle.inc_macro.specs.declared.faults.DefineFault.TheVariants as define
use Rattle.inc_expand.specs.declared.faults.ExpandFault.{ExpandFault}
use Rattle.inc_expand.specs.declared.faults.ExpandFault.TheVariants as expand
use Rattle.inc_cond.specs.declared.faults.CondFault.{CondFault}
use Rattle.inc_cond.specs.declared.faults.CondFault.TheVariants as cond
use Rattle.inc_pp.specs.declared.causes.Cause.{Cause}
use Rattle.inc_pp.specs.declared.causes.Cause.TheVariants as cause
use Rattle.inc_pp.specs.declared.causes.Stop.{Stop}
use Rattle.inc_pp.specs.Preprocessing.{Outcome}
use Rattle.inc_pp.specs.Printed.{printed}
use Rattle.inc_answers.specs.MarkTexts.{mark_at, mark_text}
use Rattle.inc_answers.specs.Numbers.{point_text}
use Rattle.inc_answers.specs.Printed.{Printed, answered, negative}

-- the numbers of faults, in the order of their types; a want of memory is none
abbrev pub balance_number : BalanceFault → ℕ
balance_number (balance.OpenIf line) = 1
balance_number (balance.StrayBranch line) = 2
balance_number (balance.AfterElse line) = 3
balance_number balance.NoMemory = 0

abbrev pub define_number : DefineFault → ℕ
define_number define.NoName = 1
define_number define.ReservedName = 2
define_number define.BadParameters = 3
define_number define.TooManyParameters = 4
define_number define.StrayVaArgs = 5
define_number define.HashWithoutParameter = 6
define_number define.PasteAtEnd = 7
define_number define.Redefinition = 8
define_number define.BadWord = 9
define_number define.BadOptional = 10
define_number define.BadComma = 11
define_number define.NoMemory = 0

abbrev pub expand_number : ExpandFault → ℕ
expand_number expand.UnclosedCall = 1
expand_number expand.ArgumentCount = 2
expand_number expand.BadString = 3
expand_number expand.BadPaste = 4
expand_number expand.TokenTooLong = 5
expand_number expand.OverBudget = 6
expand_number expand.NoMemory = 0

abbrev pub condition_number : CondFault → ℕ
condition_number (cond.Expand fault) = 1
condition_number cond.BadExpression = 2
condition_number cond.BadNumber = 3
condition_number cond.BadCharacter = 4
condition_number cond.TooNested = 5
condition_number cond.DivideByZero = 6
condition_number cond.BadShift = 7
condition_number cond.NoMemory = 0

-- the number of a cause, and that of the fault inside it, or 0
abbrev pub cause_numbers : Cause → ℕ × ℕ
cause_numbers (cause.Lex fault) = (1, 1)
cause_numbers (cause.Balance fault) = (2, balance_number fault)
cause_numbers (cause.Define fault) = (3, define_number fault)
cause_numbers (cause.Expand fault) = (4, expand_number fault)
cause_numbers (cause.Condition fault) = (5, condition_number fault)
cause_numbers cause.NoSuchHeader = (6, 0)
cause_numbers cause.BadInclude = (7, 0)
cause_numbers cause.BadLine = (8, 0)
cause_numbers cause.BadName = (9, 0)
cause_numbers cause.UnknownDirective = (10, 0)
cause_numbers cause.ErrorDirective = (11, 0)
cause_numbers cause.TooDeep = (12, 0)
cause_numbers cause.TooManyReads = (13, 0)
cause_numbers cause.BadPragma = (14, 0)
cause_numbers cause.Poisoned = (15, 0)
cause_numbers cause.TooMuchRead = (17, 0)
cause_numbers cause.TooMuchOutput = (18, 0)

-- a stop: cause and fault, and where
abbrev pub stop_text : Layout → Stop → List ℕ
stop_text layout s = codes "stop " ++ point_text (cause_numbers s.cause) ++ codes " " ++ mark_text (mark_at layout s.file s.line)

-- an outcome, printed
abbrev pub outcome_printed : Layout → Outcome → Printed
outcome_printed layout o =
    elim o.stop [
      | None ↦ answered (printed o.tokens)
      | Some s ↦ negative (printed o.tokens ++ stop_text layout s)
    ]
