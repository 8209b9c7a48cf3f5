-- The line that says why a preprocessing stopped, beside its stop.
use Rattle.std.specs.Prelude.{ℕ, List, [], Option, Some, None, codes}
use Rattle.inc_cond.specs.declared.faults.CondFault.{CondFault}
use Rattle.inc_cond.specs.declared.faults.CondFault.TheVariants as cond
use Rattle.inc_expand.specs.declared.faults.ExpandFault.{ExpandFault}
use Rattle.inc_expand.specs.declared.faults.ExpandFault.TheVariants as expand
use Rattle.inc_lookup.specs.Projects.{Layout, path_at}
use Rattle.inc_macro.specs.declared.faults.DefineFault.{DefineFault}
use Rattle.inc_macro.specs.declared.faults.DefineFault.TheVariants as define
use Rattle.inc_pp.specs.declared.causes.Cause.{Cause}
use Rattle.inc_pp.specs.declared.causes.Cause.TheVariants as cause
use Rattle.inc_pp.specs.declared.causes.Stop.{Stop}
use Rattle.inc_answers.specs.FaultReasons.{balance_words, reason_line}

-- a fault of a definition in words; that memory ran out is none
abbrev pub define_words : DefineFault → List ℕ
define_words define.NoName = codes "no macro name"
define_words define.ReservedName = codes "the macro name is reserved"
define_words define.BadParameters = codes "bad macro parameters"
define_words define.TooManyParameters = codes "more than 255 macro parameters"
define_words define.StrayVaArgs = codes "__VA_ARGS__ in a macro without `...`"
define_words define.HashWithoutParameter = codes "`#` without a parameter after it"
define_words define.PasteAtEnd = codes "`##` at an end of the macro body"
define_words define.Redefinition = codes "the macro is defined otherwise"
define_words define.BadWord = codes "bad macro definition"
define_words define.BadOptional = codes "bad __VA_OPT__"
define_words define.BadComma = codes "`,` in a chain of `##`"
define_words define.NoMemory = []

-- a fault of an expansion
abbrev pub expand_words : ExpandFault → List ℕ
expand_words expand.UnclosedCall = codes "unterminated call of a macro"
expand_words expand.ArgumentCount = codes "wrong number of macro arguments"
expand_words expand.BadString = codes "`#` does not give a string literal"
expand_words expand.BadPaste = codes "`##` does not give a token"
expand_words expand.TokenTooLong = codes "token of more than 65,536 bytes"
expand_words expand.OverBudget = codes "macro expansion takes too much work"
expand_words expand.NoMemory = []

-- a fault of a condition
abbrev pub condition_words : CondFault → List ℕ
condition_words (cond.Expand fault) = expand_words fault
condition_words cond.BadExpression = codes "bad expression in a condition"
condition_words cond.BadNumber = codes "not an integer constant below 2^64"
condition_words cond.BadCharacter = codes "character constant without a value"
condition_words cond.TooNested = codes "condition nested more than 256 deep"
condition_words cond.DivideByZero = codes "division by zero"
condition_words cond.BadShift = codes "shift by less than 0 or more than 63"
condition_words cond.NoMemory = []

-- a cause in words
abbrev pub cause_words : Cause → List ℕ
cause_words (cause.Lex fault) = codes "unterminated comment"
cause_words (cause.Balance fault) = balance_words fault
cause_words (cause.Define fault) = define_words fault
cause_words (cause.Expand fault) = expand_words fault
cause_words (cause.Condition fault) = condition_words fault
cause_words cause.NoSuchHeader = codes "header not found"
cause_words cause.BadInclude = codes "an include without a header name"
cause_words cause.BadLine = codes "bad #line"
cause_words cause.BadName = codes "no macro name"
cause_words cause.UnknownDirective = codes "unknown directive"
cause_words cause.ErrorDirective = codes "#error"
cause_words cause.TooDeep = codes "includes nested more than 200 deep"
cause_words cause.TooManyReads = codes "more than 100,000 files read"
cause_words cause.BadPragma = codes "bad pragma"
cause_words cause.Poisoned = codes "poisoned name"
cause_words cause.TooMuchRead = codes "too many bytes read"
cause_words cause.TooMuchOutput = codes "too much output"

-- the line on a stop
abbrev pub stop_reason : Layout → Stop → List ℕ
stop_reason layout s = reason_line (path_at layout s.file) s.line (cause_words s.cause)

-- that of an outcome, if it stopped
abbrev pub stop_reasons : Layout → Option Stop → List ℕ
stop_reasons layout None = []
stop_reasons layout (Some s) = stop_reason layout s
