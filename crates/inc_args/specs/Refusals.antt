-- Which words are refused.
use Rattle.std.specs.Prelude.{List}
use Rattle.clap.specs.Words.{IsAmong, Kinds, Text, fault_of, kind_of}
use Rattle.inc_args.specs.CommandLine.{incut}
use Rattle.inc_args.specs.CompilerCommand.{own_words}
use Rattle.inc_args.specs.declared.faults.ArgsFault.{ArgsFault}
use Rattle.inc_args.specs.declared.faults.ArgsFault.TheVariants.{Usage, NoMemory}

-- the kinds of error that the words may give; none where they are taken. Help and the version are among them. No word of a compiler is refused
abbrev pub refusals : List Text → Kinds
refusals words = fault_of incut (own_words words)

-- the fault is of one of these kinds, or memory ran out
abbrev pub IsRefusal : Kinds → ArgsFault → Type 0
IsRefusal kinds (Usage error) = IsAmong (kind_of error) kinds
IsRefusal kinds NoMemory = Unit {0}
