-- The command line is one of which `clap` says what words mean and which are refused.
use Rattle.std.proofs.Common.{◌≡◌, ◌∙◌, List, Option, Result, true, refl, ap}
use Rattle.clap.proofs.OnLiterals.{clap_on_literals}
use Rattle.clap.specs.Words.{App, FailsBy, HasMatchesOf, Row, Text, fault_of, found_of, is_simple, is_simple_and_free, matches_of, rows_of, subcommand_of, subcommand_rows_of}
use Rattle.clap.specs.declared.error.Error.{Error}
use Rattle.clap.specs.declared.parser.matches.ArgMatches.{ArgMatches}
use Rattle.inc_args.specs.CommandLine.{incut}
use Rattle.inc_args.specs.CompilerCommand.{compiler_words, own_words}
use Rattle.inc_args.specs.Meaning.{meaning, meaning_of}

is_simple_incut : is_simple incut ≡ true
unfolding clap_on_literals
is_simple_incut = refl

is_free_incut : is_simple_and_free incut ≡ true
unfolding clap_on_literals
is_free_incut = refl

-- what is found by a command that is the program
pub found_by : (a : App) (words : List Text) (m : ArgMatches) → a ≡ incut → HasMatchesOf a words m
    → (rows_of (found_of m) ≡ matches_of incut words) × (subcommand_rows_of m ≡ subcommand_of incut words)
found_by a words m is has =
    let both = has (ap is_simple is ∙ is_simple_incut) in
    (both.0 ∙ ap (λ x. matches_of x words) is, both.1 ∙ ap (λ x. subcommand_of x words) is)

-- what is refused by it
pub fails_by : {T : Type 0} (a : App) (words : List Text) (r : Result T Error) → a ≡ incut
    → (is_simple_and_free a ≡ true → FailsBy (fault_of a words) r) → FailsBy (fault_of incut words) r
fails_by a words r is fails = rw (ap (λ x. fault_of x words) is) at fails (ap is_simple_and_free is ∙ is_free_incut)

-- what words mean, of which some are a compiler's
pub meant : (words own compiler : List Text) (rows : List Row) (sub : Option (Text × List Row)) → own ≡ own_words words → compiler ≡ compiler_words words
    → rows ≡ matches_of incut own → sub ≡ subcommand_of incut own → meaning_of rows sub compiler ≡ meaning words
meant words own compiler rows sub own_is compiler_is rows_are sub_is = rw (rows_are, sub_is, own_is, compiler_is) refl
