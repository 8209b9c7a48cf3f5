use Rattle.std.proofs.Common.{◌∙◌, List, Ok, Err, map, subst}
use Rattle.std.specs.String.{string_bytes}
use Rattle.clap.specs.Words.{FailsBy, Text, fault_of}
use Rattle.clap.specs.declared.parser.matches.ArgMatches.{ArgMatches}
use Rattle.inc_args.specs.CommandLine.{incut}
use Rattle.inc_args.proofs.Simple.{found_by, fails_by, meant}
use Rattle.inc_args.proofs.reading.read_args.Goals as goal

pub returns-in_ok-read_matches-in-Ok-clause-meaning : goal.returns-in_ok-read_matches-in-Ok-clause-meaning
returns-in_ok-read_matches-in-Ok-clause-meaning c =
    let found = found_by _ _ _ c.in_ok-command.ensures c.in-Ok.ensures.matches in
    c.in_ok-read_matches-in-Ok.ensures
    ∙ meant (map string_bytes c.args.words.now) (map string_bytes c.split.result.0.now) (map string_bytes c.split.result.1.now) _ _ c.split.ensures.own c.split.ensures.compiler found.0 found.1

pub returns-in_ok-read_matches-in-Ok-clause-taken : goal.returns-in_ok-read_matches-in-Ok-clause-taken
returns-in_ok-read_matches-in-Ok-clause-taken c =
    subst (λ (ws : List Text). FailsBy (fault_of incut ws) (Ok c.in-Ok.matches)) c.split.ensures.own
    (fails_by _ _ (Ok c.in-Ok.matches) c.in_ok-command.ensures c.in-Ok.ensures.kinds)

pub returns-in-Err-clause-refused : goal.returns-in-Err-clause-refused
returns-in-Err-clause-refused c =
    c.fault_of.ensures _
    (subst (λ (ws : List Text). FailsBy {T = ArgMatches} (fault_of incut ws) (Err c.in-Err.error)) c.split.ensures.own
    (fails_by {T = ArgMatches} _ _ (Err c.in-Err.error) c.in_ok-command.ensures c.in-Err.ensures.kinds))
