-- The exit statuses: 0 answered, 1 a negative answer, 2 usage error, 3 I/O error, 4 refused, 5 out of memory.
use Rattle.std.specs.Prelude.{ℕ}
use Rattle.clap.specs.declared.error.ErrorKind.{ErrorKind}
use Rattle.clap.specs.declared.error.ErrorKind.TheVariants.{DisplayHelp, DisplayVersion}
use Rattle.inc_answers.specs.declared.outcome.EndKind.{EndKind}
use Rattle.inc_answers.specs.declared.outcome.EndKind.TheVariants.{Answered, Negative, Refused}

-- after a call that prints
abbrev pub status_of : EndKind → ℕ
status_of Answered = 0
status_of Negative = 1
status_of Refused = 4

-- after a text about the arguments: help and the version were asked for
abbrev pub usage_status : ErrorKind → ℕ
usage_status DisplayHelp = 0
usage_status DisplayVersion = 0
usage_status _ = 2
