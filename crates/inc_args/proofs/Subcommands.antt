-- A command line with one more command.
use Rattle.std.proofs.Common.{◌≡◌, ◌∙◌, true, ap, ap₂}
use Rattle.clap.proofs.SimpleLemmas.{plain_fields}
use Rattle.clap.specs.Words.{AddsSubcommand, App, app_of}
use Rattle.clap.specs.declared.builder.command.Command.{Command}
use Rattle.inc_args.specs.CommandLine.{with_command}

pub added : (old sub new : Command) (a b : App) → AddsSubcommand old sub new → app_of old ≡ a → app_of sub ≡ b → b.top.is_plain ≡ true
    → app_of new ≡ with_command a b
added old sub new a b adds old_is sub_is plain =
    adds.shape (plain_fields sub (ap (λ (x : App). x.top.is_plain) sub_is ∙ plain)).globals ∙ ap₂ with_command old_is sub_is
