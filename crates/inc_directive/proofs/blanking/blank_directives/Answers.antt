use Rattle.std.proofs.Common.{ap, ◌∙◌, filter}
use Rattle.inc_text.specs.Flags.{flag_at}
use Rattle.inc_token.specs.Blanking.{blanked}
use Rattle.inc_directive.proofs.BlankedDirectives.{kept_are_removed}
use Rattle.inc_directive.proofs.blanking.blank_directives.Goals as goal

pub returns : goal.returns
returns c =
    c.in_ok-bytes.ensures
    ∙ ap (λ lines. blanked lines c.args.lines.now c.args.source.now)
    (c.deref-2.ensures.value ∙ c.in_ok-begun.ensures
    ∙ ap (λ flags. filter (flag_at flags) c.args.remove.now) c.deref.ensures.value)
    ∙ kept_are_removed c.args.language c.args.remove.now c.args.source.now c.args.lines.now
    (flag_at c.in_ok-flags.flags.items)
    c.requires c.in_ok-flags.ensures
