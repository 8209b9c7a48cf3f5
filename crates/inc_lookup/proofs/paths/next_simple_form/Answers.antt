use Rattle.std.proofs.Common.{◌≡◌, ◌<◌, false, length, sym, ◌∙◌, arith}
use Rattle.inc_lookup.specs.Paths.{is_absolute}
use Rattle.inc_lookup.proofs.SimplePaths.{simple_kept}
use Rattle.inc_lookup.proofs.paths.next_simple_form.Goals.{else-form-path-via-then-form-path+else-is_absolute, else-form-path-via-else-form-path}
use Rattle.inc_lookup.proofs.paths.next_simple_form.Goals as goal

pub returns-then-follows-clause-form : goal.returns-then-follows-clause-form
returns-then-follows-clause-form c =
    let path = c.args.path.now in
    let form = c.kept_form-form.result.now in
    let relative : length form < length path → is_absolute form ≡ false = λ low. elim c.else-form-path.branch [
      | else-form-path-via-then-form-path+else-is_absolute w ↦ sym w.is_absolute.ensures ∙ w.if-is_absolute.false
      | else-form-path-via-else-form-path w ↦ absurd (omega (arith, w.if-form-path.false))
    ] in
    simple_kept path form c.kept_form-form.ensures relative (c.follows.ensures.simple c.if-follows.true)
