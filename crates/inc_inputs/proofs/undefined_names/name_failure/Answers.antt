use Rattle.std.proofs.Common.{rules, ◌≡◌, Some, None, Bool, false, if◌then◌else◌, ap, sym, ◌∙◌}
use Rattle.inc_token.specs.Spellings.{class_of}
use Rattle.inc_macro.specs.Macros.{is_reserved}
use Rattle.inc_inputs.specs.UndefinedNames.{is_identifier, always_defined, no_identifier}
use Rattle.inc_inputs.proofs.undefined_names.name_failure.Goals as goal

pub returns-then-not-is_identifier : goal.returns-then-not-is_identifier
returns-then-not-is_identifier c = λ kept.
    let is : is_identifier (class_of c.args.language c.args.name.now) ≡ false = search rules in
    ap (λ (b : Bool). if b then (if is_reserved c.args.language c.args.name.now then Some (always_defined c.args.name.now) else None) else Some (no_identifier c.args.name.now)) is
    ∙ ap Some (sym (c.not_undefined.ensures kept))
