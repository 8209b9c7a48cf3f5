use Rattle.std.proofs.Common.{length, sym}
use Rattle.inc_macro.proofs.NameLengths.{no-length, other-length}
use Rattle.inc_macro.proofs.reserved_names.is_predefined.Goals as goal

pub returns-then-not-is_predefined_length : goal.returns-then-not-is_predefined_length
returns-then-not-is_predefined_length c =
    sym (other-length c.args.language c.args.name.now
    (no-length (length c.args.name.now) c.is_predefined_length.result c.is_predefined_length.ensures c.if-not-is_predefined_length.true))
