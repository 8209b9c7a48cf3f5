use Rattle.std.proofs.Common.{ap, sym, refl, ◌∙◌}
use Rattle.inc_token.specs.Spellings.{class_of}
use Rattle.inc_expand.specs.Expansion.{is_str, no_names}
use Rattle.inc_expand.specs.Carriers.{carriers}
use Rattle.inc_expand.specs.Lent.{lent_tokens}
use Rattle.inc_expand.proofs.StringSteps.{string-is}
use Rattle.inc_expand.proofs.strings.string_bytes.Goals as goal
use Rattle.inc_text.specs.declared.languages.Language.TheVariants.{C17}

pub returns-clause-string : goal.returns-clause-string
returns-clause-string c space s =
    string-is (carriers s (lent_tokens c.args.written)) space c.in_ok-text.text.items c.in_ok-bytes.bytes.now no_names
    (c.in_ok-text.ensures.text s) (ap (λ t. is_str (class_of C17 t)) (sym c.deref.ensures.value) ∙ sym c.is_string.ensures ∙ c.if-not-is_string.false) (c.in_ok-bytes.ensures ∙ c.deref-2.ensures.value) (λ n. refl)
