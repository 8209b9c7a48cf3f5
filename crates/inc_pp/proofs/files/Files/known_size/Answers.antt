use Rattle.std.proofs.Common.{◌≡◌, inl, inr, refl, sym, ◌∙◌}
use Rattle.inc_pp.specs.Walks.{known_at}
use Rattle.inc_pp.proofs.Readings.{if-unread, known_less, known_size}
use Rattle.inc_pp.proofs.files.Files.known_size.Goals as goal

pub returns-in-Some-clause-known : goal.returns-in-Some-clause-known
returns-in-Some-clause-known g c =
    let k = known_size (known_at c.args.self.now c.args.file) c.in-Some.size (sym c.size.ensures ∙ c.in-Some.is) in
    inl (k.0, k.1, k.2, refl, refl)

pub returns-in-Ok-clause-known : goal.returns-in-Ok-clause-known
returns-in-Ok-clause-known g c =
    inr (c.in-Ok.ensures.loaded, known_less (known_at c.args.self.now c.args.file) (sym c.size.ensures ∙ c.in_default.is))

pub returns-in-Err-clause-unread : goal.returns-in-Err-clause-unread
returns-in-Err-clause-unread g c =
    if-unread c.in-Err.fault (λ why h. (known_less (known_at c.args.self.now c.args.file) (sym c.size.ensures ∙ c.in_default.is), h.0, h.1, h.2)) c.in-Err.ensures.unread
