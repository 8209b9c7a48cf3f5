-- The outlook that the walk over a file's lines, from the last one on, has so far.
use Rattle.std.specs.Prelude.{reverse}
use Rattle.inc_directive.specs.Plans.{Outlook}
use Rattle.inc_directive.specs.declared.sections.Below.{Below}

abbrev pub outlook_of : Below → Outlook
outlook_of b = record { pending = reverse b.pending.items; fault = b.fault }
