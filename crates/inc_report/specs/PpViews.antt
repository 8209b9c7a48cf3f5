-- What the sources of a call have in common, as the definitions see it.
use Rattle.std.specs.Prelude.{◌≡◌, List, ℕ, map}
use Rattle.inc_report.specs.declared.pp.Job.{Job}
use Rattle.inc_report.specs.declared.pp.Told.{Told}
use Rattle.inc_report.specs.declared.pp.Wanted.{Wanted}
use Rattle.inc_report.specs.PpSteps.{Common}
use Rattle.inc_report.specs.PpTexts.{Section, shown}

abbrev pub common_of : Job → Common
common_of job = record { layout = job.project.now; words = map (λ w. w.now) job.words.now; settings = job.settings.now; without = job.removed.now }

-- what is reported of a source beside what is printed of it
abbrev pub IsToldOf : Wanted → (source : List ℕ) → Section → Told → Type 0
IsToldOf wanted source s told =
    (told.rule ≡ (shown wanted source s).end.rules) × (told.ending ≡ (shown wanted source s).end.endings) × (told.stop ≡ (shown wanted source s).end.stops)
