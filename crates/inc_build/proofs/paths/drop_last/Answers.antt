use Rattle.inc_build.proofs.PathLemmas.{Shows-cut, Shows-none}
use Rattle.inc_build.proofs.paths.drop_last.Goals as goal

pub returns-in-Some : goal.returns-in-Some
returns-in-Some c = λ parts shows. rw (c.truncate.ensures.items) (Shows-cut parts _ _ (rw c.as_slice.ensures.value at c.in-Some.ensures) shows)

pub returns-in_default : goal.returns-in_default
returns-in_default c = λ parts shows. Shows-none parts _ (rw c.as_slice.ensures.value at c.in_default.ensures) shows
