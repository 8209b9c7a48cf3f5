use Rattle.std.proofs.Common.{◌∙◌}
use Rattle.inc_lookup.proofs.RisingLists.{kept_at}
use Rattle.inc_lookup.proofs.path_lists.RisingPaths.path.Goals as goal

pub returns : goal.returns
returns c = rw (← c.self.view_is) (c.kept_form.ensures ∙ kept_at c.self.inside.written.now c.args.index _ (rw c.self.view_is c.requires))
