use Rattle.std.proofs.Common.{◌≡◌, ℕ, List, refl}
use Rattle.inc_lookup.specs.Projects.{Layout, directory_of, found_file}
use Rattle.inc_lookup.specs.declared.projects.Form.{Form}
use Rattle.inc_lookup.specs.declared.projects.Form.TheVariants.{Quoted, Angled}
use Rattle.inc_lookup.proofs.laws.search_goes_by_the_directory.Goals as goal

same_search : (layout : Layout) (p q : List ℕ) (form : Form) (name : List ℕ) → directory_of p ≡ directory_of q → found_file layout p form name ≡ found_file layout q form name
same_search layout p q Quoted name dir = rw dir refl
same_search layout p q Angled name dir = refl

pub returns : goal.returns
returns c = same_search
