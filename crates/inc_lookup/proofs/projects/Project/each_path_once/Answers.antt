use Rattle.std.proofs.Common.{◌≡◌, ℕ, ◌<◌, Some, length, sym, subst, ◌∙◌, refl}
use Rattle.inc_lookup.specs.Invariants.{IsKept}
use Rattle.inc_lookup.specs.Projects.{Layout, path_at}
use Rattle.inc_lookup.proofs.OnePlace.{one_place}
use Rattle.inc_lookup.proofs.projects.Project.each_path_once.Goals as goal

same_place : (i j : ℕ) → Some i ≡ Some j → i ≡ j
same_place i j same = cc

each_once : (inside layout : Layout) (longest : ℕ) → IsKept longest inside.paths inside.search.dirs → inside ≡ layout → (i j : ℕ) → i < length layout.paths → j < length layout.paths
    → path_at layout i ≡ path_at layout j → i ≡ j
each_once inside layout longest kept same =
    subst (λ (l : Layout). (i j : ℕ) → i < length l.paths → j < length l.paths → path_at l i ≡ path_at l j → i ≡ j) same
    (λ i j low_i low_j is.
    same_place i j
    (sym (one_place inside.paths i (path_at inside j) kept.once low_i is) ∙ one_place inside.paths j (path_at inside j) kept.once low_j refl))

pub returns : goal.returns
returns c = each_once _ c.args.self.now c.self.inside.longest c.self.invariant c.self.view_is
