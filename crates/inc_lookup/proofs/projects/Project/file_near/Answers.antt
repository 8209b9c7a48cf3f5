use Rattle.std.proofs.Common.{◌≡◌, ℕ, ◌<◌, true, List, length, Some, sym, subst, ◌∙◌}
use Rattle.std.specs.Prelude.{bytes_eq}
use Rattle.std.proofs.lemmas.Slice.Eq.{bytes_eq-Decides}
use Rattle.inc_lookup.specs.Invariants.{IsKept}
use Rattle.inc_lookup.specs.Projects.{Layout, path_at, place_of}
use Rattle.inc_lookup.proofs.OnePlace.{one_place}
use Rattle.inc_lookup.proofs.projects.Project.file_near.Goals as goal

-- a path is at one place
once : (inside layout : Layout) (longest : ℕ) (p : List ℕ) → IsKept longest inside.paths inside.search.dirs → inside ≡ layout → (k : ℕ) → k < length layout.paths → path_at layout k ≡ p → place_of p layout.paths ≡ Some k
once inside layout longest p kept same =
    subst (λ (l : Layout). (k : ℕ) → k < length l.paths → path_at l k ≡ p → place_of p l.paths ≡ Some k) same
    (λ k within is. one_place inside.paths k p kept.once within is)

-- the path of a file is the one that was looked for
same_path : (near found p : List ℕ) → found ≡ near → bytes_eq found p ≡ true → near ≡ p
same_path near found p is equal = sym is ∙ (bytes_eq-Decides found p).0 equal

pub returns-then-eq-clause-place : goal.returns-then-eq-clause-place
returns-then-eq-clause-place c =
    let same = same_path (path_at c.args.self.now c.args.near) c.path.result.now c.args.path.now c.path.ensures.path (sym c.eq.ensures ∙ c.if-eq.true) in
    sym (once _ c.args.self.now c.self.inside.longest c.args.path.now c.self.invariant c.self.view_is c.args.near c.requires.near same)

pub returns-then-eq-clause-only : goal.returns-then-eq-clause-only
returns-then-eq-clause-only c = λ k within is.
    let same = same_path (path_at c.args.self.now c.args.near) c.path.result.now c.args.path.now c.path.ensures.path (sym c.eq.ensures ∙ c.if-eq.true) in
    sym (once _ c.args.self.now c.self.inside.longest c.args.path.now c.self.invariant c.self.view_is c.args.near c.requires.near same)
    ∙ once _ c.args.self.now c.self.inside.longest c.args.path.now c.self.invariant c.self.view_is k within is

pub returns-then-eq-2-clause-place : goal.returns-then-eq-2-clause-place
returns-then-eq-2-clause-place c =
    let same = same_path (path_at c.args.self.now c.args.next) c.path-2.result.now c.args.path.now c.path-2.ensures.path (sym c.eq-2.ensures ∙ c.if-eq-2.true) in
    sym (once _ c.args.self.now c.self.inside.longest c.args.path.now c.self.invariant c.self.view_is c.args.next c.requires.next same)

pub returns-then-eq-2-clause-only : goal.returns-then-eq-2-clause-only
returns-then-eq-2-clause-only c = λ k within is.
    let same = same_path (path_at c.args.self.now c.args.next) c.path-2.result.now c.args.path.now c.path-2.ensures.path (sym c.eq-2.ensures ∙ c.if-eq-2.true) in
    sym (once _ c.args.self.now c.self.inside.longest c.args.path.now c.self.invariant c.self.view_is c.args.next c.requires.next same)
    ∙ once _ c.args.self.now c.self.inside.longest c.args.path.now c.self.invariant c.self.view_is k within is
