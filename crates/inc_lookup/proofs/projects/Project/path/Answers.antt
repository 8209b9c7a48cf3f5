use Rattle.std.proofs.Common.{◌≡◌, ℕ, List, [], ◌<◌, ◌≤◌, All, length, get_or, subst, sym}
use Rattle.inc_lookup.specs.declared.listings.TheConstants.{LONGEST_PATH}
use Rattle.inc_lookup.specs.Invariants.{IsNormal}
use Rattle.inc_lookup.specs.Projects.{Layout}
use Rattle.inc_lookup.proofs.projects.Project.path.Goals as goal

-- what holds of all paths holds of that of a file
holds_of : (P : List ℕ → Type 0) (inside layout : Layout) (index file : ℕ) (path : List ℕ) → inside ≡ layout → index ≡ file
    → file < length layout.paths → All P inside.paths → path ≡ get_or inside.paths index [] → P path
holds_of P inside layout index file path same is low all at =
    let there : index < length layout.paths = subst (λ (i : ℕ). i < length layout.paths) (sym is) low in
    let within : index < length inside.paths = subst (λ (l : Layout). index < length l.paths) (sym same) there in
    subst P (sym at) (all index [] within)

pub returns-clause-normal : goal.returns-clause-normal
returns-clause-normal c =
    holds_of IsNormal _ c.args.self.now c.file.inside.index c.args.file c.path.result.now c.self.view_is c.file.view_is
    c.requires c.self.invariant.paths_normal c.path.ensures

pub returns-clause-short : goal.returns-clause-short
returns-clause-short c =
    let short : List ℕ → Type 0 = λ path. length path ≤ LONGEST_PATH in
    holds_of short _ c.args.self.now c.file.inside.index c.args.file c.path.result.now c.self.view_is c.file.view_is
    c.requires c.self.invariant.paths_short c.path.ensures
