use Rattle.std.proofs.Common.{rules, ◌≡◌, ◌<◌, ◌∙◌, ◌∷◌, ◌++◌, [], List, ap, length, map, set, subst, sym, true, ℕ}
use Rattle.std.proofs.lemmas.List.{map-append}
use Rattle.inc_graph.specs.FileSets.{AreFlags}
use Rattle.inc_inputs.specs.Ends.{named_files}
use Rattle.inc_inputs.proofs.OnceLemmas.{flags_file, flags_same}
use Rattle.inc_inputs.proofs.ends.add_new.Goals as goal
use Rattle.inc_inputs.proofs.ends.add_new.Goals.{in-Some+else-has_flag, in_default}

pub returns-clause-flags : goal.returns-clause-flags
returns-clause-flags c =
    let layout = c.args.project.now in
    let paths : List (List ℕ) = map (λ p. p.now) c.args.paths.now.items in
    let path = c.args.path.now in
    let flags = c.args.taken.now.items in
    let pushed : map (λ p. p.now) c.push.new.self.items ≡ paths ++ path ∷ [] =
    ap (map (λ p. p.now)) c.in_ok-push.ensures.items ∙ map-append (λ p. p.now) c.args.paths.now.items (c.args.path ∷ []) in
    let all = named_files layout (paths ++ path ∷ []) in
    let after : AreFlags all c.match-branch-2.taken.items =
    elim c.match-branch-2.branch [
      | in-Some+else-has_flag w ↦
          let within : w.in-Some.file < length flags = search rules in
          let set_there : c.match-branch-2.taken.items ≡ set flags w.in-Some.file true = ap (λ v. v.items) w.taken-is ∙ ap (λ i. set flags i true) w.index.ensures in
          subst (λ bs. AreFlags all bs) (sym set_there) (flags_file layout paths path flags c.requires.flags w.in-Some.file (sym c.in_ok-file.ensures.file ∙ w.in-Some.is) within)
      | in_default w ↦
          subst (λ bs. AreFlags all bs) (sym (ap (λ v. v.items) w.taken-is)) (flags_same layout paths path flags c.requires.flags (sym c.in_ok-file.ensures.file ∙ w.in_default.is))
    ] in
    subst (λ ps. AreFlags (named_files layout ps) c.match-branch-2.taken.items) (sym pushed) after
