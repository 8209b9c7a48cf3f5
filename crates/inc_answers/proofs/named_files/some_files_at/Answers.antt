use Rattle.std.proofs.Common.{rules, ◌<◌, ◌∙◌, IfOk, List, Ok, Err, Result, arith, length, map, ℕ}
use Rattle.std.proofs.lemmas.List.{length-map}
use Rattle.inc_answers.proofs.NameLemmas.{some_are, some_named}
use Rattle.inc_answers.proofs.named_files.some_files_at.Goals as goal

ok_all : {T E : Type 0} (r : Result T E) (P Q : T → Type 0) → ((x : T) → P x → Q x) → IfOk r P → IfOk r Q
ok_all (Ok x) P Q f h = f x h
ok_all (Err e) P Q f h = tt

pub returns-clause-some : goal.returns-clause-some
returns-clause-some c =
    let ps : List (List ℕ) = map (λ p. p.now) c.args.paths.now in
    let long : 0 < length c.args.paths.now = search rules in
    let some : 0 < length ps = omega (arith, long, length-map c.args.paths.now (λ p. p.now)) in
    ok_all c.files_at.result _ _ (λ files is. some_named c.args.project.now ps files.items (some_are c.args.project.now ps some ∙ is)) c.files_at.ensures.files
