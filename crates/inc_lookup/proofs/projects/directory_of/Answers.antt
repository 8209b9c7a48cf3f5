use Rattle.std.proofs.Common.{◌≡◌, ℕ, ◌+◌, ◌<◌, List, [], ◌∷◌, ◌++◌, false, Some, length, take, drop, refl, sym, ap, ◌∙◌, rules, arith}
use Rattle.std.specs.Prelude.{bytes_eq}
use Rattle.std.proofs.lemmas.Bool.{and_right, eq-eqb}
use Rattle.std.proofs.lemmas.List.{length-take-le}
use Rattle.memchr.specs.Find.{IsLastByte, is_byte}
use Rattle.inc_lookup.specs.Paths.{is_absolute}
use Rattle.inc_lookup.specs.Projects.{directory_of}
use Rattle.inc_lookup.specs.Invariants.{IsNormal}
use Rattle.inc_lookup.proofs.PathLemmas.{has_slash_none, last_slash}
use Rattle.inc_lookup.proofs.NormalLemmas.{directory_of-cut, directory_of_bare, normal-before_slash}
use Rattle.inc_lookup.proofs.projects.directory_of.Goals as goal

some_bytes : (A : List ℕ) → 0 < length A → bytes_eq A [] ≡ false
some_bytes [] some = absurd (omega arith)
some_bytes (b ∷ bs) some = refl

directory_some : (path : List ℕ) (slash : ℕ) → IsLastByte (is_byte 47) path (Some slash) → 0 < slash → take slash path ≡ directory_of path
directory_some path slash last some =
    let cut = last_slash path slash last.0.high last.1 last.0.after in
    let long : 0 < length (take slash path) = rw (length-take-le slash path (omega (arith, last.0.high))) some in
    let whole = ap directory_of cut.0 ∙ directory_of-cut (take slash path) (drop (slash + 1) path) cut.1 in
    sym (whole ∙ rw (and_right (is_absolute (take slash path ++ 47 ∷ drop (slash + 1) path)) _ (some_bytes (take slash path) long)) refl)

directory_root : (path : List ℕ) → IsLastByte (is_byte 47) path (Some 0) → take 1 path ≡ directory_of path
directory_root path last =
    let cut = last_slash path 0 last.0.high last.1 last.0.after in
    let whole = ap directory_of cut.0 ∙ directory_of-cut [] (drop 1 path) cut.1 in
    ap (take 1) cut.0 ∙ sym whole

normal_some : (path : List ℕ) (slash : ℕ) → IsLastByte (is_byte 47) path (Some slash) → 0 < slash → IsNormal path → IsNormal (take slash path)
normal_some path slash last some normal =
    let cut = last_slash path slash last.0.high last.1 last.0.after in
    let long : 0 < length (take slash path) = rw (length-take-le slash path (omega (arith, last.0.high))) some in
    normal-before_slash (take slash path) (drop (slash + 1) path) path cut.0 cut.1 long normal

pub returns-in-None-clause-directory : goal.returns-in-None-clause-directory
returns-in-None-clause-directory c =
    sym (directory_of_bare c.args.path.now (has_slash_none c.args.path.now (λ k low slash. c.in-None.ensures k (omega arith) low (eq-eqb _ _ slash))))

pub returns-in-Some-eq0-clause-directory : goal.returns-in-Some-eq0-clause-directory
returns-in-Some-eq0-clause-directory c =
    let zero : c.in-Some-eq0.field-0 ≡ 0 = search rules in
    directory_root c.args.path.now (rw zero at c.in-Some-eq0.ensures)

pub returns-in-Some-clause-directory : goal.returns-in-Some-clause-directory
returns-in-Some-clause-directory c = directory_some c.args.path.now c.in-Some.slash c.in-Some.ensures (omega arith)

pub returns-in-Some-clause-normal : goal.returns-in-Some-clause-normal
returns-in-Some-clause-normal c = λ normal. normal_some c.args.path.now c.in-Some.slash c.in-Some.ensures (omega arith) normal
