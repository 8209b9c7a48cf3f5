-- Directories of a project, one more at a time.
use Rattle.std.proofs.Common.{◌≡◌, ℕ, Bool, false, ◌&&◌, ◌+◌, ◌<◌, Option, Some, None, List, [], ◌∷◌, ◌++◌, if◌then◌else◌, codes, length, drop, get_or, map, refl, sym, ap, ◌∙◌}
use Rattle.std.proofs.lemmas.List.{drop_more}
use Rattle.inc_build.specs.declared.compiler_words.Kind.{Kind}
use Rattle.inc_inputs.specs.BuildNotes.{Kept, none, with_lines}
use Rattle.inc_args.specs.Meaning.{FileWords, Question}
use Rattle.inc_inputs.specs.BuildProjects.{Added, Chosen, Dirs, Found, Ground, added_by, all_dirs, all_empty, are_dirs_utf8, are_ends_utf8, compiled_of, empty_lines, found_files, found_of_uses, found_question, header_form, in_place, known_with, macros_of, nul_ended, once, other_dirs, path_empty, rows_at, unless_named, used_paths, words_fault}
use Rattle.inc_inputs.specs.Reports.{Report, not_utf8}
use Rattle.inc_inputs.proofs.NoteLemmas.{with_lines-append}

-- the notes of one more include path
pub paths_more : {X : Type 0} (f : X → Dirs) (files : List (List ℕ)) (xs : List X) (at : ℕ) (x : X) (k l : Kept) (known more : List (List ℕ)) → at < length xs → x ≡ get_or xs at x
    → l ≡ with_lines k (path_empty files known (f x)) → more ≡ known_with known (f x)
    → with_lines l (all_empty files more (map f (drop (at + 1) xs))) ≡ with_lines k (all_empty files known (map f (drop at xs)))
paths_more {X} f files xs at x k l known more low is noted named =
    let rest : List Dirs = map f (drop (at + 1) xs) in
    ap (λ (n : Kept). with_lines n (all_empty files more rest)) noted
    ∙ ap (λ (ns : List (List ℕ)). with_lines (with_lines k (path_empty files known (f x))) (all_empty files ns rest)) named
    ∙ sym (with_lines-append k (path_empty files known (f x)) (all_empty files (known_with known (f x)) rest))
    ∙ ap (λ (y : X). with_lines k (all_empty files known (f y ∷ rest))) is
    ∙ ap (λ (ds : List X). with_lines k (all_empty files known (map f ds))) (sym (drop_more xs at x low))

-- directories of all sorts
pub path_noted : (files : List (List ℕ)) (d : Dirs) (k l m n o : Kept) (ks ls ms ns : List (List ℕ))
    → l ≡ with_lines k (empty_lines files (codes "-I") ks d.dirs) → ls ≡ once ks d.dirs
    → m ≡ with_lines l (empty_lines files (codes "-iquote") ls d.quoted) → ms ≡ once ls d.quoted
    → n ≡ with_lines m (empty_lines files (codes "-isystem") ms d.system) → ns ≡ once ms d.system
    → o ≡ with_lines n (empty_lines files (codes "-idirafter") ns d.last) → o ≡ with_lines k (path_empty files ks d)
path_noted files d k l m n o ks ls ms ns first_is ls_are second_is ms_are third_is ns_are last =
    let first : List (List ℕ) = empty_lines files (codes "-I") ks d.dirs in
    let second : List (List ℕ) = empty_lines files (codes "-iquote") (once ks d.dirs) d.quoted in
    let third : List (List ℕ) = empty_lines files (codes "-isystem") (once (once ks d.dirs) d.quoted) d.system in
    let fourth : List (List ℕ) = empty_lines files (codes "-idirafter") (once (once (once ks d.dirs) d.quoted) d.system) d.last in
    rw (last, ns_are, third_is, ms_are, second_is, ls_are, first_is)
    (sym (with_lines-append k first (second ++ (third ++ fourth)) ∙ with_lines-append (with_lines k first) second (third ++ fourth)
    ∙ with_lines-append (with_lines (with_lines k first) second) third fourth))

-- an include path and others
pub paths_noted : (files : List (List ℕ)) (d : Dirs) (ds : List Dirs) (k l m : Kept) (ks ls : List (List ℕ)) → k ≡ none → ks ≡ []
    → l ≡ with_lines k (path_empty files ks d) → ls ≡ known_with ks d → m ≡ with_lines l (all_empty files ls ds) → m ≡ with_lines none (all_empty files [] (d ∷ ds))
paths_noted files d ds k l m ks ls e f g h last =
    rw (last, h, g, f, e) (sym (with_lines-append none (path_empty files [] d) (all_empty files (known_with [] d) ds)))

-- a project, part by part
pub project_made : (g : Ground) (files headers : List (List ℕ)) (words : FileWords) (c : Chosen) (own : Dirs) (used : List ℕ) (list : List ℕ) (hs : List (List ℕ)) (ms : List (Kind × List ℕ)) (a : Added)
    → own ≡ all_dirs g (rows_at g.build c.uses) words → used ≡ used_paths c.uses → list ≡ nul_ended files → hs ≡ map (header_form g files) headers → ms ≡ macros_of g c.uses
    → a ≡ added_by g files c own (other_dirs g words used) (compiled_of g used)
    → (let f : Found = record { list = list; dirs = own.dirs; quoted = own.quoted; system = own.system; last = own.last; sources = c.sources; headers = hs; macros = ms; added = a } in f)
    ≡ found_of_uses g files headers words c
project_made g files headers words c own used list hs ms a d e h i j k = rw (k, j, i, h, e, d) refl

-- a question and a preprocessing, part by part
pub question_made : (f : Found) (q : Question) (files : FileWords) (source header without : Option (List ℕ)) (from to drops external undefined : List (List ℕ)) (strict : Bool)
    → files ≡ found_files f → source ≡ in_place q.source f.sources → header ≡ in_place q.header f.headers
    → from ≡ unless_named q.source f.sources → to ≡ unless_named q.header f.headers → without ≡ q.without → drops ≡ q.drop → external ≡ q.external → undefined ≡ q.undefined → strict ≡ q.is_strict
    → (let p : Question = record { files = files; source = source; header = header; from = from; to = to; without = without; drop = drops; is_strict = strict; external = external; undefined = undefined } in p) ≡ found_question f q
question_made f q files source header without from to drops external undefined strict a b c d e g h i j k = rw (a, b, c, d, e, g, h, i, j, k) refl

-- a word for a source or a header that is no text is reported, whatever the directories are
pub ends_told : (f : Found) → are_ends_utf8 f ≡ false → words_fault f ≡ Some not_utf8
ends_told f is =
    let none : Option Report = None in
    ap (λ (b : Bool). if b && are_dirs_utf8 f then none else Some not_utf8) is
