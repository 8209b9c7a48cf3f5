use Rattle.std.proofs.Common.{rules, ◌≡◌, ◌+◌, ◌∙◌, ◌++◌, [], ℕ, List, Ok, Err, ap, arith, length, map, subst, sym}
use Rattle.inc_graph.specs.FileSets.{AreFlags}
use Rattle.inc_graph.proofs.Members.{flags_none}
use Rattle.inc_inputs.specs.Ends.{joined_paths, named_files, once_of}
use Rattle.inc_inputs.specs.Reports.{report_of}
use Rattle.inc_inputs.proofs.EndLemmas.{word_fault, word_more, words_end}
use Rattle.inc_inputs.proofs.OnceLemmas.{before_none, once_more}
use Rattle.inc_inputs.proofs.ends.paths_of.Goals as goal

pub loop-word-init : goal.loop-word-init
loop-word-init c =
    let layout = c.args.project.now in
    let nothing : map (λ p. p.now) c.new-paths.result.items ≡ [] = ap (map (λ p. p.now)) c.new-paths.ensures.items in
    record {
      done = ([], nothing, before_none (joined_paths layout c.args.side (map (λ w. w.now) c.args.words.now)));
      flags = subst (λ ps. AreFlags (named_files layout ps) c.in_ok-taken.taken.items) (sym nothing)
          (flags_none c.count.result c.in_ok-taken.taken.items (c.in_ok-taken.ensures.items_if_clones_equal (search rules)));
      long = search rules;
    }

pub returns-in-Err : goal.returns-in-Err
returns-in-Err c not =
    ap (once_of c.args.project.now) (word_fault (λ w. w.now) c.args.project.now c.args.side c.args.words.now c.loop-word.word-index _ c.loop-word-test.true c.loop-word.invariant.done.0 _
    (report_of c.in-Err.failure) (c.in-Err.ensures.fault (λ same. not (ap Err same))) c.loop-word.invariant.done.2)

pub loop-word-preserved : goal.loop-word-preserved
loop-word-preserved c =
    let layout = c.args.project.now in
    let all = joined_paths layout c.args.side (map (λ w. w.now) c.args.words.now) in
    let done = c.loop-word.invariant.done in
    let more = c.in-Ok.ensures.added in
    record {
      done = (
        done.0 ++ more.0,
        once_more layout done.0 more.0 (map (λ p. p.now) c.loop-word.paths.items) _ done.1 more.2,
        word_more (λ w. w.now) layout c.args.side c.args.words.now c.loop-word.word-index _ c.loop-word-test.true done.0 more.0 all more.1 done.2,
      );
      flags = c.in-Ok.ensures.flags;
      long = c.in-Ok.ensures.long;
    }

pub returns : goal.returns
returns c _ =
    let done = c.loop-word.invariant.done in
    let end : c.loop-word.word-index ≡ length c.args.words.now = omega (arith, c.loop-word-test.false, c.loop-word.auto) in
    ap (λ (ps : List (List ℕ)). Ok ps) done.1
    ∙ ap (once_of c.args.project.now) (words_end (λ w. w.now) c.args.project.now c.args.side c.args.words.now c.loop-word.word-index done.0 _ end done.2)
