use Rattle.std.proofs.Common.{◌∙◌, ap, map, refl, rules}
use Rattle.std.proofs.lemmas.List.{take_rest}
use Rattle.inc_build.specs.CompilerWords.{items}
use Rattle.inc_build.specs.Views.{seen_word}
use Rattle.inc_build.proofs.WordLemmas.{kept_on}
use Rattle.inc_build.proofs.compiler_words.items.Goals as goal

pub loop-left-preserved : goal.loop-left-preserved
loop-left-preserved c =
    kept_on (items (map seen_word c.args.words.now)) c.loop-left.items.items c.push_kept.new.items.items c.loop-left.left.now _ c.left_after-left.result.now c.word-item.result c.bytes.result.now _ c.reading-takes_next.result
    (search rules) (c.bytes.ensures ∙ ap seen_word c.word-item.is) (rw take_rest refl) c.first.ensures c.reading-takes_next.ensures c.in_ok-push_kept.ensures c.left_after-left.ensures.rest c.loop-left.invariant
