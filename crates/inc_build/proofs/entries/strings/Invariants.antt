use Rattle.std.proofs.Common.{◌≡◌, ◌++◌, map, option_map, drop}
use Rattle.serde_json.specs.View.{items_view}
use Rattle.inc_build.specs.Entries.{strings}
use Rattle.inc_build.specs.Views.{seen_word}
use Rattle.inc_build.proofs.entries.strings.Given as goal

-- the words so far, and the strings of the rest, are all
abbrev pub invariant-loop-item : goal.invariant-loop-item
invariant-loop-item l = option_map (λ ss. map seen_word l.words.items ++ ss) (strings (items_view (drop l.item-index l.items))) ≡ strings (items_view l.items)
