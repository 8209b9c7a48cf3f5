use Rattle.inc_inputs.specs.NamedPlaces.{with_word}
use Rattle.inc_inputs.specs.Views.{listed_in}
use Rattle.inc_inputs.proofs.EachLemmas.{Leads}
use Rattle.inc_inputs.proofs.named_marks.with_words.Given as goal

-- the words that are left lead where all of them do
abbrev pub invariant-loop-word : goal.invariant-loop-word
invariant-loop-word g l =
    Leads (with_word g.I.Inputs.gives (listed_in l.listed) l.side) (λ w. w.now) l.words l.initial.marks.items l.marks.items l.word-index l.initial.inputs l.inputs
