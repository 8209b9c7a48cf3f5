-- What a call prints, and how it ends.
use Rattle.std.specs.Prelude.{ℕ, Bool, true, false, List, []}
use Rattle.inc_answers.specs.declared.outcome.End.{End}
use Rattle.inc_answers.specs.declared.outcome.EndKind.{EndKind}
use Rattle.inc_answers.specs.declared.outcome.EndKind.TheVariants.{Answered, Negative, Refused}

-- a printed text, and how the call ends
pub record Printed : Type 0 where
  pub text : List ℕ
  pub end : End

-- with these notes, and no other text
abbrev pub end_of : (notes : List ℕ) → EndKind → End
end_of notes kind = record { kind = kind; notes = notes; rules = []; endings = []; stops = []; baseline = [] }

-- the same with these texts: rules for make, how sources ended, and why those stopped that did
abbrev pub with_texts : (rules endings stops : List ℕ) → End → End
with_texts rules endings stops e =
    record { kind = e.kind; notes = e.notes; rules = rules; endings = endings; stops = stops; baseline = e.baseline }

-- the same with the lines of a baseline
abbrev pub with_baseline : (lines : List ℕ) → End → End
with_baseline lines e =
    record { kind = e.kind; notes = e.notes; rules = e.rules; endings = e.endings; stops = e.stops; baseline = lines }

-- how a call ends with the answer that a header is reached: that one is negative where it is asked to fail
abbrev pub reached_kind : (fails : Bool) → EndKind
reached_kind true = Negative
reached_kind false = Answered

-- an answer with notes
abbrev pub answered_of : (notes : List ℕ) → List ℕ → Printed
answered_of notes text = record { text = text; end = end_of notes Answered }

abbrev pub negative_of : (notes : List ℕ) → List ℕ → Printed
negative_of notes text = record { text = text; end = end_of notes Negative }

-- any other one, beside which nothing is noted
abbrev pub answered : List ℕ → Printed
answered text = answered_of [] text

abbrev pub negative : List ℕ → Printed
negative text = negative_of [] text

-- a refusal beside which a reason stands
abbrev pub refused_for : (reason : List ℕ) → List ℕ → Printed
refused_for reason text = record { text = text; end = end_of reason Refused }

abbrev pub refused : List ℕ → Printed
refused text = refused_for [] text
