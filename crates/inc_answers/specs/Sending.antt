-- Texts on their way to a sink: a front of what was sent is written, and the rest waits in a buffer.
use Rattle.std.specs.Prelude.{◌≡◌, ℕ, Bool, true, false, List, ◌++◌, Option}
use Rattle.std.specs.Io.KnownBytes.{Appends}
use Rattle.inc_text.specs.Devices.{AppendsFront}

-- what a sink holds, as far as it is known, whether it has failed, and what waits for it
pub record Stream : Type 0 where
  pub written : Option (List ℕ)
  pub failed : Bool
  pub waiting : List ℕ

abbrev pub stream : Option (List ℕ) → Bool → List ℕ → Stream
stream written failed waiting = record { written = written; failed = failed; waiting = waiting }

-- the same with another text that waits
abbrev pub with_waiting : Stream → List ℕ → Stream
with_waiting s text = stream s.written s.failed text

-- the sink that held `start` has taken a front of the text, and the rest waits. After a fault a front of the text is written, and the rest is lost
abbrev pub SentBy : (failed : Bool) → (start : Option (List ℕ)) → (text : List ℕ) → (written : Option (List ℕ)) → (waiting : List ℕ) → Type 0
SentBy true start text written waiting = AppendsFront start written text
SentBy false start text written waiting = (sent : List ℕ) × Appends start written sent × (text ≡ sent ++ waiting)

-- since the sink held `start` this text was sent
abbrev pub IsSent : (start : Option (List ℕ)) → (text : List ℕ) → Stream → Type 0
IsSent start text s = SentBy s.failed start text s.written s.waiting

-- this text is sent, whatever was sent before
abbrev pub Sends : (old new : Stream) → (text : List ℕ) → Type 0
Sends old new text = (start : Option (List ℕ)) (before : List ℕ) → IsSent start before old → IsSent start (before ++ text) new
