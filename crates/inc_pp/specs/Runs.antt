-- Runs of text lines (ISO/IEC 9899:2018, 6.10.3). A choice of this profile: the text lines between two directives are expanded as one
-- list, in which a new-line is white space, and are put out as one line, if no pragma operator and no line marker parts them. In GNU C a call that is open
-- at the end of a run waits for the next ones; what is before it is put out. A directive that includes, numbers lines or changes the macro that is called does not
-- let it wait on, nor does the end of the file. Where the settings limit the text that is put out, a run with which it is longer is a stop at its first line:
-- nothing of it is put out.
use Rattle.std.specs.Prelude.{ℕ, ◌==◌, ◌&&◌, ◌||◌, Bool, true, false, List, [], ◌∷◌, ◌++◌, Option, Some, None, Result, Ok, Err, if◌then◌else◌, length, map, nat_lt, unwrap_or}
use Rattle.inc_text.specs.declared.languages.Language.{Language}
use Rattle.inc_text.specs.Languages.{is_gnu}
use Rattle.inc_token.specs.TokenLines.{Tok}
use Rattle.inc_directive.specs.LineKinds.{line_of_tokens}
use Rattle.inc_directive.specs.Groups.{FileLine}
use Rattle.inc_directive.specs.Runs.{run_tokens}
use Rattle.inc_macro.specs.Results.{◌>>=◌}
use Rattle.inc_expand.specs.declared.faults.ExpandFault.TheVariants.{UnclosedCall}
use Rattle.inc_expand.specs.declared.places.Mode.TheVariants.{Plain}
use Rattle.inc_expand.specs.Expansion.{Item, Meter, Place, expansion}
use Rattle.inc_expand.specs.Openings.{Held, held_source, opening}
use Rattle.inc_pp.specs.declared.causes.Cause.{Cause}
use Rattle.inc_pp.specs.declared.causes.Cause.TheVariants.{Expand, TooMuchOutput}
use Rattle.inc_pp.specs.LineMarkers.{marks_of}
use Rattle.inc_pp.specs.OpenCalls.{first_line_in, open_behind, open_in_call, spellings}
use Rattle.inc_pp.specs.Poison.{asked}
use Rattle.inc_pp.specs.Pragmas.{Laid, laid}
use Rattle.inc_pp.specs.Printed.{printed}
use Rattle.inc_pp.specs.Settings.{is_too_much}
use Rattle.inc_pp.specs.Tasks.{File, OutToken, State, Here, Halt, caused, halting, place_of}

-- with another meter
abbrev pub with_meter : Meter → State → State
with_meter meter s =
    record { table = s.table; once = s.once; poisoned = s.poisoned; meter = meter; reads = s.reads; bytes_read = s.bytes_read; output = s.output }

-- expanded tokens, and the state with the meter after them
abbrev pub expanded : File → Here → State → List Tok → Result (List Item × State) Cause
expanded f h s ts =
    caused Expand (expansion (record { table = s.table; mode = Plain; place = place_of f h }) s.meter ts) >>= λ r.
    Ok (r.0, with_meter r.1 s)

-- with more tokens put out
abbrev pub put_out : List OutToken → State → State
put_out ts s =
    record { table = s.table; once = s.once; poisoned = s.poisoned; meter = s.meter; reads = s.reads; bytes_read = s.bytes_read; output = s.output ++ ts }

-- where the tokens of the file at hand are, if lines are marked
abbrev pub marks_in : File → Here → Option Place
marks_in f h = marks_of f.task.settings (place_of f h)

-- with the file among those that are read once
abbrev pub with_once : ℕ → State → State
with_once file s =
    record { table = s.table; once = λ i. (i == file) || s.once i; poisoned = s.poisoned; meter = s.meter; reads = s.reads; bytes_read = s.bytes_read; output = s.output }

-- with what a run in the file puts out
abbrev pub put_laid : (file : ℕ) → Laid → State → State
put_laid file l s = record {
  table = s.table;
  once = if l.once then (with_once file s).once else s.once;
  poisoned = s.poisoned;
  meter = s.meter;
  reads = s.reads;
  bytes_read = s.bytes_read;
  output = s.output ++ l.tokens;
}

-- a state, if the text of what was put out is not longer than that
abbrev pub bounded : (most : Option ℕ) → State → Result State Cause
bounded most s = if is_too_much most (length (printed s.output)) then Err TooMuchOutput else Ok s

-- the state after the tokens of a run: they are expanded, and what they give is put out
abbrev pub run_expanded : File → Here → State → List Tok → Result State Cause
run_expanded f h s ts =
    expanded f h s ts >>= λ r. laid s.table.language (marks_in f h) None r.0 >>= λ l. bounded f.task.settings.most_output (put_laid f.index l r.1)

-- the state after what is before a call that is open at their end, those that wait first, and that call
abbrev pub run_opened : File → Here → State → List Tok → Result (State × List Held) Cause
run_opened f h s ts =
    caused Expand (opening (record { table = s.table; mode = Plain; place = place_of f h }) s.meter h.waiting ts) >>= λ r.
    laid s.table.language (marks_in f h) None r.0 >>= λ l.
    bounded f.task.settings.most_output (put_laid f.index l (with_meter r.2 s)) >>= λ t. Ok (t, r.1)

-- a call has no end
abbrev pub is_unclosed : Cause → Bool
is_unclosed (Expand UnclosedCall) = true
is_unclosed _ = false

-- in GNU C a run in which a call has no end is one with an open call
abbrev pub closed_or : Language → Result State Cause → Result (State × List Held) Cause → Result (State × List Held) Cause
closed_or language (Ok t) opened = Ok (t, [])
closed_or language (Err c) opened = if is_gnu language && is_unclosed c then opened else Err c

-- the state after the tokens of a run, and the call that is open at their end
abbrev pub run_given : File → Here → State → List Tok → Result (State × List Held) Cause
run_given f h s ts =
    elim h.waiting [
      | [] ↦ closed_or s.table.language (run_expanded f h s ts) (run_opened f h s ts)
      | name ∷ hs ↦ run_opened f h s ts
    ]

-- the line of the first token that waits, else that of the first of a run
abbrev pub line_of_run : List Held → List Tok → ℕ
line_of_run hs ts = unwrap_or (first_line_in hs) (line_of_tokens ts)

-- where a call waits with so many open parentheses
abbrev pub with_waiting : List Held → (deep : ℕ) → Here → Here
with_waiting hs deep h = record h { waiting = hs; deep = deep }

-- tokens of a run, with those that wait, are put out up to the call that is open at their end
abbrev pub tokens_read : File → List Tok → State → Here → Result (State × Here) Halt
tokens_read f ts s h = halting f (line_of_run h.waiting ts) s (run_given f h s ts) >>= λ r. Ok (r.0, with_waiting r.1 (open_in_call r.1) h)

-- the same of tokens in which no name was taken away: they wait, too, where the call that waits is open after them
abbrev pub asked_read : File → List Tok → State → Here → Result (State × Here) Halt
asked_read f ts s h =
    let deep = open_behind h.deep (spellings ts) in
    elim (nat_lt 0 deep) [
      | true ↦ Ok (s, with_waiting (h.waiting ++ map held_source ts) deep h)
      | false ↦ tokens_read f ts s h
    ]

-- tokens of text lines
abbrev pub text_read : File → List Tok → State → Here → Result (State × Here) Halt
text_read f [] s h = Ok (s, h)
text_read f (t ∷ ts) s h = halting f (line_of_tokens (t ∷ ts)) s (asked s.poisoned (t ∷ ts)) >>= λ _. asked_read f (t ∷ ts) s h

-- a run
abbrev pub run_read : File → List FileLine → State → Here → Result (State × Here) Halt
run_read f ls s h = text_read f (run_tokens ls) s h

-- no call waits on: one that does has no end
abbrev pub released_at : File → (line : Option ℕ) → State → Here → Result (State × Here) Halt
released_at f None s h = Ok (s, h)
released_at f (Some line) s h = halting f line s (Err (Expand UnclosedCall))

abbrev pub released : File → State → Here → Result (State × Here) Halt
released f s h = released_at f (first_line_in h.waiting) s h
