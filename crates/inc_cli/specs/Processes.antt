-- What a run of the program comes to: the command line, what is read and written, and the exit status.
use Rattle.std.specs.Prelude.{◌≡◌, ◌≢◌, ◌&&◌, not, ℕ, Bool, List, [], Option, Some, None, Result, Ok, Err, true, false, if◌then◌else◌, bytes_eq, codes, is_some, unwrap_or}
use Rattle.std.specs.Io.KnownBytes.{Appends, Keeps}
use Rattle.clap.specs.Words.{IsAmong, kind_of}
use Rattle.inc_text.specs.Devices.{AppendsFront}
use Rattle.inc_text.specs.declared.languages.Language.{Language}
use Rattle.inc_args.specs.Meaning as args
use Rattle.inc_args.specs.Meaning.{Meaning, meaning}
use Rattle.inc_args.specs.Refusals.{refusals}
use Rattle.inc_check.specs.Reading.{number_in}
use Rattle.inc_inputs.specs.Inputs.{Begins, Gives, Puts}
use Rattle.inc_answers.specs.declared.asked.Asked.{Asked}
use Rattle.inc_answers.specs.declared.asked.Asked.TheVariants as asked
use Rattle.inc_report.specs.declared.named.Format.{Format}
use Rattle.inc_report.specs.declared.named.Format.TheVariants.{Gcc, Json, Dot}
use Rattle.inc_answers.specs.declared.scan.ScanForm.{ScanForm}
use Rattle.inc_answers.specs.declared.scan.ScanForm.TheVariants as form
use Rattle.inc_inputs.specs.RuleLists.{Ruled, rule_name, rules_given}
use Rattle.inc_cli.specs.Commands.{Blank, Check, Command, Cost, Cut, Folded, Graph, Named, Patch, Tree, Who, Why, bounded, ruled_command}
use Rattle.inc_cli.specs.Languages.{language_of}
use Rattle.inc_cli.specs.Notes.{notes_if}
use Rattle.inc_cli.specs.Outputs.{Answer, Following, Follows, IsRun, Output}
use Rattle.inc_cli.specs.Preprocessings.{IsPreprocessed, pp_of}
use Rattle.inc_cli.specs.Questions.{IsAsked, Known, Content, Promise, Opens}
use Rattle.inc_inputs.specs.Ends.{are_ends, is_empty}
use Rattle.inc_inputs.specs.declared.failures.Hindrance.{Hindrance}
use Rattle.inc_inputs.specs.Reports.{Report, folded_alone, format_of_files, no_format, no_headers, no_most, no_scan_format, no_top, of_alone, report_line, two_forms}
use Rattle.inc_cli.specs.Runs.{asked_of, no_limits}
use Rattle.inc_cli.specs.Scans.{IsScan}
use Rattle.inc_cli.specs.Statuses.{status_of}
use Rattle.inc_cli.specs.declared.runs.Ended.{Ended}
use Rattle.inc_cli.specs.declared.commands.RuleForm.{RuleForm}
use Rattle.inc_cli.specs.declared.commands.RuleForm.TheVariants as rule_form
use Rattle.inc_cli.specs.declared.runs.Ended.TheVariants.{Status, Usage}

---- the answer

-- the words of a question are asked with a command
abbrev pub IsAskedBy : {S T : Type 0} → Known → Gives S → Puts S → Opens S T → Language → Command → args.Question → args.Limits → (old : S) → Output
    → Result Answer Report → Type 0
IsAskedBy known gives puts o language command q l = IsAsked gives puts o command (asked_of gives language command q l) known

-- the format with this name in which directives stand as they are written
abbrev pub format_named : (name : List ℕ) → Option Format
format_named name =
    if bytes_eq name (codes "gcc") then Some Gcc else
    if bytes_eq name (codes "json") then Some Json else
    if bytes_eq name (codes "dot") then Some Dot else None

-- the command that answers in this format, if it is one
abbrev pub named_in : Option Format → (all fails : Bool) → (most : Option ℕ) → Asked → Result Command Report
named_in None all fails most asked = Err no_format
named_in (Some format) all fails most asked = Ok (Named (record { asked = asked; format = format; all = all; fails = fails; most = most }))

-- the command whose answer is printed in a format: the text of old, or with directives as they are written
abbrev pub in_format : (name : List ℕ) → (all fails : Bool) → (most : Option ℕ) → (text : Command) → Asked → Result Command Report
in_format name all fails most text asked =
    if bytes_eq name (codes "text") then Ok (bounded most text) else named_in (format_named name) all fails most asked

-- how many chains are printed at most
abbrev pub most_in : Option ℕ → Result (Option ℕ) Report
most_in None = Err no_most
most_in (Some n) = Ok (Some n)

abbrev pub most_of : (word : Option (List ℕ)) → Result (Option ℕ) Report
most_of None = Ok None
most_of (Some word) = most_in (number_in word)

-- where none is named, on a terminal with directives as they are written
abbrev pub default_format : (is_terminal : Bool) → List ℕ
default_format true = codes "gcc"
default_format false = codes "text"

-- the form of this name in which directives are listed
abbrev pub scan_form_named : (name : List ℕ) → Result ScanForm Report
scan_form_named name =
    if bytes_eq name (codes "text") then Ok form.Text else if bytes_eq name (codes "gcc") then Ok form.Gcc else
    if bytes_eq name (codes "json") then Ok form.Json else Err no_scan_format

abbrev pub scan_form : (is_terminal : Bool) → (name : Option (List ℕ)) → Result ScanForm Report
scan_form is_terminal name = scan_form_named (unwrap_or name (default_format is_terminal))

abbrev pub formatted_by : (is_terminal : Bool) → args.Format → (text : Command) → Asked → Result (Option ℕ) Report → Result Command Report
formatted_by is_terminal f text asked (Err report) = Err report
formatted_by is_terminal f text asked (Ok most) = in_format (unwrap_or f.name (default_format is_terminal)) f.is_all f.fails most text asked

abbrev pub formatted : (is_terminal : Bool) → args.Format → (text : Command) → Asked → Result Command Report
formatted is_terminal f text asked = formatted_by is_terminal f text asked (most_of f.most)

-- the form of a cut that flags ask for, of which they may ask for one, which has no other format
abbrev pub of_files : args.Format → Command → Result Command Report
of_files f command = if is_some f.name then Err format_of_files else Ok command

abbrev pub form_of : (is_terminal : Bool) → args.Forms → Result Command Report
form_of is_terminal f =
    if f.is_blank then (if f.is_patch then Err two_forms else of_files f.format Blank)
    else if f.is_patch then of_files f.format Patch else formatted is_terminal f.format Cut asked.Cut

-- which sources reach the headers that words name
abbrev pub who_of : (is_terminal : Bool) → args.Question → args.Format → Result Command Report
who_of is_terminal q f = if are_ends q then formatted is_terminal f (Who f.is_all f.fails None) asked.Who else Err no_headers

-- how many headers and directives are printed of what includes cost: the first 20 where no number is given
abbrev pub top_in : Option ℕ → Result ℕ Report
top_in None = Err no_top
top_in (Some n) = Ok n

abbrev pub top_by : (word : Option (List ℕ)) → Result ℕ Report
top_by None = Ok 20
top_by (Some word) = top_in (number_in word)

-- the format of this name in which rules and costs are printed: text, or with directives as they are written
abbrev pub some_format : Option Format → Result (Option Format) Report
some_format None = Err no_format
some_format (Some format) = Ok (Some format)

abbrev pub rules_format : (is_terminal : Bool) → (name : Option (List ℕ)) → Result (Option Format) Report
rules_format is_terminal name =
    let word : List ℕ = unwrap_or name (default_format is_terminal) in
    if bytes_eq word (codes "text") then Ok None else some_format (format_named word)

-- what includes cost, in a format and so much of it
abbrev pub costs_in : (top : ℕ) → Result (Option Format) Report → Result Command Report
costs_in top (Err report) = Err report
costs_in top (Ok format) = Ok (Cost format top)

abbrev pub cost_by : Result ℕ Report → Result (Option Format) Report → Result Command Report
cost_by (Err report) format = Err report
cost_by (Ok top) format = costs_in top format

-- the format is that of stacks
abbrev pub is_folded : (name : Option (List ℕ)) → Bool
is_folded name = bytes_eq (unwrap_or name []) (codes "folded")

-- the trees of sources as stacks, where nothing says how much is printed
abbrev pub folded_of : args.Question → (top : Option (List ℕ)) → Result Command Report
folded_of q top = if is_empty q.to && not (is_some top) then Ok Folded else Err folded_alone

-- the tree of one source, in a format
abbrev pub trees_in : Result (Option Format) Report → Result Command Report
trees_in (Err report) = Err report
trees_in (Ok format) = Ok (Tree format)

abbrev pub tree_by : (is_terminal : Bool) → (name : Option (List ℕ)) → Result Command Report
tree_by is_terminal name = if is_folded name then Ok Folded else trees_in (rules_format is_terminal name)

-- where nothing else says of what it is told
abbrev pub tree_of : (is_terminal : Bool) → args.Question → (name top : Option (List ℕ)) → Result Command Report
tree_of is_terminal q name top = if is_empty q.from && is_empty q.to && not (is_some top) then tree_by is_terminal name else Err of_alone

abbrev pub cost_of : (is_terminal : Bool) → args.Question → (name top : Option (List ℕ)) → Result Command Report
cost_of is_terminal q name top =
    if is_some q.source then tree_of is_terminal q name top
    else if is_folded name then folded_of q top else cost_by (top_by top) (rules_format is_terminal name)

-- the form of this name in which rules are printed
abbrev pub form_with : Option Format → RuleForm
form_with None = rule_form.Lines
form_with (Some format) = rule_form.In format

abbrev pub formed : Result (Option Format) Report → Result RuleForm Report
formed (Err report) = Err report
formed (Ok format) = Ok (form_with format)

-- SARIF tells what breaks rules, so no baseline is written beside it
abbrev pub is_sarif : (name written : Option (List ℕ)) → Bool
is_sarif name written = bytes_eq (unwrap_or name []) (codes "sarif") && not (is_some written)

abbrev pub rule_form_of : (is_terminal : Bool) → (name written : Option (List ℕ)) → Result RuleForm Report
rule_form_of is_terminal name written = if is_sarif name written then Ok rule_form.Sarif else formed (rules_format is_terminal name)

-- once it is known, and the rules and what may still break them are
abbrev pub IsRuledBy : {S T : Type 0} → Gives S → Puts S → Opens S T → Language → args.Question → args.Limits → args.RuleWords → RuleForm → Following S Ruled
IsRuledBy gives puts o language q l w f r =
    IsAskedBy Content gives puts o language (ruled_command f (record { name = rule_name w; rules = r.rules }) r.baseline w.written) q l

-- what words ask for is answered
abbrev pub IsAnswerTo : {S T : Type 0} → Gives S → Puts S → Opens S T → Language → (is_terminal : Bool) → args.Asked → (old : S) → Output → Result Answer Report → Type 0
IsAnswerTo gives puts o language is_terminal (args.Scan path format) old out answer =
    Follows (λ form. IsScan gives language form path) (scan_form is_terminal format) old out answer
IsAnswerTo gives puts o language is_terminal (args.Why q f) old out answer =
    Follows (λ command. IsAskedBy Content gives puts o language command q no_limits) (formatted is_terminal f (Why f.fails None) asked.Why) old out answer
IsAnswerTo gives puts o language is_terminal (args.Who q f) old out answer =
    Follows (λ command. IsAskedBy Content gives puts o language command q no_limits) (who_of is_terminal q f) old out answer
IsAnswerTo gives puts o language is_terminal (args.Graph q f) old out answer =
    Follows (λ command. IsAskedBy Content gives puts o language command q no_limits) (formatted is_terminal f Graph asked.Graph) old out answer
IsAnswerTo gives puts o language is_terminal (args.Rules q w f) old out answer =
    Follows (λ form. IsRun (rules_given gives w) (IsRuledBy gives puts o language q no_limits w form)) (rule_form_of is_terminal f.name w.written) old out answer
IsAnswerTo gives puts o language is_terminal (args.Cost q top f) old out answer =
    Follows (λ command. IsAskedBy Content gives puts o language command q no_limits) (cost_of is_terminal q f.name top) old out answer
IsAnswerTo gives puts o language is_terminal (args.Cut q l f) old out answer =
    Follows (λ command. IsAskedBy Content gives puts o language command q l) (form_of is_terminal f) old out answer
IsAnswerTo gives puts o language is_terminal (args.Check q l name) old out answer = IsAskedBy Content gives puts o language (Check name) q l old out answer
IsAnswerTo gives puts o language is_terminal (args.Pp p) old out answer = IsRun (pp_of gives language p) (IsPreprocessed gives puts p) old out answer

-- a cut that is printed, and a certificate that is accepted, keep what they promise
abbrev pub IsPromiseOf : {S T : Type 0} → Gives S → Puts S → Opens S T → Language → (is_terminal : Bool) → args.Asked → (old : S) → Output → Result Answer Report → Type 0
IsPromiseOf gives puts o language is_terminal (args.Cut q l f) old out answer =
    Follows (λ command. IsAskedBy Promise gives puts o language command q l) (form_of is_terminal f) old out answer
IsPromiseOf gives puts o language is_terminal (args.Check q l name) old out answer = IsAskedBy Promise gives puts o language (Check name) q l old out answer
IsPromiseOf gives puts o language is_terminal what old out answer = Unit {0}

---- the end

-- the status, which no note changes
abbrev pub status_after : Result Answer Report → ℕ
status_after (Ok a) = status_of a.end.kind
status_after (Err r) = r.status

-- the notes beside an answer, or the line that reports a failure, with what stood in the way of what is read or written
abbrev pub told : (quiet : Bool) → Hindrance → Result Answer Report → List ℕ
told quiet h (Ok a) = notes_if quiet a
told quiet h (Err r) = report_line h r

-- the status, and what is written to the messages, as far as they take it
abbrev pub IsTold : (quiet : Bool) → Hindrance → Result Answer Report → (status : ℕ) → (messages : Output) → Type 0
IsTold quiet h answer status messages =
    (status ≡ status_after answer) × AppendsFront messages.before messages.after (told quiet h answer)
    × (messages.failed ≡ false → Appends messages.before messages.after (told quiet h answer))

-- words that are refused: nothing is written yet, so that `clap` can write its text
abbrev pub IsRefusedRun : (words : List (List ℕ)) → (out messages : Output) → Ended → Type 0
IsRefusedRun words out messages (Usage error) =
    IsAmong (kind_of error) (refusals words) × Keeps out.before out.after × Keeps messages.before messages.after × (messages.failed ≡ false)
IsRefusedRun words out messages (Status n) = n ≢ 5 → refusals words ≡ []

-- words that are taken: P of the answer, as it is told; of what stands in the way of a file the inputs tell. Status 5 says that memory ran out
abbrev pub IsToldRun : (quiet : Bool) → (P : Result Answer Report → Type 0) → (messages : Output) → Ended → Type 0
IsToldRun quiet P messages (Usage error) = Unit {0}
IsToldRun quiet P messages (Status n) = n ≢ 5 → (answer : Result Answer Report) × (h : Hindrance) × IsTold quiet h answer n messages × P answer

-- what the words ask for is answered, once it is set whether links are followed
abbrev pub IsAnswerFrom : {S T : Type 0} → Gives S → Puts S → Opens S T → (is_terminal : Bool) → Meaning → (old : S) → Output → Result Answer Report → Type 0
IsAnswerFrom gives puts o is_terminal m old out answer =
    Follows (λ language. IsAnswerTo gives puts o language is_terminal m.asked) (language_of m.languages) old out answer

abbrev pub IsPromiseFrom : {S T : Type 0} → Gives S → Puts S → Opens S T → (is_terminal : Bool) → Meaning → (old : S) → Output → Result Answer Report → Type 0
IsPromiseFrom gives puts o is_terminal m old out answer = Follows (λ language. IsPromiseOf gives puts o language is_terminal m.asked) (language_of m.languages) old out answer

-- that is set first
abbrev pub IsAnswer : {S T : Type 0} → Begins S → Gives S → Puts S → Opens S T → (is_terminal : Bool) → Meaning → (old : S) → Output → Result Answer Report → Type 0
IsAnswer {S} begins gives puts o is_terminal m old out answer =
    (first : S) × begins old m.follows m.is_quiet first × IsAnswerFrom gives puts o is_terminal m first out answer

abbrev pub IsPromise : {S T : Type 0} → Begins S → Gives S → Puts S → Opens S T → (is_terminal : Bool) → Meaning → (old : S) → Output → Result Answer Report → Type 0
IsPromise {S} begins gives puts o is_terminal m old out answer =
    (first : S) × begins old m.follows m.is_quiet first × IsPromiseFrom gives puts o is_terminal m first out answer
