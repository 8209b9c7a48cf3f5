use Rattle.std.proofs.Common.{◌≡◌, ◌≢◌, ℕ, IfErr, OnOk, ap, subst, sym, List, Result, Ok, Err}
use Rattle.std.proofs.lemmas.Result.{err_from_is_err_and}
use Rattle.inc_text.specs.PhaseText.{Cell}
use Rattle.inc_text.specs.declared.languages.Language.{Language}
use Rattle.inc_token.specs.TokenLines.{Tok, token_lines}
use Rattle.inc_macro.specs.declared.faults.DefineFault.{DefineFault}
use Rattle.inc_macro.specs.declared.faults.DefineFault.TheVariants.{NoMemory}
use Rattle.inc_macro.specs.Macros.{Table, define, define_word, tokens_or_bad, word_tokens}
use Rattle.inc_macro.specs.Results.{◌>>=◌}
use Rattle.inc_macro.specs.Tables.{table_of}
use Rattle.inc_macro.specs.WordLines.{define_line}
use Rattle.inc_macro.proofs.tables.Macros.define_word.Goals as goal

-- a word and its text define the same, in the language of the table
same : (word : List ℕ) (text : List Cell) (language : Language) (table : Table) → language ≡ table.language
    → word_tokens language word ≡ tokens_or_bad (token_lines language text) → define_line text table ≡ define_word word table
same word text language table spoken is =
    ap (λ (r : Result (List Tok) DefineFault). r >>= (λ tokens. define tokens table))
    (sym (subst (λ (l : Language). word_tokens l word ≡ tokens_or_bad (token_lines l text)) spoken is))

pub returns-in_err-text-clause-fault : goal.returns-in_err-text-clause-fault
returns-in_err-text-clause-fault c =
    let p = err_from_is_err_and c.from_residual.result c.from_residual.ensures.1 in
    let table = table_of c.args.self.now in
    rw (p.1, p.2) (λ some. ap (λ (r : Result (List Tok) DefineFault). r >>= (λ tokens. define tokens table))
    (subst (λ (l : Language). word_tokens l c.args.word.now ≡ Err c.in_err-text.field-0.0) c.language.ensures (c.in_err-text.ensures.fault some)))

pub returns-clause-done : goal.returns-clause-done
returns-clause-done c =
    let table = table_of c.args.self.now in
    subst (λ (answer : Result Table DefineFault). OnOk c.define_line.result (answer ≡ Ok (table_of c.define_line.new.self)))
    (same c.args.word.now c.in_ok-text.text c.language.result table c.language.ensures c.in_ok-text.ensures.text) c.define_line.ensures.done

pub returns-clause-fault : goal.returns-clause-fault
returns-clause-fault c =
    let table = table_of c.args.self.now in
    subst (λ (answer : Result Table DefineFault). IfErr c.define_line.result (λ fault. fault ≢ NoMemory → answer ≡ Err fault))
    (same c.args.word.now c.in_ok-text.text c.language.result table c.language.ensures c.in_ok-text.ensures.text) c.define_line.ensures.fault
