-- The texts that are read as certificates. A line that names a directive is `LINE PATH`, as it is printed, or `PATH:LINE:` with anything
-- behind it, as the answers, `grep -n` and compilers print a line.
use Rattle.std.specs.Prelude.{◌≡◌, ℕ, List, length, map, nat_le, IsTrue}
use Rattle.std.specs.List.{list_all}
use Rattle.inc_check.specs.Reading.{plain_line}
use Rattle.inc_check.specs.Texts.{certificate_lines, greatest_number, is_small_chain, is_small_list, lines_text, AreClean, Format}
use Rattle.inc_check.specs.declared.certificates.Certificate.{Certificate}

-- the text is that of this certificate
pub record IsCertificateText (text : List ℕ) (c : Certificate) : Type 0 where
  -- its lines
  pub lines : List (List ℕ)
  pub whole : lines_text lines ≡ text
  pub clean : AreClean lines
  -- as they are printed, they are those of the certificate
  pub same : map plain_line lines ≡ certificate_lines c
  pub cut : IsTrue (is_small_list c.cut)
  pub chains : IsTrue (list_all is_small_chain c.chains)
  pub few : IsTrue (nat_le (length c.chains) greatest_number)

abbrev pub CertificateFormat : Format
CertificateFormat text = (c : Certificate) × IsCertificateText text c
