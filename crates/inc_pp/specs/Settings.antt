-- What the caller of a preprocessing sets. Choices of this profile: which dates and times are taken, what an include does whose file is
-- not found, whether lines are marked, how files are called, and how much is read and put out at most.
use Rattle.std.specs.Prelude.{ℕ, ◌==◌, ◌&&◌, ◌||◌, not, Bool, false, List, [], Option, Some, None, if◌then◌else◌, nat_le, nat_lt, codes, unwrap_or}
use Rattle.std.specs.List.{list_all}
use Rattle.inc_text.specs.Ascii.{quotation_mark, backslash}
use Rattle.inc_lookup.specs.IncludePath.{NamedDir}
use Rattle.inc_text.specs.declared.languages.Language.{Language}
use Rattle.inc_pp.specs.declared.settings.Missing.{Missing}

-- language, date and time, what an include does whose file is not found, whether lines are marked, how files are called, and how much is
-- read and put out at most
pub record Settings : Type 0 where
  -- that of all files
  pub language : Language
  -- the text of `__DATE__`
  pub date : List ℕ
  -- the text of `__TIME__`
  pub time : List ℕ
  -- the text of `__TIMESTAMP__`
  pub timestamp : List ℕ
  -- what an include does whose file is not found
  pub missing : Missing
  -- whether markers say which lines the tokens are from
  pub has_markers : Bool
  -- the path by which the source is named; none: that in the list of files
  pub source : Option (List ℕ)
  -- the directories of the include path, in its order, as far as it is known how they are spelled
  pub dirs : List NamedDir
  -- at most so many bytes are read, those of a file that is read twice counted twice; none: any number
  pub most_read : Option ℕ
  -- the text of what is put out has at most so many bytes; none: any number
  pub most_output : Option ℕ

-- printable ASCII other than `"` and `\`
abbrev pub is_date_byte : ℕ → Bool
is_date_byte b = (nat_le 32 b && nat_le b 126) && not ((b == quotation_mark) || (b == backslash))

-- settings whose texts can be in a string literal
abbrev pub settings_of : Language → (date time timestamp : List ℕ) → Missing → Option Settings
settings_of language date time timestamp missing =
    if list_all is_date_byte date && (list_all is_date_byte time && list_all is_date_byte timestamp)
    then Some (record {
      language = language;
      date = date;
      time = time;
      timestamp = timestamp;
      missing = missing;
      has_markers = false;
      source = None;
      dirs = [];
      most_read = None;
      most_output = None;
    }) else None

-- the settings of the program
abbrev pub usual_settings : Language → Missing → Settings
usual_settings language missing =
    record {
      language = language;
      date = codes "Jan  1 1970";
      time = codes "00:00:00";
      timestamp = codes "Thu Jan  1 00:00:00 1970";
      missing = missing;
      has_markers = false;
      source = None;
      dirs = [];
      most_read = None;
      most_output = None;
    }

-- with markers or without
abbrev pub marked_settings : (has_markers : Bool) → Settings → Settings
marked_settings has_markers s = record s { has_markers = has_markers }

-- with this name of the source
abbrev pub sourced_settings : (source : List ℕ) → Settings → Settings
sourced_settings source s = record s { source = Some source }

-- with these directories of the include path
abbrev pub found_in_settings : (dirs : List NamedDir) → Settings → Settings
found_in_settings dirs s = record s { dirs = dirs }

-- with this limit of the bytes that are read, or none
abbrev pub limited_settings : (most_read : Option ℕ) → Settings → Settings
limited_settings most_read s = record s { most_read = most_read }

-- with this limit of the text that is put out, or none
abbrev pub bounded_settings : (most_output : Option ℕ) → Settings → Settings
bounded_settings most_output s = record s { most_output = most_output }

-- so many bytes are more than a limit, if there is one
abbrev pub is_too_much : (most : Option ℕ) → (bytes : ℕ) → Bool
is_too_much None bytes = false
is_too_much (Some most) bytes = nat_lt most bytes

-- what the source is called; the settings of a preprocessing have a name for it
abbrev pub base_of : Settings → List ℕ
base_of s = unwrap_or s.source []
