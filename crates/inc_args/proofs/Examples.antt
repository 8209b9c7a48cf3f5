-- What some words mean, and which are refused.
use Rattle.std.proofs.Common.{◌≡◌, List, [], ◌∷◌, Some, None, true, false, refl, codes}
use Rattle.clap.proofs.OnLiterals.{clap_on_literals}
use Rattle.clap.specs.Words.{Text}
use Rattle.inc_args.specs.Meaning.{Cut, FileWords, Graph, Pp, Scan, Who, Why, meaning}
use Rattle.inc_args.specs.Refusals.{refusals}

-- the files of f, whose paths end in NUL, with two search directories
abbrev pub files : FileWords
files = record { build = None; command = []; list = Some (codes "f"); is_null = true; roots = []; exclude = []; dirs = codes "a" ∷ codes "b" ∷ []; quoted = []; system = []; last = [] }

abbrev pub cut_words : List Text
cut_words =
    codes "incut" ∷ codes "--extended" ∷ codes "cut" ∷ codes "-I" ∷ codes "a" ∷ codes "--files=f" ∷ codes "s.c" ∷ codes "-0Ib" ∷ codes "--costs" ∷ codes "-" ∷ codes "--blank"
    ∷ codes "-q" ∷ codes "--format=text" ∷ codes "--max" ∷ codes "9" ∷ codes "--all" ∷ codes "--keep" ∷ codes "k/*.h:7" ∷ codes "h.h" ∷ codes "--keep=l" ∷ []

-- options stand before words and after them; letters may share a word
pub cut_is_asked : meaning cut_words
    ≡ record {
      asked = Cut (record { files = files; source = Some (codes "s.c"); header = Some (codes "h.h"); from = []; to = []; without = None; drop = []; is_strict = false; external = []; undefined = [] }) (record { fixed = None; keep = codes "k/*.h:7" ∷ codes "l" ∷ []; only = []; costs = Some (codes "-") })
          (record { is_blank = true; is_patch = false; format = record { name = Some (codes "text"); is_all = true; fails = false; most = Some (codes "9") } });
      languages = record { is_extended = true; is_gnu = false };
      is_quiet = true;
      follows = false;
    }
unfolding clap_on_literals
cut_is_asked = refl

pub cut_is_taken : refusals cut_words ≡ []
unfolding clap_on_literals
cut_is_taken = refl

-- no command
pub standard_input_is_scanned : meaning (codes "incut" ∷ []) ≡ record { asked = Scan None None; languages = record { is_extended = false; is_gnu = false }; is_quiet = false; follows = false }
unfolding clap_on_literals
standard_input_is_scanned = refl

-- several sources, and words that define macros
pub sources_are_preprocessed : meaning (codes "incut" ∷ codes "pp" ∷ codes "--files" ∷ codes "f" ∷ codes "-DA" ∷ codes "x.c" ∷ codes "y.c" ∷ codes "-D" ∷ codes "B=1" ∷ [])
    ≡ record {
      asked = Pp (record {
        files = record { build = None; command = []; list = Some (codes "f"); is_null = false; roots = []; exclude = []; dirs = []; quoted = []; system = []; last = [] };
        sources = codes "x.c" ∷ codes "y.c" ∷ [];
        without = None;
        defines = None;
        compiler = None;
        words = codes "A" ∷ codes "B=1" ∷ [];
        is_missing_empty = false;
        has_markers = false;
        most_read = None;
        most_output = None;
        deps = None;
        status = None;
      });
      languages = record { is_extended = false; is_gnu = false };
      is_quiet = false;
      follows = false;
    }
unfolding clap_on_literals
sources_are_preprocessed = refl

-- sources and headers by options, which may be given again
pub sets_are_asked : meaning (codes "incut" ∷ codes "why" ∷ codes "--files" ∷ codes "f" ∷ codes "--from=*.c" ∷ codes "--to" ∷ codes "a.h" ∷ codes "--from" ∷ codes "x" ∷ codes "--format" ∷ codes "gcc" ∷ [])
    ≡ record {
      asked = Why (record {
        files = record { build = None; command = []; list = Some (codes "f"); is_null = false; roots = []; exclude = []; dirs = []; quoted = []; system = []; last = [] };
        source = None;
        header = None;
        from = codes "*.c" ∷ codes "x" ∷ [];
        to = codes "a.h" ∷ [];
        without = None;
        drop = [];
        is_strict = false;
        external = [];
        undefined = [];
      }) (record { name = Some (codes "gcc"); is_all = false; fails = false; most = None });
      languages = record { is_extended = false; is_gnu = false };
      is_quiet = false;
      follows = false;
    }
unfolding clap_on_literals
sets_are_asked = refl

-- the sources that reach a header; where no option says which, each .c file of the project is one
pub sources_are_asked : meaning (codes "incut" ∷ codes "who" ∷ codes "--files" ∷ codes "f" ∷ codes "--chains" ∷ codes "--format" ∷ codes "gcc" ∷ codes "--undefined" ∷ codes "N" ∷ codes "a.h" ∷ [])
    ≡ record {
      asked = Who (record {
        files = record { build = None; command = []; list = Some (codes "f"); is_null = false; roots = []; exclude = []; dirs = []; quoted = []; system = []; last = [] };
        source = None;
        header = Some (codes "a.h");
        from = codes "**.c" ∷ [];
        to = [];
        without = None;
        drop = [];
        is_strict = false;
        external = [];
        undefined = codes "N" ∷ [];
      }) (record { name = Some (codes "gcc"); is_all = true; fails = false; most = None });
      languages = record { is_extended = false; is_gnu = false };
      is_quiet = false;
      follows = false;
    }
unfolding clap_on_literals
sources_are_asked = refl

-- all edges that two sources reach, which are named, without notes
pub edges_are_asked : meaning (codes "incut" ∷ codes "graph" ∷ codes "-q" ∷ codes "--from" ∷ codes "a.c" ∷ codes "--drop=a.c:3" ∷ codes "--files" ∷ codes "f" ∷ codes "--from" ∷ codes "b.c" ∷ [])
    ≡ record {
      asked = Graph (record {
        files = record { build = None; command = []; list = Some (codes "f"); is_null = false; roots = []; exclude = []; dirs = []; quoted = []; system = []; last = [] };
        source = None;
        header = None;
        from = codes "a.c" ∷ codes "b.c" ∷ [];
        to = [];
        without = None;
        drop = codes "a.c:3" ∷ [];
        is_strict = false;
        external = [];
        undefined = [];
      }) (record { name = None; is_all = false; fails = false; most = None });
      languages = record { is_extended = false; is_gnu = false };
      is_quiet = true;
      follows = false;
    }
unfolding clap_on_literals
edges_are_asked = refl

-- with a build, each of its sources is one
pub sources_of_a_build_are_asked : meaning (codes "incut" ∷ codes "graph" ∷ codes "-pb" ∷ codes "--root=r" ∷ codes "--format=dot" ∷ [])
    ≡ record {
      asked = Graph (record {
        files = record { build = Some (codes "b"); command = []; list = None; is_null = false; roots = codes "r" ∷ []; exclude = []; dirs = []; quoted = []; system = []; last = [] };
        source = None;
        header = None;
        from = codes "**" ∷ [];
        to = [];
        without = None;
        drop = [];
        is_strict = false;
        external = [];
        undefined = [];
      }) (record { name = Some (codes "dot"); is_all = false; fails = false; most = None });
      languages = record { is_extended = false; is_gnu = false };
      is_quiet = false;
      follows = false;
    }
unfolding clap_on_literals
sources_of_a_build_are_asked = refl

-- a compiler's command is kept as it is, and its sources are asked about
pub command_is_asked : meaning (codes "incut" ∷ codes "--gnu" ∷ codes "why" ∷ codes "--to=a.h" ∷ codes "--" ∷ codes "cc" ∷ codes "-Ix" ∷ codes "--" ∷ codes "a.c" ∷ [])
    ≡ record {
      asked = Why (record {
        files = record { build = None; command = codes "cc" ∷ codes "-Ix" ∷ codes "--" ∷ codes "a.c" ∷ []; list = None; is_null = false; roots = []; exclude = []; dirs = []; quoted = []; system = []; last = [] };
        source = None;
        header = None;
        from = codes "**" ∷ [];
        to = codes "a.h" ∷ [];
        without = None;
        drop = [];
        is_strict = false;
        external = [];
        undefined = [];
      }) (record { name = None; is_all = false; fails = false; most = None });
      languages = record { is_extended = false; is_gnu = true };
      is_quiet = false;
      follows = false;
    }
unfolding clap_on_literals
command_is_asked = refl

-- what a compiler has is not refused, whatever it is
pub command_is_taken : refusals (codes "incut" ∷ codes "graph" ∷ codes "--" ∷ codes "cc" ∷ codes "--weird" ∷ []) ≡ []
unfolding clap_on_literals
command_is_taken = refl

-- words of `scan` after it are the program's own
pub path_after_dashes_is_scanned : meaning (codes "incut" ∷ codes "scan" ∷ codes "--" ∷ codes "-a.c" ∷ [])
    ≡ record { asked = Scan (Some (codes "-a.c")) None; languages = record { is_extended = false; is_gnu = false }; is_quiet = false; follows = false }
unfolding clap_on_literals
path_after_dashes_is_scanned = refl
