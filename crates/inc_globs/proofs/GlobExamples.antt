-- Globs and paths, worked out by computing.
use Rattle.std.proofs.Common.{◌≡◌, ℕ, List, Bool, true, false, Option, Some, None, option_map, refl}
use Rattle.std.specs.Prelude.{codes}
use Rattle.inc_globs.specs.Globs.{fits, pieces}

abbrev fits_of : List ℕ → List ℕ → Option Bool
fits_of pattern path = option_map (λ ps. fits ps path) (pieces pattern)

name-1 : fits_of (codes "src/*.c") (codes "src/a.c") ≡ Some true
name-1 = refl

name-2 : fits_of (codes "src/*.c") (codes "src/.c") ≡ Some true
name-2 = refl

name-3 : fits_of (codes "src/*.c") (codes "src/lib/a.c") ≡ Some false
name-3 = refl

name-4 : fits_of (codes "*") (codes "") ≡ Some true
name-4 = refl

name-5 : fits_of (codes "*a*a*a*b") (codes "aaaaaaaa") ≡ Some false
name-5 = refl

name-6 : fits_of (codes "*.c") (codes "a.c.c") ≡ Some true
name-6 = refl

path-1 : fits_of (codes "src/**") (codes "src/lib/a.c") ≡ Some true
path-1 = refl

path-2 : fits_of (codes "src/**") (codes "src") ≡ Some false
path-2 = refl

path-3 : fits_of (codes "s**c") (codes "src/lib/a.c") ≡ Some true
path-3 = refl

path-4 : fits_of (codes "***") (codes "a/b") ≡ Some true
path-4 = refl

directories-1 : fits_of (codes "**/a.h") (codes "a.h") ≡ Some true
directories-1 = refl

directories-2 : fits_of (codes "**/a.h") (codes "x/y/a.h") ≡ Some true
directories-2 = refl

directories-3 : fits_of (codes "**/a.h") (codes "xa.h") ≡ Some false
directories-3 = refl

directories-4 : fits_of (codes "x/**/a.h") (codes "x/a.h") ≡ Some true
directories-4 = refl

directories-5 : fits_of (codes "x**/a.h") (codes "xa.h") ≡ Some false
directories-5 = refl

directories-6 : fits_of (codes "x**/a.h") (codes "xy/z/a.h") ≡ Some true
directories-6 = refl

any-1 : fits_of (codes "?.c") (codes "a.c") ≡ Some true
any-1 = refl

any-2 : fits_of (codes "a?c") (codes "a/c") ≡ Some false
any-2 = refl

any-3 : fits_of (codes "?") (codes "") ≡ Some false
any-3 = refl

class-1 : fits_of (codes "[a-cx].h") (codes "b.h") ≡ Some true
class-1 = refl

class-2 : fits_of (codes "[a-cx].h") (codes "x.h") ≡ Some true
class-2 = refl

class-3 : fits_of (codes "[a-cx].h") (codes "d.h") ≡ Some false
class-3 = refl

class-4 : fits_of (codes "[!a-c].h") (codes "d.h") ≡ Some true
class-4 = refl

class-5 : fits_of (codes "[^a-c].h") (codes "a.h") ≡ Some false
class-5 = refl

class-6 : fits_of (codes "[!a]b") (codes "/b") ≡ Some false
class-6 = refl

class-7 : fits_of (codes "[]].h") (codes "].h") ≡ Some true
class-7 = refl

class-8 : fits_of (codes "[a-].h") (codes "-.h") ≡ Some true
class-8 = refl

class-9 : fits_of (codes "[*?[]") (codes "[") ≡ Some true
class-9 = refl

class-10 : fits_of (codes "[z-a]") (codes "m") ≡ Some false
class-10 = refl

open-1 : pieces (codes "a[b") ≡ None
open-1 = refl

open-2 : pieces (codes "[!]") ≡ None
open-2 = refl

open-3 : pieces (codes "[]") ≡ None
open-3 = refl

open-4 : fits_of (codes "a]") (codes "a]") ≡ Some true
open-4 = refl
