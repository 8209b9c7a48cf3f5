use Rattle.std.proofs.Common.{refl}
use Rattle.inc_globs.proofs.RowLemmas.{by_many, by_one}
use Rattle.inc_globs.proofs.rows.put_piece.Goals as goal

pub returns-in-Byte : goal.returns-in-Byte
returns-in-Byte c = λ rest row. by_one _ (λ r text. rw c.in-Byte.is refl) rest c.args.path.now c.put_one.new.row (c.put_one.ensures rest row)

pub returns-in-Any : goal.returns-in-Any
returns-in-Any c = λ rest row. by_one _ (λ r text. rw c.in-Any.is refl) rest c.args.path.now c.put_one-in-Any.new.row (c.put_one-in-Any.ensures rest row)

pub returns-in-Class : goal.returns-in-Class
returns-in-Class c = λ rest row. by_one _ (λ r text. rw c.in-Class.is refl) rest c.args.path.now c.put_one-in-Class.new.row (c.put_one-in-Class.ensures rest row)

pub returns-in-Name : goal.returns-in-Name
returns-in-Name c = λ rest row. by_many _ (λ r text. rw c.in-Name.is refl) rest c.args.path.now c.put_many.new.row (c.put_many.ensures rest row)

pub returns-in-Path : goal.returns-in-Path
returns-in-Path c = λ rest row. by_many _ (λ r text. rw c.in-Path.is refl) rest c.args.path.now c.put_many-in-Path.new.row (c.put_many-in-Path.ensures rest row)

pub returns-in-Directories : goal.returns-in-Directories
returns-in-Directories c = λ rest row. rw c.in-Directories.is (c.put_directories.ensures rest row)
