use Rattle.std.proofs.Common.{rules}
use Rattle.reader_tests.proofs.Spelling.{first_newline, first_backslash, first_by_digits}
use Rattle.reader_tests.proofs.escapes.escaped_byte.Goals as goal

pub returns-in-110 : goal.returns-in-110
returns-in-110 c = first_newline c.args.text.now (search rules) (search rules)

pub returns-in-92 : goal.returns-in-92
returns-in-92 c = first_backslash c.args.text.now (search rules) (search rules)

pub returns-in_ok-digit-in-120-2 : goal.returns-in_ok-digit-in-120-2
returns-in_ok-digit-in-120-2 c =
    first_by_digits c.args.text.now _ _ (search rules) (search rules) c.in_ok-digit-in-120.ensures c.in_ok-digit-in-120-2.ensures
