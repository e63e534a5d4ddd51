use Rattle.std.proofs.Common.{rules}
use Rattle.reader_tests.proofs.Spelling.{first_itself}
use Rattle.reader_tests.proofs.escapes.first_byte.Goals as goal

pub returns-in-len1-up : goal.returns-in-len1-up
returns-in-len1-up c = first_itself c.args.text.now (search rules) (search rules)
