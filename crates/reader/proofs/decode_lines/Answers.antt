use borrow.Author.Rules.{rules}
use Rattle.reader.proofs.Loops.{lines_none, lines_laws}
use Rattle.reader.proofs.decode_lines.Goals as goal

pub loop-i-init : goal.loop-i-init
loop-i-init c = (search rules, search (lines_none, rules))

pub returns-in_default : goal.returns-in_default
returns-in_default c = search (lines_laws, rules)

pub loop-i-preserved : goal.loop-i-preserved
loop-i-preserved c = (search (lines_laws, rules), search (lines_laws, rules))

pub returns : goal.returns
returns c = search (lines_laws, rules)
