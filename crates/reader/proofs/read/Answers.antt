use Rattle.reader.proofs.Whole.{read_laws, part_fits, part_counted}
use borrow.Author.Rules.{rules}
use Rattle.reader.proofs.read.Goals as goal

pub slice_bounds-lines-end : goal.slice_bounds-lines-end
slice_bounds-lines-end c = search (part_counted, rules)

pub fill-requires : goal.fill-requires
fill-requires c = search (part_fits, rules)

pub returns : goal.returns
returns c = search (read_laws, rules)
