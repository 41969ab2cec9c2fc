use borrow.Author.Rules.{rules}
use lib.Signed.{quot_z}
use Rattle.word.specs.Word.{quot_s}
use Rattle.signed.proofs.Quotients.{quotient_keeps, dividable, given, refused}
use Rattle.signed.proofs.quot_s.Goals as goal

pub returns-in_err-a : goal.returns-in_err-a
unfolding quot_s
returns-in_err-a c = refused quot_z _ _ _ _ (search rules) (c.in_err-a.ensures.stops quot_z)

pub nonzero_div-a : goal.nonzero_div-a
nonzero_div-a c =
    dividable _ _ _ _ c.ranges.x c.ranges.y c.in_ok-a.ensures.read.0 c.in_ok-a.ensures.read.1 c.in_ok-a.ensures.nonzero c.in_ok-a.ensures.in_range

pub returns : goal.returns
unfolding quot_s
returns c =
    given _ _ _ _ c.ranges.x c.ranges.y c.in_ok-a.ensures.read.0 c.in_ok-a.ensures.read.1 c.in_ok-a.ensures.nonzero c.in_ok-a.ensures.in_range quot_z quotient_keeps _ c.as_cell.ensures
