use borrow.Author.Rules.{rules}
use lib.Signed.{rem_z}
use Rattle.word.specs.Word.{rem_s}
use Rattle.signed.proofs.Quotients.{remainder_keeps, dividable, given, refused}
use Rattle.signed.proofs.rem_s.Goals as goal

pub returns-in_err-a : goal.returns-in_err-a
unfolding rem_s
returns-in_err-a c = refused rem_z _ _ _ _ (search rules) (c.in_err-a.ensures.stops rem_z)

pub nonzero_rem-a : goal.nonzero_rem-a
nonzero_rem-a c =
    dividable _ _ _ _ c.ranges.x c.ranges.y c.in_ok-a.ensures.read.0 c.in_ok-a.ensures.read.1 c.in_ok-a.ensures.nonzero c.in_ok-a.ensures.in_range

pub returns : goal.returns
unfolding rem_s
returns c =
    given _ _ _ _ c.ranges.x c.ranges.y c.in_ok-a.ensures.read.0 c.in_ok-a.ensures.read.1 c.in_ok-a.ensures.nonzero c.in_ok-a.ensures.in_range rem_z remainder_keeps _ c.as_cell.ensures
