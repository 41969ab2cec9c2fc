use lib.IntN.{◌+ℤ◌}
use Rattle.word.specs.Word.{add_s}
use Rattle.word.proofs.Operands.{asked, sum_fits}
use Rattle.effect.proofs.Puts.{put_exact}
use Rattle.effect.proofs.sum.Goals as goal

pub overflow_add-wide : goal.overflow_add-wide
overflow_add-wide c = search (asked ◌+ℤ◌ sum_fits)

pub returns : goal.returns
unfolding add_s
returns c = search (put_exact ◌+ℤ◌ sum_fits)
