use lib.IntN.{◌-ℤ◌}
use Rattle.word.specs.Word.{sub_s}
use Rattle.word.proofs.Operands.{asked, difference_fits}
use Rattle.effect.proofs.Puts.{put_exact}
use Rattle.effect.proofs.difference.Goals as goal

pub overflow_sub-wide : goal.overflow_sub-wide
overflow_sub-wide c = search (asked ◌-ℤ◌ difference_fits)

pub returns : goal.returns
unfolding sub_s
returns c = search (put_exact ◌-ℤ◌ difference_fits)
