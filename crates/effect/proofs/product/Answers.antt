use lib.IntN.{◌*ℤ◌}
use Rattle.word.specs.Word.{mul_s}
use Rattle.word.proofs.Operands.{asked, product_fits}
use Rattle.effect.proofs.Puts.{put_exact}
use Rattle.effect.proofs.product.Goals as goal

pub overflow_mul-wide : goal.overflow_mul-wide
overflow_mul-wide c = search (asked ◌*ℤ◌ product_fits)

pub returns : goal.returns
unfolding mul_s
returns c = search (put_exact ◌*ℤ◌ product_fits)
