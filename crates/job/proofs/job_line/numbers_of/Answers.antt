use Rattle.std.proofs.Common.{ℕ, List, ◌<◌, ◌≤◌, ◌≡◌, take, map, Some, length, refl, sym, ap, ◌∙◌, arith, length-append, length-take-le}
use borrow.Author.Tests.{ltb-true}
use Rattle.std.proofs.Math.ListN.{length-take}
use Rattle.std.proofs.lemmas.List.{take-append-le}
use Rattle.program.proofs.Lines.{cut_there, numbers_unended, numbers_ragged, numbers_many, numbers_there}
use Rattle.job.proofs.Reading.{number_small, numbers_begin, numbers_stop, numbers_turn, numbers_over}
use Rattle.job.proofs.job_line.numbers_of.Goals as goal

-- the loop's places are the first ones of the room
module _ {A : Type 0} (n : ℕ) (room : List A) where
  turns : (i : ℕ) → i < length (take n room) → i < n
  turns i h = omega (arith, length-take n room)

  filled : (places : List A) → n ≤ length room → length places ≡ length (take n room) → length places ≡ n
  filled places h e = e ∙ length-take-le n room h

  ended : (i : ℕ) → n ≤ length room → i ≤ length (take n room) → length (take n room) ≤ i → i ≡ n
  ended i h a b = omega (arith, length-take-le n room h)

pub returns-in_err-line : goal.returns-in_err-line
returns-in_err-line g c = rw c.from_residual.ensures (numbers_unended _ _ _ c.in_err-line.ensures)

pub returns-then-line-digits-ne0 : goal.returns-then-line-digits-ne0
returns-then-line-digits-ne0 g c =
    rw (← c.DIGITS-digits.ensures) (numbers_ragged _ _ _ (cut_there _ _ _ c.in_ok-line.ensures) _ _ c.if-line-digits-ne0.true)

pub returns-then-room-count : goal.returns-then-room-count
returns-then-room-count g c =
    rw (← c.DIGITS-digits.ensures) (numbers_many _ _ _ (cut_there _ _ _ c.in_ok-line.ensures) _ _ c.if-line-digits-ne0.false c.if-room-count.true)

pub loop-i-init : goal.loop-i-init
loop-i-init g c = numbers_begin _ _ _

pub returns-in_err-x : goal.returns-in_err-x
returns-in_err-x g c =
    let some = ltb-true 0 _ g.met.T.Number.some in
    rw (c.from_residual-in_err-x.ensures, ← c.DIGITS-digits.ensures)
    (sym (numbers_there _ _ _ (cut_there _ _ _ c.in_ok-line.ensures) _ (length c.args.room.now) (rw c.DIGITS-digits.ensures some) c.if-line-digits-ne0.false c.if-room-count.false)
    ∙ numbers_stop _ _ _ _ _ (sym c.in_err-x.ensures) (turns _ _ _ c.loop-i-test.true) c.loop-i.invariant)

pub from_digits-requires : goal.from_digits-requires
from_digits-requires g c = rw (← c.DIGITS-digits.ensures) (number_small _ _ _ _ _ _ c.in_ok-x.ensures refl refl)

pub loop-i-preserved : goal.loop-i-preserved
loop-i-preserved g c =
    numbers_turn _ _ _ _ _ _ _ _ (sym c.in_ok-x.ensures) c.from_digits.ensures (turns _ _ _ c.loop-i-test.true) (rw c.loop-i.auto.places c.loop-i-test.true) c.loop-i.invariant

pub returns : goal.returns
returns g c =
    let cut = cut_there _ _ _ c.in_ok-line.ensures in
    let some = ltb-true 0 _ g.met.T.Number.some in
    let last = ended _ _ _ c.if-room-count.false c.loop-i.auto.i-end c.loop-i-test.false in
    let long = filled _ _ _ c.if-room-count.false c.loop-i.auto.places in (
      rw (← c.DIGITS-digits.ensures)
          (sym (numbers_there _ _ _ cut _ (length c.args.room.now) (rw c.DIGITS-digits.ensures some) c.if-line-digits-ne0.false c.if-room-count.false)
          ∙ numbers_over _ _ _ _ _ _ last c.loop-i.invariant ∙ ap (λ l. Some (map g.T.Number.value l)) (sym (take-append-le _ _ _ (omega (arith, long))))),
      simp length-append (omega (arith, long)),
      cut.is_rest,
    )
