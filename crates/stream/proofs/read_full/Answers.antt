-- What a read gave stands behind what stood at the buffer's start before.
use Rattle.std.proofs.Common.{◌≡◌, ℕ, ◌+◌, ◌-◌, ◌≤◌, List, ◌++◌, length, take, drop, rules, sym, ap, ◌∙◌, subst, le_refl, drop_at, length-take-le}
use Rattle.std.proofs.Math.Seq.{take-add}
use Rattle.std.proofs.lemmas.List.{take-append-le}
use Rattle.std.proofs.lemmas.Slice.{take-put_mid_below}
use Rattle.std.proofs.KnownBytes.{Consumes-trans}
use Rattle.std.specs.Io.KnownBytes.{Consumes}
use borrow.Rule.Slice.PartMut.{put_mid, post_of}
use Rattle.stream.proofs.read_full.Goals as goal

take_more : (a k n : ℕ) (xs ys : List ℕ) → a ≤ length xs → n ≤ length ys → take a xs ++ take n ys ≡ take (a + n) (put_mid a k xs ys)
take_more a k n xs ys within fits =
    let all = put_mid a k xs ys in
    let front : take a all ≡ take a xs = take-put_mid_below a k xs ys a (le_refl a) within in
    let rest : drop a all ≡ ys ++ post_of a k xs = drop_at (take a xs) (ys ++ post_of a k xs) a (length-take-le a xs within) in
    let read : take n (drop a all) ≡ take n ys = ap (take n) rest ∙ take-append-le n ys (post_of a k xs) fits in
    ap (λ l. l ++ take n ys) (sym front) ∙ ap (λ l. take a all ++ l) (sym read) ∙ sym (take-add a n all)

pub loop-done-preserved : goal.loop-done-preserved
loop-done-preserved g c =
    let before = c.loop-done.invariant in
    let read = c.in_ok-read.ensures in
    let more = take_more c.loop-done.done (length c.loop-done.buffer - c.loop-done.done) c.in_ok-read.read c.loop-done.buffer c.read.new.buf before.0 read.bound.0 in
    (search rules, subst (Consumes _ _) more (Consumes-trans _ _ _ _ _ before.1 read.bytes.0))
