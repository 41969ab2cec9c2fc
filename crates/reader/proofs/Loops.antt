-- Laws of the loop over lines, as the code has them. Assumes nothing.
use Rattle.std.specs.Prelude.{Option, None, Some}
use Prim.Native.Nat.{ℕ, zero, suc, ◌+◌, ◌-◌, ◌*◌, ◌≤◌, ◌<◌}
use mathlib.Core.Path.{◌≡◌, refl, sym, ap, ◌∙◌}
use mathlib.Core.List.{List, [], ◌∷◌, ◌++◌, append_assoc, append-nil}
use native.Mathlib.Omega.{arith}
use native.Mathlib.Numerals.{add-one}
use lib.ListN.{length, get_or, set, take}
use Rattle.std.proofs.lemmas.List.{set-get_or}
use lib.Seq.{take-suc-set}
use Rattle.lines.specs.Text.{line_at, frames_from}
use Rattle.lines.proofs.Lines.{line_there}
use Rattle.reader.specs.Steps.{Decoded}

-- the loop over the lines
pub lines_none : (bs ws : List ℕ) → take 0 ws ++ frames_from bs 0 (length ws - 0) ≡ frames_from bs 0 (length ws)
lines_none bs ws =
    let m : length ws - 0 ≡ length ws = omega arith in
    rw m

module _ (bs : List ℕ) where
  from_good : (i n x : ℕ) → 0 < n → line_at bs (17 * i) ≡ Some x → frames_from bs i n ≡ x ∷ frames_from bs (suc i) (n - 1)
  unfolding frames_from
  from_good i zero x h e = absurd (omega arith)
  from_good i (suc n) x h e =
      let m : suc n - 1 ≡ n = omega arith in
      rw (e, m)

  from_bad : (i n : ℕ) → line_at bs (17 * i) ≡ None → frames_from bs i n ≡ []
  unfolding frames_from
  from_bad i zero e = refl
  from_bad i (suc n) e = rw e

  module _ (ws : List ℕ) (i N : ℕ) (l : Option ℕ) (e : l ≡ line_at bs (17 * i)) (g : i < length ws) (s : length ws ≡ N) (q : take i ws ++ frames_from bs i (N - i) ≡ frames_from bs 0 N) where
    pub lines_turn : (x : ℕ) → l ≡ Some x → take (i + 1) (set ws i x) ++ frames_from bs (i + 1) (N - (i + 1)) ≡ frames_from bs 0 N
    lines_turn x h =
        let w : line_at bs (17 * i) ≡ Some x = sym e ∙ h in
        let m : N - i - 1 ≡ N - suc i = omega arith in
        let f : frames_from bs i (N - i) ≡ x ∷ frames_from bs (suc i) (N - suc i) = rw m at (from_good i (N - i) x (omega arith) w) in
        rw (add-one i, take-suc-set ws i x g, append_assoc) (rw f at q)

    -- the word at the malformed line stays as it was
    pub lines_stop : l ≡ None → Decoded bs (set ws i (get_or ws i 0)) i
    lines_stop h =
        let w : line_at bs (17 * i) ≡ None = sym e ∙ h in
        rw (set-get_or ws i 0) (record { lines = rw s (sym (append-nil (take i ws)) ∙ rw (from_bad i (N - i) w) at q); within = omega arith })

  pub lines_full : (ws : List ℕ) (i N : ℕ) → length ws ≡ N → i ≤ N → N ≤ i → take i ws ++ frames_from bs i (N - i) ≡ frames_from bs 0 N → Decoded bs ws (length ws)
  unfolding frames_from
  lines_full ws i N s h g q =
      let m : N - i ≡ 0 = omega arith in
      let k : i ≡ length ws = omega arith in
      let a : take i ws ≡ frames_from bs 0 N = sym (append-nil (take i ws)) ∙ rw m at q in
      record { lines = ap (λ n. take n ws) (sym k) ∙ a ∙ ap (frames_from bs 0) (sym s); within = omega arith }

pub ruleset lines_laws = (lines_turn, lines_stop, lines_full, line_there)
