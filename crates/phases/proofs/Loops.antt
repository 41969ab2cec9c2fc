-- All events of a set are triggered, the least first: one turn of the loop and its end. Assumes nothing.
use Prim.Native.Nat.{ℕ, zero, suc, ◌-◌, ◌%◌, ◌≤◌, ◌<◌}
use mathlib.Core.Path.{◌≡◌, refl, sym, ap, ◌∙◌}
use mathlib.Core.Bool.{Bool, true, false}
use mathlib.Core.List.{List}
use native.Mathlib.Nat.{not-suc-le-zero}
use native.Mathlib.Omega.{arith}
use lib.ListN.{get_or, set}
use lib.Dec.{eqb}
use borrow.Author.Tests.{le-ltb, ne_eqb, eqb-false}
use Rattle.std.specs.Prelude.{if◌then◌else◌}
use Rattle.laws.specs.Choice.{true_not_false}
use Rattle.sets.specs.Sets.{has, single, minus, without, least_of}
use Rattle.std.proofs.Common.{Some}
use Rattle.sets.specs.Members.{TakesLeast}
use Rattle.sets.specs.declared.Members.{Members}
use Rattle.sets.specs.Laws.{has_zero, has_without, least_in_lem, least_first, minus_fits}
use Rattle.dues.specs.Laws.{by_size}
use Rattle.phases.specs.Phases.{freed_to, freed_by, cleared_to, cleared_by}
use Rattle.phases.specs.Laws.{cleared_at}

-- what only a number of the set changes is the same where there is none between
unchanged : (A : Type 0) (f : ℕ → A) (es : ℕ) → ((i : ℕ) → has es i ≡ false → f (suc i) ≡ f i) → (a n : ℕ) → a ≤ n → ((i : ℕ) → a ≤ i → i < n → has es i ≡ false) → f n ≡ f a
unchanged A f es s a zero l h = let z : zero ≡ a = omega arith in ap f z
unchanged A f es s a (suc n) l h =
    by_size (f (suc n) ≡ f a) n a (λ g. s n (h n g (omega arith)) ∙ unchanged A f es s a n g (λ i p q. h i p (omega arith)))
    (λ g. let z : suc n ≡ a = omega arith in ap f z)

freed_same : (es : ℕ) (ws : List ℕ) (x i : ℕ) → has es i ≡ false → freed_to es ws x (suc i) ≡ freed_to es ws x i
unfolding freed_to
freed_same es ws x i e = rw e

freed_next : (es : ℕ) (ws : List ℕ) (x i : ℕ) → has es i ≡ true → minus (freed_to es ws x i) (get_or ws i 0) ≡ freed_to es ws x (suc i)
unfolding freed_to
freed_next es ws x i e = rw e

cleared_same : (es : ℕ) (ws : List ℕ) (i : ℕ) → has es i ≡ false → cleared_to es (suc i) ws ≡ cleared_to es i ws
unfolding cleared_to
cleared_same es ws i e = rw e

cleared_next : (es : ℕ) (ws : List ℕ) (i : ℕ) → has es i ≡ true → set (cleared_to es i ws) i 0 ≡ cleared_to es (suc i) ws
unfolding cleared_to
cleared_next es ws i e = rw e

-- what is left after the first `upto` numbers of the set es, and what they made of the waiting threads and the waiters
pub record Freeing (es : ℕ) (ws₀ : List ℕ) (x₀ left still : ℕ) (ws : List ℕ) : Type 0 where
  pub fits : left < 4294967296
  pub upto : ℕ
  pub most : upto ≤ 32
  pub gone : (i : ℕ) → i < upto → has left i ≡ false
  pub ahead : (i : ℕ) → upto ≤ i → i < 32 → has left i ≡ has es i
  pub freed : still ≡ freed_to es ws₀ x₀ upto
  pub cleared : ws ≡ cleared_to es upto ws₀

module _ (es : ℕ) (ws₀ : List ℕ) (x₀ : ℕ) where
  pub freeing_starts : (s t : Members) → es < 4294967296 → t ≡ record { left = es } → s ≡ t → Freeing es ws₀ x₀ s.left x₀ ws₀
  unfolding freed_to cleared_to
  freeing_starts s t h e f =
      rw (f, e) (record { fits = h; upto = 0; most = omega arith; gone = λ i l. absurd (not-suc-le-zero l); ahead = λ i l k. refl; freed = refl; cleared = refl })

  module _ (left still : ℕ) (ws : List ℕ) (F : Freeing es ws₀ x₀ left still ws) where
    -- none of es lies between what is done and n
    freed_till : (n : ℕ) → F.upto ≤ n → ((i : ℕ) → F.upto ≤ i → i < n → has es i ≡ false) → still ≡ freed_to es ws₀ x₀ n
    freed_till n l h = F.freed ∙ sym (unchanged ℕ (freed_to es ws₀ x₀) es (freed_same es ws₀ x₀) F.upto n l h)

    cleared_till : (n : ℕ) → F.upto ≤ n → ((i : ℕ) → F.upto ≤ i → i < n → has es i ≡ false) → ws ≡ cleared_to es n ws₀
    cleared_till n l h =
        F.cleared ∙ sym (unchanged (List ℕ) (λ i. cleared_to es i ws₀) es (cleared_same es ws₀) F.upto n l h)

    none_left : left ≡ 0 → (i : ℕ) → F.upto ≤ i → i < 32 → has es i ≡ false
    none_left z i l k = sym (F.ahead i l k) ∙ ap (λ s. has s i) z ∙ has_zero i

    pub freeing_end : left ≡ 0 → still ≡ freed_by es ws₀ x₀
    freeing_end z = freed_till 32 F.most (none_left z)

    pub clearing_end : left ≡ 0 → ws ≡ cleared_by es ws₀
    clearing_end z = cleared_till 32 F.most (none_left z)

    -- the least of what is left
    module _ (some : left % 4294967296 ≡ 0 → ⊥) where
      below_32 : least_of left < 32
      below_32 = (least_in_lem left some).0

      is_left : has left (least_of left) ≡ true
      is_left = (least_in_lem left some).1

      not_done : F.upto ≤ least_of left
      not_done =
          by_size (F.upto ≤ least_of left) (least_of left) F.upto (λ h. h)
          (λ h. true_not_false (sym is_left ∙ F.gone (least_of left) h))

      between : (i : ℕ) → F.upto ≤ i → i < least_of left → has es i ≡ false
      between i l k = sym (F.ahead i l (omega (arith, below_32))) ∙ least_first left i k

      is_event : has es (least_of left) ≡ true
      is_event = sym (F.ahead (least_of left) not_done below_32) ∙ is_left

      waiters : get_or ws (least_of left) 0 ≡ get_or ws₀ (least_of left) 0
      waiters =
          ap (λ k. get_or k (least_of left) 0) F.cleared ∙ cleared_at es F.upto ws₀ (least_of left)
          ∙ rw (le-ltb (least_of left) F.upto not_done)

      rest_at : (i : ℕ) → i < 32 → has (without left (least_of left)) i ≡ (if eqb i (least_of left) then false else has left i)
      rest_at i l = has_without left (least_of left) i l

      rest_gone : (i : ℕ) → i < suc (least_of left) → has (without left (least_of left)) i ≡ false
      rest_gone i l = rest_at i (omega (arith, below_32)) ∙ go (eqb i (least_of left)) refl
        where
          go : (b : Bool) → eqb i (least_of left) ≡ b → (if b then false else has left i) ≡ false
          go true e = refl
          go false e = least_first left i (omega (arith, eqb-false i (least_of left) e))

      rest_ahead : (i : ℕ) → suc (least_of left) ≤ i → i < 32 → has (without left (least_of left)) i ≡ has es i
      rest_ahead i l k =
          let n : eqb i (least_of left) ≡ false = ne_eqb i (least_of left) (λ e. omega arith) in
          rest_at i k ∙ rw n (F.ahead i (omega (arith, not_done)) k)

      least_freed : Freeing es ws₀ x₀ (without left (least_of left)) (minus still (get_or ws (least_of left) 0)) (set ws (least_of left) 0)
      unfolding without
      least_freed =
          record {
            fits = minus_fits left (single (least_of left)) F.fits;
            upto = suc (least_of left);
            most = below_32;
            gone = rest_gone;
            ahead = rest_ahead;
            freed =
                ap (λ w. minus still w) waiters ∙ ap (λ s. minus s (get_or ws₀ (least_of left) 0)) (freed_till (least_of left) not_done between)
                ∙ freed_next es ws₀ x₀ (least_of left) is_event;
            cleared =
                ap (λ k. set k (least_of left) 0) (cleared_till (least_of left) not_done between)
                ∙ cleared_next es ws₀ (least_of left) is_event;
          }

  module _ (left still e r l : ℕ) (ws t : List ℕ) where
    pub freeing_turn : Freeing es ws₀ x₀ left still ws → TakesLeast left (Some e) l → r ≡ minus still (get_or ws e 0) → t ≡ set ws e 0 → Freeing es ws₀ x₀ l r t
    freeing_turn F (n, i, w) f c =
        let h : left < 4294967296 = F.fits in
        let k : left % 4294967296 ≡ left = omega arith in
        rw (w, f, c, i) (least_freed left still ws F (rw k n))
