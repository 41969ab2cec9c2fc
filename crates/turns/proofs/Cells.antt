-- An instruction of an accepted table sees and changes the design's cells alone: what the lent buffer holds past them does not matter. Assumes nothing.
use Prim.Native.Nat.{ℕ, zero, suc, ◌+◌, ◌≤◌, ◌<◌}
use mathlib.Core.Path.{◌≡◌, refl, ap}
use mathlib.Core.Bool.{Bool, true, false, ◌&&◌}
use mathlib.Core.List.{List, ◌++◌}
use native.Mathlib.Omega.{arith}
use borrow.Author.Tests.{leb-false}
use lib.Dec.{ltb, leb, eqb}
use lib.ListN.{length, get_or, get_or-append}
use Rattle.word.specs.Word.{Result, value, stop}
use Rattle.frame.specs.declared.Frame.{Frame}
use Rattle.frame.specs.declared.Counts.{Counts}
use Rattle.frame.specs.Ops.{Meaning, takes_imm, takes_input, one, two, may, load, store, goto, goto_if, holds, wait_event, wait_time, notify, notify_after, request, suspend, resume, start_limit, start, unknown}
use Rattle.frame.specs.Agree.{InCells}
use Rattle.kernel.specs.Search.{Found, none, found}
use Rattle.kernel.specs.Kernel.{Due, never, delta, at, after_delay, till, Deed, nothing, notifies, requests, suspends, resumes, asks, waits, Stage, before, during, past}
use Rattle.kernel.specs.Effect.{View, Effect, stops, sets, takes, goes, does, begins, stop_if, sets_to, takes_to, goes_if, starts_in, main_past, asks_for, is_never, effect}

-- the same view with other cells
abbrev pub seeing : List ℕ → View → View
seeing l v =
    record { body = v.body; place = v.place; cells = l; input = v.input; kernel = v.kernel; times = v.times }

module _ (c : Counts) (i : Frame) (v : View) (l rest : List ℕ) (e : length l ≡ c.cells) where
  cell_same : (x : ℕ) → x < c.cells → get_or (l ++ rest) x 0 ≡ get_or l x 0
  cell_same x h = get_or-append l rest 0 x (omega arith)

  -- a place in the region
  region_same : (x : ℕ) → i.imm + i.b ≤ c.cells → (t : Bool) → leb i.b x ≡ t → stop_if t 16 (sets i.d (get_or (l ++ rest) (i.imm + x) 0)) ≡ stop_if t 16 (sets i.d (get_or l (i.imm + x) 0))
  region_same x h true q = refl
  region_same x h false q =
      let w : x < i.b = leb-false i.b x q in
      ap (sets i.d) (cell_same (i.imm + x) (omega arith))

  pub same_effect : (m : Meaning) → InCells c i m → effect (seeing (l ++ rest) v) i m ≡ effect (seeing l v) i m
  unfolding effect
  same_effect takes_imm k = refl
  same_effect takes_input k = refl
  same_effect (one f) k = rw (cell_same i.a (k.a_in refl))
  same_effect (two f) k = rw (cell_same i.a (k.a_in refl), cell_same i.b (k.b_in refl))
  same_effect (may f) k = rw (cell_same i.a (k.a_in refl), cell_same i.b (k.b_in refl))
  same_effect load k =
      rw (cell_same i.a (k.a_in refl)) (region_same (get_or l i.a 0) (k.region_in refl) (leb i.b (get_or l i.a 0)) refl)
  same_effect store k = rw (cell_same i.a (k.a_in refl), cell_same i.d (k.d_in refl))
  same_effect goto k = refl
  same_effect goto_if k = rw (cell_same i.a (k.a_in refl))
  same_effect (holds n) k = rw (cell_same i.a (k.a_in refl))
  same_effect wait_event k = refl
  same_effect wait_time k = rw (cell_same i.a (k.a_in refl))
  same_effect notify k = refl
  same_effect notify_after k = rw (cell_same i.a (k.a_in refl))
  same_effect request k = refl
  same_effect suspend k = refl
  same_effect resume k = refl
  same_effect start_limit k = refl
  same_effect start k = refl
  same_effect unknown k = refl

-- where an effect stores: among the design's cells
abbrev pub Within : ℕ → Effect → Type 0
Within n (stops k) = Unit {0}
Within n (sets d x) = d < n
Within n (takes d x) = d < n
Within n (goes p) = Unit {0}
Within n (does x) = Unit {0}
Within n (begins l) = Unit {0}

module _ (n : ℕ) where
  within_stop : (t : Bool) (k : ℕ) (x : Effect) → (t ≡ false → Within n x) → Within n (stop_if t k x)
  within_stop true k x f = tt
  within_stop false k x f = f refl

  within_result : (d : ℕ) (r : Result) → d < n → Within n (sets_to d r)
  within_result d (value x) h = h
  within_result d (stop k) h = tt

  within_input : (d : ℕ) (f : Found) → d < n → Within n (takes_to d f)
  within_input d none h = tt
  within_input d (found x) h = h

  within_goes : (x p q : ℕ) → Within n (goes_if x p q)
  within_goes zero p q = tt
  within_goes (suc x) p q = tt

  -- what only asks the kernel stores nothing
  within_asks : (adds : Bool) (k : ℕ) (d : Due) (x : Deed) → Within n (asks_for adds k d x)
  within_asks adds k never x = tt
  within_asks adds k delta x = tt
  within_asks adds k (at t) x =
      within_stop (ltb 4294967295 t) 17 _ (λ e. within_stop (adds && leb 48 k) 23 (does x) (λ q. tt))

  within_start : (s : Stage) (l : Found) → Within n (starts_in s l)
  within_start before l = tt
  within_start during l = tt
  within_start (past k) l = tt

module _ (c : Counts) (i : Frame) (v : View) where
  -- 18 comes before what the instruction itself answers
  in_time_lem : (x : Effect) → Within c.cells x → Within c.cells (stop_if (main_past v.body v.kernel.stage) 18 x)
  in_time_lem x h = within_stop c.cells (main_past v.body v.kernel.stage) 18 x (λ e. h)

  pub within_cells : (m : Meaning) → InCells c i m → Within c.cells (effect v i m)
  unfolding effect
  within_cells takes_imm k = k.d_in refl
  within_cells takes_input k = within_input c.cells i.d v.input (k.d_in refl)
  within_cells (one f) k = k.d_in refl
  within_cells (two f) k = k.d_in refl
  within_cells (may f) k = within_result c.cells i.d (f (get_or v.cells i.a 0) (get_or v.cells i.b 0)) (k.d_in refl)
  within_cells load k =
      within_stop c.cells (leb i.b (get_or v.cells i.a 0)) 16 (sets i.d (get_or v.cells (i.imm + get_or v.cells i.a 0) 0)) (λ e. k.d_in refl)
  within_cells store k =
      within_stop c.cells (leb i.b (get_or v.cells i.a 0)) 16 (sets (i.imm + get_or v.cells i.a 0) (get_or v.cells i.d 0)) (λ e. omega (arith, leb-false i.b (get_or v.cells i.a 0) e, k.region_in refl))
  within_cells goto k = tt
  within_cells goto_if k = within_goes c.cells (get_or v.cells i.a 0) i.imm (suc v.place)
  within_cells (holds n) k = within_stop c.cells (eqb (get_or v.cells i.a 0) 0) n (does nothing) (λ e. tt)
  within_cells wait_event k = tt
  within_cells wait_time k = let d = after_delay v.kernel.now (get_or v.cells i.a 0) in within_asks c.cells true v.times d (waits (till d))
  within_cells notify k = in_time_lem (does (notifies i.d)) tt
  within_cells notify_after k = let d = after_delay v.kernel.now (get_or v.cells i.a 0) in in_time_lem _ (within_asks c.cells (is_never (v.kernel.pends i.d)) v.times d (asks i.d d))
  within_cells request k = in_time_lem (does (requests i.d)) tt
  within_cells suspend k = in_time_lem (does (suspends i.d)) tt
  within_cells resume k = in_time_lem (does (resumes i.d)) tt
  within_cells start_limit k = within_start c.cells v.kernel.stage (found i.imm)
  within_cells start k = within_start c.cells v.kernel.stage none
  within_cells unknown k = tt
