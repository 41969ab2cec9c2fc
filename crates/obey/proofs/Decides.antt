-- The one decision over the op numbers that are not plain, each law as an arm of the match has it. Assumes nothing.
use Prim.Native.Nat.{ℕ, ◌<◌}
use mathlib.Core.Path.{◌≡◌, refl}
use mathlib.Core.Bool.{Bool, true, false}
use mathlib.Core.List.{List, [], ◌∷◌}
use lib.Dec.{T}
use Rattle.laws.specs.Span.{Arm, AllTold, Rest, the_rest}
use Rattle.frame.specs.declared.Frame.{Frame}
use Rattle.frame.specs.Ops.{Meaning, takes_imm, takes_input, one, two, may, load, store, goto, goto_if, holds, wait_event, wait_time, notify, notify_after, request, suspend, resume, start_limit, start, unknown, meaning_of}
use Rattle.ending.specs.declared.Ending.TheVariants.{UnknownOp}
use Rattle.turns.specs.declared.Now.{Now}
use Rattle.shows.specs.Shows.{Lists, Kept, kept}
use Rattle.turns.specs.Code.{stopped, obeyed}

-- the meanings that no arm has, and the numbers of the arms
abbrev other : Meaning → Bool
other takes_imm = true
other takes_input = false
other (one f) = true
other (two f) = true
other (may f) = true
other load = true
other store = true
other goto = true
other goto_if = true
other (holds k) = true
other wait_event = false
other wait_time = false
other notify = false
other notify_after = false
other request = false
other suspend = false
other resume = false
other start_limit = false
other start = false
other unknown = true

abbrev singles : List Arm
singles =
    (0x03, []) ∷ (0x60, []) ∷ (0x61, []) ∷ (0x62, []) ∷ (0x63, []) ∷ (0x64, []) ∷ (0x65, []) ∷ (0x66, []) ∷ (0x67, []) ∷ (0x68, []) ∷ []

every : AllTold (λ n. other (meaning_of n)) singles []
unfolding meaning_of
every = tt

module _ (t b : ℕ) (i : Frame) (n : Now) (inputs : List ℕ) (l : Lists) (cs : List ℕ) where
  abbrev x : Kept
  x = kept n.marks l

  by_other : (k : Meaning) → T (other k) → stopped UnknownOp x cs ≡ obeyed t b i n inputs x cs k
  unfolding obeyed
  by_other takes_imm o = refl
  by_other takes_input o = absurd o
  by_other (one f) o = refl
  by_other (two f) o = refl
  by_other (may f) o = refl
  by_other load o = refl
  by_other store o = refl
  by_other goto o = refl
  by_other goto_if o = refl
  by_other (holds k) o = refl
  by_other wait_event o = absurd o
  by_other wait_time o = absurd o
  by_other notify o = absurd o
  by_other notify_after o = absurd o
  by_other request o = absurd o
  by_other suspend o = absurd o
  by_other resume o = absurd o
  by_other start_limit o = absurd o
  by_other start o = absurd o
  by_other unknown o = refl

  pub obey_other : i.op < 256 → Rest (Unit {0}) singles i.op → stopped UnknownOp x cs ≡ obeyed t b i n inputs x cs (meaning_of i.op)
  obey_other h o = by_other (meaning_of i.op) (the_rest (λ k. other (meaning_of k)) singles [] every i.op h o tt)
