-- What the code makes of due times. Document 01, "The kernel"; the crate `shows` says what that is for the kernel they show.
use Rattle.std.specs.Prelude.{ℕ, zero, suc, ◌+◌, ◌<◌, min, ◌≡◌, Bool, List, length, get_or, set, eqb, if◌then◌else◌}
use Rattle.sets.specs.Sets.{with}
use Rattle.kernel.specs.Search.{Found, least}
use Rattle.kernel.specs.Pending.{time_of, is_time}
use Rattle.dues.specs.Codes.{for_nothing, pend_of}

-- Due times ----------------------------------------------------------------------------------------------------

abbrev pub time_at : List ℕ → ℕ → Found
time_at cs i = time_of (pend_of (get_or cs i 0))

-- the number of the least due time among many, or one for nothing
pub record Least (cs : List ℕ) (r : ℕ) : Type 0 where
  pub some : 0 < r
  pub is : time_of (pend_of r) ≡ least (time_at cs) (length cs)

-- one where a due time stands
abbrev pub count_at : List ℕ → ℕ → ℕ
count_at cs i = is_time (pend_of (get_or cs i 0))

-- "Delay 0 pends for the delta phase, else now + delay."
unfoldable pub ask_code : ℕ → ℕ → ℕ
ask_code now d = if eqb d 0 then 0 else now + d + 1

-- Waits, and notifications -------------------------------------------------------------------------------------

-- thread i waits for the delta phase, where q is 0, or for the time of q
unfoldable pub waits_at : (q i : ℕ) → List ℕ → List ℕ
waits_at q i ws = if eqb q 0 then ws else set ws i q

-- l, changed by f at place i; past the end nothing changes
abbrev pub changed : (ℕ → ℕ) → ℕ → List ℕ → List ℕ
changed f i l = set l i (f (get_or l i 0))

-- "The earlier one stays; delta is earlier than any time." d says that the event pends for the delta phase
unfoldable pub asked_code : (d : Bool) → (q c : ℕ) → ℕ
asked_code d q c = if eqb q 0 then for_nothing else (if d then c else min q c)

-- What is over -------------------------------------------------------------------------------------------------

-- what pends, or is waited for, where all with the number q is over
unfoldable pub over_code : ℕ → ℕ → ℕ
over_code q c = if eqb c q then for_nothing else c

-- the places below n that hold the number q (a set has none from 32 on)
unfoldable pub due_to : (q : ℕ) → List ℕ → (n : ℕ) → ℕ
due_to q cs zero = 0
due_to q cs (suc n) = if eqb (get_or cs n 0) q then with (due_to q cs n) n else due_to q cs n

abbrev pub due_in : (q : ℕ) → List ℕ → ℕ
due_in q cs = due_to q cs (length cs)
