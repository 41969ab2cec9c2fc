-- What the kernel has to do: threads to run, updates requested, what is due.
use Rattle.std.specs.Prelude.{ℕ, ◌+◌, Bool, true, false, not, ◌&&◌, ◌++◌, eqb, ltb}
use Rattle.kernel.specs.Search.{Found, none, found, lesser, least, sum, each}
use Rattle.kernel.specs.Design.{Table, threads, events, updates}
use Rattle.kernel.specs.Kernel.{Due, never, delta, at, Wait, free, on, till, Kernel, triggered, freed, resumed, History}

abbrev pub is_free : Wait → Bool
is_free free = true
is_free (on e) = false
is_free (till d) = false

-- what a wait, and a pending resume, are due at
abbrev pub due_of : Wait → Due
due_of free = never
due_of (on e) = never
due_of (till d) = d

abbrev pub resume_due : Bool → Due
resume_due true = delta
resume_due false = never

-- "A thread is runnable when it hasn't ended, waits for nothing and isn't suspended."
abbrev pub runnable : Table → Kernel → ℕ → Bool
runnable t k i =
    ltb i (threads t) && (not (k.threads i).ended && is_free (k.threads i).wait && not (k.threads i).suspended)

abbrev pub is_requested : Table → Kernel → ℕ → Bool
is_requested t k u = ltb u (updates t) && k.requested u

-- "the least due time of events and threads"
abbrev pub time_of : Due → Found
time_of never = none
time_of delta = none
time_of (at t) = found t

unfoldable pub least_time : Table → Kernel → Found
least_time t k =
    lesser (least (λ e. time_of (k.pends e)) (events t)) (least (λ i. time_of (due_of (k.threads i).wait)) (threads t))

-- above the limit, where there is one
abbrev pub above : ℕ → Found → Bool
above d none = false
above d (found l) = ltb l d

-- how many due times stand
abbrev pub is_time : Due → ℕ
is_time never = 0
is_time delta = 0
is_time (at t) = 1

unfoldable pub times_of : Table → Kernel → ℕ
times_of t k =
    sum (λ e. is_time (k.pends e)) (events t) + sum (λ i. is_time (due_of (k.threads i).wait)) (threads t)

abbrev pub same_due : Due → Due → Bool
same_due never d = false
same_due delta never = false
same_due delta delta = true
same_due delta (at u) = false
same_due (at t) never = false
same_due (at t) delta = false
same_due (at t) (at u) = eqb t u

-- all that is due at d is triggered, freed or resumed together
unfoldable pub served : Table → Kernel → Due → History
served t k d =
    each (λ i. same_due (resume_due (k.threads i).resuming) d) resumed (threads t)
    ++ (each (λ i. same_due (due_of (k.threads i).wait) d) freed (threads t)
    ++ each (λ e. same_due (k.pends e) d) triggered (events t))
