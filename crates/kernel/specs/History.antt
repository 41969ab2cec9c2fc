-- What can happen in a run, and the list of it. Document 01, "The kernel". Nothing of what the kernel makes of it stands here.
use Rattle.std.specs.Prelude.{ℕ, List}
use Rattle.kernel.specs.Search.{Found}
use Rattle.kernel.specs.Design.{Body}

-- "An event pends for nothing, for the delta phase, or for a due time."
pub data Due : Type 0 where
  never delta : Due
  at : ℕ → Due

-- a thread waits for nothing, for an event, or for a due time
pub data Wait : Type 0 where
  free : Wait
  on : ℕ → Wait
  till : Due → Wait

-- before the phase; in it; after it, with the number that it ended with
pub data Stage : Type 0 where
  before during : Stage
  past : ℕ → Stage

-- what an instruction does beyond its own body and the cells
pub data Deed : Type 0 where
  -- nothing; it takes the next input
  nothing reads : Deed
  -- it notifies an event at once; it asks for a notification of an event in the delta phase or at a time
  notifies : ℕ → Deed
  asks : ℕ → Due → Deed
  -- its thread waits
  waits : Wait → Deed
  -- it requests an update; it suspends a thread, or asks for its resume
  requests : ℕ → Deed
  suspends : ℕ → Deed
  resumes : ℕ → Deed

pub data Happening : Type 0 where
  -- an instruction of a body is completed (all but a start)
  ran : Body → Deed → Happening
  -- an event that was due triggers; a thread's wait for a time is over; a thread's resume takes effect
  triggered : ℕ → Happening
  freed : ℕ → Happening
  resumed : ℕ → Happening
  -- a thread has reached its end; is dispatched
  ended : ℕ → Happening
  dispatched : ℕ → Happening
  -- an update has reached its end
  finished : ℕ → Happening
  -- the phase begins, with a limit or none: a start is completed
  began : Found → Happening
  -- time becomes so much
  moved : ℕ → Happening
  -- the phase is over: nothing is left; or the limit is reached
  quiet : Happening
  limited : Happening

-- what happened, the newest first
abbrev pub History : Type 0
History = List Happening
