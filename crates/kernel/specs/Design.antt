-- A design, as a judged table lays it out.
use Rattle.std.specs.Prelude.{ℕ, ◌+◌, List}
use Rattle.frame.specs.declared.Frame.{Frame}
use Rattle.image.specs.Layout.{frame, counts, len, first}

abbrev pub Table : Type 0
Table = List ℕ

pub data Body : Type 0 where
  main : Body
  thread : ℕ → Body
  update : ℕ → Body

module _ (t : Table) where
  -- "threads T", "events E", "updates U", "cells C"
  abbrev pub threads : ℕ
  threads = (counts t).threads

  abbrev pub events : ℕ
  events = (counts t).events

  abbrev pub updates : ℕ
  updates = (counts t).updates

  abbrev pub cells : ℕ
  cells = (counts t).cells

  -- "Bodies are numbered main 0, then threads, then updates: thread k is body k + 1."
  abbrev pub number : Body → ℕ
  number main = 0
  number (thread k) = k + 1
  number (update u) = threads + 1 + u

  -- "Body frame: imm the body's length."
  abbrev pub length_of : ℕ → ℕ
  length_of n = len t n

  -- the instruction of body n at place p
  abbrev pub instruction : ℕ → ℕ → Frame
  instruction n p = frame t (first t n + p)
