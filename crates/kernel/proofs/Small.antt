-- The numbers of an answer fit 32 bits: the body and the place that a run stops at, the choices and the inputs. Assumes nothing.
use Prim.Native.Nat.{ℕ, zero, suc, ◌<◌, ◌≤◌}
use mathlib.Core.Path.{◌≡◌}
use mathlib.Core.Bool.{true}
use native.Mathlib.Omega.{arith}
use borrow.Author.Tests.{ltb-true}
use lib.ListN.{length}
use Rattle.image.specs.Layout.{counts, len}
use Rattle.kernel.specs.Design.{Table, Body, threads, updates, number, length_of}
use Rattle.kernel.specs.Kernel.{Kernel, kernel}
use Rattle.kernel.specs.Effect.{Effect, stops, sets, takes, goes, does, begins}
use Rattle.kernel.specs.Machine.{Job, Control, running, update_phase, delta_phase, turn, evaluation, time_phase, over, Machine, State, Out, go_to, init}
use Rattle.kernel.specs.Step.{due, effect_of, perform, view, step_from, step, steps}
use Rattle.kernel.proofs.Search.{nth_some}
use Rattle.kernel.proofs.Branch as B
use Rattle.kernel.proofs.Branch.{Branch, branch}
use Rattle.kernel.proofs.Fits.{Fits, body_there, on_either, fits_step}
use Rattle.kernel.proofs.Ahead.{Allowed, allowed}

abbrev pub Small : Control → Type 0
Small (running b) = Unit {0}
Small update_phase = Unit {0}
Small delta_phase = Unit {0}
Small turn = Unit {0}
Small evaluation = Unit {0}
Small time_phase = Unit {0}
Small (over n b p) = (b < 4294967296) × (p < 4294967296)

-- at most all choices are accepted, and an instruction takes one input at most, of those that are left; no more is completed than the budget
pub record Few (j : Job) (m : Machine) : Type 0 where
  pub control : Small m.control
  pub choices : m.choices ≤ length j.choices
  pub inputs : m.inputs ≤ m.instructions
  pub taken : m.inputs ≤ length j.inputs
  pub spent : m.instructions ≤ j.budget

-- the fields of a frame are bytes, and imm has 32 bits
module _ (t : Table) where
  few_threads : threads t < 256
  unfolding counts
  few_threads = omega arith

  few_updates : updates t < 256
  unfolding counts
  few_updates = omega arith

  short_body : (n : ℕ) → length_of t n < 4294967296
  unfolding len
  short_body n = omega arith

  small_number : (k : Kernel) (b : Body) → Fits t k (running b) → number t b < 4294967296
  small_number k b f = omega (arith, body_there t k b f, few_threads, few_updates)

module _ (j : Job) (s : State) where
  abbrev t : Table
  t = j.table

  abbrev k : Kernel
  k = kernel s.history

  few_stops : (b : Body) (n : ℕ) → Fits t k (running b) → due j s b ≡ true → Few j s.machine → Few j (perform j s b (stops n)).next
  unfolding perform
  few_stops b n f d z =
      let h : s.machine.places (number t b) < length_of t (number t b) = ltb-true (s.machine.places (number t b)) (length_of t (number t b)) d in
      record {
        control = (small_number t k b f, omega (arith, short_body t (number t b)));
        choices = z.choices;
        inputs = z.inputs;
        taken = z.taken;
        spent = z.spent;
      }

  few_perform : (b : Body) (x : Effect) → Fits t k (running b) → due j s b ≡ true → Allowed t (view j s b).input k.now k.stage x → s.machine.instructions < j.budget → Few j s.machine → Few j (perform j s b x).next
  unfolding perform
  few_perform b (stops n) f d r l z = few_stops b n f d z
  few_perform b (sets d x) f h r l z = record { control = tt; choices = z.choices; inputs = omega (arith, z.inputs); taken = z.taken; spent = l }
  few_perform b (takes d x) f h r l z = record {
    control = tt;
    choices = z.choices;
    inputs = omega (arith, z.inputs);
    taken = nth_some j.inputs s.machine.inputs x r;
    spent = l;
  }
  few_perform b (goes p) f h r l z = record { control = tt; choices = z.choices; inputs = omega (arith, z.inputs); taken = z.taken; spent = l }
  few_perform b (does x) f h r l z = record {
    control = on_either j s Small (λ c. tt) tt b _;
    choices = z.choices;
    inputs = omega (arith, z.inputs);
    taken = z.taken;
    spent = l;
  }
  few_perform b (begins x) f h r l z = record { control = tt; choices = z.choices; inputs = omega (arith, z.inputs); taken = z.taken; spent = l }

  -- the machine at another place
  placed_there : (c : Control) → Small c → Few j s.machine → Few j (go_to c s.machine)
  placed_there c h z = record { control = h; choices = z.choices; inputs = z.inputs; taken = z.taken; spent = z.spent }

  few_branch : (c : Control) (o : Out) → Branch j s c o → Fits t k c → Small c → Few j s.machine → Few j o.next
  few_branch c o (B.obeys b p q) f y z =
      few_perform b (effect_of j s b) f p (allowed t (view j s b) (number t b) (s.machine.places (number t b)) (body_there t k b f) (ltb-true _ _ p)) (ltb-true _ _ q) z
  few_branch c o (B.unpaid b p q) f y z = few_stops b 22 f p z
  few_branch c o (B.main_ends q) f y z = placed_there _ (omega arith, omega arith) z
  few_branch c o (B.thread_ends i q) f y z = placed_there _ tt z
  few_branch c o (B.update_ends u q) f y z = placed_there _ tt z
  few_branch c o (B.idles q) f y z = placed_there _ tt z
  few_branch c o (B.unchosen p q) f y z = placed_there _ (omega arith, omega arith) z
  few_branch c o (B.refuses n p q r) f y z = placed_there _ (omega arith, omega arith) z
  few_branch c o (B.dispatches n p q r) f y z =
      record { control = tt; choices = omega (arith, nth_some j.choices s.machine.choices n q); inputs = z.inputs; taken = z.taken; spent = z.spent }
  few_branch c o (B.updated q) f y z = placed_there _ tt z
  few_branch c o (B.enters u q) f y z = record { control = tt; choices = z.choices; inputs = z.inputs; taken = z.taken; spent = z.spent }
  few_branch c o B.serves f y z = placed_there _ tt z
  few_branch c o (B.turns q) f y z = placed_there _ tt z
  few_branch c o (B.waits q) f y z = placed_there _ tt z
  few_branch c o (B.quiets q) f y z = placed_there _ tt z
  few_branch c o (B.limits d p q) f y z = placed_there _ tt z
  few_branch c o (B.moves d p q) f y z = placed_there _ tt z
  few_branch c o (B.rests n b p) f y z = placed_there _ y z

few_from : (j : Job) (n : ℕ) (s : State) → Fits j.table (kernel s.history) s.machine.control → Few j s.machine → Few j (steps j n s).machine
unfolding step steps
few_from j zero s f z = z
few_from j (suc n) s f z =
    few_from j n (step j s) (fits_step j s f) (few_branch j s s.machine.control (step_from j s s.machine.control) (branch j s s.machine.control) f z.control z)

pub few : (j : Job) (n : ℕ) → Few j (steps j n (init j)).machine
few j n = few_from j n (init j) tt (record { control = tt; choices = omega arith; inputs = omega arith; taken = omega arith; spent = omega arith })
