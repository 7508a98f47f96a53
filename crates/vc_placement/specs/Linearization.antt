-- Linearizations: a history in which each message is output, input and finished at one moment, as on a channel that holds nothing.
-- A linearization keeps each process's part and completes what is pending: an output that was taken is finished, and one that was not
-- taken is left out (Herlihy and Wing, Linearizability: A Correctness Condition for Concurrent Objects, 1990). The channels are those of
-- occam 2.1 on one transputer: an output and an input on a channel happen together (occam 2.1 Reference Manual, "Communication").
use Rattle.std.specs.Prelude.{◌≡◌, ℕ, List, [], ◌∷◌, ◌++◌, length}
use Rattle.vc_machine.specs.Rendezvous.{View, DoesAll, nothing_yet}
use Rattle.vc_occam.specs.Traces.{Comm, Out, Fin, In, Stp, End, Ended, Trace}
use Rattle.vc_process.specs.Messages.{message}
use Rattle.vc_process.specs.Syntax.{Proc}
use Rattle.vc_process.specs.Values.{Store}
use Rattle.vc_process.specs.declared.datum.Datum.{Datum}
use Rattle.vc_accepted.specs.OneList.{by, on}

-- an atomic communication: a message passes from one process to another, or the channel is stopped
pub data Atomic : Type 0 where
  Exchange : (sender receiver chan : ℕ) (sent got : Datum) → Atomic
  Stop : (node chan : ℕ) → Atomic

-- its communications, each with the node that makes it
abbrev pub comms_of : Atomic → List (ℕ × Comm)
comms_of (Exchange n m c x y) = (n, Out c x) ∷ (m, In c y) ∷ (n, Fin c) ∷ []
comms_of (Stop n c) = (n, Stp c) ∷ []

abbrev pub all_comms : List Atomic → List (ℕ × Comm)
all_comms [] = []
all_comms (h ∷ hs) = comms_of h ++ all_comms hs

-- the message that is got is the one that was sent
abbrev pub IsFaithful : Atomic → Type 0
IsFaithful (Exchange n m c x y) = message x ≡ message y
IsFaithful (Stop n c) = Unit {0}

abbrev pub AreFaithful : List Atomic → Type 0
AreFaithful [] = Unit {0}
AreFaithful (h ∷ hs) = IsFaithful h × AreFaithful hs

-- the linearization points, in order, each with its node: where a message is got, and where a channel is stopped
abbrev pub points : List (ℕ × Comm) → List (ℕ × Comm)
points [] = []
points ((n, Out c x) ∷ ks) = points ks
points ((n, Fin c) ∷ ks) = points ks
points ((n, In c x) ∷ ks) = (n, In c x) ∷ points ks
points ((n, Stp c) ∷ ks) = (n, Stp c) ∷ points ks

-- a channel with what is pending completed: what was taken was offered and is finished, and nothing else was offered
abbrev pub completed : View → View
completed v = record { offered = v.taken; taken = v.taken; finished = length v.taken; stopped = v.stopped }

-- where the first is the end of a process that has ended, so is the second, with the same variables
abbrev pub StaysEnded : End → End → Type 0
StaysEnded x y = (f : Store) → x ≡ Ended f → y ≡ Ended f

-- The atomic communications hs are a linearization of the history ks: each process's part of hs is a trace of it, and ended if it had
-- ended; who had no part has none; each message is got as it was sent; points are in one order; each channel shows what was completed.
pub record IsLinearization (proc : ℕ → Proc) (store : ℕ → Store) (end : ℕ → End) (view : ℕ → View) (ks : List (ℕ × Comm)) (hs : List Atomic) : Type 0 where
  pub by_node : (n : ℕ) → (x : End) × Trace (proc n) (store n) (by n (all_comms hs)) x × StaysEnded (end n) x
  pub by_no_other : (n : ℕ) → by n ks ≡ [] → by n (all_comms hs) ≡ []
  pub faithful : AreFaithful hs
  pub same_points : points (all_comms hs) ≡ points ks
  pub on_channel : (c : ℕ) → DoesAll nothing_yet (on c (all_comms hs)) (completed (view c))

-- whatever processes did over channels that hold an output until it is taken has a linearization
abbrev pub EveryHistoryLinearizes : Type 0
EveryHistoryLinearizes =
    (proc : ℕ → Proc) (store : ℕ → Store) (end : ℕ → End) (view : ℕ → View) (ks : List (ℕ × Comm)) → ((n : ℕ) → Trace (proc n) (store n) (by n ks) (end n))
    → ((c : ℕ) → DoesAll nothing_yet (on c ks) (view c)) → (hs : List Atomic) × IsLinearization proc store end view ks hs
