-- Many processes as one that runs them side by side (occam 2.1 Reference Manual, "Parallel").
use Rattle.std.specs.Prelude.{◌≡◌, ℕ, zero, suc, ◌≤◌, ◌<◌, true, List, [], map}
use Rattle.vc_occam.specs.NodeTraces.{NodeTrace}
use Rattle.vc_occam.specs.Traces.{Comm, End, Ended, Trace}
use Rattle.vc_placement.specs.Linearization.{Atomic, all_comms, AreFaithful}
use Rattle.vc_process.specs.Syntax.{Proc, PAR, Procs, no_parts, part}
use Rattle.vc_process.specs.Values.{Store}
use Rattle.vc_accepted.specs.OneList.{by}

-- so many processes, from the n-th on
abbrev pub parts_of : (ℕ → Proc) → ℕ → ℕ → Procs
parts_of proc n zero = no_parts
parts_of proc n (suc k) = part (proc n) (parts_of proc (suc n) k)

-- the communications alone, whoever makes them
abbrev pub without_nodes : List (ℕ × Comm) → List Comm
without_nodes ks = map (λ k. k.1) ks

abbrev pub IsEnded : End → Type 0
IsEnded x = (f : Store) × (x ≡ Ended f)

-- one transputer's trace: all processes side by side, with every channel inside it; it has ended where all of them have
pub record IsOneTrace (site count : ℕ) (proc : ℕ → Proc) (store : Store) (end : ℕ → End) (hs : List Atomic) : Type 0 where
  pub end_of_all : End
  pub trace : NodeTrace (λ c. true) (PAR site (parts_of proc 0 count)) store (without_nodes (all_comms hs)) end_of_all
  pub ended : ((n : ℕ) → n < count → IsEnded (end n)) → IsEnded end_of_all

-- where each message passes at one moment and the processes begin from one store, all that they do is one trace of their PAR
abbrev pub AllIsOneTrace : Type 0
AllIsOneTrace =
    (site count : ℕ) (proc : ℕ → Proc) (store : Store) (end : ℕ → End) (hs : List Atomic) → AreFaithful hs
    → ((n : ℕ) → n < count → Trace (proc n) store (by n (all_comms hs)) (end n))
    → ((n : ℕ) → count ≤ n → by n (all_comms hs) ≡ [])
    → IsOneTrace site count proc store end hs
