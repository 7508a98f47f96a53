-- Two nodes that each input before they output.
use Rattle.std.specs.Prelude.{◌≡◌, ℕ, ◌≤◌, List, []}
use Rattle.vc_machine.specs.Rendezvous.{View, DoesAll, nothing_yet}
use Rattle.vc_occam.specs.NodeTraces.{NodeTrace}
use Rattle.vc_process.specs.Syntax.{Given, Proc, Input, Output, SEQ, no_parts, part}
use Rattle.vc_occam.specs.Traces.{Comm, End}
use Rattle.vc_process.specs.Usage.{Set}
use Rattle.vc_process.specs.Values.{Store}
use Rattle.vc_accepted.specs.OneList.{by, on}

-- an input on channel c, and then an output on channel d
abbrev pub inputs_first : (c d var : ℕ) → Given → Proc
inputs_first c d var a = SEQ 0 (part (Input 1 c var) (part (Output 2 d a) no_parts))

-- one list of two such nodes, each of which waits for what the other is yet to send
pub record IsOfBoth (c d : ℕ) (ks : List (ℕ × Comm)) : Type 0 where
  pub inside : Set
  pub var : ℕ
  pub value : ℕ → Given
  pub store : ℕ → Store
  pub end : ℕ → End
  pub one : NodeTrace inside (inputs_first c d var (value 0)) (store 0) (by 0 ks) (end 0)
  pub other : NodeTrace inside (inputs_first d c var (value 1)) (store 1) (by 1 ks) (end 1)
  pub no_third : (n : ℕ) → 2 ≤ n → by n ks ≡ []

-- where the channels' parts are runs of them, neither has got anything
abbrev pub NothingIsSwapped : Type 0
NothingIsSwapped =
    (c d : ℕ) (ks : List (ℕ × Comm)) (there back : View) → IsOfBoth c d ks → DoesAll nothing_yet (on c ks) there → DoesAll nothing_yet (on d ks) back →
    (there.taken ≡ []) × (back.taken ≡ [])
