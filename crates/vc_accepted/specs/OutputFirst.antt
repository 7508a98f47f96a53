-- What an input gets was output before it.
use Rattle.std.specs.Prelude.{◌≡◌, ℕ, List, ◌∷◌, ◌++◌}
use Rattle.std.specs.List.{Contains}
use Rattle.vc_machine.specs.Rendezvous.{View, DoesAll, nothing_yet}
use Rattle.vc_process.specs.Messages.{message}
use Rattle.vc_occam.specs.Traces.{Comm, Out, In}
use Rattle.vc_accepted.specs.OneList.{on}

-- in these communications a node outputs this message on channel c
abbrev pub IsSent : ℕ → List ℕ → List (ℕ × Comm) → Type 0
IsSent c m ks = (n : ℕ) × (x : _) × Contains ks (n, Out c x) × (message x ≡ m)

-- in a list whose part for channel c is a run of the channel, the message of whatever an input on it gets was output on it before
abbrev pub NothingIsGotUnsent : Type 0
NothingIsGotUnsent =
    (c n : ℕ) (x : _) (before after : List (ℕ × Comm)) (v : View) → DoesAll nothing_yet (on c (before ++ (n, In c x) ∷ after)) v → IsSent c (message x) before
