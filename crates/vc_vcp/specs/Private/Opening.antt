-- A node's processor as it begins, by the ends that it is given.
use Rattle.std.specs.Prelude.{ℕ, false, List, [], ◌∷◌, Option, Some, None}
use Rattle.vc_credit.specs.Ends.{new_sender, new_receiver}
use Rattle.vc_vcp.specs.LinkIn.{Receiving}
use Rattle.vc_vcp.specs.LinkOut.{Sending}
use Rattle.vc_vcp.specs.declared.end.End.{End as Given}
use Rattle.vc_vcp.specs.declared.output.Output.{Output}
use Rattle.vc_vcp.specs.declared.input.Input.{Input}

-- what is made of each end that has a channel, in order
abbrev pub with_opened : {X : Type 0} → (Given → ℕ → X) → Given → Option ℕ → List X → List X
with_opened make e None xs = xs
with_opened make e (Some c) xs = make e c ∷ xs

abbrev pub opened : {X : Type 0} → (Given → Option ℕ) → (Given → ℕ → X) → List Given → List X
opened chan make [] = []
opened chan make (e ∷ es) = with_opened make e (chan e) (opened chan make es)

-- an output with nothing under way
abbrev pub opened_output : Given → ℕ → Output
opened_output e c = record { chan = c; link = e.link; block = e.block; half = record { route = e.route; unacked = [] }; offered = [] }

-- an input with nothing held
abbrev pub opened_input : Given → ℕ → Input
opened_input e c = record { chan = c; link = e.link; block = e.block; route = e.route; half = record { wants = false; stopped = false; held = None; stored = [] }; taken = [] }

abbrev pub opened_outputs : List Given → List Output
opened_outputs es = opened (λ e. e.output) opened_output es

abbrev pub opened_inputs : List Given → List Input
opened_inputs es = opened (λ e. e.input) opened_input es

-- the same at each of the four links
abbrev pub four : {X : Type 0} → X → List X
four x = x ∷ x ∷ x ∷ x ∷ []

abbrev pub new_out : Sending
new_out = record { queue = []; sender = new_sender }

abbrev pub new_in : ℕ → Receiving
new_in limit = record { receiver = new_receiver; passed = []; limit = limit }
