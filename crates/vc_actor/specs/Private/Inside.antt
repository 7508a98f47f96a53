-- What happens on a channel inside a node.
use Rattle.std.specs.Prelude.{ℕ, suc, false, true, List, [], ◌∷◌, ◌++◌, if◌then◌else◌}
use Rattle.vc_plan.specs.declared.channel.Channel.{Channel}
use Rattle.vc_packets.specs.Functions.{put}
use Rattle.vc_machine.specs.Rendezvous.{View}
use Rattle.vc_network.specs.Network.{exchanged}
use Rattle.vc_accepted.specs.Begin.{is_inside}
use Rattle.vc_actor.specs.declared.inside.Internal.{Internal}

-- a message is offered, taken and finished at once on channel c
abbrev pub exchanged_on : (ℕ → View) → ℕ → List ℕ → ℕ → View
exchanged_on views c m = put views c (exchanged (views c) m)

abbrev pub stopped_on : (ℕ → View) → ℕ → ℕ → View
stopped_on views c = put views c (record (views c) { stopped = true })

-- nothing has gone over the channel yet
abbrev pub opened_internal : ℕ → Internal
opened_internal c = record { chan = c; messages = []; stopped = false }

-- those of these channels that are inside node n, the first one of which has number c
abbrev pub opened_inside : ℕ → ℕ → List Channel → List Internal
opened_inside n c [] = []
opened_inside n c (x ∷ xs) = (if is_inside n x.home then opened_internal c ∷ [] else []) ++ opened_inside n (suc c) xs
