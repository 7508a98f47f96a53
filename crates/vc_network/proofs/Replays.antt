-- A list of events that happens is a run of the network, and the other way round.
use Rattle.std.proofs.Common.{◌≡◌, List, [], ◌∷◌, map, refl, ap₂}
use Rattle.vc_network.specs.Actors.{Network, ActBy}
use Rattle.vc_network.specs.Private.Actors.{Run, Event, act_by}
use Rattle.vc_tokens.specs.Tokens.{Token}
use Rattle.vc_switch.specs.Waiting.{Waiting}
use Rattle.vc_network.specs.Plan.{Plan}
use Rattle.vc_network.specs.Processes.{StepRelation}
use Rattle.vc_network.specs.Network.{Act, Actor, Local, HappenAll}

-- a replay is a run of the network with its acts
pub replayed : {P : Type 0} (plan : Plan) (waiting : Waiting) (Does : StepRelation P) (old new : Network (Actor P) Token) (es : List (ActBy Act)) → HappenAll plan waiting Does old es new →
    (fs : List (Event Act Token)) × Run (Local plan waiting Does) old fs new × (map act_by fs ≡ es)
replayed plan waiting Does old new [] h = ([], h, refl)
replayed plan waiting Does old new (e ∷ es) h =
    let r = replayed plan waiting Does h.0 new es h.2 in
    (record { actor = e.actor; label = h.1.0 } ∷ r.0, (h.0, h.1.2, r.1), ap₂ (λ x xs. x ∷ xs) (λ i. record { actor = e.actor; act = h.1.1 i }) r.2)

pub happened : {P : Type 0} (plan : Plan) (waiting : Waiting) (Does : StepRelation P) (old new : Network (Actor P) Token) (fs : List (Event Act Token)) → Run (Local plan waiting Does) old fs new → HappenAll plan waiting Does old (map act_by fs) new
happened plan waiting Does old new [] r = r
happened plan waiting Does old new (f ∷ fs) r = (r.0, (f.label, refl, r.1), happened plan waiting Does r.0 new fs r.2)
