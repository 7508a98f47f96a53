-- Where ports have ranks, only so many events can follow without a move of a process.
use Rattle.std.proofs.Common.{List, [], ◌∷◌, map, arith}
use Rattle.std.proofs.lemmas.List.{length-map}
use Rattle.std.specs.List.{AllByRecursion}
use Rattle.vc_accepted.specs.NetworkOf.{network_of}
use Rattle.vc_accepted.specs.Begin.{begin_of}
use Rattle.vc_accepted.specs.Process.{does}
use Rattle.vc_accepted.proofs.AcceptedNetwork.{accepted}
use Rattle.vc_accepted.proofs.Ranks.{ranked}
use Rattle.vc_network.specs.Still.{IsNoMove}
use Rattle.vc_network.proofs.Descent.{ends}
use Rattle.vc_switch.specs.Waiting.{Wormhole}
use Rattle.vc_actor.specs.ActorView.{act_of}
use Rattle.vc_actor.specs.declared.act.Act.{Act}
use Rattle.vc_actor.specs.declared.act.Act.TheVariants.{Proc}
use Rattle.vc_core.specs.State.{event_of, shown}
use Rattle.vc_core.specs.Still.{IsMove, NoMove, EndsWithoutMoves}
use Rattle.vc_core.specs.declared.event.Event.{Event}

no_move : (a : Act) → (IsMove a → ⊥) → IsNoMove (act_of a)
no_move (Proc made) h = h tt
no_move a h = tt

no_moves : (later : List Event) → AllByRecursion NoMove later → AllByRecursion (λ e. IsNoMove e.act) (map event_of later)
no_moves [] h = tt
no_moves (e ∷ later) h = (no_move e.act h.0, no_moves later h.1)

pub ends_without_moves : EndsWithoutMoves
ends_without_moves p made s ranks r =
    let ok = accepted p (r.is).accepted in
    let few = ends (network_of p) Wormhole does (begin_of p) (map event_of made) (shown s) ok (ranked p (r.is).accepted ranks) r.happen in
    (few.0, λ later x none happen. let a = few.1 (map event_of later) x (no_moves later none) happen in let b = length-map later event_of in omega arith)
