-- An actor that can do nothing but take can do no more until it takes: what others do leaves it as it is.
use Rattle.std.proofs.Common.{◌≡◌, ℕ, None, subst}
use Rattle.vc_network.specs.Actors.{Network, Label, act_of as label_act}
use Rattle.vc_network.specs.Actors.Label.{Own, Takes, Puts}
use Rattle.vc_accepted.specs.NetworkOf.{network_of}
use Rattle.vc_network.specs.EnabledEvents.{IsEnabled}
use Rattle.vc_network.specs.Network as net
use Rattle.vc_network.specs.Plan as network
use Rattle.vc_network.proofs.Writes.{own_step, put_step}
use Rattle.vc_plan.specs.declared.plan.Plan.{Plan}
use Rattle.vc_switch.specs.Switch.{Switch}
use Rattle.vc_switch.specs.Waiting.{Wormhole}
use Rattle.vc_accepted.specs.Process.{Process, does}
use Rattle.vc_tokens.specs.Tokens.{Token}
use Rattle.vc_actor.specs.ActorView.{act_of}
use Rattle.vc_core.specs.State.{State, shown}
use Rattle.vc_actor.specs.Turns.{TakesNone}
use Rattle.vc_core.specs.Turns.{FindsEvent}
use Rattle.vc_actor.specs.declared.act.Act.{Act}
use Rattle.vc_actor.specs.declared.act.Act.TheVariants as act

-- what takes a token is a take
abbrev IsTake : net.Act → Type 0
IsTake (net.Take l x) = Unit {0}
IsTake x = ⊥

node_takes : (plan : network.Plan) (k : ℕ) (a b : net.Node Process) (c : net.Act) (w : ℕ) (t : Token) → net.NodeStep plan does k a (Takes c w t) b → IsTake c
node_takes plan k a b (net.Take l x) w t h = tt
node_takes plan k a b x w t h = h

switch_takes : (plan : network.Plan) (i : ℕ) (a b : Switch) (c : net.Act) (w : ℕ) (t : Token) → net.SwitchStep plan Wormhole i a (Takes c w t) b → IsTake c
switch_takes plan i a b (net.Take l x) w t h = tt
switch_takes plan i a b x w t h = h

actor_takes : (plan : network.Plan) (k : ℕ) (a b : net.Actor Process) (c : net.Act) (w : ℕ) (t : Token) → net.Local plan Wormhole does k a (Takes c w t) b → IsTake c
actor_takes plan k (net.IsNode a) (net.IsNode b) c w t h = node_takes plan k a b c w t h.1
actor_takes plan k (net.IsSwitch a) (net.IsSwitch b) c w t (i, at, h) = switch_takes plan i a b c w t h
actor_takes plan k (net.IsNode a) (net.IsSwitch b) c w t h = absurd h
actor_takes plan k (net.IsSwitch a) (net.IsNode b) c w t h = absurd h

no_take : (b : Act) → TakesNone b → IsTake (act_of b) → ⊥
no_take (act.Take l x) none is = none
no_take a none is = is

-- an act that takes no token depends on its own actor alone
module _ (plan : network.Plan) (s t : Network (net.Actor Process) Token) (k : ℕ) (same : t.state k ≡ s.state k) (b : Act) (none : TakesNone b) where
  abbrev Steps : Label net.Act Token → net.Actor Process → Type 0
  Steps label x = net.Local plan Wormhole does k (s.state k) label x

  by_label : (label : Label net.Act Token) (x : net.Actor Process) → label_act label ≡ act_of b → Steps label x → IsEnabled plan Wormhole does s (record { actor = k; act = act_of b })
  by_label (Own c) x e step = (_, (Own c, e, own_step (net.Local plan Wormhole does) s k c x step))
  by_label (Puts c w i) x e step = (_, (Puts c w i, e, put_step (net.Local plan Wormhole does) s k c w i x step))
  by_label (Takes c w i) x e step = absurd (no_take b none (subst IsTake e (actor_takes plan k (s.state k) x c w i step)))

  still : IsEnabled plan Wormhole does t (record { actor = k; act = act_of b }) → IsEnabled plan Wormhole does s (record { actor = k; act = act_of b })
  still (new, (label, e, step)) = by_label label (new.state k) e (subst (λ z. net.Local plan Wormhole does k z label (new.state k)) same step.local)

pub quiet_after : (p : Plan) (s t : State) (k : ℕ) → (shown t).state k ≡ (shown s).state k → FindsEvent p s k None → FindsEvent p t k None
quiet_after p s t k same quiet = λ b none can. quiet b none (still (network_of p) (shown s) (shown t) k same b none can)
