-- The events of an actor that makes steps in a row, which come behind those that led there.
use Rattle.std.proofs.Common.{◌≡◌, ◌≢◌, ◌∙◌, ◌++◌, ◌∷◌, [], List, ℕ, suc, ap, append-nil, append_assoc, inl, inr, length, map, refl, slice_get, subst, sym}
use Rattle.std.proofs.lemmas.Bool.{cases_eq}
use Rattle.std.proofs.lemmas.List.{map-append}
use Rattle.vc_accepted.specs.Begin.{begin_of}
use Rattle.vc_accepted.specs.NetworkOf.{network_of}
use Rattle.vc_accepted.specs.Process.{Process, does}
use Rattle.vc_actor.specs.ActorView.{act_of}
use Rattle.vc_actor.specs.StepsInARow as actor
use Rattle.vc_actor.specs.declared.act.Act.TheVariants.{Proc}
use Rattle.vc_machine.proofs.Basics.{put-other, put-same}
use Rattle.vc_network.specs.Actors.{ActBy, Network}
use Rattle.vc_network.specs.Actors.Label.{Own}
use Rattle.vc_network.specs.Network as net
use Rattle.vc_network.specs.Network.{HappenAll, begins}
use Rattle.vc_network.specs.Plan as network
use Rattle.vc_network.proofs.Writes.{own_step}
use Rattle.vc_occam.specs.declared.moves.Move.TheVariants.{Quiet}
use Rattle.vc_packets.specs.Functions.{put, shown_or}
use Rattle.vc_plan.specs.declared.plan.Plan.{Plan}
use Rattle.vc_switch.specs.Waiting.{Wormhole}
use Rattle.vc_tokens.specs.Tokens.{Token}
use Rattle.vc_core.specs.Replay.{Reached}
use Rattle.vc_core.specs.State.{State, event_of, shown}
use Rattle.vc_core.specs.StepsInARow.{MakesSteps}
use Rattle.vc_core.specs.declared.event.Event.{Event}
use Rattle.vc_core.proofs.ReplayRuns.{happen_more}

-- the events that they are
unfoldable pub events_by : {plan : network.Plan} {k m : ℕ} {a b : net.Actor Process} → actor.RestsOn plan k m a b → List Event
events_by actor.still = []
events_by {k = k} (actor.on i step more) = record { actor = k; act = Proc (Quiet i) } ∷ events_by more

pub as_many : {plan : network.Plan} {k m : ℕ} {a b : net.Actor Process} (steps : actor.RestsOn plan k m a b) → length (events_by steps) ≡ m
unfolding events_by
as_many actor.still = refl
as_many (actor.on i step more) = ap suc (as_many more)

happen_on : (plan : network.Plan) (k : ℕ) {m : ℕ} {a b : net.Actor Process} (old mid new : Network (net.Actor Process) Token) (es : List (ActBy net.Act)) (steps : actor.RestsOn plan k m a b) →
    mid.state k ≡ a → new.state k ≡ b → ((j : ℕ) → j ≢ k → new.state j ≡ mid.state j) → ((w : ℕ) → new.way w ≡ mid.way w) → HappenAll plan Wormhole does old es mid → HappenAll plan Wormhole does old (es ++ map event_of (events_by steps)) new
unfolding events_by
happen_on plan k old mid new es actor.still before after others ways all =
    let states : (j : ℕ) → mid.state j ≡ new.state j = λ j. elim (cases_eq j k) [
      | inl same ↦ subst (λ n. mid.state n ≡ new.state n) (sym same) (before ∙ sym after)
      | inr other ↦ sym (others j other)
    ] in
    let same : mid ≡ new = (λ i. record { state = λ j. states j i; way = λ w. sym (ways w) i }) in
    subst (λ x. HappenAll plan Wormhole does old (es ++ []) x) same (subst (λ xs. HappenAll plan Wormhole does old xs mid) (sym (append-nil es)) all)
happen_on plan k old mid new es (actor.on {b = c} i step more) before after others ways all =
    let e : ActBy net.Act = record { actor = k; act = act_of (Proc (Quiet i)) } in
    let next : Network (net.Actor Process) Token = record mid { state = put mid.state k c } in
    let local = subst (λ x. net.Local plan Wormhole does k x (Own e.act) c) (sym before) step in
    let happens : net.Happens plan Wormhole does mid e next = (Own e.act, refl, own_step (net.Local plan Wormhole does) mid k e.act c local) in
    subst (λ xs. HappenAll plan Wormhole does old xs new) (append_assoc es (e ∷ []) (map event_of (events_by more)))
    (happen_on plan k old next new (es ++ e ∷ []) more (put-same mid.state k c) after (λ j other. others j other ∙ sym (put-other mid.state k c j other)) ways
    (happen_more plan old mid next es e all happens))

-- they come behind those that led there
pub reached_on : (p : Plan) (es : List Event) (k m : ℕ) (s t : State) → Reached p es s → (made : MakesSteps p k m s t) → Reached p (es ++ events_by made.steps) t
reached_on p es k m s t r made = record {
  is = made.kept;
  happen = subst (λ xs. HappenAll (network_of p) Wormhole does (begins (network_of p) (begin_of p)) xs (shown t)) (sym (map-append event_of es (events_by made.steps)))
      (happen_on (network_of p) k (begins (network_of p) (begin_of p)) (shown s) (shown t) (map event_of es) made.steps refl refl made.others
      (λ w. ap (λ ways. shown_or [] (λ ts. ts) (slice_get ways w)) made.ways) r.happen);
}
