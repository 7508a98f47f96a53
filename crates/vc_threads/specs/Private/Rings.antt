-- The rings of a plan's ways, as the jobs hold their ends.
use Rattle.std.specs.Prelude.{◌≡◌, ◌≢◌, ℕ, ◌<◌, List, [], ◌∷◌, ◌++◌, length, map, get_or, slice_get, Some}
use Rattle.std.specs.List.{All, Contains}
use Rattle.rtrb.specs.Ring.{sent, received, IsPair}
use Rattle.vc_accepted.specs.ActorWays.{actor_of}
use Rattle.vc_plan.specs.declared.plan.Plan.{Plan}
use Rattle.vc_plan.specs.declared.port.Port.{Port}
use Rattle.vc_plan.specs.declared.port.Wire.{Wire}
use Rattle.vc_threads.specs.Works.{Out, In}
use Rattle.vc_threads.specs.declared.spawn.Job.{Job}
use Rattle.vc_threads.specs.Rings.{IsOnWire}

abbrev pub outs_in : Job → List Out
outs_in j = j.ends.outs.items

abbrev pub ins_in : Job → List In
ins_in j = j.ends.ins.items

-- the ends of actor k that go out, and those that come in
abbrev pub outs_of : List Job → ℕ → List Out
outs_of js k = get_or (map outs_in js) k []

abbrev pub ins_of : List Job → ℕ → List In
ins_of js k = get_or (map ins_in js) k []

-- one more end of an actor, and all others as they were
abbrev pub OneMore : {X : Type 0} → (ℕ → List X) → ℕ → X → (ℕ → List X) → Type 0
OneMore old actor x new = (new actor ≡ old actor ++ x ∷ []) × ((k : ℕ) → k ≢ actor → new k ≡ old k)

-- the two ends of a ring over which nothing went: the one goes out by a port's link, and the other comes in by another's
pub record IsRing (from to : Port) (out : Out) (into : In) : Type 0 where
  pub pair : IsPair out.1 into.1
  pub unsent : sent out.1 ≡ []
  pub unreceived : received into.1 ≡ []
  pub near : out.0 ≡ from.link
  pub far : into.0 ≡ to.link

-- a ring for the way from one port to another is made, and its ends are given to the actors there
pub record AddsRing (nodes : ℕ) (old : List Job) (from to : Port) (new : List Job) : Type 0 where
  pub out : Out
  pub into : In
  pub ring : IsRing from to out into
  pub source : OneMore (outs_of old) (actor_of nodes from.spot) out (outs_of new)
  pub sink : OneMore (ins_of old) (actor_of nodes to.spot) into (ins_of new)

-- the way from one port to another can have a ring: the actors are there, and neither has such an end at its link yet
pub record CanAddRing (nodes : ℕ) (js : List Job) (from to : Port) : Type 0 where
  pub source : actor_of nodes from.spot < length js
  pub sink : actor_of nodes to.spot < length js
  pub low : from.link < 32
  pub out : All (λ o. o.0 ≢ from.link) (outs_of js (actor_of nodes from.spot))
  pub into : All (λ i. i.0 ≢ to.link) (ins_of js (actor_of nodes to.spot))

-- the actors at the two ports hold the ends of a ring for the way from the one to the other
pub record HasRing (nodes : ℕ) (js : List Job) (from to : Port) : Type 0 where
  pub out : Out
  pub into : In
  pub ring : IsRing from to out into
  pub source : Contains (outs_of js (actor_of nodes from.spot)) out
  pub sink : Contains (ins_of js (actor_of nodes to.spot)) into

-- The first n wires have a ring for each of their two ways, and no actor has an end of another.
pub record AreWired (p : Plan) (n : ℕ) (js : List Job) : Type 0 where
  pub rings : (i : ℕ) (w : Wire) → i < n → slice_get p.wires i ≡ Some w → HasRing (length p.nodes) js w.one w.two × HasRing (length p.nodes) js w.two w.one
  pub outs : (k : ℕ) (o : Out) → Contains (outs_of js k) o → IsOnWire p n k o.0
  pub ins : (k : ℕ) (i : In) → Contains (ins_of js k) i → IsOnWire p n k i.0

-- no actor has an end
abbrev pub AreBare : List Job → Type 0
AreBare js = (k : ℕ) → (outs_of js k ≡ []) × (ins_of js k ≡ [])
