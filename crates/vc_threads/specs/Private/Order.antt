-- What was taken off each way and what is left on it, beside what was put on it.
use Rattle.std.specs.Prelude.{◌≡◌, ℕ, ◌<◌, List, [], ◌++◌, map, get_or, slice_get, Some}
use Rattle.std.specs.Global.{Vec}
use Rattle.std.specs.List.{AllZip, Contains}
use mathlib.Core.List.{IsPrefix}
use Rattle.rtrb.specs.Ring.{sent, received, known_items, IsPair}
use Rattle.vc_accepted.specs.ActorWays.{actor_of}
use Rattle.vc_actor.specs.ActorView.{Acting}
use Rattle.vc_plan.specs.declared.port.Port.{Port}
use Rattle.vc_plan.specs.declared.port.Wire.{Wire}
use Rattle.vc_tokens.specs.declared.token.Token.{Token}
use Rattle.vc_threads.specs.Stamps.{item_of}
use Rattle.vc_threads.specs.Wires.{Distinct, out_links, in_links, OutLooked, SameIn}
use Rattle.vc_threads.specs.Works.{Out, In}
use Rattle.vc_threads.specs.declared.link.Stamped.{Stamped}
use Rattle.vc_threads.specs.declared.order.AllEnds.{AllEnds}
use Rattle.vc_threads.specs.declared.run.ActorRun.{ActorRun}

module _ {L : Type 0} where
  abbrev pub actor_left : ActorRun L → Acting
  actor_left r = r.actor

  abbrev pub outs_left : ActorRun L → List Out
  outs_left r = r.ends.outs.items

  abbrev pub ins_left : ActorRun L → List In
  ins_left r = r.ends.ins.items

  abbrev pub log_left : ActorRun L → L
  log_left r = r.log

-- the ends of actor k that go out, and those that come in
abbrev pub outs_at : AllEnds → ℕ → List Out
outs_at e k = get_or (map (λ v. v.items) e.outs.items) k []

abbrev pub ins_at : AllEnds → ℕ → List In
ins_at e k = get_or (map (λ v. v.items) e.ins.items) k []

-- some end has the link
abbrev pub HasEnd : {Y : Type 0} → List (ℕ × Y) → ℕ → Type 0
HasEnd {Y} ends link = (o : ℕ × Y) × Contains ends o × (o.0 ≡ link)

-- What was received, and then these tokens with their stamps, is what was sent. What was seen to wait is the front of them.
pub record IsLeft (tokens : List Token) (o : Out) (i : In) : Type 0 where
  pub rest : List Stamped
  pub order : received i.1 ++ rest ≡ sent o.1
  pub seen : IsPrefix (known_items i.1) rest
  pub tokens_are : tokens ≡ map item_of rest

-- R of the end with the one link that goes out, and of the end with the other that comes in
abbrev pub AtLinks : (Out → In → Type 0) → List Out → List In → ℕ → ℕ → Type 0
AtLinks R outs ins from to = (o : Out) (i : In) → Contains outs o → Contains ins i → o.0 ≡ from → i.0 ≡ to → R o i

-- the two links have an end each, and these are the two ends of one ring
pub record Meet (outs : List Out) (ins : List In) (from to : ℕ) : Type 0 where
  pub outs_apart : Distinct (out_links outs)
  pub ins_apart : Distinct (in_links ins)
  pub out : HasEnd outs from
  pub into : HasEnd ins to
  pub pair : AtLinks (λ o i. IsPair o.1 i.1) outs ins from to

-- the same end, off which nothing was taken unless P tells of its link
abbrev pub TakenBy : (ℕ → Type 0) → In → In → Type 0
TakenBy P a b = SameIn a b × ((P a.0 → ⊥) → b ≡ a)

-- the actor's link is the port
abbrev pub IsPort : ℕ → Port → ℕ → ℕ → Type 0
IsPort nodes port actor link = (actor ≡ actor_of nodes port.spot) × (link ≡ port.link)

-- the same ends: nothing was sent, and nothing was taken but what came in by the links that P tells
pub record EndsTaken (P : ℕ → ℕ → Type 0) (old new : AllEnds) : Type 0 where
  pub outs : (k : ℕ) → AllZip OutLooked (outs_at old k) (outs_at new k)
  pub ins : (k : ℕ) → AllZip (TakenBy (P k)) (ins_at old k) (ins_at new k)

-- so of the ring of the way from one port to another
abbrev pub MeetAt : ℕ → AllEnds → Port → Port → Type 0
MeetAt nodes e from to = Meet (outs_at e (actor_of nodes from.spot)) (ins_at e (actor_of nodes to.spot)) from.link to.link

abbrev pub LeftAt : ℕ → AllEnds → List Token → Port → Port → Type 0
LeftAt nodes e tokens from to = AtLinks (IsLeft tokens) (outs_at e (actor_of nodes from.spot)) (ins_at e (actor_of nodes to.spot)) from.link to.link

-- the tokens for a way
abbrev pub tokens_at : List (Vec Token) → ℕ → List Token
tokens_at left way = get_or (map (λ v. v.items) left) way []

abbrev pub LeftOn : ℕ → AllEnds → List (Vec Token) → ℕ → Port → Port → Type 0
LeftOn nodes e left way = LeftAt nodes e (tokens_at left way)

-- and of both ways of each of the first n wires
abbrev pub OnWires : (Port → Port → Type 0) → List Wire → ℕ → Type 0
OnWires R ws n = (i : ℕ) (w : Wire) → i < n → slice_get ws i ≡ Some w → R w.one w.two × R w.two w.one
