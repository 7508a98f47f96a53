-- Each way of an accepted plan can have a ring of its own.
use Rattle.std.proofs.Common.{◌≡◌, ◌≢◌, ℕ, ◌<◌, Bool, true, false, not, List, length, map, get_or, slice_get, Some, refl, sym, ap, subst, ◌∙◌, inl, inr, arith}
use Rattle.std.specs.List.{All, Contains}
use Rattle.std.proofs.lemmas.List.{length-map}
use Rattle.vc_accepted.specs.ActorWays.{actor_of, is_link}
use Rattle.vc_accepted.proofs.Ports.{one_port_of}
use Rattle.vc_accepted.proofs.WayPorts.{link_is_at, wired}
use Rattle.vc_actor.specs.Turns.{actors}
use Rattle.vc_plan.specs.Accepted.{IsAccepted, port_of}
use Rattle.vc_plan.specs.declared.plan.Plan.{Plan}
use Rattle.vc_plan.specs.declared.port.Wire.{Wire}
use Rattle.vc_threads.specs.Private.Rings.{outs_of, ins_of, AddsRing, AreWired, CanAddRing}
use Rattle.vc_threads.specs.Rings.{IsOnWire}
use Rattle.vc_threads.specs.Private.Threads.{who}
use Rattle.vc_threads.specs.Works.{Out, In}
use Rattle.vc_threads.specs.declared.spawn.Job.{Job}
use Rattle.vc_threads.proofs.Goings.{any_default}
use Rattle.vc_threads.proofs.Rings.{is_at, only}
use Rattle.vc_core.proofs.WayTable.{spot_few, port_small}

-- jobs of the same actors
pub count_kept : (new old : List Job) → map who new ≡ map who old → length new ≡ length old
count_kept new old e = sym (length-map new who) ∙ (ap length e ∙ length-map old who)

-- what holds of each item that a list contains
all_in : {X : Type 0} (P : X → Type 0) (xs : List X) → ((x : X) → Contains xs x → P x) → All P xs
all_in P xs h k d less = let x = get_or xs k d in h x (k, less, any_default xs k x d less)

module _ (p : Plan) (acc : IsAccepted p) (i : ℕ) (w : Wire) (is : slice_get p.wires i ≡ Some w) where
  small : (side : Bool) → (port_of w side).link < 32
  small side = port_small p acc i w side is

  there : (side : Bool) → actor_of (length p.nodes) (port_of w side).spot < actors p
  there side = spot_few p (port_of w side).spot (wired p acc i w side is)

  -- an actor's link is a port of one wire alone, and one side of it
  one_wire : (k link j : ℕ) (v : Wire) (a b : Bool) → slice_get p.wires j ≡ Some v → is_link (length p.nodes) k link (port_of w a) ≡ true → is_link (length p.nodes) k link (port_of v b) ≡ true → (i ≡ j) × (a ≡ b)
  one_wire k link j v a b at s t =
      acc.one_port i j w v a b is at
      (one_port_of (port_of w a) (port_of v b) (link_is_at p k link (port_of w a) (wired p acc i w a is) s ∙ sym (link_is_at p k link (port_of v b) (wired p acc j v b at) t)))

  -- no wire before this one has its port
  pub fresh : (side : Bool) (k link : ℕ) → k ≡ actor_of (length p.nodes) (port_of w side).spot → link ≡ (port_of w side).link → IsOnWire p i k link → ⊥
  fresh side k link a b (j, v, other, less, at, l) =
      let r = one_wire k link j v side other at (is_at (length p.nodes) k link (port_of w side) a b) l in
      let same = r.0 in
      omega (arith, same, less)

  -- nor has its other side
  pub other_side : (side : Bool) (k link : ℕ) → k ≡ actor_of (length p.nodes) (port_of w side).spot → link ≡ (port_of w side).link
      → k ≡ actor_of (length p.nodes) (port_of w (not side)).spot → link ≡ (port_of w (not side)).link → ⊥
  other_side side k link a b c d =
      differ side (one_wire k link i w side (not side) is (is_at (length p.nodes) k link (port_of w side) a b) (is_at (length p.nodes) k link (port_of w (not side)) c d)).1
    where
      differ : (b : Bool) → b ≡ not b → ⊥
      differ true e = absurd (cc)
      differ false e = absurd (cc)

  -- the first ring of the wire
  pub free_first : (js : List Job) → AreWired p i js → length js ≡ actors p → CanAddRing (length p.nodes) js w.one w.two
  free_first js h count =
      let s = actor_of (length p.nodes) w.one.spot in
      let t = actor_of (length p.nodes) w.two.spot in
      record {
        source = subst (λ n. s < n) (sym count) (there true);
        sink = subst (λ n. t < n) (sym count) (there false);
        low = small true;
        out = all_in (λ (o : Out). o.0 ≢ w.one.link) (outs_of js s) (λ o c e. fresh true s o.0 refl e (h.outs s o c));
        into = all_in (λ (o : In). o.0 ≢ w.two.link) (ins_of js t) (λ o c e. fresh false t o.0 refl e (h.ins t o c));
      }

  -- and the second
  pub free_second : (js mid : List Job) → AreWired p i js → AddsRing (length p.nodes) js w.one w.two mid → length mid ≡ actors p → CanAddRing (length p.nodes) mid w.two w.one
  free_second js mid h a count =
      let s = actor_of (length p.nodes) w.one.spot in
      let t = actor_of (length p.nodes) w.two.spot in
      record {
        source = subst (λ n. t < n) (sym count) (there false);
        sink = subst (λ n. s < n) (sym count) (there true);
        low = small false;
        out = all_in (λ (o : Out). o.0 ≢ w.two.link) (outs_of mid t) (λ o c e. elim (only (outs_of js) (outs_of mid) s a.out a.source t o c) [
          | inl old ↦ fresh false t o.0 refl e (h.outs t o old)
          | inr new ↦ other_side true t o.0 new.0 (sym (ap (λ (v : Out). v.0) new.1) ∙ a.ring.near) refl e
        ]);
        into = all_in (λ (o : In). o.0 ≢ w.one.link) (ins_of mid s) (λ o c e. elim (only (ins_of js) (ins_of mid) t a.into a.sink s o c) [
          | inl old ↦ fresh true s o.0 refl e (h.ins s o old)
          | inr new ↦ other_side false s o.0 new.0 (sym (ap (λ (v : In). v.0) new.1) ∙ a.ring.far) refl e
        ]);
      }
