-- A token that comes to a node or goes from it changes neither its process nor what its halves want.
use Rattle.std.proofs.Common.{◌≡◌, ℕ, ◌-◌, ◌<◌, true, List, refl, sym, ap, ◌∙◌, subst, arith, nat_lt, if◌then◌else◌}
use Rattle.std.proofs.lemmas.Bool.Decides.{nat_tests}
use Rattle.vc_machine.specs.Paths.{AtNode, AtSwitch}
use Rattle.vc_packets.specs.declared.packet.Packet.{Packet}
use Rattle.vc_tokens.specs.Tokens.{Token, EndMark}
use Rattle.vc_vcp.specs.Carrier.{Carrier}
use Rattle.vc_vcp.specs.Links.{Vcp, Comes, due, not_due, Sends, SendsFct, unqueued}
use Rattle.vc_vcp.specs.VcpView.{seen, IsKept}
use Rattle.vc_network.specs.Plan.{Plan, IsOutOf, IsInto}
use Rattle.vc_actor.proofs.Passes.{unmoved}
use Rattle.vc_actor.specs.Acts.{HasLink, port, MakesOwn, MakesTake, MakesPut, MakesGrant}
use Rattle.vc_actor.specs.MayMove.{MakesMove}
use Rattle.vc_actor.specs.Private.Passes.{MakesPass}
use Rattle.vc_actor.specs.declared.act.Act.{Act}
use Rattle.vc_actor.specs.declared.act.Act.TheVariants.{Proc, Pass}
use Rattle.vc_occam.specs.declared.moves.Move.{Move}
use Rattle.vc_occam.specs.Runnings.{state}
use Rattle.vc_occam.specs.Sites.{OwnSites}
use Rattle.vc_actor.specs.OfPlan.{IsNodeOf, IsActorOf, AreInside}
use Rattle.vc_actor.specs.ActorView.{Acting, OfNode, OfSwitch, process_of, views_of}
use Rattle.vc_actor.specs.declared.node.Node.{Node}

-- the halves are as they were
record SameHalves (a b : Carrier) : Type 0 where
  into : b.into ≡ a.into
  out : b.out ≡ a.out

came : (old new : Vcp) (l : ℕ) (k : Token) → Comes old l k new → SameHalves old.carrier new.carrier
came old new l k (due is after) = record { into = ap (λ z. z.carrier.into) after; out = ap (λ z. z.carrier.out) after }
came old new l k (not_due is after) = record { into = ap (λ z. z.carrier.into) after; out = ap (λ z. z.carrier.out) after }

left_queue : (a : Carrier) (l : ℕ) (rest : List Packet) (k : Token) → SameHalves a (unqueued a l rest k)
left_queue a l rest (EndMark m) = record { into = refl; out = refl }
left_queue a l rest t = record { into = refl; out = refl }

sent : (old new : Vcp) (l : ℕ) (k : Token) → Sends old l k new → SameHalves old.carrier new.carrier
sent old new l k s =
    let h = left_queue old.carrier l s.rest k in
    record { into = ap (λ z. z.carrier.into) s.after ∙ h.into; out = ap (λ z. z.carrier.out) s.after ∙ h.out }

stays : (plan : Plan) (k : ℕ) (n u : Node) → IsNodeOf plan k n → IsKept n.vcp u.vcp → SameHalves (seen n.vcp).carrier (seen u.vcp).carrier → u.process ≡ n.process → u.inside ≡ n.inside → IsNodeOf plan k u
stays plan k n u is kept same process inside = record {
  ends = kept.ends ∙ is.ends;
  limit = kept.limit ∙ is.limit;
  inside = subst (AreInside plan k) (sym inside) is.inside;
  in_step = unmoved (seen n.vcp).carrier (seen u.vcp).carrier (process_of n.process) (process_of u.process) same.into same.out (ap process_of process) is.in_step;
  own = subst (λ z. OwnSites (state z).rest) (sym process) is.own;
}

-- a switch has 32 links, and a node has fewer
pub few_links : (a : Acting) (l : ℕ) → HasLink a l → l < 32
few_links (OfNode n) l less = omega arith
few_links (OfSwitch s) l less = less

-- the port at a node's link
less_is : (m n : ℕ) → m < n → nat_lt m n ≡ true
less_is m n h = grind (arith, nat_tests)

pub port_is : (plan : Plan) (k l : ℕ) → k < plan.nodes → port plan k l ≡ AtNode k l
port_is plan k l h = ap (λ b. if b then AtNode k l else AtSwitch (k - plan.nodes) l) (less_is k plan.nodes h)

pub takes : (plan : Plan) (k : ℕ) (n u : Node) (l x : ℕ) (t : Token) → IsActorOf plan k (OfNode n) → Comes (seen n.vcp) l t (seen u.vcp) → IsKept n.vcp u.vcp → u.process ≡ n.process → u.inside ≡ n.inside →
    MakesTake plan k (OfNode n) l x t (OfNode u)
takes plan k n u l x t (less, is) comes kept process inside = record {
  step = λ w into. (less, (subst (IsInto plan w) (port_is plan k l less) into, comes, record { process = ap process_of process; inner = ap views_of inside }));
  kept = (less, stays plan k n u is kept (came (seen n.vcp) (seen u.vcp) l t comes) process inside);
}

pub puts : (plan : Plan) (k : ℕ) (n u : Node) (l : ℕ) (t : Token) → IsActorOf plan k (OfNode n) → Sends (seen n.vcp) l t (seen u.vcp) → IsKept n.vcp u.vcp → u.process ≡ n.process → u.inside ≡ n.inside →
    MakesPut plan k (OfNode n) l t (OfNode u)
puts plan k n u l t (less, is) sends kept process inside = record {
  step = λ w out. (less, (subst (IsOutOf plan w) (port_is plan k l less) out, sends, record { process = ap process_of process; inner = ap views_of inside }));
  kept = (less, stays plan k n u is kept (sent (seen n.vcp) (seen u.vcp) l t sends) process inside);
}

pub grants : (plan : Plan) (k : ℕ) (n u : Node) (l : ℕ) → IsActorOf plan k (OfNode n) → SendsFct (seen n.vcp) l (seen u.vcp) → IsKept n.vcp u.vcp → u.process ≡ n.process → u.inside ≡ n.inside →
    MakesGrant plan k (OfNode n) l (OfNode u)
grants plan k n u l (less, is) sends kept process inside = record {
  step = λ w out. (less, (subst (IsOutOf plan w) (port_is plan k l less) out, refl, sends, record { process = ap process_of process; inner = ap views_of inside }));
  kept = (less, stays plan k n u is kept (record { into = ap (λ z. z.carrier.into) sends.after; out = ap (λ z. z.carrier.out) sends.after }) process inside);
}

pub moved : (plan : Plan) (k : ℕ) (n u : Node) (m : Move) (a : Act) → k < plan.nodes → a ≡ Proc m → MakesMove plan k n m u → MakesOwn plan k (OfNode n) a (OfNode u)
moved plan k n u m a less e h = subst (λ z. MakesOwn plan k (OfNode n) z (OfNode u)) (sym e) (record { step = (less, h.moves); kept = (less, h.kept) })

pub passed : (plan : Plan) (k : ℕ) (n u : Node) (l : ℕ) (a : Act) → k < plan.nodes → a ≡ Pass l → MakesPass plan k n l u → MakesOwn plan k (OfNode n) a (OfNode u)
passed plan k n u l a less e h = subst (λ z. MakesOwn plan k (OfNode n) z (OfNode u)) (sym e) (record { step = (less, h.step); kept = (less, h.kept) })
