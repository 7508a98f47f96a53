-- The nodes at the two ends of a channel on a virtual link.
use Rattle.std.proofs.Common.{◌≡◌, ◌≢◌, ℕ, ◌<◌, Bool, true, false, not, length, slice_get, Some, refl, sym, ap, subst, ◌∙◌}
use Rattle.std.proofs.lemmas.Option.{get_or_from_slice_get, slice_get_within}
use Rattle.vc_accepted.proofs.AcceptedNetwork.{end_is}
use Rattle.vc_accepted.proofs.Elements.{there}
use Rattle.vc_accepted.specs.NetworkOf.{network_of, link_of}
use Rattle.vc_free.proofs.RestKnown.{known_of}
use Rattle.vc_network.specs.Plan as network
use Rattle.vc_network.specs.Plan.{Way, home}
use Rattle.vc_network.specs.Views.{source_node, sink_node}
use Rattle.vc_plan.specs.Accepted as plan
use Rattle.vc_plan.specs.Accepted.{IsAccepted}
use Rattle.vc_plan.specs.KeptLimits.{IsVlinkInLimits}
use Rattle.vc_plan.specs.declared.plan.Plan.{Plan}
use Rattle.vc_plan.specs.declared.vlink.Vlink.{Vlink}

-- they are two nodes of the plan
pub record TwoNodes (p : Plan) (v : ℕ) (ab : Bool) : Type 0 where
  pub source : source_node (network_of p) (Way v ab) < length p.nodes
  pub sink : sink_node (network_of p) (Way v ab) < length p.nodes
  pub apart : source_node (network_of p) (Way v ab) ≢ sink_node (network_of p) (Way v ab)

module _ (p : Plan) (acc : IsAccepted p) (v : ℕ) (x : Vlink) (at : slice_get p.vlinks v ≡ Some x) where
  node_is : (a : Bool) → (network.end_of (network.virtual_link (network_of p) v) a).node ≡ (plan.end_of x a).node
  node_is a = ap (λ (z : network.End). z.node) (end_is p v x a at)

  kept : IsVlinkInLimits p x
  kept = subst (IsVlinkInLimits p) (get_or_from_slice_get p.vlinks v x x at) (acc.limits.vlinks v x (slice_get_within p.vlinks v x at))

  few : (a : Bool) → (plan.end_of x a).node < length p.nodes
  few true = kept.a.link.0
  few false = kept.b.link.0

  off : (a : Bool) → (plan.end_of x a).node ≡ (plan.end_of x (not a)).node → ⊥
  off true e = acc.apart v x at e
  off false e = acc.apart v x at (sym e)

  nodes_of : (ab : Bool) → TwoNodes p v ab
  nodes_of ab = record {
    source = subst (λ z. z < length p.nodes) (sym (node_is ab)) (few ab);
    sink = subst (λ z. z < length p.nodes) (sym (node_is (not ab))) (few (not ab));
    apart = λ e. off ab (sym (node_is ab) ∙ e ∙ node_is (not ab));
  }

pub two_nodes : (p : Plan) → IsAccepted p → (c v : ℕ) (ab : Bool) → home (network_of p) c ≡ Way v ab → TwoNodes p v ab
two_nodes p acc c v ab h =
    let x = there link_of p.vlinks v ((known_of p acc).ok.on_link c v ab h) in
    nodes_of p acc v x.0 x.1 ab
