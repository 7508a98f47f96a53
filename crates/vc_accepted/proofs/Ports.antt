-- Ports in the words of the plan and in those of the network.
use Rattle.std.proofs.Common.{◌≡◌, ℕ, Bool, true, false, ◌&&◌, ◌==◌, refl, sym, ap, ◌∙◌, eq-eqb, eqb-true}
use Rattle.std.proofs.lemmas.Bool.{and_parts}
use Rattle.vc_plan.specs.declared.port.Port.{Port}
use Rattle.vc_plan.specs.declared.port.Spot.{Spot}
use Rattle.vc_plan.specs.declared.port.Spot.TheVariants.{Node, Switch}
use Rattle.vc_plan.specs.declared.port.Wire.{Wire}
use Rattle.vc_plan.specs.Accepted as plan
use Rattle.vc_plan.specs.Wires.{same_spot, same_port}
use Rattle.vc_machine.specs.Paths.{AtNode, AtSwitch}
use Rattle.vc_machine.specs.Paths as paths
use Rattle.vc_network.specs.Plan as network
use Rattle.vc_accepted.specs.NetworkOf.{port_at, port_of, wire_of}

-- the port of the plan at a port of the network
abbrev pub port_back : paths.Port → Port
port_back (AtNode n link) = record { spot = Node n; link = link }
port_back (AtSwitch n link) = record { spot = Switch n; link = link }

at-back : (s : Spot) (link : ℕ) → port_back (port_at s link) ≡ record { spot = s; link = link }
at-back (Node n) link = refl
at-back (Switch n) link = refl

pub of_then_back : (p : Port) → port_back (port_of p) ≡ p
of_then_back p = at-back p.spot p.link

pub back_then_of : (p : paths.Port) → port_of (port_back p) ≡ p
back_then_of (AtNode n link) = refl
back_then_of (AtSwitch n link) = refl

pub one_port_of : (p q : Port) → port_of p ≡ port_of q → p ≡ q
one_port_of p q e = sym (of_then_back p) ∙ ap port_back e ∙ of_then_back q

spot_is : (s t : Spot) → same_spot s t ≡ true → s ≡ t
spot_is (Node m) (Node n) e = ap Node (eqb-true m n e)
spot_is (Switch m) (Switch n) e = ap Switch (eqb-true m n e)
spot_is (Node m) (Switch n) e = absurd (cc)
spot_is (Switch m) (Node n) e = absurd (cc)

is_spot : (s : Spot) → same_spot s s ≡ true
is_spot (Node n) = eq-eqb n n refl
is_spot (Switch n) = eq-eqb n n refl

pub port_is : (p q : Port) → same_port p q ≡ true → p ≡ q
port_is p q e =
    let r = and_parts (same_spot p.spot q.spot) (p.link == q.link) e in
    let s = spot_is p.spot q.spot r.0 in
    let l = eqb-true p.link q.link r.1 in
    λ i. record { spot = s i; link = l i }

pub is_port : (p : Port) → same_port p p ≡ true
is_port p = ap (λ b. b && (p.link == p.link)) (is_spot p.spot) ∙ eq-eqb p.link p.link refl

-- the side of a wire
pub side_of : (w : Wire) (b : Bool) → network.port_of (wire_of w) b ≡ port_of (plan.port_of w b)
side_of w true = refl
side_of w false = refl
