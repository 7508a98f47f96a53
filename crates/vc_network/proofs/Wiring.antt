-- An accepted plan is an accepted network of ways, and what a node's ends are in it.
use Rattle.std.proofs.Common.{◌≡◌, ℕ, zero, suc, ◌-◌, ◌<◌, Bool, true, false, not, List, [], ◌∷◌, length, get_or, Option, Some, None, refl, sym, ap, subst, ◌∙◌, arith, if◌then◌else◌, ◌==◌, eqb-true, eq-eqb}
use Rattle.std.proofs.lemmas.Nat.{mod_below}
use Rattle.vc_machine.specs.Paths.{AtNode, Carries, Delivers, IsAtBlock, IsAccepted as IsAcceptedNet}
use Rattle.vc_switch.specs.Forward.{Interval, IsDrawn}
use Rattle.vc_machine.proofs.Links.{Link, On, channel_on, labelled_accepted, end_of as side_of}
use Rattle.vc_vcp.specs.Carrier.{End as NodeEnd}
use Rattle.vc_switch.specs.Switch.{drawn}
use Rattle.vc_network.specs.Plan.{way_from, Plan, Home, Way, Inside, End, home, ends, end_of, end_here, virtual_link, switch_plan, ways, output_end, input_end, is_virtual, net_end, net_channel, net_of, IsAccepted}
use Rattle.vc_network.proofs.Wires.{IsFound, found_by}
use Rattle.vc_network.specs.Views.{source_node, sink_node}

abbrev link_at : Plan → ℕ → Link
link_at plan v = record { a = net_end plan (virtual_link plan v).a; b = net_end plan (virtual_link plan v).b }

abbrev on_of : Home → On
on_of (Way v ab) = record { link = v; ab = ab }
on_of (Inside n) = record { link = 0; ab = true }

side_is : (plan : Plan) (v : ℕ) (p : Bool) → side_of (link_at plan v) p ≡ net_end plan (end_of (virtual_link plan v) p)
side_is plan v true = refl
side_is plan v false = refl

channel_is : (plan : Plan) (h : Home) → net_channel plan h ≡ channel_on (link_at plan) (on_of h)
channel_is plan (Way v true) = refl
channel_is plan h = refl

virtual_way : (h : Home) → is_virtual h ≡ true → h ≡ Way (on_of h).link (on_of h).ab
virtual_way (Way v ab) e = refl
virtual_way (Inside n) e = absurd (cc)

pub way_virtual : (plan : Plan) (c v : ℕ) (ab : Bool) → home plan c ≡ Way v ab → is_virtual (home plan c) ≡ true
way_virtual plan c v ab e = ap is_virtual e

inside_way : (n v : ℕ) (ab : Bool) → Inside n ≡ Way v ab → ⊥
inside_way n v ab e = absurd (cc)

-- a channel past the list is on no way
within : (n : ℕ) (hs : List Home) (c v : ℕ) (ab : Bool) → get_or hs c (Inside n) ≡ Way v ab → c < length hs
within n [] c v ab e = absurd (inside_way n v ab e)
within n (h ∷ hs) zero v ab e = omega arith
within n (h ∷ hs) (suc c) v ab e = let r = within n hs c v ab e in omega arith

pub carried : (plan : Plan) (c v : ℕ) (ab : Bool) → home plan c ≡ Way v ab → Carries (net_of plan) c
carried plan c v ab e = (within plan.nodes plan.channels c v ab e, way_virtual plan c v ab e)

pub drawn_is : (r : Option Interval) (word : ℕ) → ((i : Interval) → r ≡ Some i → i.lower < i.limit) → IsDrawn r (drawn r word)
drawn_is None word h = tt
drawn_is (Some i) word h =
    let less = h i refl in
    let m = mod_below word (i.limit - i.lower) (omega arith) in
    (omega arith, omega arith)

pub net_accepted : (plan : Plan) → IsAccepted plan → IsAcceptedNet (net_of plan)
net_accepted plan acc =
    let net = net_of plan in
    let ons : ℕ → On = λ c. on_of (home plan c) in
    labelled_accepted net (length plan.links) (link_at plan) ons
    (record {
      chan = λ c. channel_is plan (home plan c);
      on_link = λ c h. acc.on_link c (ons c).link (ons c).ab (virtual_way (home plan c) h.1);
      one_channel = λ c d h k e f. acc.one_channel c d (ons d).link (ons d).ab
          (subst (λ z. home plan c ≡ Way (ons d).link z) f (subst (λ z. home plan c ≡ Way z (ons c).ab) e (virtual_way (home plan c) h.1)))
          (virtual_way (home plan d) k.1);
      one_end = λ i j p q h k e.
          let e' : IsAtBlock (net_end plan (end_of (virtual_link plan i) p)) (net_end plan (end_of (virtual_link plan j) q)).node (net_end plan (end_of (virtual_link plan j) q)).block =
          subst (λ z. IsAtBlock z (net_end plan (end_of (virtual_link plan j) q)).node (net_end plan (end_of (virtual_link plan j) q)).block) (side_is plan i p)
          (subst (λ z. IsAtBlock (side_of (link_at plan i) p) z.node z.block) (side_is plan j q) e) in
          acc.one_end i j p q h k e'.0 e'.1;
      sends = λ i p h. subst (λ z. z.way < ways plan) (sym (side_is plan i p)) (found_by plan (AtNode (end_of (virtual_link plan i) p).node (end_of (virtual_link plan i) p).link) (acc.sends i p h)).0;
      delivers = λ i p h. subst (λ z. Delivers net 32 z.way z.route (side_of (link_at plan i) (not p))) (sym (side_is plan i p))
          (subst (λ z. Delivers net 32 (net_end plan (end_of (virtual_link plan i) p)).way (net_end plan (end_of (virtual_link plan i) p)).route z) (sym (side_is plan i (not p))) (acc.delivers i (way_from plan (AtNode (end_of (virtual_link plan i) p).node (end_of (virtual_link plan i) p).link)) p h (found_by plan (AtNode (end_of (virtual_link plan i) p).node (end_of (virtual_link plan i) p).link) (acc.sends i p h))));
      ranges = λ n i. (drawn ((switch_plan plan n).random i) 0, drawn_is ((switch_plan plan n).random i) 0 (acc.ranges n i));
    })

-- an end in its node's words
abbrev pub node_end : End → NodeEnd
node_end e = record { link = e.link; block = e.block; route = e.route }

-- channel c is output at node n, by this end of the plan
pub record OutputsHere (plan : Plan) (n c : ℕ) (end : NodeEnd) : Type 0 where
  pub plan_end : End
  pub carries : Carries (net_of plan) c
  pub from : ((net_of plan).chan c).from ≡ net_end plan plan_end
  pub source : source_node plan (home plan c) ≡ n
  pub node : plan_end.node ≡ n
  pub end_is : end ≡ node_end plan_end
  pub wired : IsFound plan (AtNode plan_end.node plan_end.link)

pub record InputsHere (plan : Plan) (n c : ℕ) (end : NodeEnd) : Type 0 where
  pub plan_end : End
  pub carries : Carries (net_of plan) c
  pub to : ((net_of plan).chan c).to ≡ net_end plan plan_end
  pub sink : sink_node plan (home plan c) ≡ n
  pub node : plan_end.node ≡ n
  pub end_is : end ≡ node_end plan_end
  pub wired : IsFound plan (AtNode plan_end.node plan_end.link)

here_is : (n : ℕ) (e : End) (end : NodeEnd) → end_here n e ≡ Some end → (e.node ≡ n) × (end ≡ node_end e)
here_is n e end h = by_test (e.node == n) refl h
  where
    by_test : (b : Bool) → (e.node == n) ≡ b → (if b then Some (node_end e) else None) ≡ Some end → (e.node ≡ n) × (end ≡ node_end e)
    by_test true t h = (eqb-true e.node n t, cc)
    by_test false t h = absurd (cc)

here_at : (n : ℕ) (e : End) → e.node ≡ n → end_here n e ≡ Some (node_end e)
here_at n e h = ap (λ b. if b then Some (node_end e) else None) (eq-eqb e.node n h)

pub outputs_here : (plan : Plan) (n c : ℕ) (end : NodeEnd) → IsAccepted plan → (ends plan n).output c ≡ Some end → OutputsHere plan n c end
outputs_here plan n c end acc h = by_home (home plan c) refl h
  where
    by_home : (k : Home) → home plan c ≡ k → output_end plan n k ≡ Some end → OutputsHere plan n c end
    by_home (Way v ab) e h =
        let at = here_is n (end_of (virtual_link plan v) ab) end h in
        record {
          plan_end = end_of (virtual_link plan v) ab;
          carries = carried plan c v ab e;
          from = ap (λ k. (net_channel plan k).from) e;
          source = ap (source_node plan) e ∙ at.0;
          node = at.0;
          end_is = at.1;
          wired = found_by plan (AtNode (end_of (virtual_link plan v) ab).node (end_of (virtual_link plan v) ab).link) (acc.sends v ab (acc.on_link c v ab e));
        }
    by_home (Inside m) e h = absurd (cc)

pub inputs_here : (plan : Plan) (n c : ℕ) (end : NodeEnd) → IsAccepted plan → (ends plan n).input c ≡ Some end → InputsHere plan n c end
inputs_here plan n c end acc h = by_home (home plan c) refl h
  where
    by_home : (k : Home) → home plan c ≡ k → input_end plan n k ≡ Some end → InputsHere plan n c end
    by_home (Way v ab) e h =
        let at = here_is n (end_of (virtual_link plan v) (not ab)) end h in
        record {
          plan_end = end_of (virtual_link plan v) (not ab);
          carries = carried plan c v ab e;
          to = ap (λ k. (net_channel plan k).to) e;
          sink = ap (sink_node plan) e ∙ at.0;
          node = at.0;
          end_is = at.1;
          wired = found_by plan (AtNode (end_of (virtual_link plan v) (not ab)).node (end_of (virtual_link plan v) (not ab)).link) (acc.sends v (not ab) (acc.on_link c v ab e));
        }
    by_home (Inside m) e h = absurd (cc)

-- and the other way round
pub outputs_there : (plan : Plan) (n c : ℕ) → Carries (net_of plan) c → (((net_of plan).chan c).from).node ≡ n →
    (e : End) × (((net_of plan).chan c).from ≡ net_end plan e) × ((ends plan n).output c ≡ Some (node_end e))
outputs_there plan n c r h = by_home (home plan c) refl r.1 h
  where
    by_home : (k : Home) → home plan c ≡ k → is_virtual k ≡ true → ((net_channel plan k).from).node ≡ n →
        (e : End) × ((net_channel plan (home plan c)).from ≡ net_end plan e) × ((ends plan n).output c ≡ Some (node_end e))
    by_home (Way v ab) e r h = (
      end_of (virtual_link plan v) ab,
      ap (λ k. (net_channel plan k).from) e,
      ap (output_end plan n) e ∙ here_at n (end_of (virtual_link plan v) ab) h,
    )
    by_home (Inside m) e r h = absurd (cc)

pub inputs_there : (plan : Plan) (n c : ℕ) → Carries (net_of plan) c → (((net_of plan).chan c).to).node ≡ n →
    (e : End) × (((net_of plan).chan c).to ≡ net_end plan e) × ((ends plan n).input c ≡ Some (node_end e))
inputs_there plan n c r h = by_home (home plan c) refl r.1 h
  where
    by_home : (k : Home) → home plan c ≡ k → is_virtual k ≡ true → ((net_channel plan k).to).node ≡ n →
        (e : End) × ((net_channel plan (home plan c)).to ≡ net_end plan e) × ((ends plan n).input c ≡ Some (node_end e))
    by_home (Way v ab) e r h = (
      end_of (virtual_link plan v) (not ab),
      ap (λ k. (net_channel plan k).to) e,
      ap (input_end plan n) e ∙ here_at n (end_of (virtual_link plan v) (not ab)) h,
    )
    by_home (Inside m) e r h = absurd (cc)
