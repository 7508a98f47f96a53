-- Where each wire from a switch has a rank, and it rises at each switch for each header by itself, the ports have ranks: a node's port is
-- before all, and a wire to a node is as its rank says.
use Rattle.std.proofs.Common.{◌≡◌, ℕ, suc, ◌<◌, List, [], ◌∷◌, Option, Some, None, slice_get, refl, sym, ap, subst, ◌∙◌, arith}
use Rattle.vc_plan.specs.declared.path_fault.Hop.{Hop}
use Rattle.vc_plan.specs.declared.plan.Plan.{Plan}
use Rattle.vc_plan.specs.declared.port.Port.{Port}
use Rattle.vc_plan.specs.declared.port.Spot.{Spot}
use Rattle.vc_plan.specs.declared.port.Spot.TheVariants.{Node, Switch}
use Rattle.vc_plan.specs.declared.vlink.End.{End}
use Rattle.vc_plan.specs.declared.vlink.Vlink.{Vlink}
use Rattle.vc_plan.specs.Accepted.{end_of}
use Rattle.vc_plan.specs.Dependencies.{CanLeave, first, later, DependsOn, HasRanks, port_of}
use Rattle.vc_plan.specs.Wires.{across, sending_port}
use Rattle.vc_label_laws.proofs.Onward.{onward}
use Rattle.vc_label_laws.specs.OneHeader.{ArePlain, Everywhere, HasOneHeader, Leads, LeadsTo, switch_port}

-- at these switches
pub record HasWireRanks (net : Plan) (On : ℕ → Type 0) : Type 0 where
  pub plain : ArePlain net
  pub one_header : HasOneHeader net
  -- of a wire from switch n to this place
  pub rank : ℕ → Spot → ℕ
  pub rises : (n h link m next : ℕ) (far next_far : Port) → On n → On m → LeadsTo net n h link far → far.spot ≡ Switch m → LeadsTo net m h next next_far → rank n (Switch m) < rank m next_far.spot

-- what can leave by a port has one header, and at a switch the port is of its group
record Sent (net : Plan) (a : Port) (s : List ℕ) : Type 0 where
  header : ℕ
  is : s ≡ header ∷ []
  leads : (n : ℕ) → a.spot ≡ Switch n → Leads net n header a.link

leads_at : (net : Plan) (h : ℕ) (hop : Hop) (a : Port) → a ≡ port_of hop → Leads net hop.switch h hop.link → (n : ℕ) → a.spot ≡ Switch n → Leads net n h a.link
leads_at net h hop a e l n at =
    let m : hop.switch ≡ n = (let c : Switch hop.switch ≡ Switch n = sym (ap (λ (p : Port). p.spot) e) ∙ at in cc) in
    let k : hop.link ≡ a.link = sym (ap (λ (p : Port). p.link) e) in
    subst (λ x. Leads net x h a.link) m (subst (λ x. Leads net hop.switch h x) k l)

no_switch : (e : End) (n : ℕ) → (sending_port e).spot ≡ Switch n → ⊥
no_switch e n at = cc

module _ (net : Plan) (u : HasWireRanks net Everywhere) where
  sent : (k : ℕ) (v : Vlink) → slice_get net.vlinks k ≡ Some v → (a : Port) (s : List ℕ) → CanLeave net v a s → Sent net a s
  sent k v there a s (first from_a) =
      let r = u.one_header k v from_a there in
      record { header = r.0; is = r.1; leads = λ n e. absurd (no_switch (end_of v from_a) n e) }
  sent k v there a s (later {a = b} {s = t} c g) =
      let before = sent k v there b t c in
      let on = onward net u.plain g.far t g.hop g.to s before.header before.is g.goes in
      record { header = before.header; is = on.same; leads = leads_at net before.header g.hop a g.port on.leads }

  abbrev rank_to : ℕ → Option Port → ℕ
  rank_to n None = 0
  rank_to n (Some far) = suc (u.rank n far.spot)

  abbrev rank_at : Spot → ℕ → ℕ
  rank_at (Node n) link = 0
  rank_at (Switch n) link = rank_to n (across net.wires (switch_port n link))

  -- from a port with this header to the next
  rises_from : (a : Port) (s : List ℕ) (far : Port) (m link : ℕ) (q : Port) (x : Sent net a s) → across net.wires a ≡ Some far → far.spot ≡ Switch m → LeadsTo net m x.header link q →
      (spot : Spot) → a.spot ≡ spot → rank_at spot a.link < rank_at (Switch m) link
  rises_from a s far m link q x comes at l (Node n) is =
      let e : rank_at (Switch m) link ≡ suc (u.rank m q.spot) = ap (λ o. rank_to m o) l.1 in
      omega (arith, e)
  rises_from a s far m link q x comes at l (Switch n) is =
      let here : across net.wires (switch_port n a.link) ≡ Some far = ap (λ z. across net.wires (record { spot = z; link = a.link })) (sym is) ∙ comes in
      let r = u.rises n x.header a.link m link far q tt tt (x.leads n is, here) at l in
      let e : rank_at (Switch m) link ≡ suc (u.rank m q.spot) = ap (λ o. rank_to m o) l.1 in
      let f : rank_at (Switch n) a.link ≡ suc (u.rank n (Switch m)) = ap (λ o. rank_to n o) here ∙ ap (λ z. suc (u.rank n z)) at in
      omega (arith, r, e, f)

  rises : (a b : Port) → DependsOn net a b → rank_at a.spot a.link < rank_at b.spot b.link
  rises a b d =
      let x = sent d.index d.vlink d.there a d.headers d.leaves in
      let i = d.goes.goes in
      let on = onward net u.plain d.goes.far d.headers d.goes.hop d.goes.to d.after x.header x.is i in
      let r = rises_from a d.headers d.goes.far d.goes.hop.switch d.goes.hop.link d.goes.to x d.goes.comes i.at (on.leads, i.far) a.spot refl in
      subst (λ (p : Port). rank_at a.spot a.link < rank_at p.spot p.link) (sym d.goes.port) r

pub wires_rank_ports : (net : Plan) → HasWireRanks net Everywhere → HasRanks net
wires_rank_ports net u = record { rank = λ p. rank_at net u p.spot p.link; rises = rises net u }
