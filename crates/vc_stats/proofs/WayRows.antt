-- The ways of a plan, in the rows of the actors that put tokens on them.
use Rattle.std.proofs.Common.{◌≡◌, ◌+◌, ◌*◌, ◌/◌, ◌%◌, ◌==◌, ◌&&◌, ◌||◌, ℕ, slice_get, Some, sym, ap, ◌∙◌, inl, inr, arith, eq-eqb}
use Rattle.std.proofs.lemmas.Bool.{cases_eq, or_left, or_right, and_from}
use Rattle.vc_accepted.specs.NetworkOf.{network_of, port_of, wire_of}
use Rattle.vc_accepted.proofs.Elements.{made_at}
use Rattle.vc_machine.specs.Paths.{AtNode}
use Rattle.vc_network.specs.Network.{actor_at}
use Rattle.vc_network.specs.Plan.{near}
use Rattle.vc_network.specs.Plan as network
use Rattle.vc_plan.specs.declared.plan.Plan.{Plan}
use Rattle.vc_plan.specs.declared.port.Wire.{Wire}
use Rattle.vc_stats.specs.Peaks.{AreWaysTo}
use Rattle.vc_stats.specs.Rows.{has}
use Rattle.vc_stats.specs.declared.rows.Rows.{Rows}

wire_at : (p : Plan) (n : ℕ) (w : Wire) → slice_get p.wires n ≡ Some w → network.wire (network_of p) n ≡ wire_of w
wire_at p n w there = made_at wire_of p.wires n (record { one = AtNode 0 0; two = AtNode 0 0 }) w there

near_one : (p : Plan) (n way : ℕ) (w : Wire) → slice_get p.wires n ≡ Some w → way ≡ 2 * n → near (network_of p) way ≡ port_of w.one
near_one p n way w there is =
    let half : way / 2 ≡ n = omega (arith, is) in
    let even : way % 2 ≡ 0 = omega (arith, is) in
    (λ i. network.port_of (network.wire (network_of p) (half i)) (eq-eqb (way % 2) 0 even i)) ∙ ap (λ v. v.one) (wire_at p n w there)

near_two : (p : Plan) (n way : ℕ) (w : Wire) → slice_get p.wires n ≡ Some w → way ≡ 2 * n + 1 → near (network_of p) way ≡ port_of w.two
near_two p n way w there is =
    let half : way / 2 ≡ n = omega (arith, is) in
    let odd : way % 2 ≡ 1 = omega (arith, is) in
    (λ i. network.port_of (network.wire (network_of p) (half i)) (odd i == 0)) ∙ ap (λ v. v.two) (wire_at p n w there)

-- both ways of one wire more
pub ways_more : (p : Plan) (n : ℕ) (w : Wire) (old mid new : Rows) (a b i j : ℕ) → slice_get p.wires n ≡ Some w → i ≡ 2 * n → j ≡ 2 * n + 1 →
    a ≡ actor_at (network_of p) (port_of w.one) → b ≡ actor_at (network_of p) (port_of w.two) → AreWaysTo (2 * n) p old →
    ((k m : ℕ) → has mid k m ≡ (has old k m || (a == k && i == m))) → ((k m : ℕ) → has new k m ≡ (has mid k m || (b == k && j == m))) → AreWaysTo (2 * (n + 1)) p new
ways_more p n w old mid new a b i j there one two first second before added after = λ way less.
    let k = actor_at (network_of p) (near (network_of p) way) in
    after k way ∙ elim (cases_eq way (2 * n + 1)) [
      | inl last ↦ (let at : b ≡ k = second ∙ ap (actor_at (network_of p)) (sym (near_two p n way w there last)) in
          or_right (has mid k way) (b == k && j == way) (and_from (b == k) (j == way) (eq-eqb b k at) (eq-eqb j way (two ∙ sym last))))
      | inr sooner ↦ or_left (has mid k way) (b == k && j == way) (added k way ∙ elim (cases_eq way (2 * n)) [
        | inl this ↦ (let at : a ≡ k = first ∙ ap (actor_at (network_of p)) (sym (near_one p n way w there this)) in
            or_right (has old k way) (a == k && i == way) (and_from (a == k) (i == way) (eq-eqb a k at) (eq-eqb i way (one ∙ sym this))))
        | inr ne ↦ or_left (has old k way) (a == k && i == way) (before way (omega (arith, less, sooner, ne)))
      ])
    ]
