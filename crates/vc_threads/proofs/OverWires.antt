-- What goes over the links of an actor's ends goes over the plan's wires.
use Rattle.std.proofs.Common.{ℕ, zero, suc, List, [], ◌∷◌, length, map, refl, subst, arith}
use Rattle.std.specs.List.{AllByRecursion, Contains}
use Rattle.vc_network.specs.Actors.{Label}
use Rattle.vc_network.specs.Actors.Label.{Own, Takes, Puts}
use Rattle.vc_network.specs.LocalRun.{Stamped, Turn}
use Rattle.vc_actor.specs.declared.act.Act.{Act}
use Rattle.vc_plan.specs.declared.plan.Plan.{Plan}
use Rattle.vc_tokens.specs.declared.token.Token.{Token}
use Rattle.vc_threads.specs.Private.Order.{HasEnd}
use Rattle.vc_threads.specs.Rings.{IsOnWire}
use Rattle.vc_threads.specs.Threads.{IsOverWires}
use Rattle.vc_threads.specs.Wires.{IsAmong, out_links, in_links}
use Rattle.vc_threads.specs.Works.{Out, In, GoesOver, GoOver}

-- the end of a link
end_among : {Y : Type 0} (xs : List (ℕ × Y)) (link : ℕ) → IsAmong (map (λ o. o.0) xs) link → HasEnd xs link
end_among [] link (k, less, is) = absurd (omega (arith, less))
end_among (x ∷ xs) link (zero, less, is) = (x, (0, omega arith, refl), is)
end_among (x ∷ xs) link (suc k, less, is) =
    let r = end_among xs link (k, omega (arith, less), is) in
    let within = r.1.1 in
    (r.0, (suc r.1.0, omega (arith, within), r.1.2), r.2)

module _ (p : Plan) (k : ℕ) (outs : List Out) (ins : List In)
    (out_on : (o : Out) → Contains outs o → IsOnWire p (length p.wires) k o.0) (in_on : (i : In) → Contains ins i → IsOnWire p (length p.wires) k i.0) where
  step_over : (l : Label Act (Stamped Token)) → GoesOver (out_links outs) (in_links ins) l → IsOverWires p k l
  step_over (Own act) over = tt
  step_over (Takes act link s) over =
      let e = end_among ins link over in
      subst (IsOnWire p (length p.wires) k) e.2 (in_on e.0 e.1)
  step_over (Puts act link s) over =
      let e = end_among outs link over in
      subst (IsOnWire p (length p.wires) k) e.2 (out_on e.0 e.1)

  pub over_wires : (ts : List (Turn Act Token)) → GoOver outs ins ts → AllByRecursion (λ t. IsOverWires p k t.it) ts
  over_wires [] over = tt
  over_wires (t ∷ ts) over = (step_over t.it over.0, over_wires ts over.1)
