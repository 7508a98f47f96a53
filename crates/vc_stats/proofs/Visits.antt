-- The states that a run visits, and their counts.
use Rattle.std.proofs.Common.{◌≡◌, ℕ, suc, List, [], ◌∷◌, ◌++◌, length, max, refl, ap, ◌∙◌, subst, arith}
use Rattle.vc_accepted.specs.NetworkOf.{network_of}
use Rattle.vc_accepted.specs.Process.{does}
use Rattle.vc_core.specs.PossibleEvents.{NetworkState}
use Rattle.vc_core.specs.State.{event_of}
use Rattle.vc_core.specs.declared.event.Event.{Event}
use Rattle.vc_network.specs.Network.{Happens}
use Rattle.vc_plan.specs.declared.plan.Plan.{Plan}
use Rattle.vc_switch.specs.Waiting.{Wormhole}
use Rattle.vc_stats.specs.StateFigures.{LeadThrough, greatest}

-- one event more
pub leads_more : (p : Plan) (x : NetworkState) (es : List Event) (xs : List NetworkState) (y : NetworkState) (e : Event) (z : NetworkState) → LeadThrough p x es xs y →
    Happens (network_of p) Wormhole does y (event_of e) z → LeadThrough p x (es ++ e ∷ []) (xs ++ z ∷ []) z
leads_more p x [] [] y e z led next = (subst (λ w. Happens (network_of p) Wormhole does w (event_of e) z) led next, refl)
leads_more p x (f ∷ es) (w ∷ xs) y e z led next = (led.0, leads_more p w es xs y e z led.1 next)
leads_more p x [] (w ∷ xs) y e z led next = absurd led
leads_more p x (f ∷ es) [] y e z led next = absurd led

-- there is a state after each event
pub as_many : (p : Plan) (x : NetworkState) (es : List Event) (xs : List NetworkState) (y : NetworkState) → LeadThrough p x es xs y → length xs ≡ length es
as_many p x [] [] y led = refl
as_many p x (e ∷ es) (w ∷ xs) y led = ap suc (as_many p w es xs y led.1)
as_many p x [] (w ∷ xs) y led = absurd led
as_many p x (e ∷ es) [] y led = absurd led

max_more : (a m b : ℕ) → max a (max m b) ≡ max (max a m) b
max_more a m b = omega arith

-- one state more
pub greatest_more : {X : Type 0} (f : X → ℕ) (xs : List X) (y : X) → greatest f (xs ++ y ∷ []) ≡ max (greatest f xs) (f y)
greatest_more f [] y = omega arith
greatest_more f (x ∷ xs) y = ap (max (f x)) (greatest_more f xs y) ∙ max_more (f x) (greatest f xs) (f y)
