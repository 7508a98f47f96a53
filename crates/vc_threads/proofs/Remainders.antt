-- What is left on the two ways of a wire is taken off.
use Rattle.std.proofs.Common.{◌≡◌, ◌⊎◌, ℕ, ◌+◌, Bool, true, false, length, slice_get, Some, refl, arith, inl, inr}
use Rattle.vc_accepted.specs.ActorWays.{actor_of}
use Rattle.vc_plan.specs.Accepted.{IsAccepted, port_of}
use Rattle.vc_plan.specs.declared.plan.Plan.{Plan}
use Rattle.vc_plan.specs.declared.port.Wire.{Wire}
use Rattle.vc_threads.specs.Private.Order.{IsPort, EndsTaken}
use Rattle.vc_threads.specs.Rings.{IsOnWire}
use Rattle.vc_threads.specs.declared.order.AllEnds.{AllEnds}
use Rattle.vc_threads.proofs.FreeWays.{fresh, other_side}
use Rattle.vc_threads.proofs.RingViews.{ends_then}
use Rattle.vc_threads.proofs.Rings.{is_at, on_later}

-- a link on one of the first wires, or the next wire's port two
abbrev pub IsBefore : Plan → ℕ → Wire → ℕ → ℕ → Type 0
IsBefore p n w k link = IsOnWire p n k link ⊎ IsPort (length p.nodes) w.two k link

module _ (p : Plan) (acc : IsAccepted p) (n : ℕ) (w : Wire) (is : slice_get p.wires n ≡ Some w) where
  -- the wire's ports are on none of the wires before it
  pub two_fresh : IsOnWire p n (actor_of (length p.nodes) w.two.spot) w.two.link → ⊥
  two_fresh = fresh p acc n w is false (actor_of (length p.nodes) w.two.spot) w.two.link refl refl

  pub one_fresh : IsBefore p n w (actor_of (length p.nodes) w.one.spot) w.one.link → ⊥
  one_fresh (inl before) = fresh p acc n w is true (actor_of (length p.nodes) w.one.spot) w.one.link refl refl before
  one_fresh (inr two) = other_side p acc n w is true (actor_of (length p.nodes) w.one.spot) w.one.link refl refl two.0 two.1

  on_port : (side : Bool) (k link : ℕ) → IsPort (length p.nodes) (port_of w side) k link → IsOnWire p (n + 1) k link
  on_port side k link at = (n, w, side, omega arith, is, is_at (length p.nodes) k link (port_of w side) at.0 at.1)

  pub first_taken : (a b c : AllEnds) → EndsTaken (IsOnWire p n) a b → EndsTaken (IsPort (length p.nodes) w.two) b c → EndsTaken (IsBefore p n w) a c
  first_taken = ends_then (IsOnWire p n) (IsPort (length p.nodes) w.two) (IsBefore p n w) (λ k link h. inl h) (λ k link h. inr h)

  later : (k link : ℕ) → IsBefore p n w k link → IsOnWire p (n + 1) k link
  later k link (inl before) = on_later p n k link before
  later k link (inr two) = on_port false k link two

  pub second_taken : (a b c : AllEnds) → EndsTaken (IsBefore p n w) a b → EndsTaken (IsPort (length p.nodes) w.one) b c → EndsTaken (IsOnWire p (n + 1)) a c
  second_taken = ends_then (IsBefore p n w) (IsPort (length p.nodes) w.one) (IsOnWire p (n + 1)) later (on_port true)
