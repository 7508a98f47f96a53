-- The room that a worker knows in the rings that go out.
use Rattle.std.specs.Prelude.{◌≡◌, ℕ, ◌<◌, List, [], ◌∷◌, length}
use Rattle.std.specs.Int.{bit_at}
use Rattle.std.specs.List.{AllZip, HoldsAt}
use Rattle.rtrb.specs.Ring.{known_free}
use Rattle.rtrb.specs.declared.producer.Producer.{Producer}
use Rattle.vc_actor.specs.declared.act.Act.{Act}
use Rattle.vc_network.specs.Actors.Label.{Puts}
use Rattle.vc_threads.specs.declared.link.Stamped.{Stamped}
use Rattle.vc_threads.specs.Stamps.{stamped}
use Rattle.vc_threads.specs.Wires.{Sends}
use Rattle.vc_threads.specs.Works.{Out}

module _ {A P : Type 0} where
  -- a slot is known to be free in this link's ring
  abbrev pub IsFree : ℕ → ℕ × Producer Stamped A P → Type 0
  IsFree link o = (o.0 ≡ link) × (0 < known_free o.1)

  -- Not every ring of this link is without a slot that is known to be free. As a denial it has one proof at most, so it may stand in an invariant.
  abbrev pub HasRoom : List (ℕ × Producer Stamped A P) → ℕ → Type 0
  HasRoom outs link = ((k : ℕ) → k < length outs → HoldsAt (IsFree link) outs k → ⊥) → ⊥

  -- each link of a mask has room
  abbrev pub HaveRoom : ℕ → List (ℕ × Producer Stamped A P) → Type 0
  HaveRoom mask outs = (link : ℕ) → bit_at mask link ≡ 1 → HasRoom outs link

-- the item was pushed on the link's ring, and none on another
abbrev pub HasPut : ℕ → Stamped → List Out → List Out → Type 0
HasPut link x old new = (act : Act) → AllZip (Sends (record { at = x.at; it = Puts act link (stamped x) } ∷ [])) old new
