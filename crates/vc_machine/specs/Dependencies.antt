-- The channel dependency graph (Dally and Seitz, 1987) over ways: a way depends on another where a packet that comes by the first may
-- have to wait for the second. Where ranks rise along each dependency, no packets can wait for one another in a circle.
use Rattle.std.specs.Prelude.{◌≡◌, ℕ, ◌<◌, List, Option}
use Rattle.vc_machine.specs.Paths.{AtSwitch, Net, Carries, Leaves}
use Rattle.vc_switch.specs.Forward.{IsDrawn, behind}

-- a packet of some channel can be on this way with these headers: a piece or an acknowledge at first, and after each hop, whatever is drawn
pub data CanStand (net : Net) : ℕ → List ℕ → Type 0 where
  by_piece : (c : ℕ) → Carries net c → CanStand net (net.chan c).from.way (net.chan c).from.route
  by_ack : (c : ℕ) → Carries net c → CanStand net (net.chan c).to.way (net.chan c).to.route
  by_hop : {w out : ℕ} {s t : List ℕ} (n i : ℕ) (v : Option ℕ) → CanStand net w s → net.far w ≡ AtSwitch n i → IsDrawn ((net.switch n).random i) v →
      Leaves net n (behind v s) out t → CanStand net out t

-- a packet that comes by way w can leave the switch to which it comes by way out
pub record Depends (net : Net) (w out : ℕ) : Type 0 where
  pub headers : List ℕ
  pub drawn : Option ℕ
  pub switch : ℕ
  pub link : ℕ
  pub after : List ℕ
  pub stands : CanStand net w headers
  pub far : net.far w ≡ AtSwitch switch link
  pub draw : IsDrawn ((net.switch switch).random link) drawn
  pub leaves : Leaves net switch (behind drawn headers) out after

-- each way has a rank, and it rises along each dependency
pub record HasRanks (net : Net) : Type 0 where
  pub rank : ℕ → ℕ
  pub rises : (w out : ℕ) → Depends net w out → rank w < rank out
