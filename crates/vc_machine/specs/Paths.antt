-- The wiring, and where a packet's headers can take it.
use Rattle.vc_labels.specs.declared.action.Action.TheVariants.{Out}
use Rattle.vc_labels.specs.Interval.{action_for}
use Rattle.vc_switch.specs.Forward.{SwitchPlan, IsDrawn, HasRoom, behind, without_portals}
use Rattle.std.specs.Prelude.{◌≡◌, ℕ, suc, zero, ◌≤◌, ◌<◌, Bool, true, List, [], ◌∷◌, if◌then◌else◌, Option, Some}

-- an end of a wire: link `link` of a node or of a switch
pub data Port : Type 0 where
  AtNode : (node link : ℕ) → Port
  AtSwitch : (switch link : ℕ) → Port

-- one end of a virtual link: the node, the way by which it sends, its block there, and the route that it puts in front
pub record End : Type 0 where
  pub node : ℕ
  pub way : ℕ
  pub block : ℕ
  pub route : List ℕ

-- a channel runs one way over a virtual link
pub record Channel : Type 0 where
  pub from : End
  pub to : End

-- a way is one direction of a wire, from its near port to its far port
pub record Net : Type 0 where
  pub ways : ℕ
  pub near : ℕ → Port
  pub far : ℕ → Port
  pub switch : ℕ → SwitchPlan
  pub chans : ℕ
  pub virtual : ℕ → Bool  -- whether the channel is on a virtual link: others stay inside a node
  pub chan : ℕ → Channel

-- the network carries channel c
abbrev pub Carries : Net → ℕ → Type 0
Carries net c = (c < net.chans) × (net.virtual c ≡ true)

-- with stack s a packet may leave switch n by way w, with stack t
pub record Leaves (net : Net) (n : ℕ) (s : List ℕ) (w : ℕ) (t : List ℕ) : Type 0 where
  pub header : ℕ
  pub rest : List ℕ
  pub first : ℕ
  pub last : ℕ
  pub link : ℕ
  pub front : without_portals (net.switch n).table s ≡ header ∷ rest
  pub group : action_for (net.switch n).table header ≡ Some (Out first last)
  pub low : first ≤ link
  pub high : link ≤ last
  pub real : w < net.ways
  pub near : net.near w ≡ AtSwitch n link
  pub left : t ≡ (if (net.switch n).deletes link then rest else header ∷ rest)

-- in switch n with stack s: there is a way on, and each way on is well
abbrev pub GoesOn : Net → (ℕ → List ℕ → Type 0) → ℕ → List ℕ → Type 0
GoesOn net Well n s =
    ((w : ℕ) × (t : List ℕ) × Leaves net n s w t) × ((w : ℕ) (t : List ℕ) → Leaves net n s w t → Well w t)

-- at a node: the right one, with the block's header left. At a switch: each header that may be put in front goes on
abbrev pub IsWellAt : Net → (ℕ → List ℕ → Type 0) → Port → List ℕ → End → Type 0
IsWellAt net Well (AtNode n i) s e = (n ≡ e.node) × (s ≡ e.block ∷ [])
IsWellAt net Well (AtSwitch n i) s e =
    (v : Option ℕ) → IsDrawn ((net.switch n).random i) v → HasRoom v s × GoesOn net Well n (behind v s)

-- every path of hops from the way w with stack s ends at e, after at most `fuel` hops
abbrev pub Delivers : Net → ℕ → ℕ → List ℕ → End → Type 0
Delivers net zero w s e = IsWellAt net (λ w2 s2. ⊥) (net.far w) s e
Delivers net (suc fuel) w s e = IsWellAt net (λ w2 s2. Delivers net fuel w2 s2 e) (net.far w) s e

abbrev pub IsAtBlock : End → ℕ → ℕ → Type 0
IsAtBlock e node block = (e.node ≡ node) × (e.block ≡ block)

-- an accepted plan
pub record IsAccepted (net : Net) : Type 0 where
  pub ways : (c : ℕ) → Carries net c → ((net.chan c).from.way < net.ways) × ((net.chan c).to.way < net.ways)
  pub there : (c : ℕ) → Carries net c → Delivers net 32 (net.chan c).from.way (net.chan c).from.route (net.chan c).to
  pub back : (c : ℕ) → Carries net c → Delivers net 32 (net.chan c).to.way (net.chan c).to.route (net.chan c).from
  pub one_in : (c d : ℕ) → Carries net c → Carries net d → IsAtBlock (net.chan c).to (net.chan d).to.node (net.chan d).to.block → c ≡ d
  pub one_out : (c d : ℕ) → Carries net c → Carries net d → IsAtBlock (net.chan c).from (net.chan d).from.node (net.chan d).from.block → c ≡ d
  pub ranges : (n i : ℕ) → (v : Option ℕ) × IsDrawn ((net.switch n).random i) v
