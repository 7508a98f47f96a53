-- The search from one port on for a way back to it, breadth first.
use Rattle.std.specs.Prelude.{◌≡◌, ◌⊎◌, ℕ, zero, suc, ◌+◌, ◌≤◌, ◌<◌, Bool, true, false, List, [], ◌∷◌, ◌++◌, length, Option, Some, IfSome, slice_get, slice_set, slice_index_or, if◌then◌else◌}
use Rattle.std.specs.Global.{Vec}
use Rattle.std.specs.List.{Contains}
use Rattle.vc_plan.specs.declared.plan.Plan.{Plan}
use Rattle.vc_plan.specs.declared.port.Port.{Port}
use Rattle.vc_plan.specs.Dependencies.{IsCycle, IsNotAfter}
use Rattle.vc_cycles.specs.Private.Graph.{AllRise, HasEdge, IsRising, port_at, row}
use Rattle.vc_cycles.specs.declared.round.Found.{Found}
use Rattle.vc_cycles.specs.declared.round.Round.{Round}

-- no way leads from this port back to it: some ports, but not this one, are all that it depends on, and what they depend on is among them
pub record IsAway (rows : List (Vec ℕ)) (start : ℕ) : Type 0 where
  pub beyond : ℕ → Bool
  pub first : (j : ℕ) → HasEdge rows start j → beyond j ≡ true
  pub on : (i j : ℕ) → beyond i ≡ true → HasEdge rows i j → beyond j ≡ true
  pub back : beyond start ≡ false

-- there is a row for each port, and its numbers are those of ports, and rise
pub record AreRows (rows : List (Vec ℕ)) : Type 0 where
  pub many : length rows ≡ 1024
  pub small : (i j : ℕ) → HasEdge rows i j → j < 1024
  pub rising : AllRise rows

-- the port was seen
abbrev pub is_seen : List Bool → ℕ → Bool
is_seen seen port = slice_index_or seen port false

-- a port is found unless it was seen
abbrev pub found_after : List Found → List Bool → ℕ → ℕ → List Found
found_after found seen port from = if is_seen seen port then found else found ++ record { port = port; from = from } ∷ []

abbrev pub seen_after : List Bool → ℕ → List Bool
seen_after seen port = if is_seen seen port then seen else slice_set seen port true

-- how many were not seen
abbrev pub unseen : List Bool → ℕ
unseen [] = 0
unseen (b ∷ bs) = (if b then 0 else 1) + unseen bs

-- the one was found from an earlier place than the other, or from the same place and has the smaller number
abbrev pub IsEarlier : Found → Found → Type 0
IsEarlier f g = (f.from < g.from) ⊎ ((f.from ≡ g.from) × (f.port < g.port))

-- all that were found are in this order, but for the port at which the search began
abbrev pub InOrder : List Found → Type 0
InOrder found = (k m : ℕ) (f g : Found) → k < m → slice_get found (suc k) ≡ Some f → slice_get found (suc m) ≡ Some g → IsEarlier f g

-- the port was found from this place or an earlier one
pub record IsFoundFrom (found : List Found) (at port : ℕ) : Type 0 where
  pub place : ℕ
  pub entry : Found
  pub there : slice_get found (suc place) ≡ Some entry
  pub port_is : entry.port ≡ port
  pub early : entry.from ≤ at

-- what was found from a port on, when the rows of the first ports that were found have been looked at
pub record Searched (rows : List (Vec ℕ)) (start looked : ℕ) (found : List Found) (seen : List Bool) : Type 0 where
  pub many : length seen ≡ 1024
  pub begins : (f : Found) → slice_get found 0 ≡ Some f → f.port ≡ start
  pub small : (k : ℕ) (f : Found) → slice_get found k ≡ Some f → f.port < 1024
  pub back : (k : ℕ) (f : Found) → slice_get found (suc k) ≡ Some f → (g : Found) × (f.from ≤ k) × (slice_get found f.from ≡ Some g) × HasEdge rows g.port f.port
  pub listed : (j : ℕ) → is_seen seen j ≡ true → (k : ℕ) × (f : Found) × (slice_get found k ≡ Some f) × (f.port ≡ j)
  pub on : (k : ℕ) (f : Found) (j : ℕ) → k < looked → slice_get found k ≡ Some f → HasEdge rows f.port j → is_seen seen j ≡ true
  pub soon : (k : ℕ) (f : Found) (j : ℕ) → k < looked → slice_get found k ≡ Some f → HasEdge rows f.port j → IsFoundFrom found k j
  pub order : InOrder found
  pub recent : (k : ℕ) (f : Found) → slice_get found (suc k) ≡ Some f → f.from ≤ looked
  pub apart : is_seen seen start ≡ false
  pub count : length found + unseen seen ≡ 1025
  pub some : 0 < length found

-- each row that gave a port has been looked at to its end
pub record Settled (rows : List (Vec ℕ)) (start looked : ℕ) (found : List Found) (seen : List Bool) : Type 0 where
  pub base : Searched rows start looked found seen
  pub before : (k : ℕ) (f : Found) → slice_get found (suc k) ≡ Some f → f.from < looked

-- the first ports of the row that is looked at have been found too, and no others of it
pub record Looking (rows : List (Vec ℕ)) (start at : ℕ) (row_is : List ℕ) (n : ℕ) (found : List Found) (seen : List Bool) : Type 0 where
  pub base : Searched rows start at found seen
  pub here : Found
  pub there : slice_get found at ≡ Some here
  pub row_of : row rows here.port ≡ row_is
  pub small : (j : ℕ) → Contains row_is j → j < 1024
  pub apart : Contains row_is start → ⊥
  pub rising : IsRising row_is
  pub partly : (k : ℕ) → k < n → is_seen seen (slice_index_or row_is k 0) ≡ true
  pub found_partly : (k : ℕ) → k < n → IsFoundFrom found at (slice_index_or row_is k 0)
  pub only : (k : ℕ) (f : Found) → slice_get found (suc k) ≡ Some f → f.from ≡ at → (m : ℕ) × (m < n) × (f.port ≡ slice_index_or row_is m 0)

-- each port that was found comes from an earlier one
pub record PointsBack (found : List Found) : Type 0 where
  pub small : (k : ℕ) (f : Found) → slice_get found k ≡ Some f → f.port < 1024
  pub back : (k : ℕ) (f : Found) → slice_get found (suc k) ≡ Some f → f.from ≤ k

-- a search by which the first n ports of a row were found too, that of the port at this place of its list
abbrev pub LooksAt : List ℕ → ℕ → ℕ → Round → Round → Type 0
LooksAt row_is at n old new =
    (rows : List (Vec ℕ)) (start : ℕ) → Looking rows start at row_is 0 old.found.items old.seen.items → Looking rows start at row_is n new.found.items new.seen.items

-- what is at a place of the list
abbrev pub found_at : List Found → ℕ → Found
found_at found k = slice_index_or found k (record { port = 0; from = 0 })

-- the ports on the way to place k of the list, in order, but for the first of the list; at most n are followed, and k are enough
abbrev pub way : List Found → ℕ → ℕ → List Port
way found zero k = []
way found (suc n) zero = []
way found (suc n) (suc k) = way found n (found_at found (suc k)).from ++ port_at (found_at found (suc k)).port ∷ []

-- with the first of the list too
abbrev pub way_to : List Found → ℕ → List Port
way_to found k = port_at (found_at found 0).port ∷ way found (length found) k

-- a cycle that begins with this port, and none that does is before it
pub record IsLeastRound (net : Plan) (start : ℕ) (ports : List Port) : Type 0 where
  pub rest : List Port
  pub begins : ports ≡ port_at start ∷ rest
  pub cycle : IsCycle net ports
  pub least : (others : List Port) → IsCycle net (port_at start ∷ others) → IsNotAfter ports (port_at start ∷ others)

-- a cycle that begins with one of the first n ports, and none that does is before it
pub record IsLeastBelow (net : Plan) (n : ℕ) (ports : List Port) : Type 0 where
  pub start : ℕ
  pub below : start < n
  pub rest : List Port
  pub begins : ports ≡ port_at start ∷ rest
  pub cycle : IsCycle net ports
  pub least : (k : ℕ) (others : List Port) → k < n → IsCycle net (port_at k ∷ others) → IsNotAfter ports (port_at k ∷ others)

-- these are the shorter one of two cycles, the first one where they have as many ports, or the only one
abbrev pub IsShorter : Option (Vec Port) → Option (Vec Port) → Vec Port → Type 0
IsShorter one other ports =
    ((one ≡ Some ports) × IfSome other (λ others. length ports.items ≤ length others.items)) ⊎
    ((other ≡ Some ports) × IfSome one (λ others. length ports.items < length others.items))
