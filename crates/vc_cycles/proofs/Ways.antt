-- The ways of a search from its first port: the list has them in order, and the one on which the search comes back is the least of all.
use Rattle.std.proofs.Common.{◌≡◌, ◌⊎◌, inl, inr, ℕ, zero, suc, ◌<◌, ◌≤◌, Bool, true, List, [], ◌∷◌, ◌++◌, length, Some, slice_get, refl, sym, ap, subst, ◌∙◌, append_assoc, arith}
use Rattle.std.proofs.lemmas.Option.{slice_get_within, slice_get-get_or}
use Rattle.std.specs.Global.{Vec}
use Rattle.vc_plan.specs.declared.plan.Plan.{Plan}
use Rattle.vc_plan.specs.declared.port.Port.{Port}
use Rattle.vc_plan.specs.Accepted.{IsAccepted}
use Rattle.vc_plan.specs.Dependencies.{Chain, IsCycle, IsNotAfter}
use Rattle.vc_cycles.specs.Private.Graph.{AreDependencies, HasEdge, port_at, port_number}
use Rattle.vc_cycles.specs.Private.Round.{InOrder, IsAway, IsEarlier, IsFoundFrom, IsLeastRound, PointsBack, Searched, found_at, way, way_to}
use Rattle.vc_cycles.specs.declared.round.Found.{Found}
use Rattle.vc_cycles.proofs.PortNumbers.{number_after, number_at, number_back}
use Rattle.vc_cycles.proofs.Orders.{IsBefore, is_before_first, is_before_last, is_before_more, not_after_before, not_after_behind, not_after_itself, not_after_longer, not_after_more, not_after_on, number_before}
use Rattle.vc_cycles.proofs.CycleSearch.{ChainFrom, chain_last, chain_more, points_back}

append_nil : (xs : List Port) → xs ++ [] ≡ xs
append_nil [] = refl
append_nil (x ∷ xs) = ap (λ ys. x ∷ ys) (append_nil xs)

pub found_there : (found : List Found) (k : ℕ) → k < length found → slice_get found k ≡ Some (found_at found k)
found_there found k lt = slice_get-get_or found k (record { port = 0; from = 0 }) lt

pub found_is : (found : List Found) (k : ℕ) (f : Found) → slice_get found k ≡ Some f → found_at found k ≡ f
found_is found k f is = let r : Some (found_at found k) ≡ Some f = sym (found_there found k (slice_get_within found k f is)) ∙ is in cc

pub way_none : (found : List Found) (n : ℕ) → way found n 0 ≡ []
way_none found zero = refl
way_none found (suc n) = refl

-- the ways of a list
module _ (found : List Found) (back : PointsBack found) where
  from_back : (k : ℕ) → suc k < length found → (found_at found (suc k)).from ≤ k
  from_back k lt = back.back k (found_at found (suc k)) (found_there found (suc k) lt)

  way_enough : (n k : ℕ) → k ≤ n → k < length found → way found n k ≡ way found (suc n) k
  way_enough zero zero le lt = refl
  way_enough zero (suc k) le lt = absurd (omega arith)
  way_enough (suc n) zero le lt = refl
  way_enough (suc n) (suc k) le lt =
      let less = from_back k lt in
      ap (λ l. l ++ port_at (found_at found (suc k)).port ∷ []) (way_enough n (found_at found (suc k)).from (omega (arith, less, le)) (omega (arith, less, lt)))

  pub way_on : (n k : ℕ) → suc k ≤ n → suc k < length found → way found n (suc k) ≡ way found n (found_at found (suc k)).from ++ port_at (found_at found (suc k)).port ∷ []
  way_on zero k le lt = absurd (omega arith)
  way_on (suc n) k le lt =
      let less = from_back k lt in
      ap (λ l. l ++ port_at (found_at found (suc k)).port ∷ []) (way_enough n (found_at found (suc k)).from (omega (arith, less, le)) (omega (arith, less, lt)))

  -- the way to an earlier place is before that to a later one
  one_on : (n k m : ℕ) → ((i j : ℕ) → i < j → j ≤ m → IsBefore (way found n i) (way found n j)) → suc m < length found → IsEarlier (found_at found (suc k)) (found_at found (suc m)) →
      IsBefore (way found (suc n) (suc k)) (way found (suc n) (suc m))
  one_on n k m rest lt (inl x) =
      is_before_more (way found n (found_at found (suc k)).from) (way found n (found_at found (suc m)).from) (port_at (found_at found (suc k)).port) (port_at (found_at found (suc m)).port)
      (rest (found_at found (suc k)).from (found_at found (suc m)).from x (from_back m lt))
  one_on n k m rest lt (inr (same, x)) =
      subst (λ j. IsBefore (way found n (found_at found (suc k)).from ++ port_at (found_at found (suc k)).port ∷ []) (way found n j ++ port_at (found_at found (suc m)).port ∷ [])) same
      (is_before_last (way found n (found_at found (suc k)).from) (port_at (found_at found (suc k)).port) (port_at (found_at found (suc m)).port)
      (number_before (found_at found (suc k)).port (found_at found (suc m)).port x))

  way_before : InOrder found → (n k m : ℕ) → k < m → m ≤ n → m < length found → IsBefore (way found n k) (way found n m)
  way_before o zero k m less le lt = absurd (omega arith)
  way_before o (suc n) k zero less le lt = absurd (omega arith)
  way_before o (suc n) zero (suc m) less le lt = is_before_first (way found n (found_at found (suc m)).from) (port_at (found_at found (suc m)).port)
  way_before o (suc n) (suc k) (suc m) less le lt =
      one_on n k m (λ i j before small. way_before o n i j before (omega (arith, le, small)) (omega (arith, lt, small))) lt
      (o k m (found_at found (suc k)) (found_at found (suc m)) (omega (arith, less)) (found_there found (suc k) (omega (arith, less, lt))) (found_there found (suc m) lt))

  pub way_not_after : InOrder found → (n k m : ℕ) → k ≤ m → m ≤ n → m < length found → IsNotAfter (way found n k) (way found n m)
  way_not_after o n k m le small lt = go (let c : (k < m) ⊎ (k ≡ m) = grind (arith, le) in c)
    where
      go : (k < m) ⊎ (k ≡ m) → IsNotAfter (way found n k) (way found n m)
      go (inl less) = not_after_before (way found n k) (way found n m) (way_before o n k m less small lt)
      go (inr same) = subst (λ j. IsNotAfter (way found n k) (way found n j)) same (not_after_itself (way found n k))

pub way_more : (found : List Found) → PointsBack found → (at : ℕ) (f : Found) (ports more : List Port) → 0 < at → slice_get found at ≡ Some f → more ≡ port_at f.port ∷ ports →
    way found (length found) f.from ++ more ≡ way found (length found) at ++ ports
way_more found back zero f ports more some there is = absurd (omega arith)
way_more found back (suc k) f ports more some there is =
    let lt = slice_get_within found (suc k) f there in
    let n = length found in
    ap (λ l. way found n f.from ++ l) is ∙ sym (append_assoc (way found n f.from) (port_at f.port ∷ []) ports)
    ∙ ap (λ (g : Found). (way found n g.from ++ port_at g.port ∷ []) ++ ports) (sym (found_is found (suc k) f there)) ∙ ap (λ l. l ++ ports) (sym (way_on found back n k (omega (arith, lt)) lt))

-- the search comes back from the port at this place
module _ (net : Plan) (acc : IsAccepted net) (rows : List (Vec ℕ)) (d : AreDependencies net rows) (start at : ℕ) (found : List Found) (seen : List Bool) (s : Searched rows start at found seen)
    (small : start < 1024) (within : at < length found) where
  abbrev to : ℕ → List Port
  to k = way found (length found) k

  back : PointsBack found
  back = points_back rows start at found seen s

  -- a way to this port is not before that to a place which was looked at and has it, or not before that to the place from which the search comes back
  abbrev Reached : List Port → ℕ → Type 0
  Reached ports i = ((k : ℕ) × (g : Found) × (k < at) × (slice_get found k ≡ Some g) × (g.port ≡ i) × IsNotAfter (to k) ports) ⊎ IsNotAfter (to at) ports

  reached_by : (k j : ℕ) (ports : List Port) → k < at → IsNotAfter (to k) ports → IsFoundFrom found k j → Reached (ports ++ port_at j ∷ []) j
  reached_by k j ports less na f = go (let c : (suc f.place < at) ⊎ (at ≤ suc f.place) = grind arith in c)
    where
      lt : suc f.place < length found
      lt = slice_get_within found (suc f.place) f.entry f.there

      early : (found_at found (suc f.place)).from ≤ k
      early = subst (λ (x : Found). x.from ≤ k) (sym (found_is found (suc f.place) f.entry f.there)) f.early

      port_is : (found_at found (suc f.place)).port ≡ j
      port_is = ap (λ (x : Found). x.port) (found_is found (suc f.place) f.entry f.there) ∙ f.port_is

      now : IsNotAfter (to (suc f.place)) (ports ++ port_at j ∷ [])
      now =
          let from = (found_at found (suc f.place)).from in
          subst (λ l. IsNotAfter l (ports ++ port_at j ∷ [])) (sym (way_on found back (length found) f.place (omega (arith, lt)) lt))
          (subst (λ i. IsNotAfter (to from ++ port_at i ∷ []) (ports ++ port_at j ∷ [])) (sym port_is)
          (not_after_more (to from) ports (port_at j)
          (not_after_on (to from) (to k) ports (way_not_after found back s.order (length found) from k early (omega (arith, less, within)) (omega (arith, less, within))) na)))

      go : (suc f.place < at) ⊎ (at ≤ suc f.place) → Reached (ports ++ port_at j ∷ []) j
      go (inl before) = inl (suc f.place, f.entry, before, f.there, f.port_is, now)
      go (inr past) = inr (not_after_on (to at) (to (suc f.place)) (ports ++ port_at j ∷ []) (way_not_after found back s.order (length found) at (suc f.place) past (omega (arith, lt)) lt) now)

  reached_on : (ports : List Port) (i j : ℕ) → HasEdge rows i j → Reached ports i → Reached (ports ++ port_at j ∷ []) j
  reached_on ports i j edge (inl (k, g, less, there, is, na)) = reached_by k j ports less na (s.soon k g j less there (subst (λ m. HasEdge rows m j) (sym is) edge))
  reached_on ports i j edge (inr na) = inr (not_after_longer (to at) ports (port_at j) na)

  never_back : (k : ℕ) (g : Found) → k < at → slice_get found k ≡ Some g → HasEdge rows g.port start → ⊥
  never_back k g less there edge = let e = s.on k g start less there edge in let f = s.apart in absurd cc

  come_back : (ports : List Port) (i : ℕ) → HasEdge rows i start → Reached ports i → IsNotAfter (to at) ports
  come_back ports i edge (inl (k, g, less, there, is, na)) = absurd (never_back k g less there (subst (λ m. HasEdge rows m start) (sym is) edge))
  come_back ports i edge (inr na) = na

  on_chain : (cs ports : List Port) (a : Port) (i : ℕ) → port_number a ≡ Some i → Reached ports i → Chain net a cs (port_at start) → IsNotAfter (to at) (ports ++ cs)
  on_chain [] ports a i is r h = subst (λ l. IsNotAfter (to at) l) (sym (append_nil ports)) (come_back ports i (d.all a (port_at start) i start h is (number_at start small)) r)
  on_chain (c ∷ cs) ports a i is r h =
      let n = number_after net acc a c h.0 in
      let j = n.0 in
      subst (λ l. IsNotAfter (to at) l) (append_assoc ports (c ∷ []) cs)
      (subst (λ p. IsNotAfter (to at) ((ports ++ p ∷ []) ++ cs)) (number_back c j n.1)
      (on_chain cs (ports ++ port_at j ∷ []) c j n.1 (reached_on ports i j (d.all a c i j h.0 is n.1) r) h.1))

  at_first : Reached [] start
  at_first = go (let c : (0 < at) ⊎ (0 ≡ at) = grind arith in c)
    where
      none : IsNotAfter (to 0) []
      none = subst (λ l. IsNotAfter l []) (sym (way_none found (length found))) (not_after_itself [])

      go : (0 < at) ⊎ (0 ≡ at) → Reached [] start
      go (inl less) = let there = found_there found 0 s.some in inl (0, found_at found 0, less, there, s.begins (found_at found 0) there, none)
      go (inr same) = inr (subst (λ k. IsNotAfter (to k) []) same none)

  least : (others : List Port) → IsCycle net (port_at start ∷ others) → IsNotAfter (port_at start ∷ to at) (port_at start ∷ others)
  least others h = not_after_behind (port_at start) (to at) others (on_chain others [] (port_at start) start (number_at start small) at_first h)

  -- it is a way round
  closes_first : (ports : List Port) → ChainFrom net found 0 ports start → Chain net (port_at start) ports (port_at start)
  closes_first ports c = let there = found_there found 0 s.some in subst (λ p. Chain net (port_at p) ports (port_at start)) (s.begins (found_at found 0) there) (c (found_at found 0) there)

  closes : (n k : ℕ) (ports : List Port) → k ≤ n → k < length found → ChainFrom net found k ports start → Chain net (port_at start) (way found n k ++ ports) (port_at start)
  closes zero zero ports le lt c = closes_first ports c
  closes zero (suc k) ports le lt c = absurd (omega arith)
  closes (suc n) zero ports le lt c = closes_first ports c
  closes (suc n) (suc k) ports le lt c =
      let f = found_at found (suc k) in
      let less = from_back found back k lt in
      subst (λ l. Chain net (port_at start) l (port_at start)) (sym (append_assoc (way found n f.from) (port_at f.port ∷ []) ports))
      (closes n f.from (port_at f.port ∷ ports) (omega (arith, less, le)) (omega (arith, less, lt))
      (chain_more net rows start at found seen (suc k) f ports d s (omega arith) (found_there found (suc k) lt) c))

  pub least_round : (f : Found) (ports : List Port) → slice_get found at ≡ Some f → HasEdge rows f.port start → ports ≡ way_to found at → IsLeastRound net start ports
  least_round f ports there edge is = record {
    rest = to at;
    begins = begins;
    cycle = subst (λ l. IsCycle net l) (sym begins) (subst (λ l. Chain net (port_at start) l (port_at start)) (append_nil (to at)) (closes (length found) at [] (omega (arith, within)) within (chain_last net rows start found at f d there edge)));
    least = λ others h. subst (λ l. IsNotAfter l (port_at start ∷ others)) (sym begins) (least others h);
  }
    where
      begins : ports ≡ port_at start ∷ to at
      begins = is ∙ ap (λ p. port_at p ∷ to at) (s.begins (found_at found 0) (found_there found 0 s.some))

-- where no way leads back there is no cycle
no_chain : (net : Plan) → IsAccepted net → (rows : List (Vec ℕ)) → AreDependencies net rows → (start : ℕ) → start < 1024 → (w : IsAway rows start) → (cs : List Port) (a : Port) (i : ℕ) → port_number a ≡ Some i →
    ((j : ℕ) → HasEdge rows i j → w.beyond j ≡ true) → Chain net a cs (port_at start) → ⊥
no_chain net acc rows d start small w [] a i is on h = let e = on start (d.all a (port_at start) i start h is (number_at start small)) in let f = w.back in absurd cc
no_chain net acc rows d start small w (c ∷ cs) a i is on h =
    let n = number_after net acc a c h.0 in
    let there = on n.0 (d.all a c i n.0 h.0 is n.1) in
    no_chain net acc rows d start small w cs c n.0 n.1 (λ j edge. w.on n.0 j there edge) h.1

pub no_cycle_from : (net : Plan) → IsAccepted net → (rows : List (Vec ℕ)) → AreDependencies net rows → (start : ℕ) → start < 1024 → IsAway rows start → (others : List Port) → IsCycle net (port_at start ∷ others) → ⊥
no_cycle_from net acc rows d start small w others h = no_chain net acc rows d start small w others (port_at start) start (number_at start small) w.first h
