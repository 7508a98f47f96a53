-- What an actor did over its links, in the words of the network's ways.
use Rattle.std.proofs.Common.{◌≡◌, ℕ, ◌≤◌, Bool, true, false, not, if◌then◌else◌, ◌==◌, nat_lt, ◌-◌, List, [], ◌∷◌, ◌++◌, length, map, option_map, Option, Some, None, refl, sym, ap, ap₂, subst, ◌∙◌, inl, inr, arith, eq-eqb}
use Rattle.std.specs.List.{AllByRecursion}
use Rattle.std.proofs.lemmas.Bool.{cases_eq, ne_eqb}
use Rattle.std.proofs.lemmas.List.{map-append}
use Rattle.vc_accepted.specs.NetworkOf.{network_of}
use Rattle.vc_accepted.specs.ActorWays.{link_port, outgoing, incoming}
use Rattle.vc_accepted.proofs.Across.{Joins, joined_way, way_of}
use Rattle.vc_accepted.proofs.WayPorts.{link_is_at, wired, outgoing_is, incoming_is}
use Rattle.vc_network.specs.Actors.{Label, taken_off, put_on}
use Rattle.vc_network.specs.Actors.Label.{Own, Takes, Puts}
use Rattle.vc_network.specs.LocalRun.{Stamped, Turn, LocalRun, CarriesStamp, next_stamp, plain, all_put, all_taken, restamped}
use Rattle.vc_actor.specs.ActorView.{Acting, actor_of, act_of}
use Rattle.vc_actor.specs.Turns.{IsPut}
use Rattle.vc_actor.specs.declared.act.Act.{Act}
use Rattle.vc_actor.specs.declared.act.Act.TheVariants.{Take, Put, Fct}
use Rattle.vc_machine.specs.Paths.{Port, AtNode, AtSwitch}
use Rattle.vc_network.specs.Network.{Local}
use Rattle.vc_network.specs.Network as net
use Rattle.vc_network.specs.Plan.{ways, near, far, back, IsOutOf, IsInto}
use Rattle.vc_plan.specs.Accepted.{IsAccepted, port_of}
use Rattle.vc_plan.specs.declared.plan.Plan.{Plan}
use Rattle.vc_switch.specs.Waiting.{Wormhole}
use Rattle.vc_accepted.specs.Process.{does}
use Rattle.vc_tokens.specs.CodeTokens.{token}
use Rattle.vc_tokens.specs.Tokens as tokens
use Rattle.vc_tokens.specs.declared.token.Token.{Token}
use Rattle.vc_threads.specs.Rings.{IsOnWire}
use Rattle.vc_threads.specs.Runs.{StepsByLink}
use Rattle.vc_threads.specs.Threads.{IsOverWires}

abbrev number : Option ℕ → ℕ
number None = 0
number (Some w) = w

some_number : (o : Option ℕ) (w : ℕ) → o ≡ Some w → o ≡ Some (number o)
some_number o w e = e ∙ ap Some (sym (ap number e))

abbrev link_in : Port → ℕ
link_in (AtNode n l) = l
link_in (AtSwitch n l) = l

link_of : (b : Bool) (k n l : ℕ) → link_in (if b then AtNode k l else AtSwitch n l) ≡ l
link_of true k n l = refl
link_of false k n l = refl

-- a port has one link
one_link : (p : Plan) (k l m : ℕ) → link_port p k l ≡ link_port p k m → l ≡ m
one_link p k l m e =
    let b = nat_lt k (length p.nodes) in
    let n = k - length p.nodes in
    sym (link_of b k n l) ∙ (ap link_in e ∙ link_of b k n m)

-- a token with its stamp, in the words of the definitions
abbrev pub item_by : Stamped Token → Stamped tokens.Token
item_by s = restamped token s

picked : (a b : Bool) (s : Stamped Token) → a ≡ b → (if a then item_by s ∷ [] else []) ≡ map item_by (if b then s ∷ [] else [])
picked a true s e = ap (λ c. if c then item_by s ∷ [] else []) e
picked a false s e = ap (λ c. if c then item_by s ∷ [] else []) e

module _ (p : Plan) where
  -- the ways at an actor's link
  abbrev pub out_at : ℕ → ℕ → ℕ
  out_at k link = number (outgoing p k link)

  abbrev pub in_at : ℕ → ℕ → ℕ
  in_at k link = number (incoming p k link)

  -- a step of actor k, with its way in place of its link
  abbrev pub label_by : ℕ → Label Act (Stamped Token) → Label net.Act (Stamped tokens.Token)
  label_by k (Own act) = Own (act_of act)
  label_by k (Takes act link s) = Takes (act_of act) (in_at k link) (item_by s)
  label_by k (Puts act link s) = Puts (act_of act) (out_at k link) (item_by s)

  abbrev pub turn_by : ℕ → Turn Act Token → Turn net.Act tokens.Token
  turn_by k t = restamped (label_by k) t

  module _ (acc : IsAccepted p) where
    -- a link on a wire has a way that goes out, and one that comes in
    has_way : (n k link : ℕ) → IsOnWire p n k link → (w : ℕ) × (outgoing p k link ≡ Some w)
    has_way n k link (i, w, side, less, is, at) =
        let a = port_of w side in
        let j : Joins p.wires a (port_of w (not side)) = record { at = i; wire = w; from = side; is = is; near = refl; far = refl } in
        let g = joined_way p a (port_of w (not side)) j in
        (way_of i side, (outgoing_is p acc k link (way_of i side)).1 (g.real, g.leaves ∙ link_is_at p k link a (wired p acc i w side is) at))

    goes_out : (n k link : ℕ) → IsOnWire p n k link → IsOutOf (network_of p) (out_at k link) (link_port p k link)
    goes_out n k link on =
        let h = has_way n k link on in
        (outgoing_is p acc k link (out_at k link)).0 (some_number (outgoing p k link) h.0 h.1)

    comes_in : (n k link : ℕ) → IsOnWire p n k link → IsInto (network_of p) (in_at k link) (link_port p k link)
    comes_in n k link on =
        let h = has_way n k link on in
        (incoming_is p acc k link (in_at k link)).0 (some_number (incoming p k link) (back h.0) (ap (option_map back) h.1))

    -- a put or a take goes over the way exactly where it goes over its link
    out_here : (n k link m w : ℕ) → IsOutOf (network_of p) w (link_port p k link) → IsOnWire p n k m → (out_at k m == w) ≡ (m == link)
    out_here n k link m w o on = elim (cases_eq m link) [
      | inl same ↦ eq-eqb (out_at k m) w (ap (out_at k) same ∙ ap number ((outgoing_is p acc k link w).1 o)) ∙ sym (eq-eqb m link same)
      | inr other ↦
          ne_eqb (out_at k m) w (λ e. other (one_link p k m link (sym (goes_out n k m on).1 ∙ (ap (near (network_of p)) e ∙ o.1))))
          ∙ sym (ne_eqb m link other)
    ]

    in_here : (n k link m w : ℕ) → IsInto (network_of p) w (link_port p k link) → IsOnWire p n k m → (in_at k m == w) ≡ (m == link)
    in_here n k link m w o on = elim (cases_eq m link) [
      | inl same ↦ eq-eqb (in_at k m) w (ap (in_at k) same ∙ ap number ((incoming_is p acc k link w).1 o)) ∙ sym (eq-eqb m link same)
      | inr other ↦
          ne_eqb (in_at k m) w (λ e. other (one_link p k m link (sym (comes_in n k m on).1 ∙ (ap (far (network_of p)) e ∙ o.1))))
          ∙ sym (ne_eqb m link other)
    ]

    -- no way past the plan's is used
    out_real : (n k m w : ℕ) → ways (network_of p) ≤ w → IsOnWire p n k m → (out_at k m == w) ≡ false
    out_real n k m w past on = let less = (goes_out n k m on).0 in ne_eqb (out_at k m) w (λ e. omega (arith, e, less, past))

    in_real : (n k m w : ℕ) → ways (network_of p) ≤ w → IsOnWire p n k m → (in_at k m == w) ≡ false
    in_real n k m w past on = let less = (comes_in n k m on).0 in ne_eqb (in_at k m) w (λ e. omega (arith, e, less, past))

    put_by : (k link w : ℕ) → IsOutOf (network_of p) w (link_port p k link) → (l : Label Act (Stamped Token)) → IsOverWires p k l → put_on w (label_by k l) ≡ map item_by (put_on link l)
    put_by k link w o (Own act) on = refl
    put_by k link w o (Takes act m s) on = refl
    put_by k link w o (Puts act m s) on = picked (out_at k m == w) (m == link) s (out_here (length p.wires) k link m w o on)

    taken_by : (k link w : ℕ) → IsInto (network_of p) w (link_port p k link) → (l : Label Act (Stamped Token)) → IsOverWires p k l → taken_off w (label_by k l) ≡ map item_by (taken_off link l)
    taken_by k link w o (Own act) on = refl
    taken_by k link w o (Takes act m s) on = picked (in_at k m == w) (m == link) s (in_here (length p.wires) k link m w o on)
    taken_by k link w o (Puts act m s) on = refl

    no_put : (k w : ℕ) → ways (network_of p) ≤ w → (l : Label Act (Stamped Token)) → IsOverWires p k l → put_on w (label_by k l) ≡ []
    no_put k w past (Own act) on = refl
    no_put k w past (Takes act m s) on = refl
    no_put k w past (Puts act m s) on = ap (λ c. if c then item_by s ∷ [] else []) (out_real (length p.wires) k m w past on)

    none_taken : (k w : ℕ) → ways (network_of p) ≤ w → (l : Label Act (Stamped Token)) → IsOverWires p k l → taken_off w (label_by k l) ≡ []
    none_taken k w past (Own act) on = refl
    none_taken k w past (Takes act m s) on = ap (λ c. if c then item_by s ∷ [] else []) (in_real (length p.wires) k m w past on)
    none_taken k w past (Puts act m s) on = refl

    -- what a run puts on a way is what it puts on its link, and so with what it takes
    pub all_put_by : (k link w : ℕ) → IsOutOf (network_of p) w (link_port p k link) → (ts : List (Turn Act Token)) → AllByRecursion (λ t. IsOverWires p k t.it) ts → all_put w (map (turn_by k) ts) ≡ map item_by (all_put link ts)
    all_put_by k link w o [] on = refl
    all_put_by k link w o (t ∷ ts) on =
        ap₂ (λ a b. a ++ b) (put_by k link w o t.it on.0) (all_put_by k link w o ts on.1) ∙ sym (map-append item_by (put_on link t.it) (all_put link ts))

    pub all_taken_by : (k link w : ℕ) → IsInto (network_of p) w (link_port p k link) → (ts : List (Turn Act Token)) → AllByRecursion (λ t. IsOverWires p k t.it) ts → all_taken w (map (turn_by k) ts) ≡ map item_by (all_taken link ts)
    all_taken_by k link w o [] on = refl
    all_taken_by k link w o (t ∷ ts) on =
        ap₂ (λ a b. a ++ b) (taken_by k link w o t.it on.0) (all_taken_by k link w o ts on.1) ∙ sym (map-append item_by (taken_off link t.it) (all_taken link ts))

    pub none_put_by : (k w : ℕ) → ways (network_of p) ≤ w → (ts : List (Turn Act Token)) → AllByRecursion (λ t. IsOverWires p k t.it) ts → all_put w (map (turn_by k) ts) ≡ []
    none_put_by k w past [] on = refl
    none_put_by k w past (t ∷ ts) on = ap₂ (λ a b. a ++ b) (no_put k w past t.it on.0) (none_put_by k w past ts on.1)

    pub none_taken_by : (k w : ℕ) → ways (network_of p) ≤ w → (ts : List (Turn Act Token)) → AllByRecursion (λ t. IsOverWires p k t.it) ts → all_taken w (map (turn_by k) ts) ≡ []
    none_taken_by k w past [] on = refl
    none_taken_by k w past (t ∷ ts) on = ap₂ (λ a b. a ++ b) (none_taken k w past t.it on.0) (none_taken_by k w past ts on.1)

    -- a step over a link is one of the definitions, over its way
    put_step : (k link : ℕ) (old new : Acting) (act : Act) (t : Token) → IsOnWire p (length p.wires) k link → IsPut (network_of p) k old link act t new
        → Local (network_of p) Wormhole does k (actor_of old) (Puts (act_of act) (out_at k link) (token t)) (actor_of new)
    put_step k link old new (Put l) t on h = h.1.step (out_at k link) (subst (λ m. IsOutOf (network_of p) (out_at k link) (link_port p k m)) h.0 (goes_out (length p.wires) k link on))
    put_step k link old new (Fct l) t on h =
        subst (λ x. Local (network_of p) Wormhole does k (actor_of old) (Puts (net.Fct l) (out_at k link) x) (actor_of new)) (sym h.1)
        (h.2.step (out_at k link) (subst (λ m. IsOutOf (network_of p) (out_at k link) (link_port p k m)) h.0 (goes_out (length p.wires) k link on)))
    put_step k link old new a t on h = absurd h

    step_by : (k : ℕ) (old new : Acting) (l : Label Act (Stamped Token)) → IsOverWires p k l → StepsByLink (network_of p) k old (plain l) new
        → Local (network_of p) Wormhole does k (actor_of old) (plain (label_by k l)) (actor_of new)
    step_by k old new (Own act) on h = h.step
    step_by k old new (Takes (Take by word) link s) on h =
        subst (λ b. Local (network_of p) Wormhole does k (actor_of old) (Takes (net.Take b word) (in_at k link) (token s.it)) (actor_of new)) (sym h.0)
        (h.1.step (in_at k link) (comes_in (length p.wires) k link on))
    step_by k old new (Puts act link s) on h = put_step k link old new act s.it on h
    step_by k old new d on h = absurd h

    stamp_by : (k clock : ℕ) (l : Label Act (Stamped Token)) → next_stamp clock (label_by k l) ≡ next_stamp clock l
    stamp_by k clock (Own act) = refl
    stamp_by k clock d = refl

    carries_by : (k at : ℕ) (l : Label Act (Stamped Token)) → CarriesStamp at l → CarriesStamp at (label_by k l)
    carries_by k at (Own act) c = tt
    carries_by k at (Takes act link s) c = tt
    carries_by k at (Puts act link s) c = c

    pub run_by : (k clock : ℕ) (old : Acting) (ts : List (Turn Act Token)) (new : Acting) → AllByRecursion (λ t. IsOverWires p k t.it) ts → LocalRun (StepsByLink (network_of p)) k clock old ts new
        → LocalRun (Local (network_of p) Wormhole does) k clock (actor_of old) (map (turn_by k) ts) (actor_of new)
    run_by k clock old [] new on h = ap actor_of h
    run_by k clock old (t ∷ ts) new on (mid, step, at, carries, rest) =
        (actor_of mid, step_by k old mid t.it on.0 step, at ∙ sym (stamp_by k clock t.it), carries_by k t.at t.it carries, run_by k t.at mid ts new on.1 rest)
