-- Where the packets are that are counted everywhere.
use Rattle.std.proofs.Common.{◌≡◌, ℕ, zero, suc, ◌<◌, List, [], ◌∷◌, ◌++◌, length, sym, ap, subst, inl, inr, arith}
use Rattle.std.specs.List.{Contains}
use Rattle.std.proofs.lemmas.Bool.{cases_lt}
use Rattle.std.proofs.lemmas.List.Elements.{Contains-append_left, Contains-append_right, Contains-append_cases}
use Rattle.vc_network.specs.Actors.{Network}
use Rattle.vc_packets.specs.declared.packet.Packet.{Packet}
use Rattle.vc_tokens.specs.Tokens.{Token}
use Rattle.vc_machine.specs.Places.{Place, Queue, OnWire, Inside, Held, at_place, of_held, Number}
use Rattle.vc_network.specs.Network.{Actor}
use Rattle.vc_network.specs.Plan.{Plan, ways, near, far, home}
use Rattle.vc_network.specs.Views.{vcps, switches, sink_node, queue_at, arrived, on_wire, inside, in_ways, in_halves, everywhere}
use Rattle.vc_process.proofs.Lists.{none, at_front, behind, front_or}
use Rattle.vc_core.specs.Private.PacketPlace.{IsAt, packets_at}
use Rattle.vc_core.specs.Private.Targets.{Has}

-- the packets on a way, in the switch at its far end, and held on a channel
abbrev pub on_it : {P : Type 0} → Plan → Network (Actor P) Token → ℕ → List Packet
on_it plan s w = on_wire plan (far plan w) (arrived (vcps s) (switches plan s) (far plan w)) (s.way w)

abbrev pub in_it : {P : Type 0} → Plan → Network (Actor P) Token → ℕ → List Packet
in_it plan s w = inside (arrived (vcps s) (switches plan s) (far plan w))

abbrev pub before_it : {P : Type 0} → Plan → Network (Actor P) Token → ℕ → List Packet
before_it plan s w = queue_at (λ n. (vcps s n).carrier) (near plan w)

abbrev pub held_on : {P : Type 0} → Plan → Network (Actor P) Token → ℕ → List Packet
held_on plan s c = of_held ((vcps s (sink_node plan (home plan c))).carrier.into c).held

pub data IsThere {P : Type 0} (plan : Plan) (s : Network (Actor P) Token) (place : Place) (p : Packet) : Type 0 where
  waits : (w : ℕ) → w < ways plan → place ≡ Queue w → Contains (before_it plan s w) p → IsThere plan s place p
  goes : (w : ℕ) → w < ways plan → place ≡ OnWire w → Contains (on_it plan s w) p → IsThere plan s place p
  stays : (w : ℕ) → w < ways plan → place ≡ Inside w → Contains (in_it plan s w) p → IsThere plan s place p
  rests : (c : ℕ) → c < length plan.channels → place ≡ Held c → Contains (held_on plan s c) p → IsThere plan s place p

at_one : (x : Place) (ps : List Packet) (place : Place) (p : Packet) → Contains (at_place x ps) (place, p) → (place ≡ x) × Contains ps p
at_one x [] place p h = absurd (none (place, p) h)
at_one x (q ∷ ps) place p h = elim (front_or (x, q) (at_place x ps) (place, p) h) [
  | inl e ↦ (let a : x ≡ place = ap (λ (z : Place × Packet). z.0) e in let b : q ≡ p = ap (λ (z : Place × Packet). z.1) e in (sym a, subst (Contains (q ∷ ps)) b (at_front q ps)))
  | inr k ↦ (let r = at_one x ps place p k in (r.0, behind q ps p r.1))
]

one_at : (x : Place) (ps : List Packet) (p : Packet) → Contains ps p → Contains (at_place x ps) (x, p)
one_at x [] p h = absurd (none p h)
one_at x (q ∷ ps) p h = elim (front_or q ps p h) [
  | inl e ↦ subst (λ z. Contains (at_place x (q ∷ ps)) (x, z)) e (at_front (x, q) (at_place x ps))
  | inr k ↦ behind (x, q) (at_place x ps) (x, p) (one_at x ps p k)
]

from_ways : {P : Type 0} (plan : Plan) (s : Network (Actor P) Token) (n : ℕ) (place : Place) (p : Packet) → ((w : ℕ) → w < n → w < ways plan) → Contains (in_ways plan s n) (place, p) → IsThere plan s place p
from_ways plan s zero place p less h = absurd (none (place, p) h)
from_ways plan s (suc w) place p less h =
    let real = less w (omega arith) in
    elim (Contains-append_cases ((at_place (Queue w) (before_it plan s w) ++ at_place (OnWire w) (on_it plan s w)) ++ at_place (Inside w) (in_it plan s w)) (in_ways plan s w) (place, p) h) [
      | inr k ↦ from_ways plan s w place p (λ v l. less v (omega arith)) k
      | inl k ↦ elim (Contains-append_cases (at_place (Queue w) (before_it plan s w) ++ at_place (OnWire w) (on_it plan s w)) (at_place (Inside w) (in_it plan s w)) (place, p) k) [
        | inr i ↦ (let r = at_one (Inside w) (in_it plan s w) place p i in stays w real r.0 r.1)
        | inl j ↦ elim (Contains-append_cases (at_place (Queue w) (before_it plan s w)) (at_place (OnWire w) (on_it plan s w)) (place, p) j) [
          | inl q ↦ (let r = at_one (Queue w) (before_it plan s w) place p q in waits w real r.0 r.1)
          | inr q ↦ (let r = at_one (OnWire w) (on_it plan s w) place p q in goes w real r.0 r.1)
        ]
      ]
    ]

from_halves : {P : Type 0} (plan : Plan) (s : Network (Actor P) Token) (n : ℕ) (place : Place) (p : Packet) → ((c : ℕ) → c < n → c < length plan.channels) → Contains (in_halves plan s n) (place, p) → IsThere plan s place p
from_halves plan s zero place p less h = absurd (none (place, p) h)
from_halves plan s (suc c) place p less h = elim (Contains-append_cases (at_place (Held c) (held_on plan s c)) (in_halves plan s c) (place, p) h) [
  | inl k ↦ (let r = at_one (Held c) (held_on plan s c) place p k in rests c (less c (omega arith)) r.0 r.1)
  | inr k ↦ from_halves plan s c place p (λ d l. less d (omega arith)) k
]

pub where_it_is : {P : Type 0} (plan : Plan) (s : Network (Actor P) Token) (place : Place) (p : Packet) → Contains (everywhere plan s) (place, p) → IsThere plan s place p
where_it_is plan s place p h = elim (Contains-append_cases (in_ways plan s (ways plan)) (in_halves plan s (length plan.channels)) (place, p) h) [
  | inl k ↦ from_ways plan s (ways plan) place p (λ w l. l) k
  | inr k ↦ from_halves plan s (length plan.channels) place p (λ c l. l) k
]

-- and the other way round
abbrev of_way : {P : Type 0} → Plan → Network (Actor P) Token → ℕ → List (Place × Packet)
of_way plan s w = (at_place (Queue w) (before_it plan s w) ++ at_place (OnWire w) (on_it plan s w)) ++ at_place (Inside w) (in_it plan s w)

in_all_ways : {P : Type 0} (plan : Plan) (s : Network (Actor P) Token) (n w : ℕ) (x : Place × Packet) → w < n → Contains (of_way plan s w) x → Contains (in_ways plan s n) x
in_all_ways plan s zero w x less h = absurd (omega arith)
in_all_ways plan s (suc n) w x less h = elim (cases_lt w n) [
  | inl sooner ↦ Contains-append_right (of_way plan s n) (in_ways plan s n) x (in_all_ways plan s n w x sooner h)
  | inr later ↦ (let same : w ≡ n = omega arith in Contains-append_left (of_way plan s n) (in_ways plan s n) x (subst (λ v. Contains (of_way plan s v) x) same h))
]

in_all_halves : {P : Type 0} (plan : Plan) (s : Network (Actor P) Token) (n c : ℕ) (x : Place × Packet) → c < n → Contains (at_place (Held c) (held_on plan s c)) x → Contains (in_halves plan s n) x
in_all_halves plan s zero c x less h = absurd (omega arith)
in_all_halves plan s (suc n) c x less h = elim (cases_lt c n) [
  | inl sooner ↦ Contains-append_right (at_place (Held n) (held_on plan s n)) (in_halves plan s n) x (in_all_halves plan s n c x sooner h)
  | inr later ↦ (let same : c ≡ n = omega arith in Contains-append_left (at_place (Held n) (held_on plan s n)) (in_halves plan s n) x (subst (λ d. Contains (at_place (Held d) (held_on plan s d)) x) same h))
]

-- a packet at a place of a way is on the ways
pub on_ways : {P : Type 0} (plan : Plan) (s : Network (Actor P) Token) (w : ℕ) (place : Place) (p : Packet) → w < ways plan → IsAt w place → Contains (packets_at plan s place) p → Contains (in_ways plan s (ways plan)) (place, p)
on_ways plan s w place p less (inl at) h =
    subst (λ z. Contains (in_ways plan s (ways plan)) (z, p)) (sym at)
    (in_all_ways plan s (ways plan) w (Queue w, p) less
    (Contains-append_left (at_place (Queue w) (before_it plan s w) ++ at_place (OnWire w) (on_it plan s w)) (at_place (Inside w) (in_it plan s w)) (Queue w, p)
    (Contains-append_left (at_place (Queue w) (before_it plan s w)) (at_place (OnWire w) (on_it plan s w)) (Queue w, p) (one_at (Queue w) (before_it plan s w) p (subst (λ z. Contains (packets_at plan s z) p) at h)))))
on_ways plan s w place p less (inr (inl at)) h =
    subst (λ z. Contains (in_ways plan s (ways plan)) (z, p)) (sym at)
    (in_all_ways plan s (ways plan) w (OnWire w, p) less
    (Contains-append_left (at_place (Queue w) (before_it plan s w) ++ at_place (OnWire w) (on_it plan s w)) (at_place (Inside w) (in_it plan s w)) (OnWire w, p)
    (Contains-append_right (at_place (Queue w) (before_it plan s w)) (at_place (OnWire w) (on_it plan s w)) (OnWire w, p) (one_at (OnWire w) (on_it plan s w) p (subst (λ z. Contains (packets_at plan s z) p) at h)))))
on_ways plan s w place p less (inr (inr at)) h =
    subst (λ z. Contains (in_ways plan s (ways plan)) (z, p)) (sym at)
    (in_all_ways plan s (ways plan) w (Inside w, p) less
    (Contains-append_right (at_place (Queue w) (before_it plan s w) ++ at_place (OnWire w) (on_it plan s w)) (at_place (Inside w) (in_it plan s w)) (Inside w, p)
    (one_at (Inside w) (in_it plan s w) p (subst (λ z. Contains (packets_at plan s z) p) at h))))

pub goes_there : {P : Type 0} (plan : Plan) (s : Network (Actor P) Token) (w : ℕ) (place : Place) (p : Packet) → w < ways plan → IsAt w place → Contains (packets_at plan s place) p → Contains (everywhere plan s) (place, p)
goes_there plan s w place p less at h = Contains-append_left (in_ways plan s (ways plan)) (in_halves plan s (length plan.channels)) (place, p) (on_ways plan s w place p less at h)

pub rests_there : {P : Type 0} (plan : Plan) (s : Network (Actor P) Token) (c : ℕ) (p : Packet) → c < length plan.channels → Contains (held_on plan s c) p → Contains (everywhere plan s) (Held c, p)
rests_there plan s c p less h =
    Contains-append_right (in_ways plan s (ways plan)) (in_halves plan s (length plan.channels)) (Held c, p)
    (in_all_halves plan s (length plan.channels) c (Held c, p) less (one_at (Held c) (held_on plan s c) p h))

-- one member of the kind is a member, and where none is counted there is none
pub number_has : {X : Type 0} (B : X → Type 0) (xs : List X) (n : ℕ) → Number B xs (suc n) → (x : X) × Contains xs x × B x
number_has B [] n e = absurd (omega (arith, e))
number_has B (x ∷ xs) n (inl (b, rest)) = (x, at_front x xs, b)
number_has B (x ∷ xs) n (inr (other, rest)) = let r = number_has B xs n rest in (r.0, behind x xs r.0 r.1, r.2)

pub number_none : {X : Type 0} (B : X → Type 0) (xs : List X) → Number B xs 0 → (x : X) → Contains xs x → B x → ⊥
number_none B [] h x in_it b = none x in_it
number_none B (y ∷ ys) (inl (c, (m, e, rest))) x in_it b = omega (arith, e)
number_none B (y ∷ ys) (inr (other, rest)) x in_it b = elim (front_or y ys x in_it) [ inl e ↦ other (subst B (sym e) b) | inr k ↦ number_none B ys rest x k b ]

-- one of them is such where one is contained that is
pub has_in : {X : Type 0} (B : X → Type 0) (xs : List X) → Has B xs → (x : X) × Contains xs x × B x
has_in B [] h = absurd h
has_in B (x ∷ xs) (inl b) = (x, at_front x xs, b)
has_in B (x ∷ xs) (inr h) = let r = has_in B xs h in (r.0, behind x xs r.0 r.1, r.2)

pub in_has : {X : Type 0} (B : X → Type 0) (xs : List X) (x : X) → Contains xs x → B x → Has B xs
in_has B [] x h b = absurd (none x h)
in_has B (y ∷ ys) x h b = elim (front_or y ys x h) [ inl e ↦ inl (subst B (sym e) b) | inr k ↦ inr (in_has B ys x k b) ]
