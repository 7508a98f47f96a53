-- What the limits say of an accepted plan's network.
use Rattle.std.proofs.Common.{◌≡◌, ℕ, ◌<◌, ◌≤◌, Bool, true, false, ◌&&◌, ◌||◌, ◌==◌, List, [], ◌∷◌, length, slice_get, Some, refl, subst, arith, if◌then◌else◌}
use Rattle.std.proofs.lemmas.Bool.Decides.{nat_tests}
use Rattle.std.proofs.lemmas.Bool.{and_parts}
use Rattle.std.specs.List.{list_all}
use Rattle.vc_plan.specs.declared.plan.Plan.{Plan}
use Rattle.vc_plan.specs.declared.channel.Channel.{Channel}
use Rattle.vc_plan.specs.declared.switch_plan.SwitchPlan.{SwitchPlan}
use Rattle.vc_plan.specs.declared.switch_plan.RandomInput.{RandomInput}
use Rattle.vc_plan.specs.declared.vlink.End.{End}
use Rattle.vc_plan.specs.declared.vlink.Vlink.{Vlink}
use Rattle.vc_plan.specs.Accepted.{IsAccepted, end_of}
use Rattle.vc_plan.specs.Limits.{switch_in_version_one, is_empty, route_ok, routes_ok, random_ok, range_ok, links_differ, home_there, wire_there, ends_there, process_names}
use Rattle.vc_plan.specs.Hops.{random_at}
use Rattle.vc_plan.proofs.KeptLimits.{limits_of}
use Rattle.vc_plan.proofs.Limits.{keeps, passes, Keeps}
use Rattle.vc_accepted.specs.NetworkOf.{headers_of}

pub kept : (p : Plan) → IsAccepted p → Keeps p
kept p acc = keeps p (limits_of p acc)

either : (a b : Bool) → (a || b) ≡ true → a ≡ false → b ≡ true
either true b h e = absurd (cc)
either false b h e = h

-- each route fits
routed : (e : End) → route_ok e ≡ true → length e.route ≤ 4
routed e h = grind (arith, nat_tests)

pub route_fits : (p : Plan) → IsAccepted p → (k : ℕ) (v : Vlink) (a : Bool) → slice_get p.vlinks k ≡ Some v → length (end_of v a).route ≤ headers_of p
route_fits p acc k v a e = by_version (p.version == 1) (side a (and_parts (route_ok v.a) (route_ok v.b) (passes routes_ok p.vlinks k v (kept p acc).routes e)))
  where
    side : (a : Bool) → (route_ok v.a ≡ true) × (route_ok v.b ≡ true) → length (end_of v a).route ≤ 4
    side true h = routed v.a h.0
    side false h = routed v.b h.1

    by_version : (b : Bool) → length (end_of v a).route ≤ 4 → length (end_of v a).route ≤ (if b then 4 else 6)
    by_version true h = h
    by_version false h = omega arith

-- nothing is random in version 1
none_random : (s : SwitchPlan) (rs : List RandomInput) (link : ℕ) (r : RandomInput) → is_empty rs ≡ true → random_at rs link ≡ Some r → ⊥
none_random s [] link r h e = absurd (cc)
none_random s (x ∷ xs) link r h e = absurd (cc)

pub six_headers : (p : Plan) → IsAccepted p → (k link : ℕ) (s : SwitchPlan) (r : RandomInput) → slice_get p.switches k ≡ Some s → random_at s.random link ≡ Some r → 6 ≤ headers_of p
six_headers p acc k link s r e f = by_version (p.version == 1) (p.version == 2) refl refl
  where
    by_version : (b c : Bool) → (p.version == 1) ≡ b → (p.version == 2) ≡ c → 6 ≤ (if b then 4 else 6)
    by_version false c h g = omega arith
    by_version true true h g = absurd (grind (arith, nat_tests))
    by_version true false h g =
        let one = either (p.version == 2) (p.version == 1 && list_all switch_in_version_one p.switches) (kept p acc).version g in
        let all = (and_parts (p.version == 1) (list_all switch_in_version_one p.switches) one).1 in
        let t = (and_parts (is_empty s.random) _ (passes switch_in_version_one p.switches k s all e)).0 in
        absurd (none_random s s.random link r t f)

-- a random range has a value
found : (rs : List RandomInput) (link : ℕ) (r : RandomInput) → list_all range_ok rs ≡ true → random_at rs link ≡ Some r → range_ok r ≡ true
found [] link r h e = absurd (cc)
found (x ∷ xs) link r h e = by_test (x.link == link) e (and_parts (range_ok x) (list_all range_ok xs) h) (found xs link r)
  where
    by_test : (b : Bool) → (if b then Some x else random_at xs link) ≡ Some r → (range_ok x ≡ true) × (list_all range_ok xs ≡ true) →
        (list_all range_ok xs ≡ true → random_at xs link ≡ Some r → range_ok r ≡ true) → range_ok r ≡ true
    by_test true e h rest = let is : x ≡ r = cc in subst (λ z. range_ok z ≡ true) is h.0
    by_test false e h rest = rest h.1 e

range_has : (r : RandomInput) → range_ok r ≡ true → r.lower < r.limit
range_has r h = grind (arith, nat_tests)

pub range_fits : (p : Plan) → IsAccepted p → (k link : ℕ) (s : SwitchPlan) (r : RandomInput) → slice_get p.switches k ≡ Some s → random_at s.random link ≡ Some r → r.lower < r.limit
range_fits p acc k link s r e f =
    let t = (and_parts (list_all range_ok s.random) (links_differ s.random) (passes random_ok p.switches k s (kept p acc).random e)).0 in
    range_has r (found s.random link r t f)

-- a channel's home is there
pub home_fits : (p : Plan) → IsAccepted p → (k : ℕ) (c : Channel) → slice_get p.channels k ≡ Some c → home_there p c.home ≡ true
home_fits p acc k c e =
    let a = (and_parts (list_all (wire_there p) p.wires) (list_all (ends_there p) p.vlinks && (list_all (λ (x : Channel). home_there p x.home) p.channels && list_all (process_names p) p.nodes)) (kept p acc).number).1 in
    let b = (and_parts (list_all (ends_there p) p.vlinks) (list_all (λ (x : Channel). home_there p x.home) p.channels && list_all (process_names p) p.nodes) a).1 in
    passes (λ (x : Channel). home_there p x.home) p.channels k c (and_parts (list_all (λ (x : Channel). home_there p x.home) p.channels) (list_all (process_names p) p.nodes) b).0 e
