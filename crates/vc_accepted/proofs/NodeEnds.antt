-- The ends that a node is given are its ends in the network.
use Rattle.std.proofs.Common.{length, ◌≡◌, ℕ, zero, suc, ◌+◌, ◌<◌, Bool, true, false, not, ◌&&◌, ◌==◌, List, [], ◌∷◌, slice_get, Option, Some, None, refl, sym, ap, subst, ◌∙◌, arith, if◌then◌else◌, eq-eqb, eqb-true, nat_le}
use Rattle.std.proofs.lemmas.Bool.Decides.{nat_tests}
use Rattle.std.proofs.lemmas.Option.{same_Some}
use Rattle.std.proofs.Math.Bool.{not-not}
use Rattle.std.proofs.lemmas.Bool.{and_parts}
use Rattle.std.specs.List.{AllByRecursion, list_all}
use Rattle.vc_plan.specs.declared.plan.Plan.{Plan}
use Rattle.vc_plan.specs.declared.vlink.End.{End}
use Rattle.vc_plan.specs.declared.vlink.Vlink.{Vlink}
use Rattle.vc_plan.specs.Accepted.{IsAccepted, end_of}
use Rattle.vc_plan.specs.Limits.{wire_ok, ends_ok, switch_links_ok}
use Rattle.vc_plan.proofs.Limits.{passes}
use Rattle.vc_vcp.specs.declared.end.End.{End as Given}
use Rattle.vc_vcp.specs.Carrier.{End as NodeEnd}
use Rattle.vc_vcp.specs.Opening.{end_at, is_chan, end_with, ends_given, AreDistinct}
use Rattle.vc_network.specs.Plan.{virtual_link, end_here, output_end, input_end, ends}
use Rattle.vc_network.specs.Plan as network
use Rattle.vc_accepted.specs.NetworkOf.{network_of, link_of, home_of, home_in}
use Rattle.vc_accepted.specs.NetworkOf as to
use Rattle.vc_accepted.specs.NodeEnds.{chan_on, end_given, with_end, ends_among, ends_of_node}
use Rattle.vc_accepted.proofs.Elements.{made_at, there}
use Rattle.vc_accepted.proofs.Limits.{kept}
use Rattle.vc_accepted.proofs.AcceptedNetwork.{end_is, on_way, on_link}
use Rattle.vc_accepted.proofs.ChannelOfWay.{chan_has, has_chan}
use Rattle.vc_accepted.proofs.EndPlaces.{each_of, Tells, once}

chan_is : (c : ℕ) (o : Option ℕ) → is_chan c o ≡ true → o ≡ Some c
chan_is c None e = absurd (cc)
chan_is c (Some d) e = let same : d ≡ c = grind (arith, nat_tests) in ap Some same

is_same : (c : ℕ) → is_chan c (Some c) ≡ true
is_same c = grind (arith, nat_tests)

-- an end with the channel, if there is one: all that have it being alike
none_with : (chan : Given → Option ℕ) (es : List Given) (c : ℕ) → ((j : ℕ) (g : Given) → slice_get es j ≡ Some g → chan g ≡ Some c → ⊥) → end_with chan es c ≡ None
none_with chan [] c none = refl
none_with chan (e ∷ es) c none = by_test (is_chan c (chan e)) refl (none_with chan es c (λ j g h k. none (suc j) g h k))
  where
    by_test : (b : Bool) → is_chan c (chan e) ≡ b → end_with chan es c ≡ None → (if b then Some (end_at e) else end_with chan es c) ≡ None
    by_test true t rest = absurd (none 0 e refl (chan_is c (chan e) t))
    by_test false t rest = rest

some_with : (chan : Given → Option ℕ) (es : List Given) (c : ℕ) (it : NodeEnd) → ((i : ℕ) (d : Given) → slice_get es i ≡ Some d → chan d ≡ Some c → end_at d ≡ it) →
    (j : ℕ) (g : Given) → slice_get es j ≡ Some g → chan g ≡ Some c → end_with chan es c ≡ Some it
some_with chan [] c it alike j g h k = absurd (cc)
some_with chan (e ∷ es) c it alike j g h k = by_test (is_chan c (chan e)) refl j h (λ i f. some_with chan es c it (λ i d p q. alike (suc i) d p q) i g f k)
  where
    by_test : (b : Bool) → is_chan c (chan e) ≡ b → (j : ℕ) → slice_get (e ∷ es) j ≡ Some g → ((i : ℕ) → slice_get es i ≡ Some g → end_with chan es c ≡ Some it) →
        (if b then Some (end_at e) else end_with chan es c) ≡ Some it
    by_test true t j h rest = ap Some (alike 0 e refl (chan_is c (chan e) t))
    by_test false t zero h rest =
        let s : is_chan c (chan e) ≡ true = ap (λ z. is_chan c (chan z)) (same_Some e g h) ∙ ap (is_chan c) k ∙ is_same c in
        absurd (let x : true ≡ false = sym s ∙ t in cc)
    by_test false t (suc j) h rest = rest j h

-- an end of the node stands among those that it is given
in_rest : (on : ℕ → Bool → Option ℕ) (n v : ℕ) (x : Vlink) (a : Bool) (rest : List Given) (g : Given) → (j : ℕ) × (slice_get rest j ≡ Some g) → (j : ℕ) × (slice_get (with_end on n v x a rest) j ≡ Some g)
in_rest on n v x a rest g r = by_test ((end_of x a).node == n) r
  where
    by_test : (b : Bool) → (j : ℕ) × (slice_get rest j ≡ Some g) → (j : ℕ) × (slice_get (if b then end_given on v x a ∷ rest else rest) j ≡ Some g)
    by_test true (j, e) = (suc j, e)
    by_test false r = r

in_front : (on : ℕ → Bool → Option ℕ) (n v : ℕ) (x : Vlink) (a : Bool) (rest : List Given) → (end_of x a).node ≡ n →
    (j : ℕ) × (slice_get (with_end on n v x a rest) j ≡ Some (end_given on v x a))
in_front on n v x a rest h = (0, ap (λ b. slice_get (if b then end_given on v x a ∷ rest else rest) 0) (eq-eqb (end_of x a).node n h))

placed : (on : ℕ → Bool → Option ℕ) (n k : ℕ) (vs : List Vlink) (i : ℕ) (x : Vlink) (a : Bool) → slice_get vs i ≡ Some x → (end_of x a).node ≡ n →
    (j : ℕ) × (slice_get (ends_among on n k vs) j ≡ Some (end_given on (k + i) x a))
placed on n k [] i x a e h = absurd (cc)
placed on n k (y ∷ ys) zero x a e h =
    let is = same_Some y x e in
    let none : k ≡ k + 0 = omega arith in
    subst (λ z. (j : ℕ) × (slice_get (ends_among on n k (y ∷ ys)) j ≡ Some (end_given on z x a))) none
    (subst (λ z. (j : ℕ) × (slice_get (ends_among on n k (y ∷ ys)) j ≡ Some (end_given on k z a))) is (by_side a (ap (λ (z : Vlink). (end_of z a).node) is ∙ h)))
  where
    by_side : (a : Bool) → (end_of y a).node ≡ n → (j : ℕ) × (slice_get (ends_among on n k (y ∷ ys)) j ≡ Some (end_given on k y a))
    by_side true h = in_front on n k y true (with_end on n k y false (ends_among on n (suc k) ys)) h
    by_side false h =
        in_rest on n k y true (with_end on n k y false (ends_among on n (suc k) ys)) (end_given on k y false) (in_front on n k y false (ends_among on n (suc k) ys) h)
placed on n k (y ∷ ys) (suc i) x a e h =
    let more : suc k + i ≡ k + suc i = omega arith in
    let g = end_given on (k + suc i) x a in
    in_rest on n k y true (with_end on n k y false (ends_among on n (suc k) ys)) g
    (in_rest on n k y false (ends_among on n (suc k) ys) g
    (subst (λ z. (j : ℕ) × (slice_get (ends_among on n (suc k) ys) j ≡ Some (end_given on z x a))) more (placed on n (suc k) ys i x a e h)))

-- the node's end with channel c is this end of a virtual link, and the channel's home is this way of it
record Told (p : Plan) (n c : ℕ) (way : Bool → Bool) (d : Given) : Type 0 where
  number : ℕ
  vlink : Vlink
  is_a : Bool
  there : slice_get p.vlinks number ≡ Some vlink
  here : (end_of vlink is_a).node ≡ n
  is : d ≡ end_given (chan_on p) number vlink is_a
  home_is : network.home (network_of p) c ≡ network.Way number (way is_a)

-- the channel by which ends are told apart is that on the way that leaves or comes
abbrev IsBy : (Given → Option ℕ) → (Bool → Bool) → Type 0
IsBy chan way = (on : ℕ → Bool → Option ℕ) (v : ℕ) (x : Vlink) (a : Bool) → chan (end_given on v x a) ≡ on v (way a)

home_there : (p : Plan) (c v : ℕ) (f : Bool) → chan_on p v f ≡ Some c → network.home (network_of p) c ≡ network.Way v f
home_there p c v f e =
    let h = chan_has p c v f e in
    made_at home_in p.channels c (network.Inside (length p.nodes)) h.0 h.1 ∙ ap home_of h.2

told : (p : Plan) (n c : ℕ) (chan : Given → Option ℕ) (way : Bool → Bool) → IsBy chan way → (j : ℕ) (d : Given) → slice_get (ends_of_node p n) j ≡ Some d → chan d ≡ Some c → Told p n c way d
told p n c chan way by_way j d e h =
    let o = each_of (chan_on p) n 0 p.vlinks j d e in
    let same : 0 + o.at ≡ o.at = omega arith in
    let is = o.is ∙ ap (λ z. end_given (chan_on p) z o.vlink o.is_a) same in
    record {
      number = o.at;
      vlink = o.vlink;
      is_a = o.is_a;
      there = o.there;
      here = o.here;
      is = is;
      home_is = home_there p c o.at (way o.is_a) (sym (by_way (chan_on p) o.at o.vlink o.is_a) ∙ ap chan (sym is) ∙ h);
    }

same_way : (u v : ℕ) (f g : Bool) → network.Way u f ≡ network.Way v g → (u ≡ v) × (f ≡ g)
same_way u v f g e = (cc, cc)

not_inside : (v n : ℕ) (f : Bool) → network.Way v f ≡ network.Inside n → ⊥
not_inside v n f e = absurd (cc)

abbrev node_end : End → NodeEnd
node_end e = record { link = e.link; block = e.block; route = e.route }

-- the end of node n that has channel c, which is on the way of virtual link v at the end's side
by_way : (p : Plan) → IsAccepted p → (n c v : ℕ) (chan : Given → Option ℕ) (way : Bool → Bool) → IsBy chan way → ((a b : Bool) → way a ≡ way b → a ≡ b) → (s : Bool) →
    network.home (network_of p) c ≡ network.Way v (way s) → end_with chan (ends_of_node p n) c ≡ end_here n (network.end_of (virtual_link (network_of p) v) s)
by_way p acc n c v chan way is_by one s h = settle (there link_of p.vlinks v (on_link p acc c v (way s) h))
  where
    settle : (x : Vlink) × (slice_get p.vlinks v ≡ Some x) → end_with chan (ends_of_node p n) c ≡ end_here n (network.end_of (virtual_link (network_of p) v) s)
    settle (x, e) = by_test ((end_of x s).node == n) refl ∙ ap (end_here n) (sym (end_is p v x s e))
      where
        -- an end with the channel is this one
        alike : (d : Given) → Told p n c way d → ((end_of x s).node ≡ n) × (end_at d ≡ node_end (end_of x s))
        alike d t =
            let w = same_way t.number v (way t.is_a) (way s) (sym t.home_is ∙ h) in
            let side = one t.is_a s w.1 in
            let is : t.vlink ≡ x = same_Some t.vlink x (sym t.there ∙ ap (slice_get p.vlinks) w.0 ∙ e) in
            let same : end_of t.vlink t.is_a ≡ end_of x s = ap (λ z. end_of z t.is_a) is ∙ ap (end_of x) side in
            (sym (ap (λ (z : End). z.node) same) ∙ t.here, ap end_at t.is ∙ ap node_end same)

        by_test : (b : Bool) → ((end_of x s).node == n) ≡ b → end_with chan (ends_of_node p n) c ≡ end_here n (to.end_of (end_of x s))
        by_test true t =
            let here = eqb-true (end_of x s).node n t in
            let at = placed (chan_on p) n 0 p.vlinks v x s e here in
            let on = on_way p c v (way s) h in
            let same : 0 + v ≡ v = omega arith in
            some_with chan (ends_of_node p n) c (node_end (end_of x s)) (λ i d f g. (alike d (told p n c chan way is_by i d f g)).1) at.0 (end_given (chan_on p) (0 + v) x s) at.1
            (is_by (chan_on p) (0 + v) x s ∙ ap (λ z. chan_on p z (way s)) same ∙ has_chan p acc c v (way s) on.channel on.there on.is)
            ∙ sym (ap (λ b. if b then Some (node_end (end_of x s)) else None) t)
        by_test false t =
            none_with chan (ends_of_node p n) c
            (λ j d f g. let here = eq-eqb (end_of x s).node n (alike d (told p n c chan way is_by j d f g)).0 in absurd (let z : true ≡ false = sym here ∙ t in cc))
            ∙ sym (ap (λ b. if b then Some (node_end (end_of x s)) else None) t)

inside : (p : Plan) (n c m : ℕ) (chan : Given → Option ℕ) (way : Bool → Bool) → IsBy chan way → network.home (network_of p) c ≡ network.Inside m → end_with chan (ends_of_node p n) c ≡ None
inside p n c m chan way is_by h = none_with chan (ends_of_node p n) c (λ j d f g. let t = told p n c chan way is_by j d f g in not_inside t.number m (way t.is_a) (sym t.home_is ∙ h))

output_is : (p : Plan) → IsAccepted p → (n c : ℕ) → end_with (λ e. e.output) (ends_of_node p n) c ≡ (ends (network_of p) n).output c
output_is p acc n c = by_home (network.home (network_of p) c) refl
  where
    by_home : (h : network.Home) → network.home (network_of p) c ≡ h → end_with (λ e. e.output) (ends_of_node p n) c ≡ output_end (network_of p) n (network.home (network_of p) c)
    by_home (network.Way v f) h = by_way p acc n c v (λ e. e.output) (λ a. a) (λ on v x a. refl) (λ a b z. z) f h ∙ ap (output_end (network_of p) n) (sym h)
    by_home (network.Inside m) h = inside p n c m (λ e. e.output) (λ a. a) (λ on v x a. refl) h ∙ ap (output_end (network_of p) n) (sym h)

input_is : (p : Plan) → IsAccepted p → (n c : ℕ) → end_with (λ e. e.input) (ends_of_node p n) c ≡ (ends (network_of p) n).input c
input_is p acc n c = by_home (network.home (network_of p) c) refl
  where
    by_home : (h : network.Home) → network.home (network_of p) c ≡ h → end_with (λ e. e.input) (ends_of_node p n) c ≡ input_end (network_of p) n (network.home (network_of p) c)
    by_home (network.Way v f) h =
        by_way p acc n c v (λ e. e.input) not (λ on v x a. refl) (λ a b z. sym (not-not a) ∙ ap not z ∙ not-not b) (not f) (h ∙ ap (network.Way v) (sym (not-not f)))
        ∙ ap (input_end (network_of p) n) (sym h)
    by_home (network.Inside m) h = inside p n c m (λ e. e.input) not (λ on v x a. refl) h ∙ ap (input_end (network_of p) n) (sym h)

-- the ends that a node is given are its ends in the network
pub given_ends : (p : Plan) → IsAccepted p → (n : ℕ) → ends_given (ends_of_node p n) ≡ ends (network_of p) n
given_ends p acc n = λ i. record { output = λ c. output_is p acc n c i; input = λ c. input_is p acc n c i }

-- no two have one block, output or input
has_both : (p : Plan) (c i j : ℕ) (f g : Bool) → chan_on p (0 + i) f ≡ Some c → chan_on p (0 + j) g ≡ Some c → (i ≡ j) × (f ≡ g)
has_both p c i j f g h k =
    let w = same_way (0 + i) (0 + j) f g (sym (home_there p c (0 + i) f h) ∙ home_there p c (0 + j) g k) in
    ((let s = w.0 in omega arith), w.1)

abbrev BothHave : (Given → Option ℕ) → Given → Given → Type 0
BothHave chan d e = (c : ℕ) × (chan d ≡ Some c) × (chan e ≡ Some c)

turned : (chan : Given → Option ℕ) (d e : Given) → BothHave chan d e → BothHave chan e d
turned chan d e (c, h, k) = (c, k, h)

pub given_distinct : (p : Plan) → IsAccepted p → (n : ℕ) → AreDistinct (ends_of_node p n)
given_distinct p acc n = record {
  blocks = once (λ d e. d.block ≡ e.block) (λ d e h. sym h) (chan_on p) n 0 p.vlinks (λ i j x y a b e f h k r. acc.one_end i j x y a b e f (h ∙ sym k) r);
  outputs = λ i j c d e h k f g.
      once (BothHave (λ z. z.output)) (turned (λ z. z.output)) (chan_on p) n 0 p.vlinks outputs i j d e h k (c, f, g);
  inputs = λ i j c d e h k f g.
      once (BothHave (λ z. z.input)) (turned (λ z. z.input)) (chan_on p) n 0 p.vlinks inputs i j d e h k (c, f, g);
}
  where
    outputs : Tells (BothHave (λ z. z.output)) (chan_on p) n 0 p.vlinks
    outputs i j x y a b e f h k (c, r, s) = has_both p c i j a b r s

    inputs : Tells (BothHave (λ z. z.input)) (chan_on p) n 0 p.vlinks
    inputs i j x y a b e f h k (c, r, s) = let w = has_both p c i j (not a) (not b) r s in (w.0, sym (not-not a) ∙ ap not w.1 ∙ not-not b)

-- each sends by one of its node's four links
abbrev AllSmall : List Given → Type 0
AllSmall es = AllByRecursion (λ (e : Given). e.link < 4) es

small_with : (on : ℕ → Bool → Option ℕ) (n v : ℕ) (x : Vlink) (a : Bool) (rest : List Given) → (end_of x a).link < 4 → AllSmall rest → AllSmall (with_end on n v x a rest)
small_with on n v x a rest h all = by_test ((end_of x a).node == n)
  where
    by_test : (b : Bool) → AllSmall (if b then end_given on v x a ∷ rest else rest)
    by_test true = (h, all)
    by_test false = all

small : (on : ℕ → Bool → Option ℕ) (n k : ℕ) (vs : List Vlink) → ((i : ℕ) (x : Vlink) (a : Bool) → slice_get vs i ≡ Some x → (end_of x a).link < 4) → AllSmall (ends_among on n k vs)
small on n k [] h = tt
small on n k (x ∷ xs) h =
    small_with on n k x true (with_end on n k x false (ends_among on n (suc k) xs)) (h 0 x true refl)
    (small_with on n k x false (ends_among on n (suc k) xs) (h 0 x false refl) (small on n (suc k) xs (λ i y a e. h (suc i) y a e)))

below_four : (l : ℕ) → nat_le l 3 ≡ true → l < 4
below_four l h = grind (arith, nat_tests)

end_small : (p : Plan) → IsAccepted p → (i : ℕ) (x : Vlink) (a : Bool) → slice_get p.vlinks i ≡ Some x → (end_of x a).link < 4
end_small p acc i x a e = by_side a
  where
    ok : (nat_le x.a.link 3 ≡ true) × (nat_le x.b.link 3 ≡ true)
    ok =
        let rest = (and_parts (list_all wire_ok p.wires) (list_all ends_ok p.vlinks && list_all switch_links_ok p.switches) (kept p acc).links).1 in
        and_parts (nat_le x.a.link 3) (nat_le x.b.link 3) (passes ends_ok p.vlinks i x (and_parts (list_all ends_ok p.vlinks) (list_all switch_links_ok p.switches) rest).0 e)

    by_side : (a : Bool) → (end_of x a).link < 4
    by_side true = below_four x.a.link ok.0
    by_side false = below_four x.b.link ok.1

pub given_small : (p : Plan) → IsAccepted p → (n : ℕ) → AllByRecursion (λ (e : Given). e.link < 4) (ends_of_node p n)
given_small p acc n = small (chan_on p) n 0 p.vlinks (end_small p acc)
