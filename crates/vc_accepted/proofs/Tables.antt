-- A table of an accepted plan's channels, or of its wires, is filled by writing one after the other: none is written over.
use Rattle.std.proofs.Common.{◌≡◌, ℕ, zero, suc, ◌+◌, ◌*◌, ◌<◌, Bool, true, false, List, [], ◌∷◌, length, take, slice_get, Option, Some, None, refl, sym, ap, ◌∙◌, arith, if◌then◌else◌}
use Rattle.std.proofs.lemmas.Option.{same_Some}
use Rattle.vc_plan.specs.declared.plan.Plan.{Plan}
use Rattle.vc_plan.specs.declared.port.Wire.{Wire}
use Rattle.vc_plan.specs.declared.channel.Channel.{Channel}
use Rattle.vc_plan.specs.Accepted.{IsAccepted, port_of}
use Rattle.vc_accepted.specs.NodeEnds.{is_on, first_on}
use Rattle.vc_accepted.specs.ActorWays.{is_link, way_out}
use Rattle.vc_accepted.proofs.ChannelOfWay.{on_is}
use Rattle.vc_accepted.proofs.Ports.{one_port_of}
use Rattle.vc_accepted.proofs.WayPorts.{link_is_at, wired}

-- a channel more, where none before it is on its way
next_channel : (v : ℕ) (f : Bool) (cs : List Channel) (c k : ℕ) (x : Channel) → slice_get cs k ≡ Some x →
    (is_on v f x.home ≡ true → (j : ℕ) (y : Channel) → j < k → slice_get cs j ≡ Some y → is_on v f y.home ≡ true → ⊥) →
    first_on c (take (suc k) cs) v f ≡ (if is_on v f x.home then Some (c + k) else first_on c (take k cs) v f)
next_channel v f [] c k x e alone = absurd (cc)
next_channel v f (y ∷ ys) c zero x e alone =
    let is = same_Some y x e in
    let none : c ≡ c + 0 = omega arith in
    ap (λ (z : Channel). if is_on v f z.home then Some c else None) is ∙ ap (λ z. if is_on v f x.home then Some z else None) none
next_channel v f (y ∷ ys) c (suc k) x e alone =
    by_test (is_on v f y.home) (is_on v f x.home) refl refl (next_channel v f ys (suc c) k x e (λ t j z l g. alone t (suc j) z (omega arith) g))
  where
    more : suc c + k ≡ c + suc k
    more = omega arith

    by_test : (a b : Bool) → is_on v f y.home ≡ a → is_on v f x.home ≡ b →
        first_on (suc c) (take (suc k) ys) v f ≡ (if is_on v f x.home then Some (suc c + k) else first_on (suc c) (take k ys) v f) →
        (if is_on v f y.home then Some c else first_on (suc c) (take (suc k) ys) v f)
        ≡ (if is_on v f x.home then Some (c + suc k) else (if is_on v f y.home then Some c else first_on (suc c) (take k ys) v f))
    by_test true true s t rest = absurd (alone t 0 y (omega arith) refl s)
    by_test true false s t rest =
        ap (λ z. if z then Some c else first_on (suc c) (take (suc k) ys) v f) s
        ∙ sym ((λ i. if t i then Some (c + suc k) else (if s i then Some c else first_on (suc c) (take k ys) v f)))
    by_test false b s t rest =
        ap (λ z. if z then Some c else first_on (suc c) (take (suc k) ys) v f) s ∙ rest
        ∙ (λ i. if is_on v f x.home then Some (more i) else (if sym s i then Some c else first_on (suc c) (take k ys) v f))

pub channel_next : (p : Plan) → IsAccepted p → (k v : ℕ) (f : Bool) (x : Channel) → slice_get p.channels k ≡ Some x →
    first_on 0 (take (suc k) p.channels) v f ≡ (if is_on v f x.home then Some k else first_on 0 (take k p.channels) v f)
channel_next p acc k v f x e =
    let none : 0 + k ≡ k = omega arith in
    next_channel v f p.channels 0 k x e
    (λ t j y l g s. let same = acc.one_channel j k y x v f g e (on_is v f y.home s) (on_is v f x.home t) in omega arith)
    ∙ ap (λ z. if is_on v f x.home then Some z else first_on 0 (take k p.channels) v f) none

-- a wire more, where no other side of a wire is the link
abbrev NoOther : ℕ → ℕ → ℕ → List Wire → Type 0
NoOther nodes actor link ws = (i j : ℕ) (v w : Wire) (a b : Bool) → slice_get ws i ≡ Some v → slice_get ws j ≡ Some w →
    is_link nodes actor link (port_of v a) ≡ true → is_link nodes actor link (port_of w b) ≡ true → (i ≡ j) × (a ≡ b)

-- what the sides of wire i write over the way found before
abbrev Written : ℕ → ℕ → ℕ → ℕ → Wire → Option ℕ → Option ℕ
Written nodes actor link i w before =
    if is_link nodes actor link w.two then Some (2 * i + 1) else (if is_link nodes actor link w.one then Some (2 * i) else before)

-- and the way found with the wires behind it
abbrev Looked : ℕ → ℕ → ℕ → ℕ → Wire → Option ℕ → Option ℕ
Looked nodes actor link i w behind =
    if is_link nodes actor link w.one then Some (2 * i) else (if is_link nodes actor link w.two then Some (2 * i + 1) else behind)

one_wire : (nodes actor link i : ℕ) (w : Wire) → (is_link nodes actor link w.one ≡ true → is_link nodes actor link w.two ≡ true → ⊥) →
    Looked nodes actor link i w None ≡ Written nodes actor link i w None
one_wire nodes actor link i w apart = by_test (is_link nodes actor link w.one) (is_link nodes actor link w.two) refl refl
  where
    by_test : (a b : Bool) → is_link nodes actor link w.one ≡ a → is_link nodes actor link w.two ≡ b →
        (if a then Some (2 * i) else (if b then Some (2 * i + 1) else None)) ≡ (if b then Some (2 * i + 1) else (if a then Some (2 * i) else None))
    by_test true true s t = absurd (apart s t)
    by_test true false s t = refl
    by_test false b s t = refl

-- with one wire before, none of whose sides is the link where a side of the other is
two_wires : (nodes actor link i k : ℕ) (y w : Wire) (behind before : Option ℕ) → ((a b : Bool) → is_link nodes actor link (port_of y a) ≡ true → is_link nodes actor link (port_of w b) ≡ true → ⊥) →
    behind ≡ Written nodes actor link k w before → Looked nodes actor link i y behind ≡ Written nodes actor link k w (Looked nodes actor link i y before)
two_wires nodes actor link i k y w behind before apart h =
    by_test (is_link nodes actor link y.one) (is_link nodes actor link y.two) (is_link nodes actor link w.one) (is_link nodes actor link w.two) refl refl refl refl h
  where
    by_test : (a b c d : Bool) → is_link nodes actor link y.one ≡ a → is_link nodes actor link y.two ≡ b → is_link nodes actor link w.one ≡ c → is_link nodes actor link w.two ≡ d →
        behind ≡ (if d then Some (2 * k + 1) else (if c then Some (2 * k) else before)) →
        (if a then Some (2 * i) else (if b then Some (2 * i + 1) else behind))
        ≡ (if d then Some (2 * k + 1) else (if c then Some (2 * k) else (if a then Some (2 * i) else (if b then Some (2 * i + 1) else before))))
    by_test true b true d p q r s h = absurd (apart true true p r)
    by_test true b false true p q r s h = absurd (apart true false p s)
    by_test true b false false p q r s h = refl
    by_test false true true d p q r s h = absurd (apart false true q r)
    by_test false true false true p q r s h = absurd (apart false false q s)
    by_test false true false false p q r s h = refl
    by_test false false c d p q r s h = h

next_wire : (nodes actor link : ℕ) (ws : List Wire) (i k : ℕ) (w : Wire) → NoOther nodes actor link ws → slice_get ws k ≡ Some w →
    way_out nodes actor link i (take (suc k) ws) ≡ Written nodes actor link (i + k) w (way_out nodes actor link i (take k ws))
next_wire nodes actor link [] i k w one e = absurd (cc)
next_wire nodes actor link (y ∷ ys) i zero w one e =
    let is = same_Some y w e in
    let none : i ≡ i + 0 = omega arith in
    ap (λ z. Looked nodes actor link i z None) is ∙ one_wire nodes actor link i w (λ s t. differ (one 0 0 w w true false (ap Some is) (ap Some is) s t).1)
    ∙ ap (λ z. Written nodes actor link z w None) none
  where
    differ : true ≡ false → ⊥
    differ e = absurd (cc)
next_wire nodes actor link (y ∷ ys) i (suc k) w one e =
    let more : suc i + k ≡ i + suc k = omega arith in
    two_wires nodes actor link i (i + suc k) y w (way_out nodes actor link (suc i) (take (suc k) ys)) (way_out nodes actor link (suc i) (take k ys))
    (λ a b s t. let r = (one 0 (suc k) y w a b refl e s t).0 in omega arith)
    (next_wire nodes actor link ys (suc i) k w rest e ∙ ap (λ z. Written nodes actor link z w (way_out nodes actor link (suc i) (take k ys))) more)
  where
    rest : NoOther nodes actor link ys
    rest m n v u a b f g s t = let r = one (suc m) (suc n) v u a b f g s t in ((let x = r.0 in omega arith), r.1)

no_other : (p : Plan) → IsAccepted p → (actor link : ℕ) → NoOther (length p.nodes) actor link p.wires
no_other p acc actor link i j v w a b e f s t =
    acc.one_port i j v w a b e f
    (one_port_of (port_of v a) (port_of w b) (link_is_at p actor link (port_of v a) (wired p acc i v a e) s ∙ sym (link_is_at p actor link (port_of w b) (wired p acc j w b f) t)))

pub wire_next : (p : Plan) → IsAccepted p → (actor link k : ℕ) (w : Wire) → slice_get p.wires k ≡ Some w →
    way_out (length p.nodes) actor link 0 (take (suc k) p.wires)
    ≡ (if is_link (length p.nodes) actor link w.two then Some (2 * k + 1) else (if is_link (length p.nodes) actor link w.one then Some (2 * k) else way_out (length p.nodes) actor link 0 (take k p.wires)))
wire_next p acc actor link k w e =
    let none : 0 + k ≡ k = omega arith in
    next_wire (length p.nodes) actor link p.wires 0 k w (no_other p acc actor link) e
    ∙ ap (λ z. Written (length p.nodes) actor link z w (way_out (length p.nodes) actor link 0 (take k p.wires))) none
