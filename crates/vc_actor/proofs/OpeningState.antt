-- An actor that is built of its parts is the plan's, and begins.
use Rattle.std.proofs.Common.{◌≡◌, ◌⊎◌, ℕ, zero, suc, ◌+◌, ◌<◌, Bool, true, false, ◌==◌, List, [], ◌∷◌, ◌++◌, length, nat_lt, slice_get, Option, Some, None, IsSome, refl, sym, ap, subst, ◌∙◌, arith, inl, inr, if◌then◌else◌, eq-eqb, eqb-true}
use Rattle.std.proofs.lemmas.Bool.{cases_eq, ne_eqb}
use Rattle.std.proofs.lemmas.Bool.Decides.{nat_tests}
use Rattle.std.proofs.lemmas.Option.{slice_get_within, get_or_from_slice_get}
use mathlib.Core.Path.{fun_ext}
use Rattle.vc_machine.specs.Rendezvous.{nothing_yet}
use Rattle.vc_occam.specs.Opening.{opening}
use Rattle.vc_occam.specs.Runnings.{state, inner_channels}
use Rattle.vc_occam.specs.Sites.{OwnSites}
use Rattle.vc_occam.specs.States.{State}
use Rattle.vc_process.specs.Usage.{among}
use Rattle.vc_occam.proofs.Preorder.{at_first}
use Rattle.vc_plan.specs.declared.channel.Channel.{Channel}
use Rattle.vc_plan.specs.declared.channel.Home.{Home}
use Rattle.vc_plan.specs.declared.channel.Home.TheVariants.{Way, Inside}
use Rattle.vc_plan.specs.declared.node_plan.NodePlan.{NodePlan}
use Rattle.vc_plan.specs.declared.plan.Plan.{Plan}
use Rattle.vc_plan.specs.Accepted.{IsAccepted}
use Rattle.vc_plan.specs.Limits.{kinds_of}
use Rattle.vc_vcp.specs.declared.end.End.{End as Given}
use Rattle.vc_vcp.specs.Carrier.{Carrier}
use Rattle.vc_vcp.specs.Names.{named}
use Rattle.vc_packets.specs.Functions.{shown_or}
use Rattle.vc_vcp.specs.Links.{Vcp, new_vcp}
use Rattle.vc_vcp.specs.Opening.{ends_given}
use Rattle.vc_vcp.specs.VcpView.{seen, ends_of}
use Rattle.vc_vcp.specs.State.{limit_of}
use Rattle.vc_network.specs.Network.{IsNode, IsSwitch, first}
use Rattle.vc_switch.specs.Switch.{new_switch}
use Rattle.vc_network.specs.Plan as network
use Rattle.vc_accepted.specs.NodeEnds.{ends_of_node}
use Rattle.vc_accepted.specs.NetworkOf.{network_of, switch_of, home_of, home_in}
use Rattle.vc_plan.specs.declared.switch_plan.SwitchPlan.{SwitchPlan}
use Rattle.vc_switch.specs.State.{State as SwitchState}
use Rattle.vc_accepted.proofs.NodeEnds.{given_ends}
use Rattle.vc_accepted.proofs.Elements.{made, made_or, made_at}
use Rattle.vc_actor.specs.Begin.{BeginsAs, AreFirst}
use Rattle.vc_actor.specs.Private.Begin.{IsBuilt}
use Rattle.vc_accepted.specs.Begin.{begin_of, is_inside, no_node, node_plan, numbers_inside}
use Rattle.vc_actor.specs.Private.Inside.{opened_inside, opened_internal}
use Rattle.vc_actor.specs.OfPlan.{AreInside, InStep}
use Rattle.vc_accepted.specs.Process.{Process}
use Rattle.vc_actor.specs.ActorView.{Acting, OfNode, OfSwitch, node_of, view_of, views_of, process_of}
use Rattle.vc_actor.specs.declared.inside.Internal.{Internal}
use Rattle.vc_actor.specs.declared.node.Node.{Node}
use Rattle.vc_actor.proofs.Insides.{name}
use Rattle.vc_actor.proofs.SwitchCalls.{not_less}

-- the front channel, where it is inside the node
abbrev front : Bool → ℕ → List Internal → List Internal
front b s rest = (if b then opened_internal s ∷ [] else []) ++ rest

found_by : (b : Bool) (x : Internal) (c : ℕ) (rest : List Internal) → (name x == c) ≡ b → named name c (x ∷ rest) ≡ (if b then Some x else named name c rest)
found_by b x c rest e = ap (λ t. if t then Some x else named name c rest) e

past : (b : Bool) (s c : ℕ) (rest : List Internal) → (s ≡ c → ⊥) → named name c (front b s rest) ≡ named name c rest
past true s c rest ne = found_by false (opened_internal s) c rest (ne_eqb s c ne)
past false s c rest ne = refl

here : (b : Bool) (s : ℕ) (rest : List Internal) → b ≡ true → named name s (front b s rest) ≡ Some (opened_internal s)
here true s rest e = found_by true (opened_internal s) s rest (eq-eqb s s refl)
here false s rest e = absurd (cc)

-- a channel that is inside the node is found
there_by : (k s : ℕ) (xs : List Channel) (j : ℕ) (x : Channel) → slice_get xs j ≡ Some x → is_inside k x.home ≡ true → named name (s + j) (opened_inside k s xs) ≡ Some (opened_internal (s + j))
there_by k s [] j x e h = absurd (cc)
there_by k s (y ∷ ys) zero x e h =
    let same : y ≡ x = cc in
    let none : s ≡ s + 0 = omega arith in
    subst (λ z. named name z (opened_inside k s (y ∷ ys)) ≡ Some (opened_internal z)) none
    (here (is_inside k y.home) s (opened_inside k (suc s) ys) (ap (λ (z : Channel). is_inside k z.home) same ∙ h))
there_by k s (y ∷ ys) (suc j) x e h =
    let more : suc s + j ≡ s + suc j = omega arith in
    past (is_inside k y.home) s (s + suc j) (opened_inside k (suc s) ys) (λ q. omega arith)
    ∙ subst (λ z. named name z (opened_inside k (suc s) ys) ≡ Some (opened_internal z)) more (there_by k (suc s) ys j x e h)

-- and what is found is such a channel
record IsThere (k s : ℕ) (xs : List Channel) (c : ℕ) : Type 0 where
  at : ℕ
  channel : Channel
  number : c ≡ s + at
  there : slice_get xs at ≡ Some channel
  inside : is_inside k channel.home ≡ true

further : (k s : ℕ) (x : Channel) (xs : List Channel) (c : ℕ) → IsThere k (suc s) xs c → IsThere k s (x ∷ xs) c
further k s x xs c t = record { at = suc t.at; channel = t.channel; number = (let e = t.number in omega arith); there = t.there; inside = t.inside }

is_there : (k s : ℕ) (xs : List Channel) (c : ℕ) → IsSome (named name c (opened_inside k s xs)) → IsThere k s xs c
is_there k s [] c h = absurd (cc)
is_there k s (x ∷ xs) c h = by_test (is_inside k x.home) refl h (is_there k (suc s) xs c)
  where
    by_test : (b : Bool) → is_inside k x.home ≡ b → IsSome (named name c (front b s (opened_inside k (suc s) xs))) →
        (IsSome (named name c (opened_inside k (suc s) xs)) → IsThere k (suc s) xs c) → IsThere k s (x ∷ xs) c
    by_test false e h rest = further k s x xs c (rest h)
    by_test true e h rest = elim (cases_eq s c) [
      | inl q ↦ record { at = zero; channel = x; number = (let r : c ≡ s = sym q in omega arith); there = refl; inside = e }
      | inr ne ↦ further k s x xs c (rest (subst IsSome (past true s c (opened_inside k (suc s) xs) ne) h))
    ]

home_is : (k : ℕ) (h : Home) → is_inside k h ≡ true → home_of h ≡ network.Inside k
home_is k (Inside m) e = ap network.Inside (eqb-true m k e)
home_is k (Way v f) e = absurd (cc)

is_home : (k : ℕ) (h : Home) → home_of h ≡ network.Inside k → is_inside k h ≡ true
is_home k (Inside m) e = eq-eqb m k (let q : m ≡ k = cc in q)
is_home k (Way v f) e = absurd (cc)

pub inside_is : (p : Plan) (k : ℕ) → k < length p.nodes → AreInside (network_of p) k (opened_inside k 0 p.channels)
inside_is p k less c = (to, from (slice_get p.channels c) refl)
  where
    to : IsSome (named name c (opened_inside k 0 p.channels)) → network.home (network_of p) c ≡ network.Inside k
    to h =
        let t = is_there k 0 p.channels c h in
        let same : t.at ≡ c = (let e = t.number in omega arith) in
        made home_in p.channels c (network.Inside (length p.nodes))
        ∙ ap (made_or (network.Inside (length p.nodes)) home_in) (sym (ap (slice_get p.channels) same) ∙ t.there)
        ∙ home_is k t.channel.home t.inside

    from : (o : Option Channel) → slice_get p.channels c ≡ o → network.home (network_of p) c ≡ network.Inside k → IsSome (named name c (opened_inside k 0 p.channels))
    from None e h =
        let q : network.Inside (length p.nodes) ≡ network.Inside k = sym (made home_in p.channels c (network.Inside (length p.nodes)) ∙ ap (made_or (network.Inside (length p.nodes)) home_in) e) ∙ h in
        let r : length p.nodes ≡ k = cc in
        absurd (omega arith)
    from (Some x) e h =
        let q : home_of x.home ≡ network.Inside k = sym (made home_in p.channels c (network.Inside (length p.nodes)) ∙ ap (made_or (network.Inside (length p.nodes)) home_in) e) ∙ h in
        let none : 0 + c ≡ c = omega arith in
        let f : named name c (opened_inside k 0 p.channels) ≡ Some (opened_internal c) =
        subst (λ z. named name z (opened_inside k 0 p.channels) ≡ Some (opened_internal z)) none (there_by k 0 p.channels c x e (is_home k x.home q)) in
        subst IsSome (sym f) refl

-- nothing is on the channels
empty_by : (b : Bool) (s c : ℕ) (rest : List Internal) → views_of rest c ≡ nothing_yet → views_of (front b s rest) c ≡ nothing_yet
empty_by false s c rest h = h
empty_by true s c rest h = elim (cases_eq s c) [
  | inl q ↦ ap (shown_or nothing_yet view_of) (found_by true (opened_internal s) c rest (eq-eqb s c q))
  | inr ne ↦ ap (shown_or nothing_yet view_of) (found_by false (opened_internal s) c rest (ne_eqb s c ne)) ∙ h
]

empty : (k s : ℕ) (xs : List Channel) (c : ℕ) → views_of (opened_inside k s xs) c ≡ nothing_yet
empty k s [] c = refl
empty k s (x ∷ xs) c = empty_by (is_inside k x.home) s c (opened_inside k (suc s) xs) (empty k (suc s) xs c)

-- no half is busy
pub rests : (a : Carrier) (p : Process) → a ≡ new_vcp.carrier → InStep a p
rests a p e = record {
  inputs = λ c h. absurd (let q : (a.into c).wants ≡ false = ap (λ (z : Carrier). (z.into c).wants) e in let r : false ≡ true = sym q ∙ h in cc);
  outputs = λ c h. absurd (h (ap (λ (z : Carrier). (z.out c).unacked) e));
}

first_is : (p : Plan) (k : ℕ) → k < length p.nodes → first (network_of p) (begin_of p) k ≡ IsNode (record { vcp = new_vcp; process = begin_of p k; inner = λ c. nothing_yet })
first_is p k less =
    let e : nat_lt k (length p.nodes) ≡ true = grind (arith, nat_tests) in
    ap (λ (b : Bool). if b then IsNode (record { vcp = new_vcp; process = begin_of p k; inner = λ c. nothing_yet }) else IsSwitch new_switch) e

-- what the parts of a node are made of
pub record IsMade (p : Plan) (k : ℕ) (node : NodePlan) (es : List Given) (n : Node) : Type 0 where
  pub given : es ≡ ends_of_node p k
  pub shows : seen n.vcp ≡ new_vcp
  pub ends : ends_of n.vcp ≡ ends_given es
  pub limit : limit_of n.vcp.ins ≡ network.body_limit (network_of p)
  pub starts : state n.process ≡ opening (kinds_of node.vars) node.process
  pub channels : inner_channels n.process ≡ among (numbers_inside k 0 p.channels)
  pub inside : n.inside ≡ opened_inside k 0 p.channels

pub begins : (p : Plan) → IsAccepted p → (k : ℕ) (node : NodePlan) → slice_get p.nodes k ≡ Some node → (es : List Given) (n : Node) → IsMade p k node es n → BeginsAs p k (OfNode n)
begins p acc k node there es n m = record {
  is = (
    less,
    record {
      ends = m.ends ∙ ap ends_given m.given ∙ given_ends p acc k;
      limit = m.limit;
      inside = subst (AreInside (network_of p) k) (sym m.inside) (inside_is p k less);
      in_step = rests (seen n.vcp).carrier (process_of n.process) (ap (λ (z : Vcp). z.carrier) m.shows);
      own = subst OwnSites (sym (ap (λ (z : State). z.rest) m.starts)) (at_first node.process);
    },
  );
  first = ap IsNode shown ∙ sym (first_is p k less);
}
  where
    less : k < length p.nodes
    less = slice_get_within p.nodes k node there

    plan_is : node_plan p k ≡ node
    plan_is = get_or_from_slice_get p.nodes k node no_node there

    process_is : process_of n.process ≡ begin_of p k
    process_is = λ i. record {
      inside = m.channels i;
      state = (m.starts ∙ ap (λ (z : NodePlan). opening (kinds_of z.vars) z.process) (sym plan_is)) i;
    }

    inner_is : views_of n.inside ≡ (λ c. nothing_yet)
    inner_is = ap views_of m.inside ∙ fun_ext (λ c. empty k 0 p.channels c)

    shown : node_of n ≡ record { vcp = new_vcp; process = begin_of p k; inner = λ c. nothing_yet }
    shown = λ i. record { vcp = m.shows i; process = process_is i; inner = inner_is i }

-- an actor more
at_last : {X : Type 0} (xs : List X) (x : X) (k : ℕ) (y : X) → slice_get (xs ++ x ∷ []) k ≡ Some y → (slice_get xs k ≡ Some y) ⊎ ((k ≡ length xs) × (x ≡ y))
at_last [] x zero y e = inr (refl, (let q : x ≡ y = cc in q))
at_last [] x (suc k) y e = absurd (cc)
at_last (z ∷ zs) x zero y e = inl e
at_last (z ∷ zs) x (suc k) y e = elim (at_last zs x k y e) [ inl h ↦ inl h | inr h ↦ inr (ap suc h.0, h.1) ]

longer : {X : Type 0} (xs : List X) (x : X) → length (xs ++ x ∷ []) ≡ length xs + 1
longer [] x = refl
longer (y ∷ ys) x = let e = longer ys x in omega arith

pub one_longer : (k : ℕ) (xs new : List Acting) (a : Acting) → length xs ≡ k → new ≡ xs ++ a ∷ [] → length new ≡ k + 1
one_longer k xs new a long is = ap length is ∙ longer xs a ∙ ap (λ n. n + 1) long

pub one_more : (p : Plan) (k : ℕ) (xs new : List Acting) (a : Acting) → length xs ≡ k → new ≡ xs ++ a ∷ [] → BeginsAs p k a →
    ((i : ℕ) (b : Acting) → slice_get xs i ≡ Some b → BeginsAs p i b) → (i : ℕ) (b : Acting) → slice_get new i ≡ Some b → BeginsAs p i b
one_more p k xs new a long is begins before i b e = elim (at_last xs a i b (sym (ap (λ z. slice_get z i) is) ∙ e)) [
  | inl h ↦ before i b h
  | inr h ↦ (let same : k ≡ i = sym long ∙ sym h.0 in subst (λ z. BeginsAs p z b) same (subst (BeginsAs p k) h.1 begins))
]

-- the first so many actors, and one more
pub first_more : (p : Plan) (k : ℕ) (xs new : List Acting) (a : Acting) → new ≡ xs ++ a ∷ [] → BeginsAs p k a → AreFirst p k xs → AreFirst p (k + 1) new
first_more p k xs new a is begins first = record { count = one_longer k xs new a first.count is; each = one_more p k xs new a first.count is begins first.each }

-- no actor yet
pub none_yet : (p : Plan) (xs : List Acting) → xs ≡ [] → AreFirst p 0 xs
none_yet p [] e = record { count = refl; each = λ k a h. absurd (cc) }
none_yet p (x ∷ xs) e = absurd (cc)

pub switch_begins : (p : Plan) (i : ℕ) (given : SwitchPlan) (s : SwitchState) → slice_get p.switches i ≡ Some given → IsBuilt given (network.body_limit (network_of p)) s → BeginsAs p (length p.nodes + i) (OfSwitch s)
switch_begins p i given s there built = record {
  is = (i, refl, record { given = built.plan ∙ sym (made_at switch_of p.switches i _ given there); limit = built.limit });
  first = ap IsSwitch built.empty ∙ sym (ap (λ (b : Bool). if b then IsNode (record { vcp = new_vcp; process = begin_of p (length p.nodes + i); inner = λ c. nothing_yet }) else IsSwitch new_switch) (not_less (length p.nodes) i));
}
