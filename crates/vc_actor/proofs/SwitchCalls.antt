-- What a call of a switch is: a step of its actor.
use Rattle.std.proofs.Common.{◌≡◌, ℕ, ◌+◌, ◌-◌, ◌<◌, ◌≤◌, ◌↔◌, Bool, IsTrue, false, List, [], ◌∷◌, ◌++◌, slice_get, Option, Some, None, refl, sym, ap, ◌∙◌, subst, arith, inl, inr, nat_lt, if◌then◌else◌}
use Rattle.std.proofs.lemmas.Bool.{cases_lt}
use Rattle.std.proofs.lemmas.Bool.Decides.{nat_tests}
use Rattle.vc_machine.specs.Paths.{AtNode, AtSwitch}
use Rattle.vc_network.specs.Plan.{Plan, IsOutOf, IsInto, switch_plan}
use Rattle.vc_tokens.specs.Tokens.{Token, Byte, EndMark}
use Rattle.vc_switch.specs.Able.{CanPass, CanLeave, CanRoute, CanPut}
use Rattle.vc_switch.specs.SwitchView.{seen, IsKept, input_of}
use Rattle.vc_switch.specs.State.{State, IsSwitch, plan_of, limit_of, source_at, output_of}
use Rattle.vc_packets.specs.Functions.{shown_or}
use Rattle.vc_switch.specs.Switch.{Switch, Passes, passes_byte, drops_byte, passes_mark, loses, Routes, Sends, SendsFct, Comes, new_input, BodyLeaves}
use Rattle.vc_switch.specs.Waiting.{Wormhole}
use Rattle.vc_labels.specs.declared.row.Row.{Row}
use Rattle.vc_labels.specs.Lawful.{starts_at}
use Rattle.vc_packets.specs.Headers.{spelled}
use Rattle.vc_switch.specs.Forward.{SwitchPlan, without_portals}
use Rattle.vc_switch.specs.declared.link_in.LinkIn.{LinkIn}
use Rattle.vc_switch.proofs.Routes.{links}
use Rattle.std.proofs.lemmas.Option.{slice_get_past}
use Rattle.vc_actor.specs.Able.{SwitchCan}
use Rattle.vc_actor.specs.Acts.{port, ByLinksOfSwitch, SwitchMay, MakesOwn, MakesTake, MakesPut, MakesGrant}
use Rattle.vc_actor.specs.OfPlan.{IsActorOf}
use Rattle.vc_actor.specs.ActorView.{OfSwitch}
use Rattle.vc_actor.specs.declared.act.Act.{Act}
use Rattle.vc_actor.specs.declared.act.Act.TheVariants as act

-- the port at a switch's link
pub not_less : (n i : ℕ) → nat_lt (n + i) n ≡ false
not_less n i = grind (arith, nat_tests)

pub port_is : (plan : Plan) (k i l : ℕ) → k ≡ plan.nodes + i → port plan k l ≡ AtSwitch i l
port_is plan k i l e =
    ap (λ z. port plan z l) e ∙ ap (λ b. if b then AtNode (plan.nodes + i) l else AtSwitch (plan.nodes + i - plan.nodes) l) (not_less plan.nodes i)
    ∙ ap (λ z. AtSwitch z l) (let same : plan.nodes + i - plan.nodes ≡ i = omega arith in same)

stays : (plan : Plan) (k : ℕ) (old new : State) → IsActorOf plan k (OfSwitch old) → IsKept old new → IsActorOf plan k (OfSwitch new)
stays plan k old new (i, at, is) kept = (i, at, record { given = kept.plan ∙ is.given; limit = kept.limit ∙ is.limit })

pub takes : (plan : Plan) (k l x : ℕ) (t : Token) (old new : State) → IsActorOf plan k (OfSwitch old) → Comes (seen old) l x t (seen new) → IsKept old new → MakesTake plan k (OfSwitch old) l x t (OfSwitch new)
takes plan k l x t old new (i, at, is) comes kept = record {
  step = λ w into. (i, at, (subst (IsInto plan w) (port_is plan k i l at) into, comes));
  kept = stays plan k old new (i, at, is) kept;
}

pub passed : (plan : Plan) (k l : ℕ) (a : Act) (old new : State) → IsActorOf plan k (OfSwitch old) → a ≡ act.Pass l → Passes (limit_of old.inputs) (plan_of old) (seen old) l (seen new) → IsKept old new →
    MakesOwn plan k (OfSwitch old) a (OfSwitch new)
passed plan k l a old new (i, at, is) e passes kept =
    subst (λ z. MakesOwn plan k (OfSwitch old) z (OfSwitch new)) (sym e) (record {
      step = (i, at, subst (λ m. Passes m (switch_plan plan i) (seen old) l (seen new)) is.limit (subst (λ p. Passes (limit_of old.inputs) p (seen old) l (seen new)) is.given passes));
      kept = stays plan k old new (i, at, is) kept;
    })

pub routed : (plan : Plan) (k l o : ℕ) (a : Act) (old new : State) → IsActorOf plan k (OfSwitch old) → a ≡ act.Route l o → Routes (plan_of old) Wormhole (seen old) l o (seen new) → IsKept old new →
    MakesOwn plan k (OfSwitch old) a (OfSwitch new)
routed plan k l o a old new (i, at, is) e routes kept =
    subst (λ z. MakesOwn plan k (OfSwitch old) z (OfSwitch new)) (sym e) (record {
      step = (i, at, subst (λ p. Routes p Wormhole (seen old) l o (seen new)) is.given routes);
      kept = stays plan k old new (i, at, is) kept;
    })

pub puts : (plan : Plan) (k l : ℕ) (t : Token) (old new : State) → IsActorOf plan k (OfSwitch old) → Sends (plan_of old) Wormhole (seen old) l t (seen new) → IsKept old new → MakesPut plan k (OfSwitch old) l t (OfSwitch new)
puts plan k l t old new (i, at, is) sends kept = record {
  step = λ w out. (i, at, (subst (IsOutOf plan w) (port_is plan k i l at) out, subst (λ p. Sends p Wormhole (seen old) l t (seen new)) is.given sends));
  kept = stays plan k old new (i, at, is) kept;
}

pub grants : (plan : Plan) (k l : ℕ) (old new : State) → IsActorOf plan k (OfSwitch old) → SendsFct (seen old) l (seen new) → IsKept old new → MakesGrant plan k (OfSwitch old) l (OfSwitch new)
grants plan k l old new (i, at, is) sends kept = record {
  step = λ w out. (i, at, (subst (IsOutOf plan w) (port_is plan k i l at) out, refl, sends));
  kept = stays plan k old new (i, at, is) kept;
}

-- No step of a switch is by a link that it does not have.

input_past : (s : State) → IsSwitch s → (l : ℕ) → 32 ≤ l → (seen s).input l ≡ new_input
input_past s is l far = ap (shown_or new_input input_of) (slice_get_past s.inputs l (subst (λ n. n ≤ l) (sym is.input_links) far))

-- nothing passes from an empty buffer
pub none_passes : (limit : ℕ) (plan : SwitchPlan) (old new : Switch) (l : ℕ) → (old.input l).receiver.buffer ≡ [] → Passes limit plan old l new → ⊥
none_passes limit plan old new l e (passes_byte b rest no_mark is fits after) = absurd (let q : [] ≡ Byte b ∷ rest = sym e ∙ is in cc)
none_passes limit plan old new l e (drops_byte b rest no_mark is full after) = absurd (let q : [] ≡ Byte b ∷ rest = sym e ∙ is in cc)
none_passes limit plan old new l e (passes_mark m rest no_mark is group after) = absurd (let q : [] ≡ EndMark m ∷ rest = sym e ∙ is in cc)
none_passes limit plan old new l e (loses m rest no_mark is none after) = absurd (let q : [] ≡ EndMark m ∷ rest = sym e ∙ is in cc)

-- nor does a packet leave of which nothing has come
no_front : (table : List Row) (stack rest : List ℕ) (header : ℕ) (more : List ℕ) → [] ≡ spelled stack ++ rest → without_portals table stack ≡ header ∷ more → ⊥
no_front table [] rest header more e front = absurd (cc)
no_front table (h ∷ hs) rest header more e front = absurd (cc)

pub none_leaves : (plan : SwitchPlan) (got : List ℕ) (output : ℕ) (body : List ℕ) → got ≡ [] → BodyLeaves plan got output body → ⊥
none_leaves plan got output body e h = no_front plan.table h.stack h.rest h.leaves.header h.leaves.rest (sym e ∙ h.before_is) h.leaves.front

pass_within : (s : State) → IsSwitch s → (l : ℕ) → CanPass (limit_of s.inputs) (plan_of s) (seen s) l → l < 32
pass_within s is l (new, passes) = elim (cases_lt l 32) [
  | inl less ↦ less
  | inr far ↦ absurd (none_passes (limit_of s.inputs) (plan_of s) (seen s) new l (ap (λ z. z.receiver.buffer) (input_past s is l far)) passes)
]

route_within : (s : State) → IsSwitch s → (l o : ℕ) → CanRoute (plan_of s) (seen s) l o → (l < 32) × (o < 32)
route_within s is l o (new, routes) = (
  elim (cases_lt l 32) [
    | inl less ↦ less
    | inr far ↦ absurd (none_leaves (plan_of s) ((seen s).input l).got o routes.body (ap (λ z. z.got) (input_past s is l far)) routes.group)
  ],
  (let h = routes.group.leaves in
      let high = h.high in
      let few = (links (starts_at s.table) s.table h.header h.first h.last is.table h.group).1 in
      omega arith),
)

same_bound : (o : Option LinkIn) → (shown_or new_input input_of o).bound ≡ shown_or None (λ x. output_of x.bound) o
same_bound None = refl
same_bound (Some x) = refl

put_within : (s : State) → IsSwitch s → (o : ℕ) → CanPut (plan_of s) (seen s) o → o < 32
put_within s is o can = elim (cases_lt o 32) [
  | inl less ↦ less
  | inr far ↦ (let e : source_at s.outputs o ≡ Some can.sends.link = is.paired.ins can.sends.link o (sym (same_bound (slice_get s.inputs can.sends.link)) ∙ can.sends.bound) in
      let q : source_at s.outputs o ≡ None = ap (shown_or None (λ x. x.source)) (slice_get_past s.outputs o (subst (λ n. n ≤ o) (sym is.output_links) far)) in
      let r : None ≡ Some can.sends.link = sym q ∙ e in
      absurd (cc))
]

pub within : (s : State) → IsSwitch s → (a : Act) → SwitchCan s a → ByLinksOfSwitch a
within s is (act.Proc m) can = can
within s is (act.Take l x) can = can
within s is (act.Put l) can = put_within s is l can
within s is (act.Fct l) can = can.0
within s is (act.Pass l) can = pass_within s is l can
within s is (act.Route l o) can = route_within s is l o can

pub may : (s : State) → IsSwitch s → (a : Act) → SwitchCan s a → SwitchMay s a
may s is a can = record { links = within s is a can; can = can }

pub may_by : (s : State) → IsSwitch s → (a : Act) (b : Bool) → (IsTrue b ↔ SwitchCan s a) → IsTrue b ↔ SwitchMay s a
may_by s is a b can = (λ t. may s is a (can.0 t), λ m. can.1 m.can)

pub route_leaves : (plan : SwitchPlan) (s : Switch) (l o : ℕ) → CanRoute plan s l o → CanLeave plan s l o
route_leaves plan s l o (new, h) = record { body = h.body; unbound = h.unbound; leaves = h.group }
