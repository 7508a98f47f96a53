-- Refusals are right: causes refute acceptance, and the first path that leads astray is one.
use Rattle.std.proofs.Common.{◌≡◌, ◌≢◌, ℕ, ◌<◌, ◌⊎◌, Bool, true, false, List, [], ◌∷◌, Option, Some, None, length, slice_get, refl, sym, ap, subst, ◌∙◌, inl, inr, arith}
use Rattle.vc_plan.specs.declared.check_refused.CheckRefused.{CheckRefused}
use Rattle.vc_plan.specs.declared.check_refused.CheckRefused.TheVariants as why
use Rattle.vc_plan.specs.declared.fault.Fault.{Fault}
use Rattle.vc_plan.specs.declared.labelling.FaultyPath.{FaultyPath}
use Rattle.vc_plan.specs.declared.path_fault.Hop.{Hop}
use Rattle.vc_plan.specs.declared.plan.Plan.{Plan}
use Rattle.vc_plan.specs.declared.port.Port.{Port}
use Rattle.vc_plan.specs.declared.port.Spot.{Spot}
use Rattle.vc_plan.specs.declared.vlink.End.{End}
use Rattle.vc_plan.specs.declared.vlink.Vlink.{Vlink}
use Rattle.vc_plan.specs.Accepted.{IsAccepted, IsLawfulSwitch}
use Rattle.vc_plan.specs.Check.{IsCause, IsSwitchFault}
use Rattle.vc_plan.specs.Delivery.{DeliversTo, IsLabelledLink, IsLabelled}
use Rattle.vc_plan.specs.Faults.{Path, IsFaulty, ValueBefore, Before, IsNotAfter, fault_at}
use Rattle.vc_plan.specs.Hops.{IsHop}
use Rattle.vc_plan.specs.Labelling.{IsFaultOfWay, IsFaultOfLink, IsFirstFault}
use Rattle.vc_plan.specs.Refusals.{RefusalsAreRight}
use Rattle.vc_plan.proofs.Least.{faulty-stops}
use Rattle.vc_labels.proofs.Tables.{faultless_are_lawful}
use Rattle.vc_plan.proofs.Tests.{passes_all}
use Rattle.vc_plan.proofs.Order.{ValueBefore-trans, Before-trans}
use Rattle.vc_process.proofs.Verdicts.{unlawful}

way-stops : (net : Plan) (from to : End) (f : FaultyPath) → IsFaultOfWay net from to f → DeliversTo net from to → ⊥
way-stops net from to f is well =
    let x = is.least in
    faulty-stops net to x.port from.route f.hops f.last f.value f.fault x.path (well x.port x.across_is)

link-stops : (net : Plan) (v : Vlink) (from_a : Bool) (f : FaultyPath) → IsFaultOfLink net v from_a f → IsLabelledLink net v → ⊥
link-stops net v true f is well = way-stops net v.a v.b f is well.there
link-stops net v false f is well = way-stops net v.b v.a f is.1 well.back

leads-astray : (p : Plan) (vlinks : List Vlink) (f : FaultyPath) → IsFirstFault p vlinks f → IsLabelled p vlinks → ⊥
leads-astray p vlinks f is well = link-stops p is.vlink f.from_a f is.fault (well f.vlink is.vlink is.there)

-- a plan that may be accepted is refused for want of memory alone
pub only_memory : (p : Plan) (cause : CheckRefused) → IsCause p cause → IsAccepted p → cause ≡ why.Memory
only_memory p (why.Limit word) is a = absurd (let c : Some word ≡ None = sym is ∙ (passes_all p a).before.before.before.before.before.before.before.before.limits in cc)
only_memory p (why.PortTwice port) is a = absurd (let c : Some port ≡ None = sym is.1 ∙ (passes_all p a).before.before.before.before.before.before.before.once in cc)
only_memory p (why.PortMissing port) is a = absurd (let c : Some port ≡ None = sym is.1 ∙ (passes_all p a).before.before.before.before.before.before.ports in cc)
only_memory p (why.BlockTwice node block) is a = absurd (let c : Some (node, block) ≡ None = sym is.1 ∙ (passes_all p a).before.before.before.before.before.blocks in cc)
only_memory p (why.Table n fault) is a = absurd (by is.1.is (a.tables n is.1.plan is.1.there))
  where
    by : IsSwitchFault p n is.1.plan fault → IsLawfulSwitch p n is.1.plan → ⊥
    by (inl bad) good = absurd (let c : Some fault ≡ None = sym bad ∙ (faultless_are_lawful is.1.plan.rows).1 good.table in cc)
    by (inr bad) good = bad.2 good.wired
only_memory p (why.NoInterval f) is a = absurd (leads-astray p p.vlinks _ is.1 a.labelled)
only_memory p (why.WrongEnd f) is a = absurd (leads-astray p p.vlinks _ is.1 a.labelled)
only_memory p (why.StackEmpty f) is a = absurd (leads-astray p p.vlinks _ is.1 a.labelled)
only_memory p (why.StackFull f) is a = absurd (leads-astray p p.vlinks _ is.1.1.1 a.labelled)
only_memory p (why.Hops f) is a = absurd (leads-astray p p.vlinks _ is.1 a.labelled)
only_memory p (why.SameNode n) is a = absurd (a.apart n is.1.vlink is.1.there is.1.is)
only_memory p (why.Channel n) is a = absurd (let c : Some n ≡ None = sym is.1 ∙ (passes_all p a).before.channels in cc)
only_memory p (why.Usage n name) is a = absurd (unlawful _ is.1.is.offence is.1.is.is (a.lawful_use n is.1.node is.1.there))
only_memory p why.Memory is a = refl

refuted : (p : Plan) (cause : CheckRefused) → cause ≢ why.Memory → IsCause p cause → IsAccepted p → ⊥
refuted p cause other is acc = other (only_memory p cause is acc)

-- an order of choices in which none is before itself
ValueBefore-itself : (v : Option ℕ) → ValueBefore v v → ⊥
ValueBefore-itself None p = p
ValueBefore-itself (Some a) p = omega (arith, p)

Before-itself : (xs : List Hop) → Before xs xs → ⊥
Before-itself [] p = p
Before-itself (x ∷ xs) (inl (inl p)) = ValueBefore-itself x.value p
Before-itself (x ∷ xs) (inl (inr p)) = omega (arith, p.1)
Before-itself (x ∷ xs) (inr p) = Before-itself xs p.1

not-after-both : (xs : List Hop) (v : Option ℕ) (ys : List Hop) (w : Option ℕ) → IsNotAfter xs v ys w → IsNotAfter ys w xs v → (xs ≡ ys) × (v ≡ w)
not-after-both xs v ys w (inl p) (inl q) = absurd (omega (arith, p, q))
not-after-both xs v ys w (inl p) (inr q) = absurd (omega (arith, p, q.0))
not-after-both xs v ys w (inr p) (inl q) = absurd (omega (arith, p.0, q))
not-after-both xs v ys w (inr (e, inl p)) (inr (g, inl q)) = absurd (Before-itself xs (Before-trans xs ys xs p q))
not-after-both xs v ys w (inr (e, inl p)) (inr (g, inr q)) = absurd (Before-itself xs (subst (λ z. Before xs z) q.0 p))
not-after-both xs v ys w (inr (e, inr p)) (inr (g, inl q)) = absurd (Before-itself ys (subst (λ z. Before ys z) p.0 q))
not-after-both xs v ys w (inr (e, inr (same, inl p))) (inr (g, inr (other, inl q))) = absurd (ValueBefore-itself v (ValueBefore-trans v w v p q))
not-after-both xs v ys w (inr (e, inr (same, inl p))) (inr (g, inr (other, inr q))) = (same, sym q)
not-after-both xs v ys w (inr (e, inr (same, inr p))) (inr (g, inr q)) = (same, p)

-- the same hops lead to one place
one-hop : (net : Plan) (p : Port) (s : List ℕ) (h : Hop) (q r : Port) (t u : List ℕ) → IsHop net p s h q t → IsHop net p s h r u → (q ≡ r) × (t ≡ u)
one-hop net p s h q r t u x y =
    let far = sym x.far ∙ y.far in
    let goes = sym x.goes ∙ y.goes in
    (cc, x.left ∙ cc)

one-path : (net : Plan) (hops : List Hop) (p : Port) (s : List ℕ) (q r : Port) (t u : List ℕ) → Path net p s hops q t → Path net p s hops r u → (q ≡ r) × (t ≡ u)
one-path net [] p s q r t u x y = (sym x.0 ∙ y.0, sym x.1 ∙ y.1)
one-path net (h ∷ hops) p s q r t u x y =
    let same = one-hop net p s h x.0 y.0 x.1 y.1 x.2 y.2 in
    one-path net hops x.0 x.1 q r t u x.3 (rw (same.0, same.1) y.3)

-- all but the virtual link and the way
record AreAlike (f g : FaultyPath) : Type 0 where
  pub start : f.start ≡ g.start
  pub hops : f.hops ≡ g.hops
  pub last : f.last ≡ g.last
  pub value : f.value ≡ g.value
  pub fault : f.fault ≡ g.fault

faulty-alike : (net : Plan) (to : End) (p : Port) (s : List ℕ) (f g : FaultyPath) → f.start ≡ g.start → f.hops ≡ g.hops → f.value ≡ g.value →
    IsFaulty net to p s f.hops f.last f.value f.fault → IsFaulty net to p s g.hops g.last g.value g.fault → AreAlike f g
faulty-alike net to p s f g start hops value x y =
    let at = one-path net g.hops p s x.stands y.stands x.headers y.headers (subst (λ hs. Path net p s hs x.stands x.headers) hops x.path) y.path in
    let last : f.last ≡ g.last = sym x.is_last ∙ (ap (λ (q : Port). q.spot) at.0 ∙ y.is_last) in
    let shows : fault_at net to (length f.hops) f.last f.value x.headers ≡ fault_at net to (length g.hops) g.last g.value y.headers = cc in
    let fault : Some f.fault ≡ Some g.fault = sym x.shows ∙ (shows ∙ y.shows) in
    record { start = start; hops = hops; last = last; value = value; fault = cc }

ways-alike : (net : Plan) (from to : End) (f g : FaultyPath) → IsFaultOfWay net from to f → IsFaultOfWay net from to g → AreAlike f g
ways-alike net from to f g x y =
    let a = x.least in
    let b = y.least in
    let port : a.port ≡ b.port = let found = sym a.across_is ∙ b.across_is in cc in
    let one = subst (λ q. IsFaulty net to q from.route g.hops g.last g.value g.fault) (sym port) b.path in
    let other = subst (λ q. IsFaulty net to q from.route f.hops f.last f.value f.fault) port a.path in
    let same = not-after-both f.hops f.value g.hops g.value (a.least g.hops g.last g.value g.fault one) (b.least f.hops f.last f.value f.fault other) in
    faulty-alike net to a.port from.route f g (x.start ∙ sym y.start) same.0 same.1 a.path one

links-alike : (net : Plan) (v : Vlink) (a b : Bool) (f g : FaultyPath) → IsFaultOfLink net v a f → IsFaultOfLink net v b g → (a ≡ b) × AreAlike f g
links-alike net v true true f g x y = (refl, ways-alike net v.a v.b f g x y)
links-alike net v true false f g x y = absurd (way-stops net v.a v.b f x y.0)
links-alike net v false true f g x y = absurd (way-stops net v.a v.b g y x.0)
links-alike net v false false f g x y = (refl, ways-alike net v.b v.a f g x.1 y.1)

one-link : (p : Plan) (vlinks : List Vlink) (f g : FaultyPath) → IsFirstFault p vlinks f → IsFirstFault p vlinks g → ((f.vlink < g.vlink) ⊎ ((f.vlink ≡ g.vlink) ⊎ (g.vlink < f.vlink))) → f.vlink ≡ g.vlink
one-link p vlinks f g x y (inl less) = absurd (link-stops p x.vlink f.from_a f x.fault (y.earlier f.vlink x.vlink less x.there))
one-link p vlinks f g x y (inr (inl same)) = same
one-link p vlinks f g x y (inr (inr more)) = absurd (link-stops p y.vlink g.from_a g y.fault (x.earlier g.vlink y.vlink more y.there))

three-ways : (j k : ℕ) → (j < k) ⊎ ((j ≡ k) ⊎ (k < j))
three-ways j k = grind arith

made : ℕ → Bool → Port → List Hop → Spot → Option ℕ → Fault → FaultyPath
made vlink from_a start hops last value fault = record { vlink = vlink; from_a = from_a; start = start; hops = hops; last = last; value = value; fault = fault }

is-one : (f g : FaultyPath) → f.vlink ≡ g.vlink → f.from_a ≡ g.from_a → AreAlike f g → f ≡ g
unfolding made
is-one f g link way alike =
    let a = alike.start in
    let b = alike.hops in
    let c = alike.last in
    let d = alike.value in
    let e = alike.fault in
    let same : made f.vlink f.from_a f.start f.hops f.last f.value f.fault ≡ made g.vlink g.from_a g.start g.hops g.last g.value g.fault = cc in
    same

one : (p : Plan) (vlinks : List Vlink) (f g : FaultyPath) → IsFirstFault p vlinks f → IsFirstFault p vlinks g → f ≡ g
one p vlinks f g x y =
    let place = one-link p vlinks f g x y (three-ways f.vlink g.vlink) in
    let there : Some x.vlink ≡ Some y.vlink = sym x.there ∙ (ap (slice_get vlinks) place ∙ y.there) in
    let vlink : x.vlink ≡ y.vlink = cc in
    let same = links-alike p y.vlink f.from_a g.from_a f g (subst (λ v. IsFaultOfLink p v f.from_a f) vlink x.fault) y.fault in
    is-one f g place same.0 same.1

pub right : RefusalsAreRight
right = record { refuted = refuted; astray = leads-astray; one = one }
