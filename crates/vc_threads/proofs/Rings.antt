-- The rings of a plan, made one after another.
use Rattle.std.proofs.Common.{◌≡◌, ◌≢◌, ℕ, zero, suc, ◌+◌, ◌<◌, ◌⊎◌, Bool, true, false, List, [], ◌∷◌, ◌++◌, length, map, get_or, slice_get, Some, refl, ap, sym, subst, ◌∙◌, arith, inl, inr, length-set, eq-eqb, ◌&&◌, ◌==◌}
use Rattle.std.specs.List.{Contains}
use Rattle.std.proofs.Math.ListN.{set}
use Rattle.std.proofs.Math.Seq.{map-set_same}
use Rattle.std.proofs.lemmas.Bool.{cases_eq}
use Rattle.std.proofs.lemmas.Option.{same_Some}
use Rattle.std.proofs.lemmas.List.Elements.{Contains-push, Contains-append_left, Contains-push_cases}
use Rattle.vc_accepted.specs.ActorWays.{actor_of, is_link}
use Rattle.vc_plan.specs.Accepted.{port_of}
use Rattle.vc_plan.specs.declared.plan.Plan.{Plan}
use Rattle.vc_plan.specs.declared.port.Port.{Port}
use Rattle.vc_plan.specs.declared.port.Wire.{Wire}
use Rattle.vc_threads.specs.Private.Rings.{outs_of, ins_of, OneMore, IsRing, AddsRing, HasRing, AreWired, AreBare, outs_in, ins_in}
use Rattle.vc_threads.specs.Rings.{IsOnWire}
use Rattle.vc_threads.specs.Works.{Out, In}
use Rattle.vc_threads.specs.declared.spawn.Job.{Job}

-- the ends of one job change, and those of the others stay
module _ {Y : Type 0} (f : Job → List Y) where
  pub changed : (js : List Job) (s : ℕ) (j d : Job) (y : Y) → s < length js → d ≡ get_or js s d → f j ≡ f d ++ y ∷ [] → get_or (map f (set js s j)) s [] ≡ get_or (map f js) s [] ++ y ∷ []
  changed [] s j d y l is e = absurd (omega arith)
  changed (x ∷ xs) zero j d y l is e = e ∙ ap (λ v. f v ++ y ∷ []) is
  changed (x ∷ xs) (suc s) j d y l is e = changed xs s j d y (omega arith) is e

  pub unchanged : (js : List Job) (s : ℕ) (j : Job) (k : ℕ) → k ≢ s → get_or (map f (set js s j)) k [] ≡ get_or (map f js) k []
  unchanged [] s j k ne = refl
  unchanged (x ∷ xs) zero j zero ne = absurd (ne refl)
  unchanged (x ∷ xs) zero j (suc k) ne = refl
  unchanged (x ∷ xs) (suc s) j zero ne = refl
  unchanged (x ∷ xs) (suc s) j (suc k) ne = unchanged xs s j k (λ e. ne (ap suc e))

  pub none_more : (js : List Job) (j : Job) → ((k : ℕ) → get_or (map f js) k [] ≡ []) → f j ≡ [] → (k : ℕ) → get_or (map f (js ++ j ∷ [])) k [] ≡ []
  none_more [] j h e zero = e
  none_more [] j h e (suc k) = refl
  none_more (x ∷ xs) j h e zero = h 0
  none_more (x ∷ xs) j h e (suc k) = none_more xs j (λ i. h (suc i)) e k

-- the two ends of a ring are given to the actors at two ports
pub makes_ring : (nodes : ℕ) (js : List Job) (from to : Port) (s t : ℕ) (j d k e : Job) (out : Out) (into : In)
    → s ≡ actor_of nodes from.spot → t ≡ actor_of nodes to.spot → s < length js → t < length js
    → d ≡ get_or js s d → e ≡ get_or (set js s j) t e
    → outs_in j ≡ outs_in d ++ out ∷ [] → ins_in j ≡ ins_in d → ins_in k ≡ ins_in e ++ into ∷ [] → outs_in k ≡ outs_in e
    → IsRing from to out into → AddsRing nodes js from to (set (set js s j) t k)
makes_ring nodes js from to s t j d k e out into source sink l m d_is e_is outs ins ins' outs' ring =
    let mid = set js s j in
    let new = set mid t k in
    let same_outs : map outs_in new ≡ map outs_in mid = map-set_same outs_in mid t k e (outs' ∙ ap outs_in e_is) in
    let same_ins : map ins_in mid ≡ map ins_in js = map-set_same ins_in js s j d (ins ∙ ap ins_in d_is) in
    record {
      out = out;
      into = into;
      ring = ring;
      source = subst (λ a. OneMore (outs_of js) a out (outs_of new)) source (
        ap (λ ls. get_or ls s []) same_outs ∙ changed outs_in js s j d out l d_is outs,
        λ i ne. ap (λ ls. get_or ls i []) same_outs ∙ unchanged outs_in js s j i ne,
      );
      sink = subst (λ a. OneMore (ins_of js) a into (ins_of new)) sink (
        changed ins_in mid t k e into (omega (arith, m, length-set js s j)) e_is ins' ∙ ap (λ ls. get_or ls t [] ++ into ∷ []) same_ins,
        λ i ne. unchanged ins_in mid t k i ne ∙ ap (λ ls. get_or ls i []) same_ins,
      );
    }

module _ {X : Type 0} where
  -- an actor was given one more
  given : (old new : ℕ → List X) (s : ℕ) (y : X) → OneMore old s y new → Contains (new s) y
  given old new s y m = subst (λ zs. Contains zs y) (sym m.0) (Contains-push (old s) y)

  kept : (old new : ℕ → List X) (s : ℕ) (y : X) → OneMore old s y new → (k : ℕ) (x : X) → Contains (old k) x → Contains (new k) x
  kept old new s y m k x h = elim (cases_eq k s) [
    | inl e ↦ subst (λ i. Contains (new i) x) (sym e) (subst (λ zs. Contains zs x) (sym m.0) (Contains-append_left (old s) (y ∷ []) x (subst (λ i. Contains (old i) x) e h)))
    | inr ne ↦ subst (λ zs. Contains zs x) (sym (m.1 k ne)) h
  ]

  pub only : (old new : ℕ → List X) (s : ℕ) (y : X) → OneMore old s y new → (k : ℕ) (x : X) → Contains (new k) x → Contains (old k) x ⊎ ((k ≡ s) × (y ≡ x))
  only old new s y m k x h = elim (cases_eq k s) [
    | inl e ↦ elim (Contains-push_cases (old s) y x (subst (λ zs. Contains zs x) m.0 (subst (λ i. Contains (new i) x) e h))) [
      | inl before ↦ inl (subst (λ i. Contains (old i) x) (sym e) before)
      | inr same ↦ inr (e, same)
    ]
    | inr ne ↦ inl (subst (λ zs. Contains zs x) (m.1 k ne) h)
  ]

-- a ring that is made is there
ring_made : (nodes : ℕ) (old new : List Job) (from to : Port) → AddsRing nodes old from to new → HasRing nodes new from to
ring_made nodes old new from to a = record {
  out = a.out;
  into = a.into;
  ring = a.ring;
  source = given (outs_of old) (outs_of new) (actor_of nodes from.spot) a.out a.source;
  sink = given (ins_of old) (ins_of new) (actor_of nodes to.spot) a.into a.sink;
}

-- and those that were there stay
ring_kept : (nodes : ℕ) (old new : List Job) (from to a b : Port) → AddsRing nodes old from to new → HasRing nodes old a b → HasRing nodes new a b
ring_kept nodes old new from to a b m h = record {
  out = h.out;
  into = h.into;
  ring = h.ring;
  source = kept (outs_of old) (outs_of new) (actor_of nodes from.spot) m.out m.source (actor_of nodes a.spot) h.out h.source;
  sink = kept (ins_of old) (ins_of new) (actor_of nodes to.spot) m.into m.sink (actor_of nodes b.spot) h.into h.sink;
}

pub is_at : (nodes actor link : ℕ) (port : Port) → actor ≡ actor_of nodes port.spot → link ≡ port.link → is_link nodes actor link port ≡ true
is_at nodes actor link port a b = ap (λ z. z && (port.link == link)) (eq-eqb (actor_of nodes port.spot) actor (sym a)) ∙ eq-eqb port.link link (sym b)

pub on_later : (p : Plan) (n k link : ℕ) → IsOnWire p n k link → IsOnWire p (n + 1) k link
on_later p n k link (i, w, side, less, is, at) = (i, w, side, omega (arith, less), is, at)

module _ (p : Plan) (n : ℕ) (w : Wire) (is : slice_get p.wires n ≡ Some w) where
  out_on : (old new : List Job) (from to : Port) (side : Bool) → port_of w side ≡ from → AddsRing (length p.nodes) old from to new
      → ((k : ℕ) (o : Out) → Contains (outs_of old k) o → IsOnWire p (n + 1) k o.0) → (k : ℕ) (o : Out) → Contains (outs_of new k) o → IsOnWire p (n + 1) k o.0
  out_on old new from to side at m before k o h =
      elim (only (outs_of old) (outs_of new) (actor_of (length p.nodes) from.spot) m.out m.source k o h) [
        | inl was ↦ before k o was
        | inr same ↦ (
          n,
          w,
          side,
          omega arith,
          is,
          subst (λ q. is_link (length p.nodes) k o.0 q ≡ true) (sym at) (is_at (length p.nodes) k o.0 from same.0 (sym (ap (λ (v : Out). v.0) same.1) ∙ m.ring.near)),
        )
      ]

  in_on : (old new : List Job) (from to : Port) (side : Bool) → port_of w side ≡ to → AddsRing (length p.nodes) old from to new
      → ((k : ℕ) (o : In) → Contains (ins_of old k) o → IsOnWire p (n + 1) k o.0) → (k : ℕ) (o : In) → Contains (ins_of new k) o → IsOnWire p (n + 1) k o.0
  in_on old new from to side at m before k o h =
      elim (only (ins_of old) (ins_of new) (actor_of (length p.nodes) to.spot) m.into m.sink k o h) [
        | inl was ↦ before k o was
        | inr same ↦ (
          n,
          w,
          side,
          omega arith,
          is,
          subst (λ q. is_link (length p.nodes) k o.0 q ≡ true) (sym at) (is_at (length p.nodes) k o.0 to same.0 (sym (ap (λ (v : In). v.0) same.1) ∙ m.ring.far)),
        )
      ]

  -- the rings of one wire more
  pub wired_more : (old mid new : List Job) → AreWired p n old → AddsRing (length p.nodes) old w.one w.two mid → AddsRing (length p.nodes) mid w.two w.one new → AreWired p (n + 1) new
  wired_more old mid new h one two = record {
    rings = λ i v less at. elim (cases_eq i n) [
      | inl e ↦ (
          let same : v ≡ w = same_Some v w (sym at ∙ (ap (slice_get p.wires) e ∙ is)) in
          subst (λ (x : Wire). HasRing (length p.nodes) new x.one x.two × HasRing (length p.nodes) new x.two x.one) (sym same)
          (ring_kept (length p.nodes) mid new w.two w.one w.one w.two two (ring_made (length p.nodes) old mid w.one w.two one), ring_made (length p.nodes) mid new w.two w.one two)
          )
      | inr ne ↦ (
          let was = h.rings i v (omega (arith, less, ne)) at in (
            ring_kept (length p.nodes) mid new w.two w.one v.one v.two two (ring_kept (length p.nodes) old mid w.one w.two v.one v.two one was.0),
            ring_kept (length p.nodes) mid new w.two w.one v.two v.one two (ring_kept (length p.nodes) old mid w.one w.two v.two v.one one was.1),
          )
          )
    ];
    outs = out_on mid new w.two w.one false refl two (out_on old mid w.one w.two true refl one (λ k o c. on_later p n k o.0 (h.outs k o c)));
    ins = in_on mid new w.two w.one true refl two (in_on old mid w.one w.two false refl one (λ k o c. on_later p n k o.0 (h.ins k o c)));
  }

nothing_in : {X : Type 0} (xs : List X) (x : X) → xs ≡ [] → Contains xs x → ⊥
nothing_in xs x e h = let n = ap length e in let less = h.1 in omega (arith, n, less)

-- before the first wire
pub wired_none : (p : Plan) (js : List Job) → AreBare js → AreWired p 0 js
wired_none p js bare = record {
  rings = λ i w less at. absurd (omega (arith, less));
  outs = λ k o h. absurd (nothing_in (outs_of js k) o (bare k).0 h);
  ins = λ k o h. absurd (nothing_in (ins_of js k) o (bare k).1 h);
}
