-- The bits of the links by which tokens come, as tokens come and go.
use Rattle.std.proofs.Common.{◌≡◌, ◌≢◌, ◌↔◌, ℕ, ◌+◌, ◌*◌, ◌<◌, ◌⊎◌, List, [], ◌∷◌, ◌++◌, length, get_or, slice_get, slice_set, Option, Some, None, IfSome, MatchOption, Result, Ok, Err, OnErr, refl, sym, ap, ◌∙◌, subst, arith, inl, inr}
use Rattle.std.proofs.lemmas.Bool.{cases_eq}
use Rattle.std.proofs.lemmas.List.{length-set, length-map}
use Rattle.std.proofs.lemmas.Nat.Bits.{bit_at-zero}
use Rattle.std.specs.Int.{bit_at}
use Rattle.std.specs.List.{AllByRecursion}
use Rattle.std.specs.Option.{option_map}
use Rattle.vc_network.specs.Plan.{back}
use Rattle.vc_accepted.specs.NetworkOf.{wire_of}
use Rattle.vc_accepted.proofs.WayPorts.{outgoing_is, incoming_is}
use Rattle.vc_plan.specs.Accepted.{IsAccepted}
use Rattle.vc_plan.specs.declared.plan.Plan.{Plan}
use Rattle.vc_switch.specs.Masks.{IsLowest}
use Rattle.vc_tokens.specs.Tokens.{Token}
use Rattle.vc_packets.specs.Functions.{shown_or}
use Rattle.vc_vcp.proofs.ListWrites.{place-set_same, place-set_other}
use Rattle.vc_core.specs.Fronts.{bit_of}
use Rattle.vc_core.specs.Private.Fronts.{Marked}
use Rattle.vc_core.specs.Lines.{AreLined}
use Rattle.vc_core.specs.Wiring.{out_at, in_at, AreWaysAt, IsWired, Comes, Goes}
use Rattle.vc_core.specs.State.{State, HasFront}
use Rattle.vc_core.specs.Turns.{FindsFront}
use Rattle.vc_actor.proofs.Masks.{not_both}
use Rattle.vc_core.proofs.ReplayRuns.{no_token}
use Rattle.vc_core.proofs.WaysOut.{few_actors, out_within, in_out}
use Rattle.vc_core.proofs.Turns.{few_at}
use Rattle.vc_switch.proofs.ListWrites.{some_at}

pub in_few : (wiring : List (Option ℕ)) (k l w : ℕ) → in_at wiring k l ≡ Some w → l < 32
in_few wiring k l w e = let v = in_out (out_at wiring k l) w e in few_at wiring k l v.0 v.1

both_or : (j k i l : ℕ) → ((j ≡ k) × (i ≡ l)) ⊎ ((j ≡ k) × (i ≡ l) → ⊥)
both_or j k i l = elim (cases_eq j k) [
  | inl a ↦ elim (cases_eq i l) [ inl b ↦ inl (a, b) | inr ne ↦ inr (λ both. ne both.1) ]
  | inr ne ↦ inr (λ both. ne both.0)
]

-- At first no token is there.

empty_at : (ways : List (List Token)) → AllByRecursion (λ way. way ≡ []) ways → (w : ℕ) (t : Token) (rest : List Token) → slice_get ways w ≡ Some (t ∷ rest) → ⊥
empty_at ways all w t rest e = let z : t ∷ rest ≡ [] = sym (ap (shown_or [] (λ ts. ts)) e) ∙ no_token ways all w in absurd (cc)

pub at_first : (p : Plan) → IsAccepted p → (wiring : List (Option ℕ)) (ways : List (List Token)) (fronts : List ℕ) → AreWaysAt p wiring → length wiring ≡ (length p.nodes + length p.switches) * 32 →
    ((k l j i way : ℕ) → in_at wiring k l ≡ Some way → in_at wiring j i ≡ Some way → (j ≡ k) × (i ≡ l)) → ((way : ℕ) → way < 2 * length p.wires → (k : ℕ) × (l : ℕ) × (in_at wiring k l ≡ Some way)) → length ways ≡ 2 * length p.wires → AllByRecursion (λ way. way ≡ []) ways →
    length fronts ≡ 256 → ((k : ℕ) → get_or fronts k 0 ≡ 0) → AreLined wiring ways fronts
at_first p acc wiring ways fronts tells long one into count empty actors none = record {
  real = λ k l w out. (let o = (outgoing_is p acc k l w).0 (sym (tells k l) ∙ out) in let less = o.0 in let many = length-map p.wires wire_of in omega arith);
  near = λ k l w into. (let o = (incoming_is p acc k l w).0 (sym (ap (option_map back) (tells k l)) ∙ into) in let less = o.0 in let many = length-map p.wires wire_of in omega arith);
  one = one;
  into = λ w less. into w (subst (λ n. w < n) count less);
  few = λ k l w into. (let v = in_out (out_at wiring k l) w into in let within = out_within wiring k l v.0 v.1 in let few = few_actors p acc in omega (arith, within, long, few));
  long = λ k l w into. (let v = in_out (out_at wiring k l) w into in let within = out_within wiring k l v.0 v.1 in let few = few_actors p acc in omega (arith, within, long, actors, few));
  told = λ k l few. (
    (λ t. absurd (let z : bit_of fronts k l ≡ 0 = ap (λ y. bit_at y l) (none k) ∙ bit_at-zero l in omega (arith, z, t))),
    (λ f. absurd (empty_at ways empty f.way f.token f.rest f.stands)),
  );
}

-- What comes by a link whose way is another stays.

module _ (wiring : List (Option ℕ)) (ways : List (List Token)) (w : ℕ) (ts : List Token) (j i : ℕ) (other : in_at wiring j i ≡ Some w → ⊥) where
  apart : (v : ℕ) → in_at wiring j i ≡ Some v → v ≢ w
  apart v into same = other (into ∙ ap Some same)

  pub still_comes : Comes wiring ways j i → Comes wiring (slice_set ways w ts) j i
  still_comes f = record { way = f.way; token = f.token; rest = f.rest; into = f.into; stands = place-set_other ways w f.way ts (apart f.way f.into) ∙ f.stands }

  pub came_before : Comes wiring (slice_set ways w ts) j i → Comes wiring ways j i
  came_before f = record { way = f.way; token = f.token; rest = f.rest; into = f.into; stands = sym (place-set_other ways w f.way ts (apart f.way f.into)) ∙ f.stands }

  pub comes_still : {b : ℕ} → (b ≡ 1) ↔ Comes wiring ways j i → (b ≡ 1) ↔ Comes wiring (slice_set ways w ts) j i
  comes_still told = ((λ t. still_comes (told.0 t)), (λ f. told.1 (came_before f)))

module _ (wiring : List (Option ℕ)) (ways : List (List Token)) (fronts : List ℕ) (are : AreLined wiring ways fronts) (w : ℕ) (ts : List Token) where
  abbrev new : List (List Token)
  new = slice_set ways w ts

  real_still : (k l v : ℕ) → out_at wiring k l ≡ Some v → v < length new
  real_still k l v e = subst (λ n. v < n) (sym (length-set ways w ts)) (are.real k l v e)

  near_still : (k l v : ℕ) → in_at wiring k l ≡ Some v → v < length new
  near_still k l v e = subst (λ n. v < n) (sym (length-set ways w ts)) (are.near k l v e)

  into_still : (v : ℕ) → v < length new → (k : ℕ) × (l : ℕ) × (in_at wiring k l ≡ Some v)
  into_still v less = are.into v (subst (λ n. v < n) (length-set ways w ts) less)

  module _ (k l : ℕ) (into : in_at wiring k l ≡ Some w) (less : w < length ways) where
    apart_from : (j i : ℕ) → ((j ≡ k) × (i ≡ l) → ⊥) → in_at wiring j i ≡ Some w → ⊥
    apart_from j i other e = other (are.one k l j i w into e)

    -- tokens stand there still
    here_now : (t : Token) (rest : List Token) → ts ≡ t ∷ rest → Comes wiring new k l
    here_now t rest is = record { way = w; token = t; rest = rest; into = into; stands = place-set_same ways w ts less ∙ ap Some is }

    none_now : ts ≡ [] → Comes wiring new k l → ⊥
    none_now is f =
        let same : Some f.way ≡ Some w = sym f.into ∙ into in
        let at : f.way ≡ w = cc in
        let both : Some (f.token ∷ f.rest) ≡ Some [] = sym f.stands ∙ ap (slice_get new) at ∙ place-set_same ways w ts less ∙ ap Some is in
        absurd (cc)

    by_marks : (marks : List ℕ) (b : ℕ) → Marked fronts k l b marks → ((b ≡ 1) ↔ Comes wiring new k l) → AreLined wiring new marks
    by_marks marks b m here = record {
      real = real_still;
      near = near_still;
      one = are.one;
      into = into_still;
      few = are.few;
      long = λ j i v e. subst (λ n. j < n) (sym m.count) (are.long j i v e);
      told = λ j i few. elim (both_or j k i l) [
        | inl same ↦ subst (λ z. (bit_of marks z i ≡ 1) ↔ Comes wiring new z i) (sym same.0) (subst (λ z. (bit_of marks k z ≡ 1) ↔ Comes wiring new k z) (sym same.1) (subst (λ z. (z ≡ 1) ↔ Comes wiring new k l) (sym m.it) here))
        | inr other ↦ subst (λ z. (z ≡ 1) ↔ Comes wiring new j i) (sym (m.others j i few other)) (comes_still wiring ways w ts j i (apart_from j i other) (are.told j i few))
      ];
    }

    -- a token came
    pub comes_now : (marks : List ℕ) (t : Token) (rest : List Token) → ts ≡ t ∷ rest → Marked fronts k l 1 marks → AreLined wiring new marks
    comes_now marks t rest is m = by_marks marks 1 m ((λ e. here_now t rest is), (λ f. refl))

    -- the last one was taken
    pub comes_no_more : (marks : List ℕ) → ts ≡ [] → Marked fronts k l 0 marks → AreLined wiring new marks
    comes_no_more marks is m = by_marks marks 0 m ((λ e. absurd (let z : 0 ≡ 1 = e in omega arith)), (λ f. absurd (none_now is f)))

    -- one was taken, and others stand behind it
    pub comes_yet : (t : Token) (rest : List Token) → ts ≡ t ∷ rest → Comes wiring ways k l → AreLined wiring new fronts
    comes_yet t rest is before = by_marks fronts 1 (record { count = refl; it = (are.told k l (in_few wiring k l w into)).1 before; others = λ j i few other. refl }) ((λ e. here_now t rest is), (λ f. refl))

-- the bits of room are those of the ways that go out
pub goes_of : (wiring : List (Option ℕ)) (ways : List (List Token)) (fronts : List ℕ) (k l b : ℕ) → AreLined wiring ways fronts → (b ≡ 1) ↔ IsWired wiring k l → (b ≡ 1) ↔ Goes wiring ways k l
goes_of wiring ways fronts k l b are told = (
  (λ t. let w = told.0 t in let x = some_at ways w.0 (are.real k l w.0 w.1) in record { way = w.0; tokens = x.0; out = w.1; stand = x.1 }),
  (λ g. told.1 (g.way, g.out)),
)

pub some_all : {X : Type 0} (P : X → Type 0) (o : Option X) → ((x : X) → o ≡ Some x → P x) → IfSome o P
some_all P (Some x) h = h x refl
some_all P None h = tt

-- what is at the end of a list is in it
pub end_first : {X : Type 0} (xs : List X) (x : X) → (y : X) × (ys : List X) × (xs ++ x ∷ [] ≡ y ∷ ys)
end_first [] x = (x, [], refl)
end_first (z ∷ zs) x = (z, zs ++ x ∷ [], refl)

-- the least link that some_at its bit is the least by which a token comes
pub least_front : (s : State) (k mask : ℕ) (o : Option ℕ) → ((l : ℕ) → l < 32 → (bit_at mask l ≡ 1) ↔ HasFront s k l) →
    MatchOption o ((l : ℕ) → bit_at mask l ≡ 0) (λ link. (link < 32) × IsLowest mask link) → FindsFront s k o
least_front s k mask None bits none = λ l f. not_both (none l) ((bits l (in_few s.wiring k l f.way f.into)).1 f)
least_front s k mask (Some link) bits (few, (set, least)) = ((bits link few).0 set, (λ l less f. not_both (least l less) ((bits l (omega arith)).1 f)))

pub not_empty : (ts : List Token) → (ts ≡ [] → ⊥) → (t : Token) × (rest : List Token) × (ts ≡ t ∷ rest)
not_empty [] ne = absurd (ne refl)
not_empty (t ∷ ts) ne = (t, ts, refl)

pub err_all : {X E P : Type 0} (r : Result X E) → P → OnErr r P
err_all (Ok x) h = tt
err_all (Err e) h = h
