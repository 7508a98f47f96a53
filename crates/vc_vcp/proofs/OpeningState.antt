-- A node's processor as it begins.
use Rattle.std.proofs.Common.{◌≡◌, ℕ, zero, suc, ◌<◌, Bool, true, false, List, [], ◌∷◌, refl, sym, ap, ◌∙◌, arith, slice_get, if◌then◌else◌, Option, Some, None, inl, inr, eq-eqb, nat_eq}
use Rattle.std.proofs.lemmas.Bool.{cases_eq, ne_eqb}
use Rattle.std.specs.List.{AllByRecursion}
use Rattle.vc_credit.specs.Ends.{new_sender, new_receiver}
use Rattle.vc_vcp.specs.declared.end.End.{End as Given}
use Rattle.vc_vcp.specs.Carrier.{End}
use Rattle.vc_vcp.specs.Names.{named, NamesDiffer, by_name}
use Rattle.vc_packets.specs.Functions.{shown_or}
use Rattle.vc_vcp.specs.Links.{new_vcp}
use Rattle.vc_vcp.specs.Private.Opening.{opened, with_opened, opened_output, opened_outputs, opened_input, opened_inputs, four, new_out, new_in}
use Rattle.vc_vcp.specs.Opening.{end_with, end_at, is_chan, NoneTwice, AreDistinct, ends_given}
use Rattle.vc_vcp.specs.State.{State, IsWired, HaveOwnNames, IsOutput, IsInput, IsLinkIn}
use Rattle.vc_vcp.specs.VcpView.{seen, ends_of, out_half, in_half, no_output, no_input, out_end, in_end}

-- where an element that was made comes from
record Origin {X : Type 0} (chan : Given → Option ℕ) (make : Given → ℕ → X) (es : List Given) (y : X) : Type 0 where
  place : ℕ
  end : Given
  name : ℕ
  here : slice_get es place ≡ Some end
  has : chan end ≡ Some name
  is : y ≡ make end name

behind : {X : Type 0} (chan : Given → Option ℕ) (make : Given → ℕ → X) (e : Given) (es : List Given) (y : X) → Origin chan make es y → Origin chan make (e ∷ es) y
behind chan make e es y o = record { place = suc o.place; end = o.end; name = o.name; here = o.here; has = o.has; is = o.is }

origin_by : {X : Type 0} (chan : Given → Option ℕ) (make : Given → ℕ → X) (e : Given) (es : List Given) → ((j : ℕ) (y : X) → slice_get (opened chan make es) j ≡ Some y → Origin chan make es y) →
    (o : Option ℕ) → chan e ≡ o → (j : ℕ) (y : X) → slice_get (with_opened make e o (opened chan make es)) j ≡ Some y → Origin chan make (e ∷ es) y
origin_by chan make e es rest None has j y h = behind chan make e es y (rest j y h)
origin_by chan make e es rest (Some c) has zero y h = record { place = zero; end = e; name = c; here = refl; has = has; is = (let q : y ≡ make e c = cc in q) }
origin_by chan make e es rest (Some c) has (suc j) y h = behind chan make e es y (rest j y h)

origin : {X : Type 0} (chan : Given → Option ℕ) (make : Given → ℕ → X) (es : List Given) (j : ℕ) (y : X) → slice_get (opened chan make es) j ≡ Some y → Origin chan make es y
origin chan make [] j y h = absurd (cc)
origin chan make (e ∷ es) j y h = origin_by chan make e es (origin chan make es) (chan e) refl j y h

differ_cons : {X : Type 0} (name : X → ℕ) (x : X) (xs : List X) → ((j : ℕ) (y : X) → slice_get xs j ≡ Some y → name x ≡ name y → ⊥) → NamesDiffer name xs → NamesDiffer name (x ∷ xs)
differ_cons name x xs never h zero zero a b ea eb e = refl
differ_cons name x xs never h zero (suc j) a b ea eb e = absurd (let q : x ≡ a = cc in never j b eb (ap name q ∙ e))
differ_cons name x xs never h (suc i) zero a b ea eb e = absurd (let q : x ≡ b = cc in never i a ea (ap name q ∙ sym e))
differ_cons name x xs never h (suc i) (suc j) a b ea eb e = ap suc (h i j a b ea eb e)

twice_tail : (chan : Given → Option ℕ) (e : Given) (es : List Given) → NoneTwice chan (e ∷ es) → NoneTwice chan es
twice_tail chan e es h i j c a b ea eb ca cb = let k = h (suc i) (suc j) c a b ea eb ca cb in omega arith

blocks_tail : (e : Given) (es : List Given) → NamesDiffer (λ x. x.block) (e ∷ es) → NamesDiffer (λ x. x.block) es
blocks_tail e es h i j a b ea eb q = let k = h (suc i) (suc j) a b ea eb q in omega arith

-- channels differ, as those of the ends do
chans_by : {X : Type 0} (chan : Given → Option ℕ) (make : Given → ℕ → X) (name : X → ℕ) → ((e : Given) (c : ℕ) → name (make e c) ≡ c) → (e : Given) (es : List Given) → NoneTwice chan (e ∷ es) →
    NamesDiffer name (opened chan make es) → (o : Option ℕ) → chan e ≡ o → NamesDiffer name (with_opened make e o (opened chan make es))
chans_by chan make name is e es h rest None has = rest
chans_by chan make name is e es h rest (Some c) has =
    differ_cons name (make e c) (opened chan make es)
    (λ j y at same. (let o = origin chan make es j y at in
    let n : c ≡ o.name = sym (is e c) ∙ same ∙ ap name o.is ∙ is o.end o.name in
    let z = h zero (suc o.place) c e o.end refl o.here has (o.has ∙ ap Some (sym n)) in
    let w : ⊥ = omega arith in w))
    rest

chans : {X : Type 0} (chan : Given → Option ℕ) (make : Given → ℕ → X) (name : X → ℕ) → ((e : Given) (c : ℕ) → name (make e c) ≡ c) → (es : List Given) → NoneTwice chan es → NamesDiffer name (opened chan make es)
chans chan make name is [] h = λ i j x y ei ej e. absurd (cc)
chans chan make name is (e ∷ es) h = chans_by chan make name is e es h (chans chan make name is es (twice_tail chan e es h)) (chan e) refl

-- blocks differ, as those of the ends do
blocks_by : {X : Type 0} (chan : Given → Option ℕ) (make : Given → ℕ → X) (name : X → ℕ) → ((e : Given) (c : ℕ) → name (make e c) ≡ e.block) → (e : Given) (es : List Given) → NamesDiffer (λ x. x.block) (e ∷ es) →
    NamesDiffer name (opened chan make es) → (o : Option ℕ) → chan e ≡ o → NamesDiffer name (with_opened make e o (opened chan make es))
blocks_by chan make name is e es h rest None has = rest
blocks_by chan make name is e es h rest (Some c) has =
    differ_cons name (make e c) (opened chan make es)
    (λ j y at same. (let o = origin chan make es j y at in
    let n : e.block ≡ o.end.block = sym (is e c) ∙ same ∙ ap name o.is ∙ is o.end o.name in
    let z = h zero (suc o.place) e o.end refl o.here n in
    let w : ⊥ = omega arith in w))
    rest

blocks : {X : Type 0} (chan : Given → Option ℕ) (make : Given → ℕ → X) (name : X → ℕ) → ((e : Given) (c : ℕ) → name (make e c) ≡ e.block) → (es : List Given) → NamesDiffer (λ x. x.block) es → NamesDiffer name (opened chan make es)
blocks chan make name is [] h = λ i j x y ei ej e. absurd (cc)
blocks chan make name is (e ∷ es) h = blocks_by chan make name is e es h (blocks chan make name is es (blocks_tail e es h)) (chan e) refl

all_opened_by : {X : Type 0} (make : Given → ℕ → X) (P : X → Type 0) → ((e : Given) (c : ℕ) → e.link < 4 → P (make e c)) → (e : Given) (xs : List X) (o : Option ℕ) → e.link < 4 → AllByRecursion P xs → AllByRecursion P (with_opened make e o xs)
all_opened_by make P is e xs None less h = h
all_opened_by make P is e xs (Some c) less h = (is e c less, h)

all_opened : {X : Type 0} (chan : Given → Option ℕ) (make : Given → ℕ → X) (P : X → Type 0) → ((e : Given) (c : ℕ) → e.link < 4 → P (make e c)) → (es : List Given) → AllByRecursion (λ e. e.link < 4) es → AllByRecursion P (opened chan make es)
all_opened chan make P is [] h = tt
all_opened chan make P is (e ∷ es) h = all_opened_by make P is e (opened chan make es) (chan e) h.0 (all_opened chan make P is es h.1)

-- what a list shows by name, one element more in front
shown_cons : {X Y : Type 0} (name : X → ℕ) (show : X → Y) (d : Y) (x : X) (xs : List X) (k c : ℕ) (y : Y) → name x ≡ c → show x ≡ y →
    by_name name show d (x ∷ xs) k ≡ (if nat_eq c k then y else by_name name show d xs k)
shown_cons name show d x xs k c y is shows = elim (cases_eq c k) [
  | inl e ↦ ap (λ t. shown_or d show (if t then Some x else named name k xs)) (eq-eqb (name x) k (is ∙ e)) ∙ shows ∙ sym (ap (λ t. if t then y else by_name name show d xs k) (eq-eqb c k e))
  | inr ne ↦ ap (λ t. shown_or d show (if t then Some x else named name k xs)) (ne_eqb (name x) k (λ q. ne (sym is ∙ q))) ∙ sym (ap (λ t. if t then y else by_name name show d xs k) (ne_eqb c k ne))
]

ends_by : {X : Type 0} (make : Given → ℕ → X) (name : X → ℕ) (show : X → Option End) → ((e : Given) (c : ℕ) → name (make e c) ≡ c) → ((e : Given) (c : ℕ) → show (make e c) ≡ Some (end_at e)) →
    (e : Given) (xs : List X) (o : Option ℕ) (k : ℕ) → by_name name show None (with_opened make e o xs) k ≡ (if is_chan k o then Some (end_at e) else by_name name show None xs k)
ends_by make name show is shows e xs None k = refl
ends_by make name show is shows e xs (Some c) k = shown_cons name show None (make e c) xs k c (Some (end_at e)) (is e c) (shows e c)

ends : {X : Type 0} (chan : Given → Option ℕ) (make : Given → ℕ → X) (name : X → ℕ) (show : X → Option End) → ((e : Given) (c : ℕ) → name (make e c) ≡ c) → ((e : Given) (c : ℕ) → show (make e c) ≡ Some (end_at e)) →
    (es : List Given) (k : ℕ) → by_name name show None (opened chan make es) k ≡ end_with chan es k
ends chan make name show is shows [] k = refl
ends chan make name show is shows (e ∷ es) k =
    ends_by make name show is shows e (opened chan make es) (chan e) k
    ∙ ap (λ r. if is_chan k (chan e) then Some (end_at e) else r) (ends chan make name show is shows es k)

same_if : {Y : Type 0} (b : Bool) (y : Y) → (if b then y else y) ≡ y
same_if true y = refl
same_if false y = refl

shows_none_by : {X Y : Type 0} (make : Given → ℕ → X) (name : X → ℕ) (show : X → Y) (d : Y) → ((e : Given) (c : ℕ) → name (make e c) ≡ c) → ((e : Given) (c : ℕ) → show (make e c) ≡ d) →
    (e : Given) (xs : List X) (o : Option ℕ) (k : ℕ) → by_name name show d xs k ≡ d → by_name name show d (with_opened make e o xs) k ≡ d
shows_none_by make name show d is shows e xs None k h = h
shows_none_by make name show d is shows e xs (Some c) k h = shown_cons name show d (make e c) xs k c d (is e c) (shows e c) ∙ ap (λ r. if nat_eq c k then d else r) h ∙ same_if (nat_eq c k) d

shows_none : {X Y : Type 0} (chan : Given → Option ℕ) (make : Given → ℕ → X) (name : X → ℕ) (show : X → Y) (d : Y) → ((e : Given) (c : ℕ) → name (make e c) ≡ c) → ((e : Given) (c : ℕ) → show (make e c) ≡ d) →
    (es : List Given) (k : ℕ) → by_name name show d (opened chan make es) k ≡ d
shows_none chan make name show d is shows [] k = refl
shows_none chan make name show d is shows (e ∷ es) k = shows_none_by make name show d is shows e (opened chan make es) (chan e) k (shows_none chan make name show d is shows es k)

abbrev pub begun : List Given → ℕ → State
begun es limit = record { outputs = opened_outputs es; inputs = opened_inputs es; outs = four new_out; ins = four (new_in limit); strays = 0 }

four_show : {X Y : Type 0} (show : X → Y) (d : Y) (x : X) (j : ℕ) → show x ≡ d → shown_or d show (slice_get (four x) j) ≡ d
four_show show d x zero e = e
four_show show d x (suc zero) e = e
four_show show d x (suc (suc zero)) e = e
four_show show d x (suc (suc (suc zero))) e = e
four_show show d x (suc (suc (suc (suc j)))) e = refl

pub begun_seen : (es : List Given) (limit : ℕ) → seen (begun es limit) ≡ new_vcp
begun_seen es limit = λ i. record {
  carrier = record {
    queue = λ l. four_show (λ x. x.queue) [] new_out l refl i;
    out = λ k. shows_none (λ e. e.output) opened_output (λ x. x.chan) out_half no_output (λ e c. refl) (λ e c. refl) es k i;
    into = λ k. shows_none (λ e. e.input) opened_input (λ x. x.chan) in_half no_input (λ e c. refl) (λ e c. refl) es k i;
    strays = 0;
  };
  link = λ l. record {
    sender = four_show (λ x. x.sender) new_sender new_out l refl i;
    receiver = four_show (λ x. x.receiver) new_receiver (new_in limit) l refl i;
    passed = four_show (λ x. x.passed) [] (new_in limit) l refl i;
  };
}

pub begun_ends : (es : List Given) (limit : ℕ) → ends_of (begun es limit) ≡ ends_given es
begun_ends es limit = λ i. record {
  output = λ k. ends (λ e. e.output) opened_output (λ x. x.chan) (λ x. Some (out_end x)) (λ e c. refl) (λ e c. refl) es k i;
  input = λ k. ends (λ e. e.input) opened_input (λ x. x.chan) (λ x. Some (in_end x)) (λ e c. refl) (λ e c. refl) es k i;
}

link_in : (limit : ℕ) → IsLinkIn limit (new_in limit)
link_in limit = record { no_fct = tt; limit = refl }

pub begun_names : (es : List Given) → AreDistinct es → HaveOwnNames (opened_outputs es) (opened_inputs es)
begun_names es h = record {
  out_chans = chans (λ e. e.output) opened_output (λ x. x.chan) (λ e c. refl) es h.outputs;
  in_chans = chans (λ e. e.input) opened_input (λ x. x.chan) (λ e c. refl) es h.inputs;
  out_blocks = blocks (λ e. e.output) opened_output (λ x. x.block) (λ e c. refl) es h.blocks;
  in_blocks = blocks (λ e. e.input) opened_input (λ x. x.block) (λ e c. refl) es h.blocks;
}

pub begun_wired : (es : List Given) (limit : ℕ) → AllByRecursion (λ e. e.link < 4) es → AreDistinct es → IsWired (begun es limit)
begun_wired es limit links distinct = record {
  four_out = refl;
  four_in = refl;
  outputs = all_opened (λ e. e.output) opened_output IsOutput (λ e c less. record { link = less; offered = λ h. refl }) es links;
  inputs = all_opened (λ e. e.input) opened_input IsInput (λ e c less. record { link = less; held = tt; empty = λ h. refl }) es links;
  ins = (link_in limit, (link_in limit, (link_in limit, (link_in limit, tt))));
  names = begun_names es distinct;
}
