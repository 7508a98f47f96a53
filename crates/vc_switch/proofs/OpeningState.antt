-- A switch as it begins.
use Rattle.std.proofs.Common.{◌≡◌, ℕ, zero, suc, ◌<◌, ◌≤◌, ◌==◌, ◌||◌, Bool, true, false, List, [], ◌∷◌, ◌++◌, length, length-append, refl, sym, ap, ◌∙◌, subst, arith, slice_get, if◌then◌else◌, Option, Some, None, inl, inr}
use Rattle.std.proofs.lemmas.Bool.{cases_lt, ne_eqb}
use Rattle.std.proofs.lemmas.Option.{slice_get_past}
use Rattle.std.specs.List.{AllByRecursion}
use Rattle.vc_labels.specs.Lawful.{IsLawful}
use Rattle.vc_credit.specs.Ends.{new_sender}
use Rattle.vc_switch.specs.Switch.{new_input, new_switch}
use Rattle.vc_switch.specs.declared.switch_plan.RandomInput.{RandomInput}
use Rattle.vc_switch.specs.declared.switch_plan.SwitchPlan.{SwitchPlan as Given}
use Rattle.vc_switch.specs.declared.link_in.LinkIn.{LinkIn}
use Rattle.vc_switch.specs.State.{State, IsSwitch, IsRange, IsLinkIn, ArePaired, interval_of, output_of, bound_at, source_at, plan_of, limit_of}
use Rattle.vc_packets.specs.Functions.{shown_or}
use Rattle.vc_switch.specs.SwitchView.{seen, input_of, sender_of}
use Rattle.vc_switch.specs.Private.Opening.{listed, link_count, new_link_in, new_link_out}
use Rattle.vc_switch.specs.Opening.{range_given, deletes, plan_given, IsRandomInput}

pub count_is : link_count ≡ 32
unfolding link_count
count_is = refl

pub length-listed : {X : Type 0} (f : ℕ → X) (n : ℕ) → length (listed f n) ≡ n
length-listed f zero = refl
length-listed f (suc n) = let a = length-append (listed f n) (f n ∷ []) in let b = length-listed f n in omega (arith, a, b)

get_front : {X : Type 0} (xs ys : List X) (i : ℕ) → i < length xs → slice_get (xs ++ ys) i ≡ slice_get xs i
get_front [] ys i h = absurd (omega arith)
get_front (x ∷ xs) ys zero h = refl
get_front (x ∷ xs) ys (suc i) h = get_front xs ys i (omega arith)

get_end : {X : Type 0} (xs : List X) (y : X) → slice_get (xs ++ y ∷ []) (length xs) ≡ Some y
get_end [] y = refl
get_end (x ∷ xs) y = get_end xs y

pub get_listed : {X : Type 0} (f : ℕ → X) (n i : ℕ) → i < n → slice_get (listed f n) i ≡ Some (f i)
get_listed f zero i h = absurd (omega arith)
get_listed f (suc n) i h = elim (cases_lt i n) [
  | inl less ↦ (let k = length-listed f n in get_front (listed f n) (f n ∷ []) i (omega (arith, k, less)) ∙ get_listed f n i less)
  | inr more ↦ (let same : i ≡ n = omega (arith, h, more) in
      ap (slice_get (listed f (suc n))) (same ∙ sym (length-listed f n)) ∙ get_end (listed f n) (f n) ∙ ap (λ j. Some (f j)) (sym same))
]

pub get_past : {X : Type 0} (f : ℕ → X) (n i : ℕ) → n ≤ i → slice_get (listed f n) i ≡ None
get_past f n i h = let k = length-listed f n in slice_get_past (listed f n) i (omega (arith, k, h))

-- what all show
shown_listed : {X Y : Type 0} (show : X → Y) (d : Y) (x : X) (n i : ℕ) → show x ≡ d → shown_or d show (slice_get (listed (λ link. x) n) i) ≡ d
shown_listed show d x n i e = elim (cases_lt i n) [
  | inl less ↦ ap (shown_or d show) (get_listed (λ link. x) n i less) ∙ e
  | inr more ↦ ap (shown_or d show) (get_past (λ link. x) n i more)
]

all_append : {X : Type 0} (P : X → Type 0) (xs : List X) (y : X) → AllByRecursion P xs → P y → AllByRecursion P (xs ++ y ∷ [])
all_append P [] y h p = (p, tt)
all_append P (x ∷ xs) y h p = (h.0, all_append P xs y h.1 p)

all_listed : {X : Type 0} (P : X → Type 0) (f : ℕ → X) (n : ℕ) → ((i : ℕ) → P (f i)) → AllByRecursion P (listed f n)
all_listed P f zero p = tt
all_listed P f (suc n) p = all_append P (listed f n) (f n) (all_listed P f n p) (p n)

-- Ranges and deletions.

is_range_by : (r : RandomInput) (rs : List RandomInput) (link : ℕ) (b : Bool) → (r.link == link) ≡ b → IsRandomInput r → IsRange (range_given rs link) → IsRange (range_given (r ∷ rs) link)
is_range_by r rs link b is h rest = subst (λ z. IsRange (if z then Some (record { lower = r.lower; limit = r.limit }) else range_given rs link)) (sym is) (go b)
  where
    go : (b : Bool) → IsRange (if b then Some (record { lower = r.lower; limit = r.limit }) else range_given rs link)
    go true = (h.some, h.small)
    go false = rest

is_range : (rs : List RandomInput) (link : ℕ) → AllByRecursion IsRandomInput rs → IsRange (range_given rs link)
is_range [] link h = tt
is_range (r ∷ rs) link h = is_range_by r rs link (r.link == link) refl h.0 (is_range rs link h.1)

range_past : (rs : List RandomInput) (link : ℕ) → AllByRecursion IsRandomInput rs → 32 ≤ link → range_given rs link ≡ None
range_past [] link h past = refl
range_past (r ∷ rs) link h past =
    let low = h.0.link in
    ap (λ b. if b then Some (record { lower = r.lower; limit = r.limit }) else range_given rs link) (ne_eqb r.link link (λ e. absurd (omega (arith, low, e, past)))) ∙ range_past rs link h.1 past

deletes_past : (ls : List ℕ) (link : ℕ) → AllByRecursion (λ l. l < 32) ls → 32 ≤ link → deletes ls link ≡ false
deletes_past [] link h past = refl
deletes_past (l ∷ ls) link h past =
    let low = h.0 in
    ap (λ b. b || deletes ls link) (ne_eqb l link (λ e. absurd (omega (arith, low, e, past)))) ∙ deletes_past ls link h.1 past

-- The switch.

abbrev pub begun : Given → ℕ → State
begun p limit = record {
  table = p.table;
  ranges = listed (range_given p.random.now) link_count;
  deletes = listed (deletes p.delete.now) link_count;
  inputs = listed (λ link. new_link_in limit) link_count;
  outputs = listed (λ link. new_link_out) link_count;
  lost = 0;
}

pub begun_seen : (p : Given) (limit : ℕ) → seen (begun p limit) ≡ new_switch
begun_seen p limit = λ i. record {
  input = (λ link. shown_listed input_of new_input (new_link_in limit) link_count link refl i);
  output = (λ link. shown_listed (sender_of (listed (λ l. new_link_in limit) link_count)) new_sender new_link_out link_count link refl i);
  lost = 0;
}

random_is : (p : Given) (link : ℕ) → AllByRecursion IsRandomInput p.random.now → shown_or None interval_of (slice_get (listed (range_given p.random.now) link_count) link) ≡ interval_of (range_given p.random.now link)
random_is p link h = elim (cases_lt link link_count) [
  | inl less ↦ ap (shown_or None interval_of) (get_listed (range_given p.random.now) link_count link less)
  | inr more ↦ ap (shown_or None interval_of) (get_past (range_given p.random.now) link_count link more) ∙ sym (ap interval_of (range_past p.random.now link h (subst (λ n. n ≤ link) count_is more)))
]

deletes_is : (p : Given) (link : ℕ) → AllByRecursion (λ l. l < 32) p.delete.now → shown_or false (λ b. b) (slice_get (listed (deletes p.delete.now) link_count) link) ≡ deletes p.delete.now link
deletes_is p link h = elim (cases_lt link link_count) [
  | inl less ↦ ap (shown_or false (λ b. b)) (get_listed (deletes p.delete.now) link_count link less)
  | inr more ↦ ap (shown_or false (λ b. b)) (get_past (deletes p.delete.now) link_count link more) ∙ sym (deletes_past p.delete.now link h (subst (λ n. n ≤ link) count_is more))
]

pub begun_plan : (p : Given) (limit : ℕ) → AllByRecursion (λ l. l < 32) p.delete.now → AllByRecursion IsRandomInput p.random.now → plan_of (begun p limit) ≡ plan_given p
begun_plan p limit ds rs = λ i. record { table = p.table; random = (λ link. random_is p link rs i); deletes = (λ link. deletes_is p link ds i) }

limit_first : (xs : List LinkIn) → limit_of xs ≡ shown_or 0 (λ x. x.got.limit) (slice_get xs 0)
limit_first [] = refl
limit_first (x ∷ xs) = refl

pub begun_limit : (p : Given) (limit : ℕ) → limit_of (begun p limit).inputs ≡ limit
begun_limit p limit =
    limit_first (begun p limit).inputs
    ∙ ap (shown_or 0 (λ x. x.got.limit)) (get_listed (λ link. new_link_in limit) link_count 0 (subst (λ n. 0 < n) (sym count_is) (omega arith)))

none_paired : (f g : ℕ → Option ℕ) → ((i : ℕ) → f i ≡ None) → ((j : ℕ) → g j ≡ None) → ArePaired f g
none_paired f g none free = record {
  outs = λ j i e. (let q : None ≡ Some i = sym (free j) ∙ e in absurd (cc));
  ins = λ i j e. (let q : None ≡ Some j = sym (none i) ∙ e in absurd (cc));
}

pub begun_switch : (p : Given) (limit : ℕ) → IsLawful p.table → 2 ≤ limit → AllByRecursion IsRandomInput p.random.now → IsSwitch (begun p limit)
begun_switch p limit lawful room rs = record {
  range_links = length-listed (range_given p.random.now) link_count ∙ count_is;
  delete_links = length-listed (deletes p.delete.now) link_count ∙ count_is;
  input_links = length-listed (λ link. new_link_in limit) link_count ∙ count_is;
  output_links = length-listed (λ link. new_link_out) link_count ∙ count_is;
  table = lawful;
  ranges = all_listed IsRange (range_given p.random.now) link_count (λ link. is_range p.random.now link rs);
  room = subst (λ m. 2 ≤ m) (sym (begun_limit p limit)) room;
  inputs = all_listed (IsLinkIn (plan_of (begun p limit)) (limit_of (begun p limit).inputs)) (λ link. new_link_in limit) link_count (λ link. record { no_fct = tt; limit = sym (begun_limit p limit); bound = tt });
  paired = none_paired (bound_at (begun p limit).inputs) (source_at (begun p limit).outputs)
      (λ i. shown_listed (λ x. output_of x.bound) None (new_link_in limit) link_count i refl)
      (λ j. shown_listed (λ x. x.source) None new_link_out link_count j refl);
}
