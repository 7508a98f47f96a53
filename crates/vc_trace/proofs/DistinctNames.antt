-- Names that differ.
use Rattle.std.proofs.Common.{◌≡◌, ◌<◌, ◌-◌, ◌+◌, ℕ, zero, suc, List, [], ◌∷◌, ◌++◌, true, false, length, map, get_or, slice_get, Some, refl, sym, ap, ◌∙◌, subst, arith, nat_lt, if◌then◌else◌, inl, inr}
use Rattle.std.specs.Borrow.{Bor}
use Rattle.std.specs.HashMap.{HashMap, UpdatesBy}
use Rattle.std.specs.List.{AllByRecursion, IsDistinct}
use Rattle.std.specs.Option.{option_map_or}
use Rattle.std.specs.Str.{bytes_eq}
use Rattle.std.proofs.lemmas.Bool.Decides.{nat_tests}
use Rattle.std.proofs.lemmas.Bool.{cases_lt, false_from_ne_true, lt-ltb}
use Rattle.std.proofs.lemmas.List.{get_or-append-add, length-append, length-map}
use Rattle.std.proofs.Math.ListN.{get_or-append}
use Rattle.std.proofs.lemmas.Map.Keys.{IsDistinct-head, IsDistinct-tail}
use Rattle.std.proofs.lemmas.Slice.Eq.{bytes_eq-Decides}
use Rattle.std.proofs.lemmas.Map.Text.{hash_map_updates_str}
use Rattle.vc_plan.specs.declared.channel.Channel.{Channel}
use Rattle.vc_plan.specs.declared.node_plan.NodePlan.{NodePlan}
use Rattle.vc_plan.specs.declared.plan.Plan.{Plan}
use Rattle.vc_plan.specs.declared.switch_plan.SwitchPlan.{SwitchPlan}
use Rattle.vc_plan.specs.Names.{actor_name, channel_name}
use Rattle.vc_trace.specs.EventOf.{IsActor, IsChannel}
use Rattle.vc_trace.specs.Private.EventOf.{IsNamed}
use Rattle.vc_trace.specs.Private.Names.{AreNumbered, number_at}

same_bytes : (xs : List ℕ) → bytes_eq xs xs ≡ true
same_bytes xs = (bytes_eq-Decides xs xs).1 refl

later : (x : List ℕ) (xs : List (List ℕ)) (k : ℕ) → AllByRecursion (λ y. bytes_eq x y ≡ false) xs → k < length xs → x ≡ get_or xs k [] → ⊥
later x [] k all less same = absurd (omega (arith, less))
later x (y ∷ ys) zero all less same = let e : bytes_eq x x ≡ false = subst (λ z. bytes_eq x z ≡ false) (sym same) all.0 in let t = same_bytes x in cc
later x (y ∷ ys) (suc k) all less same = later x ys k all.1 (omega (arith, less)) same

distinct : (xs : List (List ℕ)) → IsDistinct bytes_eq xs → (i k : ℕ) → i < length xs → k < length xs → get_or xs i [] ≡ get_or xs k [] → i ≡ k
distinct [] is i k here there same = absurd (omega (arith, here))
distinct (x ∷ xs) is zero zero here there same = refl
distinct (x ∷ xs) is zero (suc k) here there same = absurd (later x xs k (IsDistinct-head bytes_eq x xs is) (omega (arith, there)) same)
distinct (x ∷ xs) is (suc i) zero here there same = absurd (later x xs i (IsDistinct-head bytes_eq x xs is) (omega (arith, here)) (sym same))
distinct (x ∷ xs) is (suc i) (suc k) here there same = ap suc (distinct xs (IsDistinct-tail bytes_eq x xs is) i k (omega (arith, here)) (omega (arith, there)) same)

name_at : {A : Type 0} (name : A → List ℕ) (xs : List A) (k : ℕ) → option_map_or name (slice_get xs k) [] ≡ get_or (map name xs) k []
name_at name [] k = refl
name_at name (x ∷ xs) zero = refl
name_at name (x ∷ xs) (suc k) = name_at name xs k

-- two channels of one name are one
pub same_channel : (p : Plan) (i k : ℕ) → IsNamed p → IsChannel p i → IsChannel p k → channel_name p i ≡ channel_name p k → i ≡ k
same_channel p i k named here there same =
    let name : Channel → List ℕ = λ c. c.name in
    let many = length-map p.channels name in
    distinct (map name p.channels) named.names.channels i k (omega arith) (omega arith) (sym (name_at name p.channels i) ∙ same ∙ name_at name p.channels k)

-- the names of the actors
names : Plan → List (List ℕ)
names p = map (λ (n : NodePlan). n.name) p.nodes ++ map (λ (s : SwitchPlan). s.name) p.switches

joined : (xs ys : List (List ℕ)) (n k : ℕ) → n ≡ length xs → (if nat_lt k n then get_or xs k [] else get_or ys (k - n) []) ≡ get_or (xs ++ ys) k []
joined xs ys n k many =
    elim (cases_lt k n) [
      | inl less ↦ (let b : nat_lt k n ≡ true = lt-ltb k n less in rw b (sym (get_or-append xs ys [] k (omega (arith, many)))))
      | inr more ↦ (let b : nat_lt k n ≡ false = grind (arith, nat_tests) in let at : length xs + (k - n) ≡ k = omega (arith, many) in rw b (sym (get_or-append-add xs ys (k - n) []) ∙ ap (λ z. get_or (xs ++ ys) z []) at))
    ]

named_at : (p : Plan) (k : ℕ) → actor_name p k ≡ get_or (names p) k []
unfolding names
named_at p k =
    let nodes : NodePlan → List ℕ = λ n. n.name in
    let switches : SwitchPlan → List ℕ = λ s. s.name in
    rw (name_at nodes p.nodes k, name_at switches p.switches (k - length p.nodes)) (joined (map nodes p.nodes) (map switches p.switches) (length p.nodes) k (sym (length-map p.nodes nodes)))

-- two actors of one name are one
pub same_actor : (p : Plan) (i k : ℕ) → IsNamed p → IsActor p i → IsActor p k → actor_name p i ≡ actor_name p k → i ≡ k
unfolding names
same_actor p i k named here there same =
    let nodes : NodePlan → List ℕ = λ n. n.name in
    let switches : SwitchPlan → List ℕ = λ s. s.name in
    let many : length (names p) ≡ length p.nodes + length p.switches = length-append (map nodes p.nodes) (map switches p.switches) ∙ (let a = length-map p.nodes nodes in let b = length-map p.switches switches in omega arith) in
    distinct (names p) named.names.places i k (omega arith) (omega arith) (sym (named_at p i) ∙ same ∙ named_at p k)

-- one number more, by a name of its own
pub numbered_more : {S : Type 0} (name_of : ℕ → List ℕ) (n : ℕ) (key : List ℕ) (old new : HashMap (Bor (List ℕ)) ℕ S) → key ≡ name_of n → ((k : ℕ) → k < n → name_of n ≡ name_of k → ⊥) →
    UpdatesBy (λ x y. bytes_eq x.now y.now) (λ z. bytes_eq key z.now) old new (Some n) → AreNumbered name_of n old → AreNumbered name_of (n + 1) new
numbered_more name_of n key old new is apart updates all = λ k less.
    let found = hash_map_updates_str key old new (Some n) updates (name_of k) in
    elim (cases_lt k n) [
      | inl before ↦ (let other : bytes_eq key (name_of k) ≡ false = false_from_ne_true _ (λ same. apart k before (sym is ∙ (bytes_eq-Decides key (name_of k)).0 same)) in
          found ∙ ap (λ b. if b then Some n else number_at old (name_of k)) other ∙ all k before)
      | inr past ↦ (let here : n ≡ k = omega arith in let same : bytes_eq key (name_of k) ≡ true = (bytes_eq-Decides key (name_of k)).1 (is ∙ ap name_of here) in
          found ∙ ap (λ b. if b then Some n else number_at old (name_of k)) same ∙ ap Some here)
    ]

-- names of channels, and of actors
pub channel_apart : (p : Plan) (n k : ℕ) → IsNamed p → IsChannel p n → k < n → channel_name p n ≡ channel_name p k → ⊥
channel_apart p n k named here less same =
    let there : IsChannel p k = omega arith in
    let e = same_channel p n k named here there same in absurd (omega (arith, e))

pub actor_apart : (p : Plan) (n k : ℕ) → IsNamed p → IsActor p n → k < n → actor_name p n ≡ actor_name p k → ⊥
actor_apart p n k named here less same =
    let there : IsActor p k = omega arith in
    let e = same_actor p n k named here there same in absurd (omega (arith, e))
