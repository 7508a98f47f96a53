-- Names and numbers are words.
use Rattle.std.proofs.Common.{◌≡◌, ◌<◌, ◌-◌, ◌+◌, ◌^◌, ◌==◌, ◌%◌, ℕ, zero, suc, List, [], ◌∷◌, ◌++◌, true, false, not, length, get_or, slice_get, Option, Some, None, refl, sym, ap, ◌∙◌, subst, arith, decimal, nat_lt, if◌then◌else◌, codes, inl, inr}
use Rattle.std.specs.List.{All, list_all}
use Rattle.std.specs.Option.{option_map_or}
use Rattle.std.proofs.lemmas.Bool.Decides.{nat_tests}
use Rattle.std.proofs.lemmas.Fmt.{decimal_by_steps, decimal_digit, first_decimal}
use Rattle.std.proofs.lemmas.List.Folds.{list_all-append}
use Rattle.std.proofs.lemmas.Option.{slice_get_cases}
use Rattle.std.proofs.lemmas.Bool.{and_parts}
use Rattle.vc_plan.specs.declared.channel.Channel.{Channel}
use Rattle.vc_plan.specs.declared.node_plan.NodePlan.{NodePlan}
use Rattle.vc_plan.specs.declared.plan.Plan.{Plan}
use Rattle.vc_plan.specs.declared.switch_plan.SwitchPlan.{SwitchPlan}
use Rattle.vc_plan.specs.KeptLimits.{IsChannelInLimits, IsName, IsNodeInLimits, IsSwitchInLimits}
use Rattle.vc_plan.specs.Limits.{is_name_byte}
use Rattle.vc_plan.specs.Names.{actor_name, channel_name, node_name, switch_name}
use Rattle.vc_trace.specs.EventOf.{IsGuard}
use Rattle.vc_trace.specs.Private.EventOf.{IsNamed}
use Rattle.vc_trace.specs.EventText.{guard_word}
use Rattle.vc_trace.specs.Private.Words.{IsWord}

-- the digits of a number
digit : (n : ℕ) → n < 10 → not ((48 + n) == 32) ≡ true
digit n less = grind (arith, nat_tests)

more : (ds : List ℕ) (n : ℕ) → n < 10 → IsWord ds → IsWord (ds ++ (48 + n) ∷ [])
more ds n less is = list_all-append _ ds ((48 + n) ∷ []) ∙ rw (is, digit n less) refl

pub word_decimal : (n : ℕ) → n < 2 ^ 64 → IsWord (decimal n)
word_decimal n less = decimal_by_steps (λ m ds. IsWord ds) (λ m small. rw (digit m small) refl) (λ m ds many is. more ds (m % 10) (omega arith) is) n less

-- no number is -
pub no_dash : (n : ℕ) → n < 2 ^ 64 → decimal n ≡ codes "-" → ⊥
no_dash zero less is = let first : 48 + 0 ≡ 45 = ap (λ ds. get_or ds 0 0) (sym (decimal_digit 0 (omega arith)) ∙ is) in absurd (omega (arith, first))
no_dash (suc n) less is = let first : 48 < get_or (decimal (suc n)) 0 0 = first_decimal (suc n) (omega arith) less in absurd (omega (arith, subst (λ ds. 48 < get_or ds 0 0) is first))

pub dash_only : (guard : Option ℕ) (word : List ℕ) → IsGuard guard → word ≡ guard_word guard → word ≡ codes "-" → None ≡ guard
dash_only None word is here dash = refl
dash_only (Some n) word is here dash = absurd (no_dash n (omega (arith, is)) (sym here ∙ dash))

pub word_guard : (guard : Option ℕ) → IsGuard guard → IsWord (guard_word guard)
word_guard None is = refl
word_guard (Some n) is = word_decimal n (omega (arith, is))

-- the bytes of a name
name_byte : (b : ℕ) → is_name_byte b ≡ true → not (b == 32) ≡ true
name_byte b is = grind (arith, nat_tests)

word_bytes : (name : List ℕ) → list_all is_name_byte name ≡ true → IsWord name
word_bytes [] all = refl
word_bytes (b ∷ bs) all = let e = and_parts _ _ all in rw (name_byte b e.0) (word_bytes bs e.1)

word_name : (name : List ℕ) → IsName name → IsWord name
word_name name is = word_bytes name (and_parts _ _ (and_parts _ _ is).1).1

name_of : {A : Type 0} (name : A → List ℕ) (P : A → Type 0) (xs : List A) (k : ℕ) → All P xs → ((x : A) → P x → IsName (name x)) → IsWord (option_map_or name (slice_get xs k) [])
name_of name P xs k all is = elim (slice_get_cases xs k).1 [
  | inl (x, less, here, at) ↦ rw here (word_name (name x) (is x (subst P at (all k x less))))
  | inr (past, none) ↦ rw none refl
]

pub word_channel : (p : Plan) (c : ℕ) → IsNamed p → IsWord (channel_name p c)
word_channel p c named = name_of (λ (x : Channel). x.name) (IsChannelInLimits p) p.channels c named.accepted.limits.channels (λ x is. is.name)

pub word_actor : (p : Plan) (k : ℕ) → IsNamed p → IsWord (actor_name p k)
word_actor p k named =
    elim (nat_lt k (length p.nodes)) as (λ b. IsWord (if b then node_name p k else switch_name p (k - length p.nodes))) [
      | true ↦ name_of (λ (x : NodePlan). x.name) (IsNodeInLimits p) p.nodes k named.accepted.limits.nodes (λ x is. is.name)
      | false ↦ name_of (λ (x : SwitchPlan). x.name) IsSwitchInLimits p.switches (k - length p.nodes) named.accepted.limits.switches (λ x is. is.name)
    ]
