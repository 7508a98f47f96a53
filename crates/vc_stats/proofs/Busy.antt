-- How long something is busy.
use Rattle.std.proofs.Common.{◌≡◌, ℕ, suc, ◌+◌, ◌≤◌, ◌<◌, Bool, true, false, cond, List, [], ◌∷◌, ◌++◌, length, length-append, map, count_by, refl, sym, ap, ◌∙◌, subst, arith}
use Rattle.std.proofs.lemmas.List.Sums.{count_by-le-length, sum_by-append}
use Rattle.std.specs.List.{range_with_len}
use Rattle.vc_stats.specs.Times.{IsTimeOf, IsWithin, busy_of, is_busy, time_at}
use Rattle.vc_stats.specs.Private.Times.{turned}
use Rattle.vc_stats.specs.declared.busy_time.BusyTime.{BusyTime}
use Rattle.vc_stats.specs.declared.busy_time.BusyTime.TheVariants.{Busy, Idle}

-- how many are so, with one more
abbrev pub one_if : Bool → ℕ
one_if b = cond b 1 0

pub count_more : {X : Type 0} (u : X → Bool) (xs : List X) (w : X) → count_by u (xs ++ w ∷ []) ≡ count_by u xs + one_if (u w)
count_more u xs w = sum_by-append (λ x. one_if (u x)) xs (w ∷ []) ∙ (let e : 0 + one_if (u w) ≡ one_if (u w) = omega arith in ap (λ k. count_by u xs + k) e)

-- the time goes on as it is
still_of : (time : BusyTime) (n k : ℕ) (b : Bool) → busy_of time n ≡ k → is_busy time ≡ b → IsWithin n time → busy_of time (n + 1) ≡ k + one_if b
still_of (Busy idle) n k true told now within = omega (arith, told, within)
still_of (Busy idle) n k false told now within = absurd (cc)
still_of (Idle busy) n k true told now within = absurd (cc)
still_of (Idle busy) n k false told now within = omega (arith, told)

within_more : (time : BusyTime) (n : ℕ) → IsWithin n time → IsWithin (n + 1) time
within_more (Busy idle) n within = omega (arith, within)
within_more (Idle busy) n within = tt

longer : {X : Type 0} (xs : List X) (w : X) → length (xs ++ w ∷ []) ≡ length xs + 1
longer xs w = length-append xs (w ∷ [])

pub still : {X : Type 0} (u : X → Bool) (xs : List X) (x w : X) (time : BusyTime) → IsTimeOf u xs x time → u w ≡ u x → IsTimeOf u (xs ++ w ∷ []) w time
still u xs x w time is same = record {
  told = ap (busy_of time) (longer xs w) ∙ still_of time (length xs) (count_by u xs) (u w) is.told (is.now ∙ sym same) is.within ∙ sym (count_more u xs w);
  now = is.now ∙ sym same;
  within = subst (λ n. IsWithin n time) (sym (longer xs w)) (within_more time (length xs) is.within);
}

-- the time turns
turned_of : (b : Bool) (time : BusyTime) (n k : ℕ) → busy_of time n ≡ k → k ≤ n → busy_of (turned b n time) (n + 1) ≡ k + one_if b
turned_of true time n k told few = omega (arith, told, few)
turned_of false time n k told few = omega (arith, told)

turned_now : (b : Bool) (time : BusyTime) (n : ℕ) → is_busy (turned b n time) ≡ b
turned_now true time n = refl
turned_now false time n = refl

turned_within : (b : Bool) (time : BusyTime) (n : ℕ) → IsWithin (n + 1) (turned b n time)
turned_within true time n = omega arith
turned_within false time n = tt

pub turns : {X : Type 0} (u : X → Bool) (xs : List X) (x w : X) (time : BusyTime) → IsTimeOf u xs x time → IsTimeOf u (xs ++ w ∷ []) w (turned (u w) (length xs) time)
turns u xs x w time is = record {
  told = ap (busy_of (turned (u w) (length xs) time)) (longer xs w) ∙ turned_of (u w) time (length xs) (count_by u xs) is.told (count_by-le-length u xs) ∙ sym (count_more u xs w);
  now = turned_now (u w) time (length xs);
  within = subst (λ n. IsWithin n (turned (u w) (length xs) time)) (sym (longer xs w)) (turned_within (u w) time (length xs));
}

-- a channel that never was busy
pub idle_of : {X : Type 0} (u : X → Bool) (x : X) (time : BusyTime) → time ≡ Idle 0 → u x ≡ false → IsTimeOf u [] x time
idle_of u x time is none = subst (IsTimeOf u [] x) (sym is) (record { told = refl; now = sym none; within = tt })

-- a list made of times is one made of the channels' numbers
pub numbered : (f : BusyTime → ℕ) (g : ℕ → ℕ) (times : List BusyTime) (a : ℕ) → ((k : ℕ) → k < length times → f (time_at times k) ≡ g (a + k)) → map f times ≡ map g (range_with_len a (length times))
numbered f g [] a each = refl
numbered f g (t ∷ ts) a each = (λ i. (each 0 (omega arith) ∙ ap g (let e : a + 0 ≡ a = omega arith in e)) i ∷ numbered f g ts (a + 1) (λ k less. each (suc k) (omega (arith, less)) ∙ ap g (let e : a + suc k ≡ a + 1 + k = omega arith in e)) i)
