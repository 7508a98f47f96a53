-- What an output meets among moves whose inputs and guards are in order of channel.
use Rattle.std.proofs.Common.{◌≡◌, ◌+◌, ◌<◌, ℕ, zero, suc, Bool, true, false, refl, ap, sym, ◌∙◌, List, [], ◌∷◌, ◌++◌, drop, length, get_or, arith}
use Rattle.std.proofs.lemmas.Bool.Decides.{nat_tests}
use Rattle.std.proofs.lemmas.List.{get_or-drop, get_or_default, length-drop}
use Rattle.std.specs.List.{filter}
use Rattle.std.specs.List.Sorted.{IsNonDecreasingBy, IsStableByKey, ties}
use Rattle.std.specs.Cmp.{nat_cmp_is}
use Rattle.std.specs.Ordering.{is_lt, nat_cmp}
use Rattle.std.specs.declared.cmp.Ordering.TheVariants.{Equal}
use Rattle.std.specs.Prelude.{◌==◌, ◌&&◌, None, Some, not, if◌then◌else◌}
use Rattle.vc_occam.specs.declared.moves.Move.{Move}
use Rattle.vc_occam.specs.declared.moves.Move.TheVariants.{Want, Choose, Inner}
use Rattle.vc_occam.specs.First.{meetings}
use Rattle.vc_occam.specs.Private.Receivers.{key}

apart : (c d : ℕ) → (suc d ≡ suc c → ⊥) → (c == d) ≡ false
apart c d h = grind (arith, nat_tests)

-- a move with another key meets nothing
unmet : (s c : ℕ) (m : Move) (ms : List Move) → (key m ≡ suc c → ⊥) → meetings s c (m ∷ ms) ≡ meetings s c ms
unmet s c (Want j d) ms h = ap (λ b. (if b then (Inner s j None c ∷ []) else []) ++ meetings s c ms) (apart c d h)
unmet s c (Choose j k d) ms h = ap (λ b. (if b then (Inner s j (Some k) c ∷ []) else []) ++ meetings s c ms) (apart c d h)
unmet s c m ms h = refl

behind : (s c : ℕ) (m : Move) (xs ys : List Move) → meetings s c xs ≡ meetings s c ys → meetings s c (m ∷ xs) ≡ meetings s c (m ∷ ys)
behind s c (Want j d) xs ys e = ap (λ zs. (if c == d then (Inner s j None c ∷ []) else []) ++ zs) e
behind s c (Choose j k d) xs ys e = ap (λ zs. (if c == d then (Inner s j (Some k) c ∷ []) else []) ++ zs) e
behind s c m xs ys e = e

none_met : (s c : ℕ) (ms : List Move) → ((k : ℕ) (d : Move) → k < length ms → key (get_or ms k d) ≡ suc c → ⊥) → meetings s c ms ≡ []
none_met s c [] h = refl
none_met s c (m ∷ ms) h = unmet s c m ms (h 0 m (omega arith)) ∙ none_met s c ms (λ k d less. h (suc k) d (omega (arith, less)))

-- those at the front with lesser keys meet nothing
pub front_unmet : (s c p : ℕ) (ms : List Move) → ((k : ℕ) (d : Move) → k < p → key (get_or ms k d) ≡ suc c → ⊥) → meetings s c (drop p ms) ≡ meetings s c ms
front_unmet s c zero ms h = refl
front_unmet s c (suc p) [] h = refl
front_unmet s c (suc p) (m ∷ ms) h = front_unmet s c p ms (λ k d less. h (suc k) d (omega (arith, less))) ∙ sym (unmet s c m ms (h 0 m (omega arith)))

-- nor do those from a greater key on
pub end_unmet : (s c p : ℕ) (ms : List Move) (d : Move) → IsNonDecreasingBy key ms → p < length ms → suc c < key (get_or ms p d) → meetings s c (drop p ms) ≡ []
end_unmet s c p ms d up within greater = none_met s c (drop p ms) (λ k x less e.
    let long = length-drop p ms in
    let here = ap key (get_or-drop p ms k x) in
    let same = ap key (get_or_default ms p x d within) in
    let more = up p (p + k) x (omega arith) (omega (arith, less, long)) in
    omega (arith, e, here, same, more, greater))

-- an output meets what it does where only moves with other keys are left out
filtered : (s c : ℕ) (test : Move → Bool) (ms : List Move) → ((m : Move) → test m ≡ false → key m ≡ suc c → ⊥) → meetings s c (filter test ms) ≡ meetings s c ms
filtered s c test [] h = refl
filtered s c test (m ∷ ms) h = one (test m) refl (filtered s c test ms h)
  where
    one : (b : Bool) → test m ≡ b → meetings s c (filter test ms) ≡ meetings s c ms → meetings s c (if b then m ∷ filter test ms else filter test ms) ≡ meetings s c (m ∷ ms)
    one true e rest = behind s c m (filter test ms) ms rest
    one false e rest = rest ∙ sym (unmet s c m ms (h m e))

not_less : (n : ℕ) → is_lt (nat_cmp n n) ≡ false
not_less n = ap is_lt (sym (nat_cmp_is n n Equal refl))

-- a sort that keeps the order of those on a channel keeps what an output meets
pub stably_met : (xs ys : List Move) → IsStableByKey key nat_cmp xs ys → (s c : ℕ) → meetings s c ys ≡ meetings s c xs
stably_met xs ys stable s c =
    let test : Move → Bool = ties (λ (x y : Move). is_lt (nat_cmp (key x) (key y))) (Want 0 c) in
    sym (filtered s c test ys tied) ∙ ap (meetings s c) (stable (Want 0 c)) ∙ filtered s c test xs tied
  where
    tied : (m : Move) → ties (λ (x y : Move). is_lt (nat_cmp (key x) (key y))) (Want 0 c) m ≡ false → key m ≡ suc c → ⊥
    tied m e on =
        let whole : ties (λ (x y : Move). is_lt (nat_cmp (key x) (key y))) (Want 0 c) m ≡ true =
        ap (λ n. not (is_lt (nat_cmp (suc c) n)) && not (is_lt (nat_cmp n (suc c)))) on ∙ ap (λ b. not b && not b) (not_less (suc c)) in
        let z : true ≡ false = sym whole ∙ e in
        absurd cc
