-- A list of moves without the first one at a site.
use Rattle.std.proofs.Common.{◌≡◌, ℕ, zero, suc, ◌<◌, ◌≤◌, ◌+◌, Bool, true, false, refl, ap, sym, ◌∙◌, List, [], ◌∷◌, length, arith, Option, Some}
use Rattle.std.proofs.lemmas.Bool.Decides.{nat_tests}
use Rattle.std.specs.List.{remove, slice_get}
use Rattle.std.specs.Prelude.{◌==◌, get_or, if◌then◌else◌}
use Rattle.std.proofs.lemmas.Option.{slice_get-get_or}
use Rattle.vc_occam.specs.declared.moves.Move.{Move}
use Rattle.vc_occam.specs.MoveSites.{site_of, without}

-- none of the first k moves is at the site
abbrev pub NoneBefore : ℕ → ℕ → List Move → Type 0
NoneBefore i k ms = (j : ℕ) (m : Move) → j < k → slice_get ms j ≡ Some m → site_of m ≡ i → ⊥

pub none_more : (i k : ℕ) (ms : List Move) (m : Move) → slice_get ms k ≡ Some m → (site_of m ≡ i → ⊥) → NoneBefore i k ms → NoneBefore i (k + 1) ms
none_more i k ms m h away n = λ j x l g s. on j x l g s (j == k) refl
  where
    on : (j : ℕ) (x : Move) → j < k + 1 → slice_get ms j ≡ Some x → site_of x ≡ i → (b : Bool) → (j == k) ≡ b → ⊥
    on j x l g s true q =
        let e : j ≡ k = grind (arith, nat_tests) in
        let z : ◌≡◌ {A = Option Move} (Some x) (Some m) = sym g ∙ ap (slice_get ms) e ∙ h in
        let y : x ≡ m = cc in
        away (ap site_of (sym y) ∙ s)
    on j x l g s false q = n j x (grind (arith, nat_tests)) g s

pub left_out : (i k : ℕ) (ms : List Move) (m : Move) → slice_get ms k ≡ Some m → site_of m ≡ i → NoneBefore i k ms → remove ms k ≡ without i ms
left_out i k [] m h s n = absurd cc
left_out i zero (x ∷ ms) m h s n =
    let y : x ≡ m = cc in
    let on : (site_of x == i) ≡ true = let z : site_of x ≡ i = ap site_of y ∙ s in grind (arith, nat_tests) in
    sym (ap (λ b. if b then ms else (x ∷ without i ms)) on)
left_out i (suc k) (x ∷ ms) m h s n =
    let off : (site_of x == i) ≡ false = away (site_of x == i) refl in
    ap (λ xs. x ∷ xs) (left_out i k ms m h s (λ j y l g t. n (suc j) y (omega arith) g t)) ∙ sym (ap (λ b. if b then ms else (x ∷ without i ms)) off)
  where
    away : (b : Bool) → (site_of x == i) ≡ b → b ≡ false
    away true q = absurd (n 0 x (omega arith) refl (grind (arith, nat_tests)))
    away false q = refl

pub none_out : (i : ℕ) (ms : List Move) → NoneBefore i (length ms) ms → ms ≡ without i ms
none_out i [] n = refl
none_out i (x ∷ ms) n =
    let off : (site_of x == i) ≡ false = away (site_of x == i) refl in
    ap (λ xs. x ∷ xs) (none_out i ms (λ j y l g t. n (suc j) y (omega arith) g t)) ∙ sym (ap (λ b. if b then ms else (x ∷ without i ms)) off)
  where
    away : (b : Bool) → (site_of x == i) ≡ b → b ≡ false
    away true q = absurd (n 0 x (omega arith) refl (grind (arith, nat_tests)))
    away false q = refl

-- a list gone through from its front: the move at a place is at the site, or is not, or there is none more
pub left_here : (i k r n : ℕ) (ms xs top : List Move) (d m : Move) → xs ≡ ms → k < n → n ≡ length top → r ≡ site_of (get_or xs k d) → r ≡ i → slice_get ms k ≡ Some m → NoneBefore i k ms → ms ≡ top →
    remove ms k ≡ without i top
left_here i k r n ms xs top d m x l q s on h none t =
    let len : k < length ms = let z : length ms ≡ n = ap length t ∙ sym q in omega arith in
    let one : ◌≡◌ {A = Option Move} (Some (get_or ms k d)) (Some m) = sym (slice_get-get_or ms k d len) ∙ h in
    let is : get_or ms k d ≡ m = cc in
    let at : site_of m ≡ r = sym (s ∙ ap (λ ys. site_of (get_or ys k d)) x ∙ ap site_of is) in
    left_out i k ms m h (at ∙ on) none ∙ ap (without i) t

pub left_more : (i k r n : ℕ) (ms xs top : List Move) (d : Move) → xs ≡ ms → k < n → n ≡ length top → r ≡ site_of (get_or xs k d) → (r ≡ i → ⊥) → NoneBefore i k ms → ms ≡ top → NoneBefore i (k + 1) ms
left_more i k r n ms xs top d x l q s off none t =
    let len : k < length ms = let z : length ms ≡ n = ap length t ∙ sym q in omega arith in
    let at : r ≡ site_of (get_or ms k d) = s ∙ ap (λ ys. site_of (get_or ys k d)) x in
    none_more i k ms (get_or ms k d) (slice_get-get_or ms k d len) (λ e. off (at ∙ e)) none

pub left_none : (i k n : ℕ) (ms top : List Move) → n ≤ k → n ≡ length top → NoneBefore i k ms → ms ≡ top → ms ≡ without i top
left_none i k n ms top l q none t =
    let z : length ms ≡ n = ap length t ∙ sym q in
    none_out i ms (λ j m b. none j m (omega arith)) ∙ ap (without i) t
