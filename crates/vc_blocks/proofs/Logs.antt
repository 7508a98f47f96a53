-- Numbers of which the first ones are multiples, and a buffer cut at its ends.
use Rattle.std.proofs.Common.{◌≡◌, ℕ, zero, suc, ◌+◌, ◌-◌, ◌*◌, ◌^◌, ◌<◌, ◌≤◌, Bool, true, false, not, nat_eq, List, [], ◌∷◌, ◌++◌, length, take, drop, slice_get, slice_index, refl, sym, ap, ◌∙◌, subst, arith, length-append, Option, Some, None, inl, inr, ◌⊎◌, MatchOption, Result, Ok, Err, OnOk}
use Rattle.std.specs.Borrow.{Bor}
use Rattle.std.specs.Option.{is_some, option_copied, option_eq, option_map, unwrap_or, SomeIff}
use Rattle.std.specs.Result.{is_err}
use Rattle.std.proofs.lemmas.Bool.{eqb-true}
use Rattle.std.proofs.lemmas.List.{append-nil, drop-append-le, length-drop, length-take-le, take-append-le, take-append-drop, take_all, append_assoc}
use Rattle.std.proofs.Math.Seq.{drop-append_seam}
use Rattle.std.proofs.lemmas.Option.{slice_get_read, slice_get_within, unwrap_or-slice_get}
use Rattle.std.proofs.lemmas.List.FromFn.{length-map-range_with_len, get_or-map-range_with_len, take-map-range_with_len, map-range_with_len_more}
use Rattle.vc_blocks.specs.Private.Logs.{multiples, cut, RiseTo}

some_is : {X : Type 0} (x y : X) → Some x ≡ Some y → x ≡ y
some_is x y e = cc

-- ---- numbers of which the first ones are multiples

pub length-multiples : (step even : ℕ) (others : List ℕ) → length (multiples step even ++ others) ≡ even + length others
length-multiples step even others = length-append (multiples step even) others ∙ ap (λ n. n + length others) (length-map-range_with_len (λ n. (n + 1) * step) 0 even)

get_left : (xs ys : List ℕ) (i x : ℕ) → slice_get xs i ≡ Some x → slice_get (xs ++ ys) i ≡ Some x
get_left [] ys i x e = absurd (omega (arith, slice_get_within [] i x e))
get_left (y ∷ xs) ys zero x e = e
get_left (y ∷ xs) ys (suc i) x e = get_left xs ys i x e

get_right : (xs ys : List ℕ) (i j : ℕ) → length xs + j ≡ i → slice_get (xs ++ ys) i ≡ slice_get ys j
get_right [] ys i j e = ap (slice_get ys) (omega (arith, e))
get_right (x ∷ xs) ys zero j e = absurd (omega (arith, e))
get_right (x ∷ xs) ys (suc i) j e = get_right xs ys i j (omega (arith, e))

pub get-multiple : (step even i : ℕ) (others : List ℕ) → i < even → slice_get (multiples step even ++ others) i ≡ Some ((i + 1) * step)
get-multiple step even i others lt =
    let long = length-map-range_with_len (λ n. (n + 1) * step) 0 even in
    let is = get_or-map-range_with_len (λ n. (n + 1) * step) 0 even i i ((i + 1) * step) lt (omega arith) in
    get_left (multiples step even) others i ((i + 1) * step) (slice_get_read (multiples step even) even i ((i + 1) * step) (sym long) lt (sym is))

pub get-other : (step even i : ℕ) (others : List ℕ) → even ≤ i → slice_get (multiples step even ++ others) i ≡ slice_get others (i - even)
get-other step even i others le =
    let long = length-map-range_with_len (λ n. (n + 1) * step) 0 even in
    get_right (multiples step even) others i (i - even) (omega (arith, long, le))

-- the step means nothing where there are no multiples
same_multiples : (step old even : ℕ) → (even ≡ 0) ⊎ (step ≡ old) → multiples step even ≡ multiples old even
same_multiples step old even (inl z) = ap (multiples step) z ∙ sym (ap (multiples old) z)
same_multiples step old even (inr e) = ap (λ s. multiples s even) e

-- one multiple more, of a step that is new where there were none
pub one-more : (step old even number : ℕ) (others now : List ℕ) → others ≡ [] → multiples old even ++ others ≡ now → (even ≡ 0) ⊎ (step ≡ old) → step * (even + 1) ≡ number → multiples step (even + 1) ++ others ≡ now ++ number ∷ []
one-more step old even number others now none was same is =
    let f : ℕ → ℕ = λ n. (n + 1) * step in
    let now_is : multiples old even ≡ now = sym (append-nil (multiples old even)) ∙ ap (λ xs. multiples old even ++ xs) (sym none) ∙ was in
    ap (λ xs. multiples step (even + 1) ++ xs) none ∙ append-nil (multiples step (even + 1)) ∙ map-range_with_len_more f 0 even even (omega arith)
    ∙ ap (λ n. multiples step even ++ n ∷ []) (omega (arith, is)) ∙ ap (λ xs. xs ++ number ∷ []) (same_multiples step old even same ∙ now_is)

-- one multiple less
pub one-less : (step even : ℕ) (others rest now : List ℕ) → (others ≡ []) × (rest ≡ []) → 0 < even → multiples step even ++ others ≡ now → multiples step (even - 1) ++ rest ≡ take (length now - 1) now
one-less step even others rest now none some was =
    let f : ℕ → ℕ = λ n. (n + 1) * step in
    let now_is : multiples step even ≡ now = sym (append-nil (multiples step even)) ∙ ap (λ xs. multiples step even ++ xs) (sym none.0) ∙ was in
    let less : even - 1 ≡ length now - 1 = omega (arith, length-map-range_with_len f 0 even, ap length now_is) in
    ap (λ xs. multiples step (even - 1) ++ xs) none.1 ∙ append-nil (multiples step (even - 1)) ∙ sym (take-map-range_with_len f 0 even (even - 1) (omega arith)) ∙ ap (λ xs. take (even - 1) xs) now_is ∙ ap (λ n. take n now) less

-- a list that was popped in vain was empty
pub popped_none : (r : Option ℕ) (b : Bool) (old new : List ℕ) → MatchOption r ((old ≡ []) × (new ≡ [])) (λ last. old ≡ new ++ last ∷ []) → is_some r ≡ not b → b ≡ true → (old ≡ []) × (new ≡ [])
popped_none None b old new h some is = h
popped_none (Some x) b old new h some is = absurd (cc)

-- a product that was compared
pub product_is : (r : Option ℕ) (number v : ℕ) (P : Type 0) → SomeIff r P v → option_eq nat_eq r (Some number) ≡ true → P × (v ≡ number)
product_is None number v P h e = absurd (cc)
product_is (Some x) number v P h e = (h.0, sym h.1 ∙ eqb-true x number e)

-- one number more can be counted
pub room : (now xs : List ℕ) (len even k : ℕ) → len ≡ length now → xs ≡ now → length xs ≡ even + k → len < 2 ^ 64 → (len ≡ 18446744073709551615 → ⊥) → even + 1 + k < 2 ^ 64
room now xs len even k is same long fits less = let e = ap length same in omega (arith, is, e, long, fits, less)

-- there is nothing before the first number
pub before_none : (xs : List ℕ) (at : ℕ) → (at ≡ 0 → ⊥) → None ≡ slice_get xs (at - 1) → 0 ≡ slice_index (0 ∷ xs) at
before_none xs zero some none = absurd (some refl)
before_none xs (suc i) some none = let e : suc i - 1 ≡ i = omega arith in ap (λ o. unwrap_or o 0) (none ∙ ap (slice_get xs) e) ∙ unwrap_or-slice_get xs i 0

-- ---- a buffer cut at its ends

pub length-cut : (bytes : List ℕ) (from : ℕ) (ends : List ℕ) → length (cut bytes from ends) ≡ length ends
length-cut bytes from [] = refl
length-cut bytes from (end ∷ ends) = ap suc (length-cut bytes end ends)

pub get-none : (bytes : List ℕ) (from : ℕ) (ends : List ℕ) (at : ℕ) → None ≡ slice_get ends at → None ≡ slice_get (cut bytes from ends) at
get-none bytes from [] at e = refl
get-none bytes from (x ∷ ends) zero e = absurd (cc)
get-none bytes from (x ∷ ends) (suc at) e = get-none bytes x ends at e

pub get-cut : (bytes : List ℕ) (from : ℕ) (ends : List ℕ) (at end : ℕ) → slice_get ends at ≡ Some end →
    slice_get (cut bytes from ends) at ≡ Some (take (end - slice_index (from ∷ ends) at) (drop (slice_index (from ∷ ends) at) bytes))
get-cut bytes from [] at end e = absurd (omega (arith, slice_get_within [] at end e))
get-cut bytes from (x ∷ ends) zero end e = ap (λ o. option_map (λ y. take (y - from) (drop from bytes)) o) e
get-cut bytes from (x ∷ ends) (suc at) end e = get-cut bytes x ends at end e

-- a place is at most the buffer's length, and so is each end
rise-le : (len from : ℕ) (ends : List ℕ) → RiseTo len from ends → from ≤ len
rise-le len from [] r = omega (arith, r)
rise-le len from (end ∷ ends) r = let one = r.0 in let rest = rise-le len end ends r.1 in omega arith

pub bounds-cut : (len from : ℕ) (ends : List ℕ) (at end : ℕ) → RiseTo len from ends → slice_get ends at ≡ Some end → (slice_index (from ∷ ends) at ≤ end) × (end ≤ len)
bounds-cut len from [] at end r e = absurd (omega (arith, slice_get_within [] at end e))
bounds-cut len from (x ∷ ends) zero end r e = let is = some_is x end e in let one = r.0 in let rest = rise-le len x ends r.1 in (omega arith, omega arith)
bounds-cut len from (x ∷ ends) (suc at) end r e = bounds-cut len x ends at end r.1 e

-- one part more, up to the end of a longer buffer
pub rise-push : (len more from : ℕ) (ends : List ℕ) → RiseTo len from ends → len ≤ more → RiseTo more from (ends ++ more ∷ [])
rise-push len more from [] r le = (omega (arith, r, le), refl)
rise-push len more from (end ∷ ends) r le = (r.0, rise-push len more end ends r.1 le)

part-grown : (bytes m : List ℕ) (from end : ℕ) → from ≤ end → end ≤ length bytes → take (end - from) (drop from (bytes ++ m)) ≡ take (end - from) (drop from bytes)
part-grown bytes m from end le within =
    ap (take (end - from)) (drop-append-le from bytes m (omega (arith, le, within))) ∙ take-append-le (end - from) (drop from bytes) m (omega (arith, length-drop from bytes, le, within))

pub cut-push : (bytes m : List ℕ) (from len : ℕ) (ends : List ℕ) → RiseTo (length bytes) from ends → len ≡ length bytes + length m → cut (bytes ++ m) from (ends ++ len ∷ []) ≡ cut bytes from ends ++ m ∷ []
cut-push bytes m from len [] r is =
    ap (λ xs. xs ∷ []) (ap (λ n. take (len - from) (drop n (bytes ++ m))) r ∙ ap (take (len - from)) (drop-append_seam bytes m) ∙ take_all (len - from) m (omega (arith, r, is)))
cut-push bytes m from len (end ∷ ends) r is =
    let head = part-grown bytes m from end r.0 (rise-le (length bytes) end ends r.1) in
    ap (λ xs. xs ∷ cut (bytes ++ m) end (ends ++ len ∷ [])) head ∙ ap (λ xs. take (end - from) (drop from bytes) ∷ xs) (cut-push bytes m end len ends r.1 is)

-- the first parts alone
pub last-take : (from k : ℕ) (ends : List ℕ) → k ≤ length ends → slice_index (from ∷ take k ends) (length (take k ends)) ≡ slice_index (from ∷ ends) k
last-take from zero ends le = refl
last-take from (suc k) [] le = absurd (omega arith)
last-take from (suc k) (end ∷ ends) le = last-take end k ends (omega arith)

end-le : (len from k : ℕ) (ends : List ℕ) → RiseTo len from ends → k ≤ length ends → (from ≤ slice_index (from ∷ ends) k) × (slice_index (from ∷ ends) k ≤ len)
end-le len from zero ends r le = (omega arith, rise-le len from ends r)
end-le len from (suc k) [] r le = absurd (omega arith)
end-le len from (suc k) (end ∷ ends) r le = let rest = end-le len end k ends r.1 (omega arith) in let one = r.0 in (omega (arith, one, rest.0), rest.1)

rise-take : (len from k : ℕ) (ends : List ℕ) → RiseTo len from ends → k ≤ length ends → RiseTo (slice_index (from ∷ ends) k) from (take k ends)
rise-take len from zero ends r le = refl
rise-take len from (suc k) [] r le = absurd (omega arith)
rise-take len from (suc k) (end ∷ ends) r le = (r.0, rise-take len end k ends r.1 (omega arith))

part-less : (bytes : List ℕ) (from end to : ℕ) → from ≤ end → end ≤ to → to ≤ length bytes → take (end - from) (drop from (take to bytes)) ≡ take (end - from) (drop from bytes)
part-less bytes from end to le less within =
    sym (part-grown (take to bytes) (drop to bytes) from end le (omega (arith, length-take-le to bytes within, less))) ∙ ap (λ xs. take (end - from) (drop from xs)) (take-append-drop to bytes)

cut-take : (bytes : List ℕ) (from k : ℕ) (ends : List ℕ) → RiseTo (length bytes) from ends → k ≤ length ends → cut (take (slice_index (from ∷ ends) k) bytes) from (take k ends) ≡ take k (cut bytes from ends)
cut-take bytes from zero ends r le = refl
cut-take bytes from (suc k) [] r le = absurd (omega arith)
cut-take bytes from (suc k) (end ∷ ends) r le =
    let to = slice_index (end ∷ ends) k in
    let b = end-le (length bytes) end k ends r.1 (omega arith) in
    ap (λ xs. xs ∷ cut (take to bytes) end (take k ends)) (part-less bytes from end to r.0 b.0 b.1) ∙ ap (λ xs. take (end - from) (drop from bytes) ∷ xs) (cut-take bytes end k ends r.1 (omega arith))

-- a buffer that is cut at the end before the last
pub rise-pop : (bytes less : List ℕ) (ends fewer : List ℕ) (count to : ℕ) → RiseTo (length bytes) 0 ends → fewer ≡ take (length ends - 1) ends → count ≡ length fewer → to ≡ slice_index (0 ∷ fewer) count → less ≡ take to bytes → RiseTo (length less) 0 fewer
rise-pop bytes less ends fewer count to r are long last is =
    let k = length ends - 1 in
    let le : k ≤ length ends = omega arith in
    let to_is : to ≡ slice_index (0 ∷ ends) k = last ∙ ap (slice_index (0 ∷ fewer)) long ∙ ap (λ xs. slice_index (0 ∷ xs) (length xs)) are ∙ last-take 0 k ends le in
    let within = (end-le (length bytes) 0 k ends r le).1 in
    let len_is : length less ≡ slice_index (0 ∷ ends) k = ap length (is ∙ ap (λ n. take n bytes) to_is) ∙ length-take-le (slice_index (0 ∷ ends) k) bytes within in
    subst (λ n. RiseTo n 0 fewer) (sym len_is) (subst (RiseTo (slice_index (0 ∷ ends) k) 0) (sym are) (rise-take (length bytes) 0 k ends r le))

pub cut-pop : (bytes less : List ℕ) (ends fewer : List ℕ) (now : List (List ℕ)) (count to : ℕ) → RiseTo (length bytes) 0 ends → fewer ≡ take (length ends - 1) ends → count ≡ length fewer → to ≡ slice_index (0 ∷ fewer) count → less ≡ take to bytes →
    cut bytes 0 ends ≡ now → cut less 0 fewer ≡ take (length now - 1) now
cut-pop bytes less ends fewer now count to r are long last is was =
    let k = length ends - 1 in
    let le : k ≤ length ends = omega arith in
    let to_is : to ≡ slice_index (0 ∷ ends) k = last ∙ ap (slice_index (0 ∷ fewer)) long ∙ ap (λ xs. slice_index (0 ∷ xs) (length xs)) are ∙ last-take 0 k ends le in
    let k_is : k ≡ length now - 1 = ap (λ n. n - 1) (sym (length-cut bytes 0 ends) ∙ ap length was) in
    ap (λ xs. cut xs 0 fewer) (is ∙ ap (λ n. take n bytes) to_is) ∙ ap (cut (take (slice_index (0 ∷ ends) k) bytes) 0) are ∙ cut-take bytes 0 k ends r le ∙ ap (take k) was ∙ ap (λ n. take n now) k_is

-- a message in two parts
joined : (bytes one two front back : List ℕ) → one ≡ bytes ++ front → two ≡ one ++ back → two ≡ bytes ++ (front ++ back)
joined bytes one two front back first second = second ∙ ap (λ xs. xs ++ back) first ∙ append_assoc bytes front back

pub rise-joined : (bytes one two front back ends more : List ℕ) (len : ℕ) → RiseTo (length bytes) 0 ends → one ≡ bytes ++ front → two ≡ one ++ back → len ≡ length two → more ≡ ends ++ len ∷ [] → RiseTo (length two) 0 more
rise-joined bytes one two front back ends more len r first second long is =
    let grown = ap length (joined bytes one two front back first second) ∙ length-append bytes (front ++ back) in
    subst (RiseTo (length two) 0) (ap (λ n. ends ++ n ∷ []) (sym long) ∙ sym is) (rise-push (length bytes) (length two) 0 ends r (omega (arith, grown)))

pub cut-joined : (bytes one two front back ends more : List ℕ) (now : List (List ℕ)) (len : ℕ) → RiseTo (length bytes) 0 ends → one ≡ bytes ++ front → two ≡ one ++ back → len ≡ length two → more ≡ ends ++ len ∷ [] → cut bytes 0 ends ≡ now →
    cut two 0 more ≡ now ++ (front ++ back) ∷ []
cut-joined bytes one two front back ends more now len r first second long is was =
    let grown = joined bytes one two front back first second in
    ap (λ xs. cut xs 0 more) grown ∙ ap (cut (bytes ++ (front ++ back)) 0) is ∙ cut-push bytes (front ++ back) 0 len ends r (long ∙ ap length grown ∙ length-append bytes (front ++ back)) ∙ ap (λ ms. ms ++ (front ++ back) ∷ []) was

-- ---- going through messages

pub drop_past : {X : Type 0} (xs : List X) (at : ℕ) → length xs ≤ at → drop at xs ≡ []
drop_past [] zero le = refl
drop_past [] (suc at) le = refl
drop_past (x ∷ xs) zero le = absurd (omega arith)
drop_past (x ∷ xs) (suc at) le = drop_past xs at (omega arith)

drop_at : (xs : List (List ℕ)) (at : ℕ) (x : List ℕ) → slice_get xs at ≡ Some x → drop at xs ≡ x ∷ drop (at + 1) xs
drop_at [] at x e = absurd (omega (arith, slice_get_within [] at x e))
drop_at (y ∷ xs) zero x e = ap (λ z. z ∷ xs) (some_is y x e)
drop_at (y ∷ xs) (suc at) x e = let n : suc (at + 1) ≡ suc at + 1 = omega arith in drop_at xs at x e ∙ ap (λ k. x ∷ drop k (y ∷ xs)) n

pub yields : (xs : List (List ℕ)) (at : ℕ) (r : Option (Bor (List ℕ))) → at < length xs → option_copied r ≡ slice_get xs at → MatchOption r ((drop at xs ≡ []) × (drop (at + 1) xs ≡ [])) (λ x. drop at xs ≡ x.now ∷ drop (at + 1) xs)
yields xs at (Some x) within is = drop_at xs at x.now (sym is)
yields xs at None within is = absurd (past xs at within is)
  where
    past : (xs : List (List ℕ)) (at : ℕ) → at < length xs → None ≡ slice_get xs at → ⊥
    past [] at within is = omega (arith, within)
    past (x ∷ xs) zero within is = cc
    past (x ∷ xs) (suc at) within is = past xs at (omega (arith, within)) is

-- where a call went on, what it says of that holds
pub on_went : {X E A : Type 0} (r : Result X E) → false ≡ is_err r → OnOk r A → A
on_went (Ok x) e h = h
on_went (Err x) e h = absurd (cc)
