-- The number of an option, from what `clap` says that it read.
use Rattle.std.proofs.Common.{◌≡◌, ◌∙◌, ◌<◌, ◌≤◌, ◌^◌, ◌&&◌, ℕ, Bool, true, false, refl, sym, List, [], ◌∷◌, length, Option, Some, None, Result, Ok, Err, nat_lt, nat_le, true≢false, arith, unwrap_or, option_and_then, ap, is_some, is_ok}
use Rattle.std.specs.Bool.{⊤}
use Rattle.std.specs.Result.{result_unwrap_or}
use Rattle.std.proofs.lemmas.Bool.{lt-ltb, le-leb, ltb-true, leb-true, and_parts}
use Rattle.std.specs.List.{list_all}
use Rattle.std.specs.Char.{digit_value}
use Rattle.std.specs.Str.Parse.{AllDigits, ParsesUnsigned, digits_value, without_leading_plus}
use Rattle.clap.specs.Walk.{Text, rows_of}
use Rattle.clap.specs.Matches.{one_text}
use Rattle.clap.specs.declared.parser.matches.Found.{Found}
use Rattle.clap.proofs.WalkLemmas.{one_text-rows}
use Rattle.vc_words.specs.CommandLine.{number_at, number_in, number_of}

digits_pass : (ds : List ℕ) → AllDigits 10 ds → list_all (λ d. nat_lt (digit_value d) 10) ds ≡ true
digits_pass [] h = refl
digits_pass (d ∷ ds) h = rw (lt-ltb (digit_value d) 10 h.0) (digits_pass ds h.1)

digits_from : (ds : List ℕ) → list_all (λ d. nat_lt (digit_value d) 10) ds ≡ true → AllDigits 10 ds
digits_from [] e = tt
digits_from (d ∷ ds) e =
    let parts = and_parts _ _ e in
    (ltb-true _ _ parts.0, digits_from ds parts.1)

-- a number in its range is the text's
pub in_range : (most n : ℕ) (text : Text) → ParsesUnsigned {E = ⊤} 64 10 text (Ok n) → n ≤ most → number_in most text ≡ Some n
in_range most n text h le =
    let ds = without_leading_plus text in
    let fits : digits_value 10 ds ≤ most = rw (← h.1) le in
    rw (lt-ltb 0 (length ds) h.0.0.0, digits_pass ds h.0.0.1, le-leb (digits_value 10 ds) most fits, h.1) refl

abbrev has_digits : List ℕ → Bool
has_digits ds = nat_lt 0 (length ds) && list_all (λ d. nat_lt (digit_value d) 10) ds

abbrev is_number : ℕ → List ℕ → Bool
is_number most ds = has_digits ds && nat_le (digits_value 10 ds) most

-- a text without a number in the range has none
pub out_of_range : (most : ℕ) (text : Text) (r : Result ℕ ⊤) → ParsesUnsigned 64 10 text r → most < 2 ^ 64
    → ((n : ℕ) → r ≡ Ok n → most < n) → number_in most text ≡ None
out_of_range most text r h fits beyond = go r h beyond (is_number most (without_leading_plus text)) refl
  where
    go : (r : Result ℕ ⊤) → ParsesUnsigned 64 10 text r → ((n : ℕ) → r ≡ Ok n → most < n) → (b : Bool) → is_number most (without_leading_plus text) ≡ b → number_in most text ≡ None
    go r h beyond false t = rw t refl
    go (Ok n) h beyond true t =
        let ds = without_leading_plus text in
        let outer = and_parts (has_digits ds) (nat_le (digits_value 10 ds) most) t in
        let le : digits_value 10 ds ≤ most = leb-true (digits_value 10 ds) most outer.1 in
        let least : most < digits_value 10 ds = rw (← h.1) (beyond n refl) in
        absurd (omega (arith, least, le))
    go (Err e) h beyond true t =
        let ds = without_leading_plus text in
        let outer = and_parts (has_digits ds) (nat_le (digits_value 10 ds) most) t in
        let inner = and_parts (nat_lt 0 (length ds)) (list_all (λ d. nat_lt (digit_value d) 10) ds) outer.0 in
        let le : digits_value 10 ds ≤ most = leb-true (digits_value 10 ds) most outer.1 in
        absurd (h ((ltb-true 0 (length ds) inner.0, digits_from ds inner.1), omega (arith, le, fits)))

-- what `get_one` gives is the option's number where it is in its range, and else that is the usual one
module _ (f : Found) (id : Text) (most usual : ℕ) where
  pub found : (n : ℕ) → (one_text f id ≡ None → Some n ≡ None) → ((t : Text) → one_text f id ≡ Some t → ParsesUnsigned {E = ⊤} 64 10 t (Ok n))
      → n ≤ most → n ≡ number_of id most usual (rows_of f)
  found n none value le = go (one_text f id) none value ∙ ap (λ o. unwrap_or (option_and_then (number_in most) o) usual) (one_text-rows f id)
    where
      go : (o : Option Text) → (o ≡ None → Some n ≡ None) → ((t : Text) → o ≡ Some t → ParsesUnsigned {E = ⊤} 64 10 t (Ok n)) → n ≡ unwrap_or (option_and_then (number_in most) o) usual
      go None none value = absurd (true≢false (ap is_some (none refl)))
      go (Some t) none value = rw (in_range most n t (value t refl) le) refl

  pub beyond : (n : ℕ) → (one_text f id ≡ None → Some n ≡ None) → ((t : Text) → one_text f id ≡ Some t → ParsesUnsigned {E = ⊤} 64 10 t (Ok n))
      → most < 2 ^ 64 → most < n → usual ≡ number_of id most usual (rows_of f)
  beyond n none value fits lt = go (one_text f id) none value ∙ ap (λ o. unwrap_or (option_and_then (number_in most) o) usual) (one_text-rows f id)
    where
      go : (o : Option Text) → (o ≡ None → Some n ≡ None) → ((t : Text) → o ≡ Some t → ParsesUnsigned {E = ⊤} 64 10 t (Ok n)) → usual ≡ unwrap_or (option_and_then (number_in most) o) usual
      go None none value = refl
      go (Some t) none value = rw (out_of_range most t (Ok n) (value t refl) fits (λ m e. rw (← ap (λ r. result_unwrap_or r 0) e) lt)) refl

  pub absent : ((t : Text) → one_text f id ≡ Some t → ParsesUnsigned {E = ⊤} 64 10 t (Err tt))
      → most < 2 ^ 64 → usual ≡ number_of id most usual (rows_of f)
  absent value fits = go (one_text f id) value ∙ ap (λ o. unwrap_or (option_and_then (number_in most) o) usual) (one_text-rows f id)
    where
      go : (o : Option Text) → ((t : Text) → o ≡ Some t → ParsesUnsigned {E = ⊤} 64 10 t (Err tt)) → usual ≡ unwrap_or (option_and_then (number_in most) o) usual
      go None value = refl
      go (Some t) value = rw (out_of_range most t (Err tt) (value t refl) fits (λ m e. absurd (true≢false (sym (ap is_ok e))))) refl

  -- and so where there is no usual one
  pub found_at : (n : ℕ) → (one_text f id ≡ None → Some n ≡ None) → ((t : Text) → one_text f id ≡ Some t → ParsesUnsigned {E = ⊤} 64 10 t (Ok n))
      → n ≤ most → Some n ≡ number_at id most (rows_of f)
  found_at n none value le = go (one_text f id) none value ∙ ap (λ o. option_and_then (number_in most) o) (one_text-rows f id)
    where
      go : (o : Option Text) → (o ≡ None → Some n ≡ None) → ((t : Text) → o ≡ Some t → ParsesUnsigned {E = ⊤} 64 10 t (Ok n)) → Some n ≡ option_and_then (number_in most) o
      go None none value = absurd (true≢false (ap is_some (none refl)))
      go (Some t) none value = rw (in_range most n t (value t refl) le) refl

  pub beyond_at : (n : ℕ) → (one_text f id ≡ None → Some n ≡ None) → ((t : Text) → one_text f id ≡ Some t → ParsesUnsigned {E = ⊤} 64 10 t (Ok n))
      → most < 2 ^ 64 → most < n → None ≡ number_at id most (rows_of f)
  beyond_at n none value fits lt = go (one_text f id) none value ∙ ap (λ o. option_and_then (number_in most) o) (one_text-rows f id)
    where
      go : (o : Option Text) → (o ≡ None → Some n ≡ None) → ((t : Text) → o ≡ Some t → ParsesUnsigned {E = ⊤} 64 10 t (Ok n)) → None ≡ option_and_then (number_in most) o
      go None none value = refl
      go (Some t) none value = rw (out_of_range most t (Ok n) (value t refl) fits (λ m e. rw (← ap (λ r. result_unwrap_or r 0) e) lt)) refl

  pub absent_at : ((t : Text) → one_text f id ≡ Some t → ParsesUnsigned {E = ⊤} 64 10 t (Err tt))
      → most < 2 ^ 64 → None ≡ number_at id most (rows_of f)
  absent_at value fits = go (one_text f id) value ∙ ap (λ o. option_and_then (number_in most) o) (one_text-rows f id)
    where
      go : (o : Option Text) → ((t : Text) → o ≡ Some t → ParsesUnsigned {E = ⊤} 64 10 t (Err tt)) → None ≡ option_and_then (number_in most) o
      go None value = refl
      go (Some t) value = rw (out_of_range most t (Err tt) (value t refl) fits (λ m e. absurd (true≢false (sym (ap is_ok e))))) refl
