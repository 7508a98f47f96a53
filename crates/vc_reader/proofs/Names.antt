-- Names of what was read: each is a name, and no two are the same.
use Rattle.std.proofs.Common.{◌≡◌, ◌∙◌, ℕ, suc, ◌+◌, length, List, [], ◌∷◌, ◌++◌, map, refl, sym, ap, subst, arith, append_assoc, Bool, true, false, not, ◌&&◌, ◌||◌, cond, nat_lt, if◌then◌else◌, Some, None, Ok}
use Rattle.std.specs.Prelude.{is_some}
use Rattle.std.specs.Str.{bytes_eq}
use Rattle.std.specs.List.{IsDistinct, list_any, position_or_len}
use Rattle.std.specs.Cmp.Lexicographic.{nat_list_eq_equiv}
use Rattle.std.proofs.lemmas.Bool.Decides.{nat_tests}
use Rattle.std.proofs.lemmas.List.{map-append}
use Rattle.std.proofs.lemmas.List.Folds.{list_any-append}
use Rattle.std.proofs.lemmas.Map.Keys.{IsDistinct-push}
use Rattle.serde_json.specs.Data.{Data}
use Rattle.vc_plan.specs.Limits.{is_name}
use Rattle.vc_reader.specs.declared.fault.Why.TheVariants.{Kind}
use Rattle.vc_reader.specs.Reading.{wrong, read_text}
use Rattle.vc_reader.specs.Names.{own_name, new_name, has_name}
use Rattle.vc_reader.proofs.Read.{ok_is, then_ok}

-- a new name is a name, and was not taken
pub record IsNew (is_taken : List ℕ → Bool) (name : List ℕ) : Type 0 where
  pub lawful : is_name name ≡ true
  pub new : is_taken name ≡ false

own_new : (is_taken : List ℕ → Bool) (s name : List ℕ) → own_name (is_taken s) s ≡ Ok name → IsNew is_taken name
own_new is_taken s name e = go (is_name s) (is_taken s) refl refl e
  where
    go : (a b : Bool) → is_name s ≡ a → is_taken s ≡ b → (if a && not b then Ok s else wrong Kind) ≡ Ok name → IsNew is_taken name
    go true false p q r = subst (λ n. IsNew is_taken n) (ok_is s name r) (record { lawful = p; new = q })
    go true true p q r = absurd cc
    go false b p q r = absurd cc

pub new_is_new : (is_taken : List ℕ → Bool) (d : Data) (name : List ℕ) → new_name is_taken d ≡ Ok name → IsNew is_taken name
new_is_new is_taken d name e =
    let t = then_ok (read_text d) (λ s. own_name (is_taken s) s) name e in
    own_new is_taken t.0 name t.2

-- whether one of them has the name is a question to their names
lt_suc : (a b : ℕ) → nat_lt (1 + a) (suc b) ≡ nat_lt a b
lt_suc a b = grind (arith, nat_tests)

zero_lt : (b : ℕ) → nat_lt 0 (suc b) ≡ true
zero_lt b = grind (arith, nat_tests)

lt_any : {A : Type 0} (p : A → Bool) (xs : List A) → nat_lt (position_or_len p xs) (length xs) ≡ list_any p xs
lt_any p [] = refl
lt_any p (x ∷ xs) = go (p x) (lt_any p xs)
  where
    go : (b : Bool) → nat_lt (position_or_len p xs) (length xs) ≡ list_any p xs → nat_lt (cond (not b) (1 + position_or_len p xs) 0) (suc (length xs)) ≡ (b || list_any p xs)
    go true e = zero_lt (length xs)
    go false e = lt_suc (position_or_len p xs) (length xs) ∙ e

some_if : (b : Bool) (n : ℕ) → is_some (cond b (Some n) None) ≡ b
some_if true n = refl
some_if false n = refl

any_map : {A B : Type 0} (f : A → B) (p : B → Bool) (xs : List A) → list_any p (map f xs) ≡ list_any (λ x. p (f x)) xs
any_map f p [] = refl
any_map f p (x ∷ xs) = ap (λ b. p (f x) || b) (any_map f p xs)

any_append : {A : Type 0} (p : A → Bool) (xs ys : List A) → list_any p xs ≡ false → list_any p ys ≡ false → list_any p (xs ++ ys) ≡ false
any_append p xs ys e f = list_any-append p xs ys ∙ ap (λ b. b || list_any p ys) e ∙ f

module _ {A : Type 0} (name_of : A → List ℕ) where
  pub has_any : (xs : List A) (name : List ℕ) → has_name name_of xs name ≡ list_any (bytes_eq name) (map name_of xs)
  has_any xs name =
      some_if (nat_lt (position_or_len (λ x. bytes_eq name (name_of x)) xs) (length xs)) (position_or_len (λ x. bytes_eq name (name_of x)) xs)
      ∙ lt_any (λ x. bytes_eq name (name_of x)) xs
      ∙ sym (any_map name_of (bytes_eq name) xs)

  -- one more thing whose name is new keeps the names distinct
  pub distinct_more : (front : List (List ℕ)) (xs : List A) (x : A) → IsDistinct bytes_eq (front ++ map name_of xs) → list_any (bytes_eq (name_of x)) front ≡ false → has_name name_of xs (name_of x) ≡ false →
      IsDistinct bytes_eq (front ++ map name_of (xs ++ x ∷ []))
  distinct_more front xs x d apart new =
      subst (IsDistinct bytes_eq) (append_assoc front (map name_of xs) (name_of x ∷ []) ∙ ap (λ l. front ++ l) (sym (map-append name_of xs (x ∷ []))))
      (IsDistinct-push nat_list_eq_equiv (front ++ map name_of xs) (name_of x) d (any_append (bytes_eq (name_of x)) front (map name_of xs) apart (sym (has_any xs (name_of x)) ∙ new)))
