-- Indexes of names.
use Rattle.std.proofs.Common.{◌≡◌, ℕ, List, [], ◌∷◌, ◌++◌, length, Bool, true, false, if◌then◌else◌, refl, sym, subst, ◌∙◌, arith, Option, Some, None}
use Rattle.std.specs.Prelude.{Vec, is_some}
use Rattle.std.specs.Str.{bytes_eq}
use Rattle.std.specs.List.{position}
use Rattle.std.specs.Ordering.{nat_cmp, eq_by_cmp, is_eq}
use Rattle.std.specs.Cmp.{eq_by_cmp_equiv}
use Rattle.std.specs.Cmp.Lexicographic.{slice_cmp, nat_list_cmp_total, nat_list_eq_equiv, bytes_decides}
use Rattle.std.specs.declared.cmp.Ordering.{Ordering}
use Rattle.std.specs.BTreeMap.{BTreeMap, UpdatesBy, is_at}
use Rattle.std.specs.Map.{KeepsOthers, IsKeyTest, AreApart, lookup}
use Rattle.std.proofs.lemmas.Grind.{common_steps}
use Rattle.std.proofs.lemmas.List.Folds.{position_or_len_push}
use Rattle.std.proofs.lemmas.List.Sums.{prefix_len-le-length}
use Rattle.std.proofs.lemmas.Map.Text.{is_eq-slice_cmp}
use Rattle.std.specs.Option.{option_or}
use Rattle.vc_reader.specs.Names.{position_of, number_at}

position_more : {A : Type 0} (p : A → Bool) (xs : List A) (x : A) → position p (xs ++ x ∷ []) ≡ option_or (position p xs) (if p x then Some (length xs) else None)
position_more p xs x = grind (arith, common_steps, position_or_len_push, prefix_len-le-length)

-- one more thing may be the first of its name
pub position_of_more : {A : Type 0} (name_of : A → List ℕ) (xs : List A) (x : A) (name : List ℕ) → position_of name_of (xs ++ x ∷ []) name ≡ option_or (position_of name_of xs name) (if bytes_eq name (name_of x) then Some (length xs) else None)
position_of_more name_of xs x name = position_more (λ y. bytes_eq name (name_of y)) xs x

apart : (bs cs ks : List ℕ) → bytes_eq bs cs ≡ false → is_eq (slice_cmp nat_cmp bs ks) ≡ true → is_eq (slice_cmp nat_cmp cs ks) ≡ false
apart bs cs ks n y = is_eq-slice_cmp cs ks ∙ nat_list_eq_equiv.symm cs ks ∙ sym (nat_list_eq_equiv.congr bs ks cs (sym (is_eq-slice_cmp bs ks) ∙ y)) ∙ n

put_here : (now before : Option ℕ) (k : ℕ) (b : Bool) → is_some before ≡ false → now ≡ Some k → b ≡ true → now ≡ option_or before (if b then Some k else None)
put_here now None k true none e same = e
put_here now (Some j) k b none e same = cc
put_here now None k false none e same = cc

put_elsewhere : (now before : Option ℕ) (k : ℕ) (b : Bool) → now ≡ before → b ≡ false → now ≡ option_or before (if b then Some k else None)
put_elsewhere now None k false e other = e
put_elsewhere now None k true e other = cc
put_elsewhere now (Some j) k b e other = e

kept_here : (before other : Option ℕ) → is_some before ≡ true → before ≡ option_or before other
kept_here None other has = cc
kept_here (Some j) other has = refl

module _ {Y : Type 0} where
  -- the order of the keys
  abbrev pub key_cmp : Vec ℕ Y → Vec ℕ Y → Ordering
  key_cmp j k = slice_cmp nat_cmp j.items k.items

  kept : (old new : List (Vec ℕ Y × ℕ)) (test : Vec ℕ Y → Bool) → KeepsOthers (eq_by_cmp key_cmp) test old new → (other : Vec ℕ Y → Bool) → IsKeyTest (eq_by_cmp key_cmp) other → AreApart test other → lookup other new ≡ lookup other old
  unfolding KeepsOthers
  kept old new test h = h

  at_another : (bs cs : List ℕ) (m n : BTreeMap (Vec ℕ Y) ℕ) → bytes_eq bs cs ≡ false → KeepsOthers (eq_by_cmp key_cmp) (is_at (λ k. slice_cmp nat_cmp bs k.items)) m.entries n.entries → number_at n cs ≡ number_at m cs
  at_another bs cs m n e h = kept _ _ _ h _ (λ x y. (eq_by_cmp_equiv nat_list_cmp_total).congr cs x.items y.items) (λ k y. apart bs cs k.items e y)

  -- what an index holds at any name after a number was put at a name that it lacked
  pub number_at_put : (bs : List ℕ) (m n : BTreeMap (Vec ℕ Y) ℕ) (k : ℕ) → is_some (number_at m bs) ≡ false → UpdatesBy key_cmp (λ j. slice_cmp nat_cmp bs j.items) m n (Some k)
      → (cs : List ℕ) → number_at n cs ≡ option_or (number_at m cs) (if bytes_eq cs bs then Some k else None)
  number_at_put bs m n k lacks h cs = put_cases (bytes_eq bs cs) refl
    where
      put_cases : (b : Bool) → bytes_eq bs cs ≡ b → number_at n cs ≡ option_or (number_at m cs) (if bytes_eq cs bs then Some k else None)
      put_cases true e =
          put_here (number_at n cs) (number_at m cs) k (bytes_eq cs bs)
          (subst (λ l. is_some (number_at m l) ≡ false) ((bytes_decides bs cs).0 e) lacks)
          (subst (λ l. number_at n l ≡ Some k) ((bytes_decides bs cs).0 e) h.1)
          (nat_list_eq_equiv.symm cs bs ∙ e)
      put_cases false e =
          put_elsewhere (number_at n cs) (number_at m cs) k (bytes_eq cs bs)
          (at_another bs cs m n e h.3)
          (nat_list_eq_equiv.symm cs bs ∙ e)

  -- a name that an index has keeps its number
  pub number_at_kept : (bs : List ℕ) (m : BTreeMap (Vec ℕ Y) ℕ) (k : ℕ) → is_some (number_at m bs) ≡ true
      → (cs : List ℕ) → number_at m cs ≡ option_or (number_at m cs) (if bytes_eq cs bs then Some k else None)
  number_at_kept bs m k has cs = kept_cases (bytes_eq cs bs) refl
    where
      kept_cases : (b : Bool) → bytes_eq cs bs ≡ b → number_at m cs ≡ option_or (number_at m cs) (if bytes_eq cs bs then Some k else None)
      kept_cases true e = kept_here (number_at m cs) _ (subst (λ l. is_some (number_at m l) ≡ true) (sym ((bytes_decides cs bs).0 e)) has)
      kept_cases false e = put_elsewhere (number_at m cs) (number_at m cs) k (bytes_eq cs bs) refl e
