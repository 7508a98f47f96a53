-- A fault's path leads to what is wrong.
use Rattle.std.proofs.Common.{◌≡◌, ◌∙◌, ℕ, zero, suc, ◌+◌, ◌<◌, List, [], ◌∷◌, ◌++◌, length, refl, sym, ap, subst, arith, Bool, true, false, ◌&&◌, ◌==◌, ◌⊎◌, inl, inr, if◌then◌else◌, nat_le, Option, Some, None, Result, Ok, Err}
use Rattle.std.specs.Prelude.{⊤}
use Rattle.std.specs.Ordering.{nat_cmp, is_eq, match_ordering}
use Rattle.std.specs.declared.cmp.Ordering.{Ordering}
use Rattle.std.specs.declared.cmp.Ordering.TheVariants.{Less, Equal, Greater}
use Rattle.std.specs.Cmp.Lexicographic.{slice_cmp, nat_list_eq_equiv}
use Rattle.std.proofs.lemmas.Bool.Decides.{nat_tests}
use Rattle.std.proofs.lemmas.Map.Text.{is_eq-slice_cmp}
use Rattle.serde_json.specs.Data.{Data, null, number, string, array, object, unsigned, negative, float, Items, no_items, item, Members, no_members, member}
use Rattle.serde_json.specs.Find.{at, get_member, get_item}
use Rattle.vc_reader.specs.Faulty.{part_at, Fields, Whole, Wants, LeadsToFault, missing, other_kind, out_of_range, below_zero, unknown_name, unknown_field, further}
use Rattle.vc_reader.specs.Names.{own_name, new_name, known_or_not, found_of, one_of}
use Rattle.vc_reader.specs.Reading.{◌>>=◌, wrong, under, present, field, cell, each, read_list, absent_or_list, list_field, count, row, is_word, has_only, read_object, read_text, read_number}
use Rattle.vc_reader.specs.Words.{word_text}
use Rattle.vc_reader.specs.declared.fault.Fault.{Fault}
use Rattle.vc_reader.specs.declared.fault.Why.{Why}
use Rattle.vc_reader.specs.declared.fault.Why.TheVariants as why
use Rattle.vc_reader.specs.declared.path.Step.{Step}
use Rattle.vc_reader.specs.declared.path.Step.TheVariants.{Field, Index}
use Rattle.vc_reader.specs.declared.word.Word.{Word}

-- what was read of a value, at this place of the file, has a fault only where its path leads
abbrev pub IsTold : {A : Type 0} → List Step → Data → Result A Fault → Type 0
IsTold p d r = (f : Fault) → r ≡ Err f → LeadsToFault p f.path f.why d

fault_is : {A : Type 0} (f g : Fault) → ◌≡◌ {A = Result A Fault} (Err f) (Err g) → f ≡ g
fault_is f g e = cc

pub ok_told : {A : Type 0} {p : List Step} (d : Data) (x : A) → IsTold p d (Ok x)
ok_told d x f e = absurd cc

pub here : {A : Type 0} {p : List Step} (d : Data) (w : Why) → LeadsToFault p [] w d → IsTold {A = A} p d (wrong w)
here {A} {p} d w l f e = subst (λ (g : Fault). LeadsToFault p g.path g.why d) (fault_is (record { why = w; path = [] }) f e) l

pub kind_told : {A : Type 0} {p : List Step} (d : Data) → IsTold {A = A} p d (wrong why.Kind)
kind_told {A} {p} d = here d why.Kind (other_kind p d)

pub then_told : {A B : Type 0} {p : List Step} (d : Data) (r : Result A Fault) (g : A → Result B Fault) → IsTold p d r → ((x : A) → r ≡ Ok x → IsTold p d (g x)) →
    IsTold p d (r >>= g)
then_told d (Ok x) g first rest f e = rest x refl f e
then_told d (Err v) g first rest f e = first f (ap (λ (h : Fault). Err h) (fault_is v f e))

pub under_told : {A : Type 0} {p : List Step} (s : Step) (d v : Data) (r : Result A Fault) → part_at s d ≡ Some v → IsTold (p ++ s ∷ []) v r → IsTold p d (under s r)
under_told s d v (Ok x) at told f e = absurd cc
under_told {A} {p} s d v (Err g) at told f e =
    subst (λ (h : Fault). LeadsToFault p h.path h.why d) (fault_is (record { why = g.why; path = s ∷ g.path }) f e) (further p s d v g.path g.why at (told g refl))

-- fields of an object
pub field_told : {A : Type 0} {p : List Step} (w : Word) (read : Data → Result A Fault) (ms : Members) → ((v : Data) → IsTold (p ++ Field w ∷ []) v (read v)) →
    IsTold p (object ms) (field w read (object ms))
field_told {A} {p} w read ms told = go (get_member (word_text w) ms) refl
  where
    go : (o : Option Data) → get_member (word_text w) ms ≡ o → IsTold p (object ms) (under (Field w) (present read o))
    go None is f e = subst (λ (h : Fault). LeadsToFault p h.path h.why (object ms)) (fault_is (record { why = why.Missing; path = Field w ∷ [] }) f e) (missing p w ms is)
    go (Some v) is f e = under_told (Field w) (object ms) v (read v) is (told v) f e

-- items of a list
pub past : {A : Type 0} (xs : List A) (x : A) (k : ℕ) → length (xs ++ x ∷ []) + k ≡ length xs + suc k
past [] x k = omega arith
past (y ∷ ys) x k = let r = past ys x k in omega (arith, r)

pub each_told : {A : Type 0} {p : List Step} (read : List A → Data → Result A Fault) (all : Items) → ((before : List A) (v : Data) → IsTold (p ++ Index (length before) ∷ []) v (read before v)) →
    (before : List A) (ds : Items) → ((k : ℕ) → get_item (length before + k) all ≡ get_item k ds) → IsTold p (array all) (each read before ds)
each_told read all told before no_items at = ok_told (array all) before
each_told read all told before (item d ds) at =
    then_told (array all) (under (Index (length before)) (read before d)) (λ x. each read (before ++ x ∷ []) ds)
    (under_told (Index (length before)) (array all) d (read before d) (ap (λ n. get_item n all) (omega arith) ∙ at 0) (told before d))
    (λ x e. each_told read all told (before ++ x ∷ []) ds (λ k. ap (λ n. get_item n all) (past before x k) ∙ at (suc k)))

pub list_told : {A : Type 0} {p : List Step} (read : List A → Data → Result A Fault) → ((before : List A) (v : Data) → IsTold (p ++ Index (length before) ∷ []) v (read before v)) →
    (d : Data) → IsTold p d (read_list read d)
list_told read told (array ds) = each_told read ds told [] ds (λ k. ap (λ n. get_item n ds) (omega arith))
list_told read told v = kind_told v

pub list_field_told : {A : Type 0} {p : List Step} (w : Word) (read : List A → Data → Result A Fault) (ms : Members) →
    ((before : List A) (v : Data) → IsTold ((p ++ Field w ∷ []) ++ Index (length before) ∷ []) v (read before v)) → IsTold p (object ms) (list_field w read (object ms))
list_field_told {A} {p} w read ms told = go (get_member (word_text w) ms) refl
  where
    go : (o : Option Data) → get_member (word_text w) ms ≡ o → IsTold p (object ms) (under (Field w) (absent_or_list read o))
    go None is f e = absurd cc
    go (Some v) is f e = under_told (Field w) (object ms) v (read_list read v) is (list_told read told v) f e

there : (n : ℕ) (ds : Items) → n < count ds → (v : Data) × (get_item n ds ≡ Some v)
there n no_items lt = absurd (omega arith)
there zero (item d ds) lt = (d, refl)
there (suc n) (item d ds) lt = there n ds (omega arith)

pub cell_told : {A : Type 0} {p : List Step} (n : ℕ) (read : Data → Result A Fault) (ds : Items) → n < count ds → ((v : Data) → IsTold (p ++ Index n ∷ []) v (read v)) →
    IsTold p (array ds) (cell n read (array ds))
cell_told {A} {p} n read ds lt told =
    let v = there n ds lt in
    subst (λ o. IsTold p (array ds) (under (Index n) (present read o))) (sym v.1) (under_told (Index n) (array ds) v.0 (read v.0) v.1 (told v.0))

-- nothing is wrong
abbrev yes : Result ⊤ Fault
yes = Ok tt

-- a list of so many items, and what is read of it then
pub row_told : {B : Type 0} {p : List Step} (n : ℕ) (rest : Data → Result B Fault) → ((ds : Items) → count ds ≡ n → IsTold p (array ds) (rest (array ds))) → (d : Data) →
    IsTold p d (row n d >>= λ _. rest d)
row_told {B} {p} n rest told (array ds) = go (count ds == n) refl
  where
    go : (b : Bool) → (count ds == n) ≡ b → IsTold p (array ds) ((if b then yes else wrong why.Kind) >>= λ _. rest (array ds))
    go true is = told ds (grind (arith, nat_tests))
    go false is = kind_told (array ds)
row_told n rest told null = kind_told null
row_told n rest told v = kind_told v

-- an object of no other fields, and what is read of it then
self_eq : (k : List ℕ) → slice_cmp nat_cmp k k ≡ Equal
self_eq k = go (slice_cmp nat_cmp k k) (is_eq-slice_cmp k k ∙ nat_list_eq_equiv.refl k)
  where
    go : (o : Ordering) → is_eq o ≡ true → o ≡ Equal
    go Less e = absurd (let c : false ≡ true = e in cc)
    go Equal e = refl
    go Greater e = absurd (let c : false ≡ true = e in cc)

pub first_member : (k : List ℕ) (d : Data) (ms : Members) → get_member k (member k d ms) ≡ Some d
first_member k d ms = ap (λ o. match_ordering o (get_member k ms) (Some d) (get_member k ms)) (self_eq k)

-- a field that an object of these fields does not have
abbrev HasOther : List Word → Members → Type 0
HasOther ws ms = (k : List ℕ) × (d : Data) × (get_member k ms ≡ Some d) × (is_word ws k ≡ false)

other_behind : (ws : List Word) (k : List ℕ) (d : Data) (ms : Members) → HasOther ws ms → HasOther ws (member k d ms)
other_behind ws k d ms (l, e, at, none) = go (slice_cmp nat_cmp l k) refl
  where
    go : (o : Ordering) → slice_cmp nat_cmp l k ≡ o → HasOther ws (member k d ms)
    go Less is = (l, e, ap (λ o. match_ordering o (get_member l ms) (Some d) (get_member l ms)) is ∙ at, none)
    go Equal is = (l, d, ap (λ o. match_ordering o (get_member l ms) (Some d) (get_member l ms)) is, none)
    go Greater is = (l, e, ap (λ o. match_ordering o (get_member l ms) (Some d) (get_member l ms)) is ∙ at, none)

by_word : (ws : List Word) (k : List ℕ) (d : Data) (ms : Members) (b : Bool) → is_word ws k ≡ b → (b ≡ true → HasOther ws ms) → HasOther ws (member k d ms)
by_word ws k d ms false is behind = (k, d, first_member k d ms, is)
by_word ws k d ms true is behind = other_behind ws k d ms (behind refl)

other_field : (ws : List Word) (ms : Members) → has_only ws ms ≡ false → HasOther ws ms
other_field ws no_members e = absurd (let c : true ≡ false = e in cc)
other_field ws (member k d ms) e =
    by_word ws k d ms (is_word ws k) refl (λ is. other_field ws ms (sym (ap (λ b. b && has_only ws ms) is) ∙ e))

pub object_told : {B : Type 0} {p : List Step} (ws : Data → List Word) (rest : Data → Result B Fault) → ((d : Data) → Wants p (Fields (ws d))) →
    ((ms : Members) → IsTold p (object ms) (rest (object ms))) → (d : Data) → IsTold p d (read_object (ws d) d >>= λ _. rest d)
object_told {B} {p} ws rest wants told (object ms) = go (has_only (ws (object ms)) ms) refl
  where
    go : (b : Bool) → has_only (ws (object ms)) ms ≡ b → IsTold p (object ms) ((if b then yes else wrong why.Unknown) >>= λ _. rest (object ms))
    go true is = told ms
    go false is =
        let k = other_field (ws (object ms)) ms is in
        here (object ms) why.Unknown (unknown_field p (ws (object ms)) ms k.0 k.1 (wants (object ms)) k.2 k.3)
object_told ws rest wants told null = kind_told null
object_told ws rest wants told v = kind_told v

-- texts, and what is read of them then
pub text_told : {B : Type 0} {p : List Step} (rest : List ℕ → Result B Fault) → ((s : List ℕ) → IsTold p (string s) (rest s)) → (d : Data) → IsTold p d (read_text d >>= rest)
text_told rest told (string s) = told s
text_told rest told v = kind_told v

pub if_told : {A : Type 0} {p : List Step} (d : Data) (b : Bool) (r s : Result A Fault) → IsTold p d r → IsTold p d s → IsTold p d (if b then r else s)
if_told d true r s x y = x
if_told d false r s x y = y

outside : (least most n : ℕ) → (nat_le least n && nat_le n most) ≡ false → (n < least) ⊎ (most < n)
outside least most n e = go (nat_le least n) refl
  where
    go : (b : Bool) → nat_le least n ≡ b → (n < least) ⊎ (most < n)
    go false is = inl (grind (arith, nat_tests))
    go true is = let above = sym (ap (λ b. b && nat_le n most) is) ∙ e in inr (grind (arith, nat_tests))

pub number_told : {p : List Step} (least most : ℕ) → Wants p (Whole least most) → (d : Data) → IsTold p d (read_number least most d)
number_told {p} least most wants (number (unsigned n)) = go (nat_le least n && nat_le n most) refl
  where
    go : (b : Bool) → (nat_le least n && nat_le n most) ≡ b → IsTold p (number (unsigned n)) (if b then Ok n else wrong why.Range)
    go true is = ok_told (number (unsigned n)) n
    go false is = here (number (unsigned n)) why.Range (out_of_range p least most n wants (outside least most n is))
number_told {p} least most wants (number (negative z)) = here (number (negative z)) why.Range (below_zero p least most z wants)
number_told least most wants (number (float x)) = kind_told (number (float x))
number_told least most wants v = kind_told v

-- names
pub new_name_told : {p : List Step} (is_taken : List ℕ → Bool) (d : Data) → IsTold p d (new_name is_taken d)
new_name_told is_taken = text_told (λ s. own_name (is_taken s) s) (λ s. if_told (string s) _ (Ok s) (wrong why.Kind) (ok_told (string s) s) (kind_told (string s)))

pub known_told : {X : Type 0} {p : List Step} (s : List ℕ) (o : Option X) → IsTold p (string s) (known_or_not o)
known_told {X} {p} s None = here (string s) why.Unknown (unknown_name p s)
known_told s (Some x) = ok_told (string s) x

pub one_of_told : {A : Type 0} {p : List Step} (name_of : A → List ℕ) (known : List A) (d : Data) → IsTold p d (one_of name_of known d)
one_of_told name_of known = text_told (λ s. known_or_not (found_of name_of known s)) (λ s. known_told s (found_of name_of known s))
