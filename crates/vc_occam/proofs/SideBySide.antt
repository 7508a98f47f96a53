-- Parts that go on side by side.
use Rattle.std.proofs.Common.{◌≡◌, ℕ, refl, ap, sym, ◌∙◌, List, [], ◌∷◌, ◌++◌, Option, Some, None, length, drop, map, get_or, ◌+◌, ◌≤◌, ◌<◌, append_assoc, append-nil}
use Rattle.std.specs.Option.{option_or}
use Rattle.vc_occam.specs.declared.frame.Frame.{Frame}
use Rattle.vc_occam.specs.declared.frame.Task.{Task}
use Rattle.vc_occam.specs.declared.waits.Waits.{Waits}
use Rattle.vc_process.specs.Usage.{Set, changes}
use Rattle.vc_process.specs.Values.{Store}
use Rattle.vc_occam.specs.BlockedParts.{blocked}
use Rattle.vc_occam.specs.First.{own}
use Rattle.vc_occam.specs.Frames.{View, besides, task_view}
use Rattle.vc_occam.specs.Private.Frames.{assigned_at, first_waits, seen_task, shown, task_views, waits_there, whole}
use Rattle.vc_occam.specs.Remains.{Rest, Done, beside_on}
use Rattle.vc_occam.specs.States.{Waiting, output_at, waiting}
use Rattle.vc_process.proofs.Walks.{drop_all, drop_at}

pub beside_own : (mine : Set) (r q : Rest) (e : Store) → own (beside_on mine r q) e ≡ own r e ++ own q e
beside_own mine Done Done e = refl
beside_own mine r q e = refl

pub beside_waits : (mine : Set) (r q : Rest) → waiting (beside_on mine r q) ≡ waiting r ++ waiting q
beside_waits mine Done Done = refl
beside_waits mine r q = refl

pub beside_blocked : (mine : Set) (r q : Rest) (e : Store) → blocked (beside_on mine r q) e ≡ blocked r e ++ blocked q e
beside_blocked mine Done Done e = refl
beside_blocked mine r q e = refl

pub beside_output : (i : ℕ) (mine : Set) (r q : Rest) (e : Store) → output_at i (beside_on mine r q) e ≡ option_or (output_at i r e) (output_at i q e)
beside_output i mine Done Done e = refl
beside_output i mine r q e = refl

pub beside_assigned : (i : ℕ) (mine : Set) (r q : Rest) (e : Store) → assigned_at i (beside_on mine r q) e ≡ option_or (assigned_at i r e) (assigned_at i q e)
beside_assigned i mine Done Done e = refl
beside_assigned i mine r q e = refl

-- parts gone through from one on
pub drop_task : (k : ℕ) (ts : List (Task Frame)) (t : Task Frame) → k < length ts → t ≡ get_or ts k t →
    besides (task_views (drop k ts)) ≡ beside_on (changes (whole t)) (shown t).rest (besides (task_views (drop (k + 1) ts)))
drop_task k ts t l h = ap (λ (vs : List (Task View)). besides (map task_view vs)) (drop_at seen_task k ts t l h)

pub drop_tasks : (k : ℕ) (ts : List (Task Frame)) → length ts ≤ k → besides (task_views (drop k ts)) ≡ Done
drop_tasks k ts l = ap (λ (vs : List (Task View)). besides (map task_view vs)) (drop_all seen_task k ts l)

-- what is listed of all parts, from the first on
module _ {A : Type 0} (G : Rest → List A) (both : (mine : Set) (r q : Rest) → G (beside_on mine r q) ≡ G r ++ G q) where
  pub listed_next : (k : ℕ) (ts : List (Task Frame)) (t : Task Frame) (found new all : List A) → k < length ts → t ≡ get_or ts k t → new ≡ found ++ G (shown t).rest →
      found ++ G (besides (task_views (drop k ts))) ≡ all → new ++ G (besides (task_views (drop (k + 1) ts))) ≡ all
  listed_next k ts t found new all l h n q =
      let r = (shown t).rest in
      let rest = besides (task_views (drop (k + 1) ts)) in
      ap (λ xs. xs ++ G rest) n ∙ append_assoc found (G r) (G rest) ∙ ap (λ xs. found ++ xs) (sym (both (changes (whole t)) r rest)) ∙ ap (λ x. found ++ G x) (sym (drop_task k ts t l h)) ∙ q

  pub listed_end : (k : ℕ) (ts : List (Task Frame)) (found all : List A) → G Done ≡ [] → length ts ≤ k → found ++ G (besides (task_views (drop k ts))) ≡ all → found ≡ all
  listed_end k ts found all n l q = sym (append-nil found) ∙ ap (λ xs. found ++ xs) (sym (ap G (drop_tasks k ts l) ∙ n)) ∙ q

-- the first that waits
pub first_append : (w : Waits) (xs ys : List Waiting) → first_waits w (xs ++ ys) ≡ option_or (first_waits w xs) (first_waits w ys)
first_append w [] ys = refl
first_append w (x ∷ xs) ys = ap (option_or (waits_there w x)) (first_append w xs ys) ∙ first_of (waits_there w x) (first_waits w xs) (first_waits w ys)
  where
    first_of : (a b c : Option ℕ) → option_or a (option_or b c) ≡ option_or (option_or a b) c
    first_of None b c = refl
    first_of (Some x) b c = refl

-- what is waited for from one part on
waits_from : (k : ℕ) (ts : List (Task Frame)) (t : Task Frame) (w : Waits) (x : Option ℕ) → k < length ts → t ≡ get_or ts k t → x ≡ first_waits w (waiting (shown t).rest) →
    option_or x (first_waits w (waiting (besides (task_views (drop (k + 1) ts))))) ≡ first_waits w (waiting (besides (task_views (drop k ts))))
waits_from k ts t w x l h g =
    let r = (shown t).rest in
    let rest = besides (task_views (drop (k + 1) ts)) in
    ap (λ y. option_or y (first_waits w (waiting rest))) g ∙ sym (first_append w (waiting r) (waiting rest)) ∙ ap (first_waits w) (sym (beside_waits (changes (whole t)) r rest)) ∙ ap (λ y. first_waits w (waiting y)) (sym (drop_task k ts t l h))

pub waits_more : (k : ℕ) (ts : List (Task Frame)) (t : Task Frame) (w : Waits) (o : Option ℕ) → k < length ts → t ≡ get_or ts k t → None ≡ first_waits w (waiting (shown t).rest) →
    first_waits w (waiting (besides (task_views (drop k ts)))) ≡ o → first_waits w (waiting (besides (task_views (drop (k + 1) ts)))) ≡ o
waits_more k ts t w o l h g q = waits_from k ts t w None l h g ∙ q

pub waits_found : (k : ℕ) (ts : List (Task Frame)) (t : Task Frame) (w : Waits) (o : Option ℕ) (i : ℕ) → k < length ts → t ≡ get_or ts k t → Some i ≡ first_waits w (waiting (shown t).rest) →
    first_waits w (waiting (besides (task_views (drop k ts)))) ≡ o → Some i ≡ o
waits_found k ts t w o i l h g q = waits_from k ts t w (Some i) l h g ∙ q

pub waits_end : (k : ℕ) (ts : List (Task Frame)) (w : Waits) (o : Option ℕ) → length ts ≤ k → first_waits w (waiting (besides (task_views (drop k ts)))) ≡ o → None ≡ o
waits_end k ts w o l q = sym (ap (λ r. first_waits w (waiting r)) (drop_tasks k ts l)) ∙ q
