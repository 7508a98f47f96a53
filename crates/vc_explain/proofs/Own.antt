-- The first use that is wanted in the conditions of an IF, in the guards of an ALT, and in the parts of a PAR.
use Rattle.std.proofs.Common.{◌≡◌, ℕ, suc, ◌+◌, ◌==◌, Bool, true, false, refl, ap, sym, ◌∙◌, List, [], ◌∷◌, ◌++◌, map, if◌then◌else◌, Option, Some, None, slice_get}
use Rattle.std.specs.Prelude.{option_map}
use Rattle.std.specs.Option.{option_or}
use Rattle.vc_process.specs.Numbering.{Numbered, NumberedBranch, NumberedGuard, branches_from, guards_from, parts_from}
use Rattle.vc_process.specs.Usage.{in_test}
use Rattle.vc_process.specs.declared.value_kind.ValueKind.{ValueKind}
use Rattle.vc_reader.specs.declared.path.Step.{Step}
use Rattle.vc_reader.specs.declared.path.Step.TheVariants.{Field, Index}
use Rattle.vc_reader.specs.declared.word.Word.TheVariants as word
use Rattle.vc_explain.specs.declared.offence.PartPlace.{PartPlace}
use Rattle.vc_explain.specs.declared.wanted.Wanted.{Wanted}
use Rattle.vc_explain.specs.Offences.{first_beside, first_in, in_par, in_part}
use Rattle.vc_explain.specs.Uses.{Use, branch_uses, change, expression, first_marked, first_of, guard_uses, input, items_at, place, place_if, wants}
use Rattle.vc_explain.proofs.Locations.{behind_branch, behind_guard, behind_part}
use Rattle.vc_explain.proofs.Sought.{Opens, first_append}

marked_one : (b : Bool) (at : List Step) (more : Option (List Step)) → option_or (if b then Some at else None) more ≡ (if b then Some at else more)
marked_one true at more = refl
marked_one false at more = refl

-- the first use of a list that is wanted is its first mark
pub marked : (w : Wanted) (list : List Step) (k : ℕ) (us : List Use) → first_marked list k (map (wants w) us) ≡ first_of (place_if w) (items_at list k us)
marked w list k [] = refl
marked w list k (u ∷ us) =
    ap (λ more. if wants w u then Some (list ++ Index k ∷ []) else more) (marked w list (suc k) us) ∙ sym (marked_one (wants w u) (list ++ Index k ∷ []) (first_of (place_if w) (items_at list (suc k) us)))

pub marks_one : (w : Wanted) (list : List Step) (u : Use) (a : Bool) → a ≡ wants w u → first_marked list 0 (a ∷ []) ≡ first_of (place_if w) (items_at list 0 (u ∷ []))
marks_one w list u a h = ap (λ m. first_marked list 0 (m ∷ [])) h ∙ marked w list 0 (u ∷ [])

pub marks_two : (w : Wanted) (list : List Step) (u v : Use) (a b : Bool) → a ≡ wants w u → b ≡ wants w v → first_marked list 0 (a ∷ b ∷ []) ≡ first_of (place_if w) (items_at list 0 (u ∷ v ∷ []))
marks_two w list u v a b h i = ap (λ m. first_marked list 0 (m ∷ b ∷ [])) h ∙ ap (λ m. first_marked list 0 (wants w u ∷ m ∷ [])) i ∙ marked w list 0 (u ∷ v ∷ [])

pub marks_three : (w : Wanted) (list : List Step) (u v x : Use) (a b c : Bool) → a ≡ wants w u → b ≡ wants w v → c ≡ wants w x →
    first_marked list 0 (a ∷ b ∷ c ∷ []) ≡ first_of (place_if w) (items_at list 0 (u ∷ v ∷ x ∷ []))
marks_three w list u v x a b c h i j =
    ap (λ m. first_marked list 0 (m ∷ b ∷ c ∷ [])) h ∙ ap (λ m. first_marked list 0 (wants w u ∷ m ∷ c ∷ [])) i ∙ ap (λ m. first_marked list 0 (wants w u ∷ wants w v ∷ m ∷ [])) j ∙ marked w list 0 (u ∷ v ∷ x ∷ [])

-- a stop is a use alone
pub stop_alone : (w : Wanted) (u : Use) (at : List Step) (a : Bool) → a ≡ wants w u → (if a then Some at else None) ≡ first_of (place_if w) ((u, at) ∷ [])
stop_alone w u at a h = ap (λ b. if b then Some at else None) h ∙ sym (marked_one (wants w u) at None)

abbrev pub in_conditions : Wanted → List Step → ℕ → List NumberedBranch → ℕ → Option (List Step)
in_conditions w at k ns s = first_of (place_if w) (branch_uses at k (branches_from s ns))

abbrev pub in_condition : Wanted → List Step → ℕ → NumberedBranch → ℕ → Option (List Step)
in_condition w at k n s = first_of (place_if w) (items_at (at ++ Field word.If ∷ Index k ∷ []) 0 (expression (in_test n.when) ∷ []))

pub conditions_open : (w : Wanted) (at : List Step) → Opens (in_conditions w at) (in_condition w at) behind_branch
conditions_open w at k n ns s =
    first_append (place_if w) (items_at (at ++ Field word.If ∷ Index k ∷ []) 0 (expression (in_test n.when) ∷ [])) (branch_uses at (suc k) (branches_from (s + n.then_do.sites) ns))

-- the uses that stand in a guard itself
abbrev pub uses_of_guard : List ValueKind → NumberedGuard → List Use
uses_of_guard kinds n = expression (in_test n.when) ∷ input n.chan (slice_get kinds n.var) ∷ change n.var ∷ []

abbrev pub in_inputs : Wanted → List ValueKind → List Step → ℕ → List NumberedGuard → ℕ → Option (List Step)
in_inputs w kinds at k ns s = first_of (place_if w) (guard_uses kinds at k (guards_from s ns))

abbrev pub in_input : Wanted → List ValueKind → List Step → ℕ → NumberedGuard → ℕ → Option (List Step)
in_input w kinds at k n s = first_of (place_if w) (items_at (at ++ Field word.Alt ∷ Index k ∷ []) 0 (uses_of_guard kinds n))

pub inputs_open : (w : Wanted) (kinds : List ValueKind) (at : List Step) → Opens (in_inputs w kinds at) (in_input w kinds at) behind_guard
inputs_open w kinds at k n ns s =
    first_append (place_if w) (items_at (at ++ Field word.Alt ∷ Index k ∷ []) 0 (uses_of_guard kinds n)) (guard_uses kinds at (suc k) (guards_from (s + n.then_do.sites) ns))

-- in a part of a PAR, and in one that is not part j
abbrev pub in_one : Wanted → List Step → ℕ → List Numbered → ℕ → Option PartPlace
in_one w at k ns s = first_in w at k (parts_from s ns)

abbrev pub in_own : Wanted → List Step → ℕ → Numbered → ℕ → Option PartPlace
in_own w at k n s = option_map (in_part k) (place w [] (n.tree s) (in_par at k))

pub one_opens : (w : Wanted) (at : List Step) → Opens (in_one w at) (in_own w at) behind_part
one_opens w at k n ns s = refl

abbrev pub beside_one : Wanted → ℕ → List Step → ℕ → List Numbered → ℕ → Option (List Step)
beside_one w j at k ns s = first_beside w j at k (parts_from s ns)

abbrev pub beside_own : Wanted → ℕ → List Step → ℕ → Numbered → ℕ → Option (List Step)
beside_own w j at k n s = if k == j then None else place w [] (n.tree s) (in_par at k)

pub beside_opens : (w : Wanted) (j : ℕ) (at : List Step) → Opens (beside_one w j at) (beside_own w j at) behind_part
beside_opens w j at k n ns s = refl
