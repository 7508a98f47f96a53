-- There is one merge of given runs.
use Rattle.std.proofs.Common.{◌≡◌, ℕ, if◌then◌else◌, List, [], ◌∷◌, refl, sym, ap, ap₂, ◌∙◌, subst, inl, inr, arith, eq-eqb}
use Rattle.std.specs.List.{AllByRecursion}
use Rattle.std.proofs.lemmas.Bool.{ne_eqb, cases_eq}
use Rattle.vc_network.specs.LocalRun.{Stamped}
use Rattle.vc_network.specs.Merge.{Made, part, NotAfter, IsOrdered, IsMerge}

pub part-own : {A : Type 0} (m : Made A) (ms : List (Made A)) → part m.actor (m ∷ ms) ≡ m.act ∷ part m.actor ms
part-own m ms = ap (λ b. if b then m.act ∷ part m.actor ms else part m.actor ms) (eq-eqb m.actor m.actor refl)

pub part-other : {A : Type 0} (actor : ℕ) (m : Made A) (ms : List (Made A)) → (m.actor ≡ actor → ⊥) → part actor (m ∷ ms) ≡ part actor ms
part-other actor m ms ne = ap (λ b. if b then m.act ∷ part actor ms else part actor ms) (ne_eqb m.actor actor ne)

-- what holds of each act holds of the first of an actor's
pub first_of_part : {A : Type 0} (P : Made A → Type 0) (ms : List (Made A)) (actor : ℕ) (s : Stamped A) (more : List (Stamped A))
    → AllByRecursion P ms → part actor ms ≡ s ∷ more → P (record { actor = actor; act = s })
first_of_part P [] actor s more h e = cc
first_of_part P (m ∷ ms) actor s more h e =
    elim (cases_eq m.actor actor) [
      | inl same ↦
          let e' : m.act ∷ part m.actor ms ≡ s ∷ more = sym (part-own m ms) ∙ ap (λ a. part a (m ∷ ms)) same ∙ e in
          let act : m.act ≡ s = cc in
          subst P (λ i. record { actor = same i; act = act i }) h.0
      | inr ne ↦ first_of_part P ms actor s more h.1 (sym (part-other actor m ms ne) ∙ e)
    ]

one_actor : {A : Type 0} (m n : Made A) → NotAfter m n → NotAfter n m → m.actor ≡ n.actor
one_actor m n (inl h) (inl k) = absurd (omega arith)
one_actor m n (inl h) (inr k) = absurd (omega arith)
one_actor m n (inr h) (inl k) = absurd (omega arith)
one_actor m n (inr h) (inr k) = omega arith

-- the parts after the first act, which is the same one
parts_after : {A : Type 0} (m n : Made A) (ms ns : List (Made A)) → m.actor ≡ n.actor
    → (actor : ℕ) → part actor (m ∷ ms) ≡ part actor (n ∷ ns) → part actor ms ≡ part actor ns
parts_after m n ms ns same actor e =
    elim (cases_eq m.actor actor) [
      | inl mine ↦
          let l : part actor (m ∷ ms) ≡ m.act ∷ part actor ms = subst (λ a. part a (m ∷ ms) ≡ m.act ∷ part a ms) mine (part-own m ms) in
          let r : part actor (n ∷ ns) ≡ n.act ∷ part actor ns = subst (λ a. part a (n ∷ ns) ≡ n.act ∷ part a ns) (sym same ∙ mine) (part-own n ns) in
          cc
      | inr ne ↦ sym (part-other actor m ms ne) ∙ e ∙ part-other actor n ns (λ other. ne (same ∙ other))
    ]

-- two lists in order with the same parts are one list
pub one_merge : {A : Type 0} (ms ns : List (Made A)) → IsOrdered ms → IsOrdered ns → ((actor : ℕ) → part actor ms ≡ part actor ns) → ms ≡ ns
one_merge [] [] om on p = refl
one_merge [] (n ∷ ns) om on p = let e : [] ≡ n.act ∷ part n.actor ns = p n.actor ∙ part-own n ns in cc
one_merge (m ∷ ms) [] om on p = let e : [] ≡ m.act ∷ part m.actor ms = sym (p m.actor) ∙ part-own m ms in cc
one_merge (m ∷ ms) (n ∷ ns) om on p =
    let same : m.actor ≡ n.actor =
    elim (cases_eq m.actor n.actor) [
      | inl e ↦ e
      | inr ne ↦
          one_actor m n
          (first_of_part (NotAfter m) ms n.actor n.act (part n.actor ns) om.0 (sym (part-other n.actor m ms ne) ∙ p n.actor ∙ part-own n ns))
          (first_of_part (NotAfter n) ns m.actor m.act (part m.actor ms) on.0 (sym (part-other m.actor n ns (λ e. ne (sym e))) ∙ sym (p m.actor) ∙ part-own m ms))
    ] in
    let heads : m.act ∷ part m.actor ms ≡ n.act ∷ part n.actor ns = sym (part-own m ms) ∙ p m.actor ∙ ap (λ a. part a (n ∷ ns)) same ∙ part-own n ns in
    let act : m.act ≡ n.act = cc in
    ap₂ (λ x xs. x ∷ xs) (λ i. record { actor = same i; act = act i })
    (one_merge ms ns om.1 on.1 (λ actor. parts_after m n ms ns same actor (p actor)))

-- given runs have one merge
pub IsMerge-unique : {A : Type 0} (runs : ℕ → List (Stamped A)) (ms ns : List (Made A)) → IsMerge runs ms → IsMerge runs ns → ms ≡ ns
IsMerge-unique runs ms ns m n = one_merge ms ns m.ordered n.ordered (λ actor. m.parts actor ∙ sym (n.parts actor))
