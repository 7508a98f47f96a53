-- Each node's list, put together to one.
use Rattle.std.proofs.Common.{◌≡◌, ℕ, ◌==◌, refl, sym, ap, subst, ◌∙◌, List, [], ◌∷◌, eq-eqb, ne_eqb, inl, inr, if◌then◌else◌}
use Rattle.std.proofs.lemmas.Bool.{cases_eq}
use Rattle.vc_machine.specs.Rendezvous as rendezvous
use Rattle.vc_network.specs.Views.{Said, said_by}
use Rattle.vc_process.specs.declared.value_kind.ValueKind.{ValueKind}
use Rattle.vc_occam.specs.Traces.{Comm}
use Rattle.vc_accepted.specs.OneList.{by}
use Rattle.vc_accepted.proofs.StepTraces.{IsSaid, AreSaid}

module _ (kinds : ℕ → ValueKind) where
  abbrev pub AllSaid : List Said → List (ℕ × Comm) → Type 0
  AllSaid [] [] = Unit {0}
  AllSaid ((m, k) ∷ ks) ((n, x) ∷ xs) = (m ≡ n) × IsSaid kinds k x × AllSaid ks xs
  AllSaid [] (x ∷ xs) = ⊥
  AllSaid (k ∷ ks) [] = ⊥

  -- each node's list is told by one of all
  pub record OneOfAll (ks : List Said) (each : ℕ → List Comm) : Type 0 where
    pub all : List (ℕ × Comm)
    pub parts : (n : ℕ) → by n all ≡ each n
    pub said : AllSaid ks all

  abbrev Parts : List Said → (ℕ → List Comm) → Type 0
  Parts ks each = (n : ℕ) → AreSaid kinds (said_by n ks) (each n)

  nothing_said : (xs : List Comm) → AreSaid kinds [] xs → [] ≡ xs
  nothing_said [] h = refl
  nothing_said (x ∷ xs) h = absurd h

  -- one communication, and the rest of its node's list
  record Front (k : ℕ × rendezvous.Comm) (ks : List (ℕ × rendezvous.Comm)) (xs : List Comm) : Type 0 where
    pub first : Comm
    pub rest : List Comm
    pub is : first ∷ rest ≡ xs
    pub said : IsSaid kinds k first
    pub more : AreSaid kinds ks rest

  front : (k : ℕ × rendezvous.Comm) (ks : List (ℕ × rendezvous.Comm)) (xs : List Comm) → AreSaid kinds (k ∷ ks) xs → Front k ks xs
  front k ks [] h = absurd h
  front k ks (x ∷ xs) h = record { first = x; rest = xs; is = refl; said = h.0; more = h.1 }

  abbrev without : ℕ → List Comm → (ℕ → List Comm) → ℕ → List Comm
  without m xs each n = if m == n then xs else each n

  pub one_of_all : (ks : List Said) (each : ℕ → List Comm) → Parts ks each → OneOfAll ks each
  one_of_all [] each h = record { all = []; parts = λ n. nothing_said (each n) (h n); said = tt }
  one_of_all ((m, k) ∷ ks) each h =
      let f = front k (said_by m ks) (each m) (subst (λ b. AreSaid kinds (if b then k ∷ said_by m ks else said_by m ks) (each m)) (eq-eqb m m refl) (h m)) in
      let r = one_of_all ks (without m f.rest each) (λ n. others n f) in
      record {
        all = (m, f.first) ∷ r.all;
        parts = λ n. whole n f r.all (r.parts n);
        said = (refl, f.said, r.said);
      }
    where
      others : (n : ℕ) (f : Front k (said_by m ks) (each m)) → AreSaid kinds (said_by n ks) (without m f.rest each n)
      others n f = elim (cases_eq m n) [
        | inl q ↦ subst (λ b. AreSaid kinds (said_by n ks) (if b then f.rest else each n)) (sym (eq-eqb m n q)) (subst (λ j. AreSaid kinds (said_by j ks) f.rest) q f.more)
        | inr ne ↦ subst (λ b. AreSaid kinds (said_by n ks) (if b then f.rest else each n)) (sym (ne_eqb m n ne))
            (subst (λ b. AreSaid kinds (if b then k ∷ said_by n ks else said_by n ks) (each n)) (ne_eqb m n ne) (h n))
      ]

      whole : (n : ℕ) (f : Front k (said_by m ks) (each m)) (all : List (ℕ × Comm)) → by n all ≡ without m f.rest each n → by n ((m, f.first) ∷ all) ≡ each n
      whole n f all e = elim (cases_eq m n) [
        | inl q ↦ ap (λ b. if b then f.first ∷ by n all else by n all) (eq-eqb m n q)
            ∙ ap (λ xs. f.first ∷ xs) (e ∙ ap (λ b. if b then f.rest else each n) (eq-eqb m n q)) ∙ f.is ∙ ap each q
        | inr ne ↦ ap (λ b. if b then f.first ∷ by n all else by n all) (ne_eqb m n ne) ∙ e ∙ ap (λ b. if b then f.rest else each n) (ne_eqb m n ne)
      ]
