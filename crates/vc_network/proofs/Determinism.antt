-- Where an act says which step it is, the acts of a run say which run it is.
use Rattle.std.proofs.Common.{◌≡◌, ℕ, if◌then◌else◌, ◌==◌, List, [], ◌∷◌, ◌++◌, refl, sym, ap, ap₂, ◌∙◌, subst, inl, inr, eq-eqb}
use Rattle.std.proofs.lemmas.List.{append_cancel_left}
use Rattle.std.proofs.lemmas.Bool.{cases_eq}
use Rattle.vc_network.specs.Actors.{Label, Steps, Step, Network, Alike, act_of, taken_off, put_on}
use Rattle.vc_network.specs.Private.Actors.{Run, Event, AreOne, IsDetermined, SameActs}
use Rattle.vc_network.specs.Actors.Label.{Own, Takes, Puts}
use Rattle.vc_network.proofs.Lifts.{step_alike}

pub Alike-sym : {State Item : Type 0} (old new : Network State Item) → Alike old new → Alike new old
Alike-sym old new a = record { states = λ actor. sym (a.states actor); ways = λ way. sym (a.ways way) }

-- the item at the front of a way
front_item : {Item : Type 0} (way : ℕ) (item item' : Item) (after after' before : List Item)
    → (if way == way then item ∷ [] else []) ++ after ≡ before ++ [] → (if way == way then item' ∷ [] else []) ++ after' ≡ before ++ [] → item ≡ item'
front_item {Item} way item item' after after' before e e' =
    let one : (i : Item) (xs : List Item) → (if way == way then i ∷ [] else []) ++ xs ≡ i ∷ xs =
    λ i xs. ap (λ b. (if b then i ∷ [] else []) ++ xs) (eq-eqb way way refl) in
    let same : item ∷ after ≡ item' ∷ after' = sym (one item after) ∙ e ∙ sym e' ∙ one item' after' in
    cc

same_label : {State Act Item : Type 0} (l l' : Label Act Item) (t t' : State) (before after after' : ℕ → List Item)
    → act_of l ≡ act_of l' → AreOne l t l' t'
    → ((way : ℕ) → taken_off way l ++ after way ≡ before way ++ put_on way l)
    → ((way : ℕ) → taken_off way l' ++ after' way ≡ before way ++ put_on way l')
    → (l ≡ l') × (t ≡ t')
same_label (Own act) (Own act') t t' before after after' e one w w' = (ap Own e, one)
same_label (Takes act way item) (Takes act' way' item') t t' before after after' e one w w' =
    let w'' : (if way == way then item' ∷ [] else []) ++ after' way ≡ before way ++ [] =
    subst (λ x. (if x == way then item' ∷ [] else []) ++ after' way ≡ before way ++ []) (sym one.0) (w' way) in
    let same : item ≡ item' = front_item way item item' (after way) (after' way) (before way) (w way) w'' in
    (λ i. Takes (e i) (one.0 i) (same i), one.1 same)
same_label (Puts act way item) (Puts act' way' item') t t' before after after' e one w w' = (λ i. Puts (e i) (one.0 i) (one.1 i), one.2)
same_label _ _ t t' before after after' e one w w' = absurd one

pub step_determined : {State Act Item : Type 0} (Local : Steps State Act Item) → IsDetermined Local
    → (old old' new new' : Network State Item) (actor : ℕ) (l l' : Label Act Item)
    → Alike old old' → Step Local old actor l new → Step Local old' actor l' new' → act_of l ≡ act_of l'
    → (l ≡ l') × Alike new new'
step_determined {State} {Act} {Item} Local det old old' new new' actor l l' a s s' e =
    let r = step_alike Local old' old new' actor l' (Alike-sym old old' a) s' in
    let one = same_label l l' (new.state actor) (new'.state actor) old.way new.way new'.way e
    (det actor (old.state actor) l l' (new.state actor) (new'.state actor) s.local r.local e) s.ways r.ways in (
      one.0,
      record {
        states = λ other.
            elim (cases_eq other actor) [
              | inl mine ↦ subst (λ x. new'.state x ≡ new.state x) (sym mine) (sym one.1)
              | inr ne ↦ r.others other ne ∙ sym (s.others other ne)
            ];
        ways = λ way. append_cancel_left (taken_off way l) (new'.way way) (new.way way)
            (subst (λ x. taken_off way x ++ new'.way way ≡ old.way way ++ put_on way x) (sym one.0) (r.ways way) ∙ sym (s.ways way));
      },
    )

-- the same acts from the same network are the same events, and lead to the same network
pub run_determined : {State Act Item : Type 0} (Local : Steps State Act Item) → IsDetermined Local
    → (old old' new new' : Network State Item) (es es' : List (Event Act Item))
    → Alike old old' → Run Local old es new → Run Local old' es' new' → SameActs es es'
    → (es ≡ es') × Alike new new'
run_determined Local det old old' new new' [] [] a r r' same = (
  refl,
  record {
    states = λ actor. r'.states actor ∙ a.states actor ∙ sym (r.states actor);
    ways = λ way. r'.ways way ∙ a.ways way ∙ sym (r.ways way);
  },
)
run_determined {State} {Act} {Item} Local det old old' new new' (e ∷ es) (f ∷ fs) a r r' same =
    let s' = subst (λ x. Step Local old' x f.label r'.0) (sym same.0) r'.1 in
    let one = step_determined Local det old old' r.0 r'.0 e.actor e.label f.label a r.1 s' same.1 in
    let rest = run_determined Local det r.0 r'.0 new new' es fs one.1 r.2 r'.2 same.2 in
    (ap₂ (λ x xs. x ∷ xs) (λ i. record { actor = same.0 i; label = one.0 i }) rest.0, rest.1)
run_determined Local det old old' new new' _ _ a r r' same = absurd same

-- A run can go on wherever a part of it was made: at no place is its next act not enabled.
pub next_step : {State Act Item : Type 0} (Local : Steps State Act Item) → IsDetermined Local
    → (old old' mid new : Network State Item) (es fs : List (Event Act Item)) (e : Event Act Item) (rest : List (Event Act Item))
    → Alike old old' → Run Local old (es ++ e ∷ rest) new → Run Local old' fs mid → SameActs es fs
    → (next : Network State Item) × Step Local mid e.actor e.label next
next_step Local det old old' mid new [] [] e rest a r r' same =
    (r.0, step_alike Local old mid r.0 e.actor e.label (record { states = λ actor. r'.states actor ∙ a.states actor; ways = λ way. r'.ways way ∙ a.ways way }) r.1)
next_step Local det old old' mid new (d ∷ es) (f ∷ fs) e rest a r r' same =
    let s' = subst (λ x. Step Local old' x f.label r'.0) (sym same.0) r'.1 in
    let one = step_determined Local det old old' r.0 r'.0 d.actor d.label f.label a r.1 s' same.1 in
    next_step Local det r.0 r'.0 mid new es fs e rest one.1 r.2 r'.2 same.2
next_step Local det old old' mid new _ _ e rest a r r' same = absurd same
