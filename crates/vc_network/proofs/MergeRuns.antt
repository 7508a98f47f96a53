-- The merge of the actors' own runs is a run of their network.
use Rattle.std.proofs.Common.{◌≡◌, ℕ, ◌+◌, ◌≤◌, max, Bool, true, false, List, [], ◌∷◌, ◌++◌, map, refl, sym, ap, ◌∙◌, subst, ◌⊎◌, inl, inr, append_assoc, append-nil, if◌then◌else◌, ◌==◌, arith, eqb-true, eq-eqb}
use Rattle.std.specs.List.{flat_map, AllByRecursion}
use Rattle.std.proofs.lemmas.List.{append_cancel_left, map-append}
use Rattle.std.proofs.lemmas.Bool.{ne_eqb}
use Rattle.vc_network.specs.Actors.{Label, Steps, taken_off, put_on}
use Rattle.vc_network.specs.Private.Actors.{Run, KeepsTo}
use Rattle.vc_network.specs.Actors.Label.{Own, Takes, Puts}
use Rattle.vc_network.specs.LocalRun.{Stamped, Turn, plain, next_stamp, CarriesStamp, LocalRun, all_taken, all_put, items, IsPrefix}
use Rattle.vc_network.specs.Merge.{Made, part, NotAfter, IsOrdered}
use Rattle.vc_network.specs.Private.Merge.{event, MergesAreRuns}

-- what the whole list takes off the way and puts on it
abbrev pub takes : {Act Item : Type 0} → ℕ → List (Made (Label Act (Stamped Item))) → List (Stamped Item)
takes way = flat_map (λ m. taken_off way m.act.it)

abbrev pub puts : {Act Item : Type 0} → ℕ → List (Made (Label Act (Stamped Item))) → List (Stamped Item)
puts way = flat_map (λ m. put_on way m.act.it)

-- with the stamps off
one_item : {Item : Type 0} (b : Bool) (s : Stamped Item) → (if b then s.it ∷ [] else []) ≡ items (if b then s ∷ [] else [])
one_item true s = refl
one_item false s = refl

taken_off-plain : {Act Item : Type 0} (way : ℕ) (l : Label Act (Stamped Item)) → taken_off way (plain l) ≡ items (taken_off way l)
taken_off-plain way (Own act) = refl
taken_off-plain way (Takes act from s) = one_item (from == way) s
taken_off-plain way (Puts act to s) = refl

put_on-plain : {Act Item : Type 0} (way : ℕ) (l : Label Act (Stamped Item)) → put_on way (plain l) ≡ items (put_on way l)
put_on-plain way (Own act) = refl
put_on-plain way (Takes act from s) = refl
put_on-plain way (Puts act to s) = one_item (to == way) s

-- An act that keeps to its actor's ways, and whose item, where it puts one, carries its stamp.
abbrev pub IsLawful : {Act Item : Type 0} → (ℕ → ℕ) → (ℕ → ℕ) → Made (Label Act (Stamped Item)) → Type 0
IsLawful source sink m = KeepsTo source sink m.actor (plain m.act.it) × CarriesStamp m.act.at m.act.it

-- what an act puts on the way: nothing, or an item with the act's stamp
put_stamp : {Act Item : Type 0} (way at : ℕ) (l : Label Act (Stamped Item)) → CarriesStamp at l
    → (put_on way l ≡ []) ⊎ ((s : Stamped Item) × (put_on way l ≡ s ∷ []) × (s.at ≡ at))
put_stamp way at (Own act) h = inl refl
put_stamp way at (Takes act from s) h = inl refl
put_stamp {Item} way at (Puts act to s) h =
    elim (to == way) as (λ b. ((if b then s ∷ [] else []) ≡ []) ⊎ ((r : Stamped Item) × ((if b then s ∷ [] else []) ≡ r ∷ []) × (r.at ≡ at)))
    [ true ↦ inr (s, refl, h) | false ↦ inl refl ]

not_after : {A : Type 0} (m n : Made A) → NotAfter m n → m.act.at ≤ n.act.at
not_after m n (inl h) = omega arith
not_after m n (inr h) = omega arith

-- a later act puts only items with a stamp no less
later_put : {Act Item : Type 0} (source sink : ℕ → ℕ) (way : ℕ) (m : Made (Label Act (Stamped Item))) (ms : List (Made (Label Act (Stamped Item))))
    → AllByRecursion (NotAfter m) ms → AllByRecursion (IsLawful source sink) ms
    → (s : Stamped Item) (more : List (Stamped Item)) → puts way ms ≡ s ∷ more → m.act.at ≤ s.at
later_put source sink way m [] after lawful s more e = cc
later_put source sink way m (n ∷ ns) after lawful s more e =
    elim (put_stamp way n.act.at n.act.it lawful.0.1) [
      | inl none ↦ later_put source sink way m ns after.1 lawful.1 s more (rw none at e)
      | inr one ↦
          let e' : one.0 ∷ puts way ns ≡ s ∷ more = rw one.1 at e in
          let same : one.0 ≡ s = cc in
          let at : s.at ≡ n.act.at = ap (λ x. x.at) (sym same) ∙ one.2 in
          omega (arith, not_after m n after.0)
    ]

-- an item that a take finds stands at the front already: it can't be one that is put later
front_take : {Item : Type 0} (b : Bool) (s : Stamped Item) (at clock : ℕ) → at ≡ max clock s.at + 1
    → (held later_takes later_puts left : List (Stamped Item))
    → ((r : Stamped Item) (more : List (Stamped Item)) → later_puts ≡ r ∷ more → at ≤ r.at)
    → ((if b then s ∷ [] else []) ++ later_takes) ++ left ≡ held ++ later_puts
    → IsPrefix (if b then s ∷ [] else []) (held ++ [])
front_take false s at clock a held ts ps left later e = (held ++ [], refl)
front_take true s at clock a [] ts ps left later e = absurd (omega (arith, later s (ts ++ left) (sym e)))
front_take true s at clock a (r ∷ held) ts ps left later e = (held ++ [], cc)

front : {Act Item : Type 0} (way : ℕ) (l : Label Act (Stamped Item)) (at clock : ℕ) → at ≡ next_stamp clock l
    → (held later_takes later_puts left : List (Stamped Item))
    → ((r : Stamped Item) (more : List (Stamped Item)) → later_puts ≡ r ∷ more → at ≤ r.at)
    → (taken_off way l ++ later_takes) ++ left ≡ held ++ (put_on way l ++ later_puts)
    → IsPrefix (taken_off way l) (held ++ put_on way l)
front way (Own act) at clock a held ts ps left later e = (held ++ [], refl)
front way (Takes act from s) at clock a held ts ps left later e = front_take (from == way) s at clock a held ts ps left later e
front way (Puts act to s) at clock a held ts ps left later e = (held ++ put_on way (Puts act to s), refl)

-- the balance of a way after one step
balance : {A : Type 0} (t ts left held p ps held' : List A) → (t ++ ts) ++ left ≡ held ++ (p ++ ps) → t ++ held' ≡ held ++ p → ts ++ left ≡ held' ++ ps
balance t ts left held p ps held' e f =
    append_cancel_left t (ts ++ left) (held' ++ ps)
    (sym (append_assoc t ts left) ∙ e ∙ sym (append_assoc held p ps) ∙ ap (λ x. x ++ ps) (sym f) ∙ append_assoc t held' ps)

-- one step on a way, with the stamps off
way_step : {Act Item : Type 0} (way : ℕ) (l : Label Act (Stamped Item)) (held held' : List (Stamped Item))
    → taken_off way l ++ held' ≡ held ++ put_on way l → taken_off way (plain l) ++ items held' ≡ items held ++ put_on way (plain l)
way_step way l held held' e =
    ap (λ x. x ++ items held') (taken_off-plain way l)
    ∙ sym (map-append (λ s. s.it) (taken_off way l) held')
    ∙ ap items e
    ∙ map-append (λ s. s.it) held (put_on way l)
    ∙ ap (λ x. items held ++ x) (sym (put_on-plain way l))

module _ {State Act Item : Type 0} (Local : Steps State Act Item) (source sink : ℕ → ℕ) where
  -- the runs that are left after the first act
  runs_after : (m : Made (Label Act (Stamped Item))) (ms : List (Made (Label Act (Stamped Item)))) (state : ℕ → State) (clock : ℕ → ℕ) (last : ℕ → State) (mid : State)
      → LocalRun Local m.actor m.act.at mid (part m.actor ms) (last m.actor)
      → (actor : ℕ) (b : Bool) → (m.actor == actor) ≡ b
      → LocalRun Local actor (clock actor) (state actor) (if b then m.act ∷ part actor ms else part actor ms) (last actor)
      → LocalRun Local actor (if b then m.act.at else clock actor) (if b then mid else state actor) (part actor ms) (last actor)
  runs_after m ms state clock last mid own actor true e run = subst (λ x. LocalRun Local x m.act.at mid (part x ms) (last x)) (eqb-true m.actor actor e) own
  runs_after m ms state clock last mid own actor false e run = run

  -- from any point of the list on
  weave : (merged : List (Made (Label Act (Stamped Item)))) (state : ℕ → State) (clock : ℕ → ℕ) (held : ℕ → List (Stamped Item))
      → (last : ℕ → State) (left : ℕ → List (Stamped Item))
      → IsOrdered merged
      → AllByRecursion (IsLawful source sink) merged
      → ((actor : ℕ) → LocalRun Local actor (clock actor) (state actor) (part actor merged) (last actor))
      → ((way : ℕ) → takes way merged ++ left way ≡ held way ++ puts way merged)
      → Run Local (record { state = state; way = λ way. items (held way) }) (map event merged) (record { state = last; way = λ way. items (left way) })
  weave [] state clock held last left ordered lawful runs ways =
      record { states = runs; ways = λ way. ap items (ways way ∙ append-nil (held way)) }
  weave (m ∷ ms) state clock held last left ordered lawful runs ways =
      let run : LocalRun Local m.actor (clock m.actor) (state m.actor) (m.act ∷ part m.actor ms) (last m.actor) =
      subst (λ b. LocalRun Local m.actor (clock m.actor) (state m.actor) (if b then m.act ∷ part m.actor ms else part m.actor ms) (last m.actor)) (eq-eqb m.actor m.actor refl) (runs m.actor) in
      let mid : State = run.0 in
      let now : (way : ℕ) → IsPrefix (taken_off way m.act.it) (held way ++ put_on way m.act.it) =
      λ way. front way m.act.it m.act.at (clock m.actor) run.2 (held way) (takes way ms) (puts way ms) (left way)
      (later_put source sink way m ms ordered.0 lawful.1) (ways way) in
      let state' : ℕ → State = λ actor. if m.actor == actor then mid else state actor in (
        record { state = state'; way = λ way. items ((now way).0) },
        record {
          local = subst (λ b. Local m.actor (state m.actor) (plain m.act.it) (if b then mid else state m.actor)) (sym (eq-eqb m.actor m.actor refl)) run.1;
          others = λ other ne. subst (λ b. (if b then mid else state other) ≡ state other) (sym (ne_eqb m.actor other (λ e. ne (sym e)))) refl;
          ways = λ way. way_step way m.act.it (held way) ((now way).0) ((now way).1);
        },
        weave ms state' (λ actor. if m.actor == actor then m.act.at else clock actor) (λ way. (now way).0) last left ordered.1 lawful.1
            (λ actor. runs_after m ms state clock last mid run.4 actor (m.actor == actor) refl (runs actor))
            (λ way. balance (taken_off way m.act.it) (takes way ms) (left way) (held way) (put_on way m.act.it) (puts way ms) ((now way).0) (ways way) ((now way).1)),
      )

  -- each act of an actor's own run is lawful
  own_lawful : ((actor : ℕ) (old : State) (label : Label Act Item) (new : State) → Local actor old label new → KeepsTo source sink actor label)
      → (actor clock : ℕ) (old new : State) (ts : List (Turn Act Item)) → LocalRun Local actor clock old ts new
      → AllByRecursion (λ t. KeepsTo source sink actor (plain t.it) × CarriesStamp t.at t.it) ts
  own_lawful keeps actor clock old new [] run = tt
  own_lawful keeps actor clock old new (t ∷ ts) run =
      ((keeps actor old (plain t.it) run.0 run.1, run.3), own_lawful keeps actor t.at run.0 new ts run.4)

-- what holds of each actor's part holds of the whole list
all_parts : {A : Type 0} (P : ℕ → Stamped A → Type 0) (ms : List (Made A)) → ((actor : ℕ) → AllByRecursion (P actor) (part actor ms)) → AllByRecursion (λ m. P m.actor m.act) ms
all_parts P [] h = tt
all_parts P (m ∷ ms) h =
    let here : P m.actor m.act × AllByRecursion (P m.actor) (part m.actor ms) =
    subst (λ b. AllByRecursion (P m.actor) (if b then m.act ∷ part m.actor ms else part m.actor ms)) (eq-eqb m.actor m.actor refl) (h m.actor) in
    (here.0, all_parts P ms (λ actor. all_parts_rest P m ms actor (m.actor == actor) (h actor)))
  where
    all_parts_rest : {A : Type 0} (P : ℕ → Stamped A → Type 0) (m : Made A) (ms : List (Made A)) (actor : ℕ) (b : Bool)
        → AllByRecursion (P actor) (if b then m.act ∷ part actor ms else part actor ms) → AllByRecursion (P actor) (part actor ms)
    all_parts_rest P m ms actor true h = h.1
    all_parts_rest P m ms actor false h = h

-- a way of another actor
elsewhere : {Item : Type 0} (owner : ℕ → ℕ) (from way actor : ℕ) (s : Item) (b : Bool)
    → (from == way) ≡ b → owner from ≡ actor → (actor == owner way) ≡ false → (if b then s ∷ [] else []) ≡ []
elsewhere owner from way actor s true same own other =
    let mine : (actor == owner way) ≡ true = eq-eqb actor (owner way) (sym own ∙ ap owner (eqb-true from way same)) in
    cc
elsewhere owner from way actor s false same own other = refl

-- an actor that a way doesn't belong to takes nothing off it, and puts nothing on it
other_takes : {Act Item : Type 0} (source sink : ℕ → ℕ) (way actor : ℕ) (l : Label Act (Stamped Item))
    → KeepsTo source sink actor (plain l) → (actor == sink way) ≡ false → taken_off way l ≡ []
other_takes source sink way actor (Own act) k e = refl
other_takes source sink way actor (Takes act from s) k e = elsewhere sink from way actor s (from == way) refl k e
other_takes source sink way actor (Puts act to s) k e = refl

other_puts : {Act Item : Type 0} (source sink : ℕ → ℕ) (way actor : ℕ) (l : Label Act (Stamped Item))
    → KeepsTo source sink actor (plain l) → (actor == source way) ≡ false → put_on way l ≡ []
other_puts source sink way actor (Own act) k e = refl
other_puts source sink way actor (Takes act from s) k e = refl
other_puts source sink way actor (Puts act to s) k e = elsewhere source to way actor s (to == way) refl k e

-- what the list takes off a way, the way's sink takes
part_step : {A B : Type 0} (f : Stamped A → List B) (m : Made A) (ms : List (Made A)) (actor : ℕ) (b : Bool) (rest : List B)
    → (b ≡ false → f m.act ≡ []) → flat_map f (part actor ms) ≡ rest
    → flat_map f (if b then m.act ∷ part actor ms else part actor ms) ≡ f m.act ++ rest
part_step f m ms actor true rest none e = ap (λ x. f m.act ++ x) e
part_step f m ms actor false rest none e = e ∙ ap (λ x. x ++ rest) (sym (none refl))

taken_parts : {Act Item : Type 0} (source sink : ℕ → ℕ) (way : ℕ) (ms : List (Made (Label Act (Stamped Item))))
    → AllByRecursion (IsLawful source sink) ms → all_taken way (part (sink way) ms) ≡ takes way ms
taken_parts source sink way [] lawful = refl
taken_parts source sink way (m ∷ ms) lawful =
    part_step (λ t. taken_off way t.it) m ms (sink way) (m.actor == sink way) (takes way ms)
    (other_takes source sink way m.actor m.act.it lawful.0.0) (taken_parts source sink way ms lawful.1)

put_parts : {Act Item : Type 0} (source sink : ℕ → ℕ) (way : ℕ) (ms : List (Made (Label Act (Stamped Item))))
    → AllByRecursion (IsLawful source sink) ms → all_put way (part (source way) ms) ≡ puts way ms
put_parts source sink way [] lawful = refl
put_parts source sink way (m ∷ ms) lawful =
    part_step (λ t. put_on way t.it) m ms (source way) (m.actor == source way) (puts way ms)
    (other_puts source sink way m.actor m.act.it lawful.0.0) (put_parts source sink way ms lawful.1)

-- merges of local runs that fit together on each way are runs of the network
pub interleaving : {State Act Item : Type 0} (Local : Steps State Act Item) (source sink : ℕ → ℕ) → MergesAreRuns Local source sink
interleaving {State} {Act} {Item} Local source sink keeps first last runs left merged each merge =
    let lawful : AllByRecursion (IsLawful source sink) merged =
    all_parts (λ actor t. KeepsTo source sink actor (plain t.it) × CarriesStamp t.at t.it) merged (λ actor.
    subst (AllByRecursion (λ t. KeepsTo source sink actor (plain t.it) × CarriesStamp t.at t.it)) (sym (merge.parts actor))
    (own_lawful Local source sink keeps actor 0 (first actor) (last actor) (runs actor) (each.local actor))) in
    weave Local source sink merged first (λ actor. 0) (λ way. []) last left merge.ordered lawful
    (λ actor. subst (λ ts. LocalRun Local actor 0 (first actor) ts (last actor)) (sym (merge.parts actor)) (each.local actor))
    (λ way.
    ap (λ x. x ++ left way) (sym (taken_parts source sink way merged lawful) ∙ ap (all_taken way) (merge.parts (sink way)))
    ∙ each.ways way
    ∙ sym (ap (all_put way) (merge.parts (source way)))
    ∙ put_parts source sink way merged lawful)
