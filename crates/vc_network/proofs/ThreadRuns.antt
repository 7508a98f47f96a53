-- What the threads did is a run of the network, whose acts are the merge's.
use Rattle.std.proofs.Common.{◌≡◌, ℕ, List, map, [], ◌∷◌, refl, sym, ap, ap₂, ◌∙◌, ◌++◌, subst}
use Rattle.vc_network.specs.Actors.{Label, Steps, ActBy, Network, act_of, opening, Alike, Step}
use Rattle.vc_network.specs.Private.Actors.{Run, Event, KeepsTo, act_by, SameActs, IsDetermined}
use Rattle.vc_network.specs.Actors.Label.{Own}
use Rattle.vc_network.specs.LocalRun.{Stamped, Turn, LocalRuns, items, plain, restamped}
use Rattle.vc_network.specs.Merge.{Made, IsMerge}
use Rattle.vc_network.specs.Private.Merge.{event, remade}
use Rattle.vc_network.proofs.MergeRuns.{interleaving}
use Rattle.vc_network.proofs.Determinism.{next_step, run_determined}
use Rattle.vc_network.proofs.Labels.{IsMerge-under}

same_act : {Act Item : Type 0} (l : Label Act (Stamped Item)) → act_of (plain l) ≡ act_of l
same_act (Own act) = refl
same_act d = refl

acts_by : {Act Item : Type 0} (ms : List (Made (Label Act (Stamped Item)))) → map act_by (map event ms) ≡ map (λ m. record { actor = m.actor; act = m.act.it }) (map (remade act_of) ms)
acts_by [] = refl
acts_by (m ∷ ms) = ap₂ (λ x xs. x ∷ xs) (λ i. record { actor = m.actor; act = same_act m.act.it i }) (acts_by ms)

-- From the merge of the acts alone, without their items.
pub threads_run : {State Act Item : Type 0} (Local : Steps State Act Item) (source sink : ℕ → ℕ)
    → ((actor : ℕ) (old : State) (label : Label Act Item) (new : State) → Local actor old label new → KeepsTo source sink actor label)
    → (first last : ℕ → State) (runs : ℕ → List (Turn Act Item)) (left : ℕ → List (Stamped Item)) (acts : List (Made Act))
    → LocalRuns Local source sink first runs last left
    → IsMerge (λ actor. map (restamped act_of) (runs actor)) acts
    → (es : List (Event Act Item))
    × (map act_by es ≡ map (λ m. record { actor = m.actor; act = m.act.it }) acts)
    × Run Local (opening first) es (record { state = last; way = λ way. items (left way) })
threads_run Local source sink keeps first last runs left acts each merge =
    let under = IsMerge-under act_of runs acts merge in (
      map event under.0,
      acts_by under.0 ∙ ap (map (λ m. record { actor = m.actor; act = m.act.it })) under.1,
      interleaving Local source sink keeps first last runs left under.0 each under.2,
    )

same_acts : {Act Item : Type 0} (es fs : List (Event Act Item)) → map act_by es ≡ map act_by fs → SameActs es fs
same_acts [] [] h = tt
same_acts [] (f ∷ fs) h = cc
same_acts (e ∷ es) [] h = cc
same_acts (e ∷ es) (f ∷ fs) h =
    let head : act_by e ≡ act_by f = cc in
    (ap (λ a. a.actor) head, ap (λ a. a.act) head, same_acts es fs cc)

-- the event of an act in the middle
cut_at : {Act Item : Type 0} (es : List (Event Act Item)) (done : List (ActBy Act)) (a : ActBy Act) (rest : List (ActBy Act)) → map act_by es ≡ done ++ a ∷ rest
    → (front : List (Event Act Item)) × (e : Event Act Item) × (back : List (Event Act Item)) × (es ≡ front ++ e ∷ back) × (map act_by front ≡ done) × (act_by e ≡ a)
cut_at [] [] a rest h = cc
cut_at [] (d ∷ ds) a rest h = cc
cut_at (e ∷ es) [] a rest h = ([], e, es, refl, refl, cc)
cut_at (e ∷ es) (d ∷ ds) a rest h =
    let head : act_by e ≡ d = cc in
    let r = cut_at es ds a rest cc in
    (e ∷ r.0, r.1, r.2, ap (λ xs. e ∷ xs) {y = r.0 ++ r.1 ∷ r.2} r.3, ap₂ (λ x xs. x ∷ xs) head r.4, r.5)

-- Wherever a replay of the acts of a run has come, the next act is enabled.
pub never_refused : {State Act Item : Type 0} (Local : Steps State Act Item) → IsDetermined Local
    → (old old' mid new : Network State Item) (es made : List (Event Act Item)) (done : List (ActBy Act)) (a : ActBy Act) (rest : List (ActBy Act))
    → Alike old old' → Run Local old es new → map act_by es ≡ done ++ a ∷ rest
    → Run Local old' made mid → map act_by made ≡ done
    → (e : Event Act Item) × (act_by e ≡ a) × ((next : Network State Item) × Step Local mid e.actor e.label next)
never_refused Local det old old' mid new es made done a rest alike run split replay same =
    let cut = cut_at es done a rest split in (
      cut.1,
      cut.5,
      next_step Local det old old' mid new cut.0 made cut.1 cut.2 alike (subst (λ xs. Run Local old xs new) cut.3 run) replay
          (same_acts cut.0 made (cut.4 ∙ sym same)),
    )

-- and after all acts the replay is where the run ends
pub same_end : {State Act Item : Type 0} (Local : Steps State Act Item) → IsDetermined Local
    → (old old' mid new : Network State Item) (es made : List (Event Act Item))
    → Alike old old' → Run Local old es new → Run Local old' made mid → map act_by es ≡ map act_by made → Alike new mid
same_end Local det old old' mid new es made alike run replay same = (run_determined Local det old old' new mid es made alike run replay (same_acts es made same)).1
