-- Counts of acts, one act after another.
use Rattle.std.proofs.Common.{Result, Ok, Err, OnOk, true, false, ◌≡◌, ℕ, List, [], ◌∷◌, ◌++◌, Option, IfSome, sym, subst}
use Rattle.std.specs.Result.{is_err}
use Rattle.std.proofs.lemmas.List.{map-append}
use Rattle.vc_actor.specs.declared.act.Act.{Act}
use Rattle.vc_core.specs.declared.event.Event.{Event}
use Rattle.vc_stats.specs.Counts.{Counts}
use Rattle.vc_stats.specs.Private.ActCounts.{events_by}
use Rattle.vc_stats.specs.declared.stats.Stats.{Stats}

-- one act more is one event more
pub one_more : (actor own stamp : ℕ) (act : Act) (acts : List (ℕ × Act)) (old new : Option Stats) → own ≡ actor
    → ((es : List Event) → IfSome old (λ s. Counts s es) → IfSome new (λ s. Counts s (es ++ record { actor = own; act = act } ∷ [])))
    → IfSome old (λ s. Counts s (events_by actor acts)) → IfSome new (λ s. Counts s (events_by actor (acts ++ (stamp, act) ∷ [])))
one_more actor own stamp act acts old new same more h =
    subst (λ es. IfSome new (λ s. Counts s es)) (sym (map-append (λ (a : ℕ × Act). record { actor = actor; act = a.1 }) acts ((stamp, act) ∷ [])))
    (subst (λ k. IfSome new (λ s. Counts s (events_by actor acts ++ record { actor = k; act = act } ∷ []))) same (more (events_by actor acts) h))

-- what holds of a result that is no error
pub of_ok : {T E : Type 0} (P : Type 0) (r : Result T E) → is_err r ≡ false → OnOk r P → P
of_ok P (Ok x) is p = p
of_ok P (Err e) is p = absurd (let f : true ≡ false = is in cc)
