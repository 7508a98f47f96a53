-- Steps and runs of a network that is alike.
use Rattle.std.proofs.Common.{ℕ, List, [], ◌∷◌, ◌++◌, sym, ap, ◌∙◌, subst}
use Rattle.vc_network.specs.Actors.{Label, Steps, Step, Network, Alike, put_on}
use Rattle.vc_network.specs.Private.Actors.{Run, Event}

pub step_alike : {State Act Item : Type 0} (Local : Steps State Act Item) (old old' new : Network State Item) (actor : ℕ) (label : Label Act Item)
    → Alike old old' → Step Local old actor label new → Step Local old' actor label new
step_alike Local old old' new actor label a s =
    record {
      local = subst (λ x. Local actor x label (new.state actor)) (sym (a.states actor)) s.local;
      others = λ other ne. s.others other ne ∙ sym (a.states other);
      ways = λ way. s.ways way ∙ ap (λ x. x ++ put_on way label) (sym (a.ways way));
    }

-- a run begins as well in a network that is alike
pub run_alike : {State Act Item : Type 0} (Local : Steps State Act Item) (old old' new : Network State Item) (es : List (Event Act Item))
    → Alike old old' → Run Local old es new → Run Local old' es new
run_alike Local old old' new [] a r = record { states = λ actor. r.states actor ∙ sym (a.states actor); ways = λ way. r.ways way ∙ sym (a.ways way) }
run_alike Local old old' new (e ∷ es) a r = (r.0, step_alike Local old old' r.0 e.actor e.label a r.1, r.2)
