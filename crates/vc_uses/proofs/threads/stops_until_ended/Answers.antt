use Rattle.std.proofs.Common.{◌≡◌, ◌≢◌, ◌<◌, ℕ, Bool, true, false, List, length, inl, inr, sym, subst, ◌∙◌, true≢false}
use Rattle.std.proofs.lemmas.Bool.{cases_lt}
use Rattle.std.proofs.lemmas.List.{get_or_past}
use Rattle.vc_core.specs.State.{State}
use Rattle.vc_core.specs.declared.close.Close.{Close}
use Rattle.vc_core.specs.declared.close.Close.TheVariants.{Done}
use Rattle.vc_core.specs.declared.event.Event.{Event}
use Rattle.vc_plan.specs.declared.plan.Plan.{Plan}
use Rattle.vc_threads.specs.Close.{stop_among}
use Rattle.vc_threads.specs.Gates.{once_ended}
use Rattle.vc_threads.specs.Threads.{IsThreadRun}
use Rattle.vc_threads.specs.declared.run.Stop.{Stop}
use Rattle.vc_threads.specs.declared.run.Stop.TheVariants.{Turns, Gate}
use Rattle.vc_uses.proofs.threads.stops_until_ended.Goals as goal

-- a run in which a worker ended by its gate closes Done
done_by_gate : (p : Plan) (turns seed : ℕ) (events : List Event) (s : State) (stops : List Stop) (close : Close) →
    IsThreadRun p (once_ended p s) turns seed events s stops close → (k : ℕ) → stop_among stops k ≡ Gate → close ≡ Done
done_by_gate p turns seed events s stops close run k by = elim (cases_lt k (length stops)) [
  | inl less ↦ run.done.1 ((run.each k (subst (λ n. k < n) run.count less)).gate by).1
  | inr past ↦ let same : Turns ≡ Gate = sym (get_or_past stops k Turns past) ∙ by in absurd (cc)
]

pub returns : goal.returns
returns g c =
    let e = c.in_ok-ending.ending in
    let (events, run) = c.in_ok-ending.ensures in
    λ not k by. c.is_done-has_ended.ensures not (done_by_gate c.args.accepted.now c.args.turns 1 events _ e.stops.items e.close run k by)
