-- The acts of all workers, as one list, are the events of their run.
use Rattle.std.proofs.Common.{◌≡◌, ◌⊎◌, inl, inr, ℕ, ◌+◌, ◌<◌, ◌≤◌, List, map, ap, sym, subst, ◌∙◌, arith}
use Rattle.std.specs.List.{AllByRecursion}
use Rattle.std.proofs.lemmas.Bool.{cases_lt}
use Rattle.vc_accepted.specs.NetworkOf.{network_of}
use Rattle.vc_actor.specs.Turns.{actors}
use Rattle.vc_actor.specs.declared.act.Act.{Act}
use Rattle.vc_core.specs.State.{state_of}
use Rattle.vc_core.specs.declared.event.Event.{Event}
use Rattle.vc_network.specs.Actors.{act_of}
use Rattle.vc_network.specs.LocalRun.{restamped}
use Rattle.vc_network.specs.Merge.{AreDistinct, IsMerge, Made, RunRises, StampsRise, run_of}
use Rattle.vc_network.proofs.OneMerge.{one_merge}
use Rattle.vc_plan.specs.declared.plan.Plan.{Plan}
use Rattle.vc_threads.specs.MergedRuns.{made_event, numbered, of_pair}
use Rattle.vc_threads.specs.Threads.{EndsRunIn, IsThreadRun}
use Rattle.vc_threads.specs.Works.{logged}
use Rattle.vc_threads.specs.declared.act_log.ActorActs.{ActorActs}
use Rattle.vc_threads.specs.declared.report.Logged.{Logged}
use Rattle.vc_threads.proofs.Stamps.{HasActs, HaveActs, acts_of, all_apart, all_rise, have_acts, none_past, steps_rise}

module _ (p : Plan) (refuses : ℕ → ℕ → Type 0) (turns seed : ℕ) (r : Logged ActorActs) (ran : EndsRunIn (λ log actor acts. (log.id ≡ actor) × (log.acts.items ≡ acts)) p refuses turns seed r) where
  have : HaveActs ran.run.runs 0 r.logs.items
  have = have_acts ran.run.runs 0 r.logs.items (λ k l here. let at : k ≡ 0 + k = omega arith in subst (HasActs ran.run.runs l) at (ran.logs k l here))

  picked_rise : (k : ℕ) → (k < actors p) ⊎ (actors p ≤ k) → StampsRise (map of_pair (map logged (ran.run.runs k)))
  picked_rise k (inl less) = let it = ran.run.each k less in steps_rise (network_of p) k it.from it.to (ran.run.runs k) it.run
  picked_rise k (inr past) = subst (λ ts. StampsRise (map of_pair (map logged ts))) (sym (ran.run.none k past)) tt

  pub logs_rise : AllByRecursion RunRises (map numbered r.logs.items)
  logs_rise = all_rise ran.run.runs 0 r.logs.items (λ k. picked_rise k (cases_lt k (actors p))) have

  pub logs_apart : AreDistinct (map numbered r.logs.items)
  logs_apart = all_apart ran.run.runs 0 r.logs.items have

  picked_acts : (k : ℕ) → (k < actors p) ⊎ (actors p ≤ k) → run_of (map numbered r.logs.items) k ≡ map (restamped act_of) (ran.run.runs k)
  picked_acts k (inl less) =
      let n = ran.count in
      let at : 0 + k ≡ k = omega arith in
      subst (λ i. run_of (map numbered r.logs.items) i ≡ map (restamped act_of) (ran.run.runs i)) at (acts_of ran.run.runs 0 k r.logs.items have (omega (arith, n, less)))
  picked_acts k (inr past) =
      let n = ran.count in
      none_past ran.run.runs 0 k r.logs.items have (omega (arith, n, past)) ∙ sym (ap (map (restamped act_of)) (ran.run.none k past))

  -- any merge of the logs is the one of the run
  pub reports : (merged : List (Made Act)) → IsMerge (run_of (map numbered r.logs.items)) merged → (steps : List Event) → steps ≡ map made_event merged
      → IsThreadRun p refuses turns seed steps (state_of r.ending.state) r.ending.stops.items r.ending.close
  reports merged m steps is =
      let same = one_merge ran.run.merged merged ran.run.merge.ordered m.ordered (λ k. ran.run.merge.parts k ∙ sym (picked_acts k (cases_lt k (actors p))) ∙ sym (m.parts k)) in
      subst (λ es. IsThreadRun p refuses turns seed es (state_of r.ending.state) r.ending.stops.items r.ending.close) (ran.run.steps ∙ ap (map made_event) same ∙ sym is) ran.run
