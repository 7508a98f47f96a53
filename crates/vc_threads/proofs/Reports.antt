-- What the runs of all jobs report.
use Rattle.std.proofs.Common.{◌≡◌, ℕ, zero, suc, ◌+◌, ◌<◌, ◌≤◌, ◌⊎◌, inl, inr, false, nat_lt, if◌then◌else◌, List, [], ◌∷◌, length, map, slice_get, option_map, Some, None, refl, ap, sym, subst, ◌∙◌, arith}
use Rattle.std.specs.List.{AllZip, Contains}
use Rattle.std.proofs.lemmas.Bool.{cases_lt}
use Rattle.std.proofs.lemmas.Bool.Decides.{nat_tests}
use Rattle.std.proofs.lemmas.List.{length-map}
use Rattle.std.proofs.lemmas.Option.{slice_get-map, slice_get_past, get_or_from_slice_get, slice_get_within}
use Rattle.std.proofs.lemmas.Simd.{map-map}
use Rattle.rand_pcg.specs.Lcg.{started, increment_of}
use Rattle.rand_pcg.specs.Pcg.{multiplier_64}
use Rattle.vc_accepted.specs.NetworkOf.{network_of}
use Rattle.vc_network.specs.Actors.{act_of}
use Rattle.vc_network.specs.LocalRun.{Turn, restamped}
use Rattle.vc_network.specs.Merge.{Made, IsMerge, StampsRise}
use Rattle.vc_actor.specs.Begin.{AreFirst, BeginsAs}
use Rattle.vc_actor.specs.OfPlan.{IsActorOf}
use Rattle.vc_actor.specs.ActorView.{Acting, actor_of}
use Rattle.vc_actor.specs.Turns.{actors}
use Rattle.vc_actor.specs.declared.act.Act.{Act}
use Rattle.vc_machine.specs.Rendezvous.{nothing_yet}
use Rattle.vc_network.specs.Network.{Actor, IsNode, IsSwitch, first as begun}
use Rattle.vc_plan.specs.declared.plan.Plan.{Plan}
use Rattle.vc_switch.specs.Switch.{new_switch}
use Rattle.vc_accepted.specs.Begin.{begin_of}
use Rattle.vc_accepted.specs.Process.{Process}
use Rattle.vc_tokens.specs.declared.token.Token.{Token}
use Rattle.vc_packets.specs.Functions.{shown_or}
use Rattle.vc_vcp.specs.Links.{new_vcp}
use Rattle.vc_threads.specs.Private.Close.{AreInOrder, stop_in, stop_at}
use Rattle.vc_threads.specs.Jobs.{Ran}
use Rattle.vc_threads.specs.MergedRuns.{of_pair}
use Rattle.vc_threads.specs.Private.Order.{actor_left, log_left}
use Rattle.vc_threads.specs.Private.Rings.{AreWired, outs_in, ins_in}
use Rattle.vc_threads.specs.Runs.{Draws, words_of}
use Rattle.vc_threads.specs.Private.Threads.{AreNumbered, actor_in, who}
use Rattle.vc_threads.specs.Threads.{IsRunOf}
use Rattle.vc_threads.specs.Works.{logged, HasRun}
use Rattle.vc_threads.specs.declared.spawn.Job.{Job}
use Rattle.vc_threads.specs.declared.run.ActorRun.{ActorRun}
use Rattle.vc_threads.specs.declared.run.Stop.TheVariants.{Turns}
use Rattle.vc_threads.proofs.Existence.{merges}
use Rattle.vc_threads.proofs.OverWires.{over_wires}
use Rattle.vc_threads.proofs.Stamps.{steps_rise}
use Rattle.vc_threads.proofs.Steps.{run_kept}
use Rattle.vc_threads.proofs.Zips.{zip_length}

-- the job and the run of actor n + k, where the jobs are numbered from n on
pub record Done {L : Type 0} (holds : L → ℕ → List (ℕ × Act) → Type 0) (refuses : ℕ → ℕ → Type 0) (turns seed n k : ℕ) (js : List Job) (rs : List (ActorRun L)) : Type 0 where
  pub job : Job
  pub run : ActorRun L
  pub job_is : slice_get js k ≡ Some job
  pub run_is : slice_get rs k ≡ Some run
  pub id : job.id ≡ n + k
  pub ran : Ran holds refuses turns seed job run

pub done_at : {L : Type 0} (holds : L → ℕ → List (ℕ × Act) → Type 0) (refuses : ℕ → ℕ → Type 0) (turns seed n k : ℕ) (js : List Job) (rs : List (ActorRun L)) → AreNumbered n (map who js) → AllZip (Ran holds refuses turns seed) js rs → k < length js → Done holds refuses turns seed n k js rs
done_at holds refuses turns seed n k [] rs are ran less = absurd (omega (arith, less))
done_at holds refuses turns seed n k (j ∷ js) [] are ran less = absurd ran
done_at holds refuses turns seed n zero (j ∷ js) (r ∷ rs) are ran less =
    let none : n ≡ n + 0 = omega arith in
    record {
      job = j;
      run = r;
      job_is = refl;
      run_is = refl;
      id = are.0 ∙ none;
      ran = ran.0;
    }
done_at holds refuses turns seed n (suc k) (j ∷ js) (r ∷ rs) are ran less =
    let d = done_at holds refuses turns seed (n + 1) k js rs are.1 ran.1 (omega (arith, less)) in
    let same : n + 1 + k ≡ n + suc k = omega arith in
    record {
      job = d.job;
      run = d.run;
      job_is = d.job_is;
      run_is = d.run_is;
      id = d.id ∙ same;
      ran = d.ran;
    }

module _ {L : Type 0} (holds : L → ℕ → List (ℕ × Act) → Type 0) (p : Plan) (refuses : ℕ → ℕ → Type 0) (turns seed : ℕ) (js : List Job) (rs : List (ActorRun L)) (first : AreFirst p (actors p) (map actor_in js)) (are : AreNumbered 0 (map who js)) (ran : AllZip (Ran holds refuses turns seed) js rs) where
  pub jobs_count : length js ≡ actors p
  jobs_count = sym (length-map js actor_in) ∙ first.count

  pub runs_count : length rs ≡ actors p
  runs_count = zip_length (Ran holds refuses turns seed) js rs ran ∙ jobs_count

  -- the job of an actor, its run, and what the run did
  pub record Did (k : ℕ) : Type 0 where
    pub done : Done holds refuses turns seed 0 k js rs
    pub begins : BeginsAs p k done.job.actor
    pub has : HasRun holds refuses (network_of p) k turns done.job.id seed done.job.actor done.job.ends done.run

  pub did : (k : ℕ) → k < actors p → Did k
  did k less =
      let n = jobs_count in
      let d = done_at holds refuses turns seed 0 k js rs are ran (omega (arith, n, less)) in
      let b = first.each k d.job.actor (slice_get-map actor_in js k ∙ ap (option_map actor_in) d.job_is) in
      record { done = d; begins = b; has = d.ran.1 (network_of p) k b.is }

  abbrev pub pick : (k : ℕ) → (k < actors p) ⊎ (actors p ≤ k) → List (Turn Act Token)
  pick k (inl less) = (did k less).has.steps
  pick k (inr past) = []

  -- what each actor did
  abbrev pub steps_of : ℕ → List (Turn Act Token)
  steps_of k = pick k (cases_lt k (actors p))

  picked_none : (k : ℕ) (c : (k < actors p) ⊎ (actors p ≤ k)) → actors p ≤ k → pick k c ≡ []
  picked_none k (inl less) past = absurd (omega (arith, past, less))
  picked_none k (inr beyond) past = refl

  pub no_run : (k : ℕ) → actors p ≤ k → steps_of k ≡ []
  no_run k past = picked_none k (cases_lt k (actors p)) past

  picked_rise : (k : ℕ) (c : (k < actors p) ⊎ (actors p ≤ k)) → StampsRise (map (restamped act_of) (pick k c))
  picked_rise k (inl less) =
      let d = did k less in
      subst StampsRise (map-map of_pair logged d.has.steps) (steps_rise (network_of p) k d.done.job.actor d.done.run.actor d.has.steps d.has.run)
  picked_rise k (inr past) = tt

  -- and they have a merge
  pub have_merge : (merged : List (Made Act)) × IsMerge (λ k. map (restamped act_of) (steps_of k)) merged
  have_merge = merges (λ k. map (restamped act_of) (steps_of k)) (actors p) (λ k. picked_rise k (cases_lt k (actors p))) (λ k past. ap (map (restamped act_of)) (no_run k past))

  -- each log holds what its actor did
  picked_logs : (k : ℕ) (c : (k < actors p) ⊎ (actors p ≤ k)) (log : L) → slice_get (map log_left rs) k ≡ Some log → holds log k (map logged (pick k c))
  picked_logs k (inl less) log here =
      let d = did k less in
      let at : 0 + k ≡ k = omega arith in
      let both : Some d.done.run.log ≡ Some log = sym (slice_get-map log_left rs k ∙ ap (option_map log_left) d.done.run_is) ∙ here in
      let same : d.done.run.log ≡ log = cc in
      subst (λ l. holds l k (map logged d.has.steps)) same (subst (λ i. holds d.done.run.log i (map logged d.has.steps)) (d.done.id ∙ at) d.has.acts)
  picked_logs k (inr past) log here =
      let n = runs_count in
      let m = length-map rs log_left in
      let within = slice_get_within (map log_left rs) k log here in
      absurd (omega (arith, n, m, within, past))

  pub logs_hold : (k : ℕ) (log : L) → slice_get (map log_left rs) k ≡ Some log → holds log k (map logged (steps_of k))
  logs_hold k log here = picked_logs k (cases_lt k (actors p)) log here

  -- where each actor's run led
  abbrev pub pick_last : (k : ℕ) → (k < actors p) ⊎ (actors p ≤ k) → Actor Process
  pick_last k (inl less) = actor_of (did k less).done.run.actor
  pick_last k (inr past) = begun (network_of p) (begin_of p) k

  abbrev pub last_of : ℕ → Actor Process
  last_of k = pick_last k (cases_lt k (actors p))

  picked_idle : (k : ℕ) (c : (k < actors p) ⊎ (actors p ≤ k)) → actors p ≤ k → pick_last k c ≡ begun (network_of p) (begin_of p) k
  picked_idle k (inl less) past = absurd (omega (arith, past, less))
  picked_idle k (inr beyond) past = refl

  pub idle_there : (k : ℕ) → actors p ≤ k → last_of k ≡ begun (network_of p) (begin_of p) k
  idle_there k past = picked_idle k (cases_lt k (actors p)) past

  -- why each worker ended
  pub stop_is : (k : ℕ) (d : Did k) → stop_at rs k ≡ d.done.run.stop
  stop_is k d = get_or_from_slice_get (map stop_in rs) k d.done.run.stop Turns (slice_get-map stop_in rs k ∙ ap (option_map stop_in) d.done.run_is)

  module _ (wired : AreWired p (length p.wires) js) where
    picked_run : (k : ℕ) (c : (k < actors p) ⊎ (actors p ≤ k)) → k < actors p → IsRunOf p refuses turns seed k (pick k c) (stop_at rs k) (pick_last k c)
    picked_run k (inr past) less = absurd (omega (arith, past, less))
    picked_run k (inl within) less =
        let d = did k within in
        let at : 0 + k ≡ k = omega arith in
        let outs = get_or_from_slice_get (map outs_in js) k (outs_in d.done.job) [] (slice_get-map outs_in js k ∙ ap (option_map outs_in) d.done.job_is) in
        let ins = get_or_from_slice_get (map ins_in js) k (ins_in d.done.job) [] (slice_get-map ins_in js k ∙ ap (option_map ins_in) d.done.job_is) in
        record {
          from = d.done.job.actor;
          to = d.done.run.actor;
          begins = d.begins;
          made = d.has.made;
          few = d.has.few;
          within = d.has.within;
          run = d.has.run;
          wires = over_wires p k (outs_in d.done.job) (ins_in d.done.job)
              (λ o h. wired.outs k o (subst (λ xs. Contains xs o) (sym outs) h)) (λ i h. wired.ins k i (subst (λ xs. Contains xs i) (sym ins) h)) d.has.steps d.has.links;
          used = d.has.used;
          all = λ h. d.has.all (sym (stop_is k d) ∙ h);
          gate = λ h. let refused = d.has.gate (sym (stop_is k d) ∙ h) in (refused.0, subst (λ i. refuses i d.has.made) (d.done.id ∙ at) refused.1);
          ends = refl;
          rest = d.has.rest;
          words = subst (λ i. Draws (started 64 multiplier_64 seed (increment_of 64 i)) (words_of d.has.steps) d.has.rest) (d.done.id ∙ at) d.has.words;
        }

    pub each_run : (k : ℕ) → k < actors p → IsRunOf p refuses turns seed k (steps_of k) (stop_at rs k) (last_of k)
    each_run k less = picked_run k (cases_lt k (actors p)) less

  -- each actor, as its run left it, is one of the plan
  pub parts_fit : (k : ℕ) (x : Acting) → slice_get (map actor_left rs) k ≡ Some x → IsActorOf (network_of p) k x
  parts_fit k x here =
      let n = runs_count in
      let m = length-map rs actor_left in
      let within = slice_get_within (map actor_left rs) k x here in
      let d = did k (omega (arith, n, m, within)) in
      let both : Some d.done.run.actor ≡ Some x = sym (slice_get-map actor_left rs k ∙ ap (option_map actor_left) d.done.run_is) ∙ here in
      let same : d.done.run.actor ≡ x = cc in
      subst (IsActorOf (network_of p) k) same (run_kept (network_of p) k 0 d.done.job.actor d.has.steps d.done.run.actor d.has.run d.begins.is)

  -- and stands where its run led
  picked_there : (k : ℕ) (c : (k < actors p) ⊎ (actors p ≤ k)) → pick_last k c ≡ shown_or (IsSwitch new_switch) actor_of (slice_get (map actor_left rs) k)
  picked_there k (inl less) = let d = did k less in ap (shown_or (IsSwitch new_switch) actor_of) (sym (slice_get-map actor_left rs k ∙ ap (option_map actor_left) d.done.run_is))
  picked_there k (inr past) =
      let n = runs_count in
      let m = length-map rs actor_left in
      let far : nat_lt k (length p.nodes) ≡ false = grind (arith, nat_tests) in
      let none : slice_get (map actor_left rs) k ≡ None = slice_get_past (map actor_left rs) k (omega (arith, n, m, past)) in
      ap (λ b. if b then IsNode (record { vcp = new_vcp; process = begin_of p k; inner = λ c. nothing_yet }) else IsSwitch new_switch) far ∙ ap (shown_or (IsSwitch new_switch) actor_of) (sym none)

  pub ends_there : (k : ℕ) → last_of k ≡ shown_or (IsSwitch new_switch) actor_of (slice_get (map actor_left rs) k)
  ends_there k = picked_there k (cases_lt k (actors p))

-- the runs stand in the order of their actors
module _ {L : Type 0} (holds : L → ℕ → List (ℕ × Act) → Type 0) where
  pub in_order : (refuses : ℕ → ℕ → Type 0) (turns seed : ℕ) (js : List Job) (rs : List (ActorRun L)) → AreNumbered 0 (map who js) → AllZip (Ran holds refuses turns seed) js rs → AreInOrder rs
  in_order refuses turns seed js rs are ran k r here =
      let n = zip_length (Ran holds refuses turns seed) js rs ran in
      let within = slice_get_within rs k r here in
      let d = done_at holds refuses turns seed 0 k js rs are ran (omega (arith, n, within)) in
      let both : Some d.run ≡ Some r = sym d.run_is ∙ here in
      let same : d.run ≡ r = cc in
      let at : 0 + k ≡ k = omega arith in
      ap (λ (x : ActorRun L). x.id) (sym same) ∙ (d.ran.0 ∙ (d.id ∙ at))
