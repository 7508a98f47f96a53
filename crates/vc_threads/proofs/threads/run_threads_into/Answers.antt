use Rattle.std.proofs.Common.{◌≡◌, ◌*◌, length, map, slice_get, ap, sym, subst, ◌∙◌}
use Rattle.std.proofs.lemmas.List.{length-map}
use Rattle.vc_core.specs.State.{state_of}
use Rattle.vc_plan.specs.declared.plan.Plan.{Plan}
use Rattle.vc_tokens.specs.CodeTokens.{tokens}
use Rattle.vc_threads.specs.Private.Close.{AreInOrder, stop_at, stop_in}
use Rattle.vc_threads.specs.Close.{ClosesBy}
use Rattle.vc_threads.specs.Private.Jobs.{IsFit}
use Rattle.vc_threads.specs.MergedRuns.{made_event}
use Rattle.vc_threads.specs.Private.Order.{actor_left, log_left, MeetAt, LeftOn, OnWires}
use Rattle.vc_threads.specs.Order.{OnWays}
use Rattle.vc_threads.specs.Works.{logged}
use Rattle.vc_threads.proofs.Closings.{not_done}
use Rattle.vc_threads.proofs.JobEnds.{by_recursion}
use Rattle.vc_threads.proofs.WorkerRuns.{is_run}
use Rattle.vc_threads.proofs.EndOrder.{ends_meet}
use Rattle.vc_threads.proofs.Reports.{have_merge, in_order, logs_hold, parts_fit, runs_count}
use Rattle.vc_threads.proofs.threads.run_threads_into.Goals as goal

pub stopped-otherwise-requires : goal.stopped-otherwise-requires
stopped-otherwise-requires g c =
    subst AreInOrder (sym c.as_slice-2.ensures.value) (in_order g.L.ActLog.holds (g.G.Gate.refuses c.args.gate.now) c.args.turns c.args.seed c.in_ok-jobs.jobs.items c.in_ok-runs.runs.items c.in_ok-jobs.ensures.numbered c.in_ok-runs.ensures)

pub take_all-requires-clause-rings : goal.take_all-requires-clause-rings
take_all-requires-clause-rings g c =
    let js = c.in_ok-jobs.jobs.items in
    subst (λ q. OnWires (MeetAt (length q.nodes) c.in_ok-parts.parts.ends) q.wires (length q.wires)) (sym c.plan.ensures.plan)
    (ends_meet g.L.ActLog.holds c.args.accepted.now (g.G.Gate.refuses c.args.gate.now) c.args.turns c.args.seed js c.in_ok-runs.runs.items c.in_ok-jobs.ensures.begins c.in_ok-jobs.ensures.numbered c.in_ok-runs.ensures
    c.in_ok-parts.parts.ends c.in_ok-parts.ensures.outs c.in_ok-parts.ensures.ins c.in_ok-jobs.ensures.wired (by_recursion IsFit js c.in_ok-jobs.ensures.fit))

pub of_parts-requires : goal.of_parts-requires
of_parts-requires g c =
    let p = c.args.accepted.now in
    let js = c.in_ok-jobs.jobs.items in
    let rs = c.in_ok-runs.runs.items in
    let are = c.in_ok-parts.ensures.actors in
    record {
      count = ap length are ∙ (length-map rs actor_left ∙ runs_count g.L.ActLog.holds p (g.G.Gate.refuses c.args.gate.now) c.args.turns c.args.seed js rs c.in_ok-jobs.ensures.begins c.in_ok-jobs.ensures.numbered c.in_ok-runs.ensures);
      actors = λ k x here. parts_fit g.L.ActLog.holds p (g.G.Gate.refuses c.args.gate.now) c.args.turns c.args.seed js rs c.in_ok-jobs.ensures.begins c.in_ok-jobs.ensures.numbered c.in_ok-runs.ensures k x (ap (λ xs. slice_get xs k) (sym are) ∙ here);
      ways = ap length c.as_slice-3.ensures.value ∙ (c.in_ok-left.ensures.count ∙ ap (λ (q : Plan). 2 * length q.wires) c.plan.ensures.plan);
    }

pub close_of-close-requires : goal.close_of-close-requires
close_of-close-requires g c = not_done (length c.as_slice-2.result.now) (stop_at c.as_slice-2.result.now) c.stopped-otherwise.result c.stopped-otherwise.ensures

pub returns : goal.returns
returns g c =
    let p = c.args.accepted.now in
    let refuses = g.G.Gate.refuses c.args.gate.now in
    let js = c.in_ok-jobs.jobs.items in
    let rs = c.in_ok-runs.runs.items in
    let begins = c.in_ok-jobs.ensures.begins in
    let are = c.in_ok-jobs.ensures.numbered in
    let ran = c.in_ok-runs.ensures in
    let same = c.plan.ensures.plan in
    let parts = c.in_ok-parts.ensures in
    let left = c.in_ok-left.left.items in
    let made = c.in_ok-state.ensures in
    let done = c.close_of-close.ensures in
    let m = have_merge g.L.ActLog.holds p refuses c.args.turns c.args.seed js rs begins are ran in
    let run = is_run g.L.ActLog.holds p c.plan.ensures.accepted refuses c.args.turns c.args.seed js rs begins are ran c.in_ok-jobs.ensures.wired
    c.in_ok-parts.parts.ends parts.outs parts.ins
    left (c.in_ok-left.ensures.count ∙ ap (λ (q : Plan). 2 * length q.wires) same)
    (subst (λ q. OnWays (LeftOn (length q.nodes) c.in_ok-parts.parts.ends left) q.wires (length q.wires)) same c.in_ok-left.ensures.left)
    m.0 m.1 (state_of c.in_ok-state.state) c.in_ok-stops.stops.items c.close_of-close.result
    (subst (λ rs. c.in_ok-stops.stops.items ≡ map stop_in rs) c.as_slice.ensures.value c.in_ok-stops.ensures)
    made.is (made.actors ∙ parts.actors) (made.ways ∙ ap (map (λ line. tokens line.items)) c.as_slice-3.ensures.value) (done.done p made.is)
    (λ not. subst (ClosesBy (length rs) (stop_at rs)) (sym (done.other not))
    (subst (λ xs. ClosesBy (length xs) (stop_at xs) c.stopped-otherwise.result) c.as_slice-2.ensures.value c.stopped-otherwise.ensures)) in
    record {
      events = map made_event m.0;
      run = run.0;
      count = ap length parts.logs ∙ (length-map rs log_left ∙ runs_count g.L.ActLog.holds p refuses c.args.turns c.args.seed js rs begins are ran);
      logs = λ k log here. subst (λ ts. g.L.ActLog.holds log k (map logged ts)) (sym (run.1 k))
          (logs_hold g.L.ActLog.holds p refuses c.args.turns c.args.seed js rs begins are ran k log (ap (λ xs. slice_get xs k) (sym parts.logs) ∙ here));
    }
