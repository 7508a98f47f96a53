use Rattle.std.proofs.Common.{◌≡◌, refl, sym, ◌∙◌, subst, arith}
use Rattle.vc_threads.specs.Wires.{Distinct}
use Rattle.vc_threads.specs.Private.Works.{worker_state}
use Rattle.vc_threads.specs.declared.run.Stop.TheVariants.{Turns, Gate, Clock}
use Rattle.vc_threads.proofs.Goings.{uses_zero, uses_then, low_kept, actor_kept, stays_same}
use Rattle.vc_threads.proofs.work.make_turns.Goals as goal

pub loop-turn-init : goal.loop-turn-init
loop-turn-init g c = record { run = λ plan n of. uses_zero g.L.ActLog.holds plan n (worker_state c.args.worker.now); ends = (refl, refl); rests = λ plan n of. tt }

pub turn-requires-clause-outs : goal.turn-requires-clause-outs
turn-requires-clause-outs g c κs within = subst Distinct (sym c.loop-turn.invariant.ends.0) c.requires.outs

pub turn-requires-clause-ins : goal.turn-requires-clause-ins
turn-requires-clause-ins g c κs within = subst Distinct (sym c.loop-turn.invariant.ends.1) c.requires.ins

pub turn-requires-clause-low : goal.turn-requires-clause-low
turn-requires-clause-low g c κs within = low_kept (worker_state c.args.worker.now).outs (worker_state c.loop-turn.worker).outs c.loop-turn.invariant.ends.0 c.requires.low

pub turn-requires-clause-rests : goal.turn-requires-clause-rests
turn-requires-clause-rests g c κs within = c.loop-turn.invariant.rests

pub returns-then-not-pass-clause-ends : goal.returns-then-not-pass-clause-ends
returns-then-not-pass-clause-ends g c =
    let less = c.loop-turn-test.true in
    record {
      made = c.loop-turn.turn;
      within = omega (arith, less);
      last = worker_state c.loop-turn.worker;
      uses = c.loop-turn.invariant.run;
      stays = stays_same g.L.ActLog.holds (worker_state c.loop-turn.worker);
      all = λ h. let f : Gate ≡ Turns = h in cc;
      gate = λ h. (less, c.pass.ensures c.if-not-pass.true);
      full = λ h. let f : Gate ≡ Clock = h in cc;
    }

pub returns-in-Err-clause-ends : goal.returns-in-Err-clause-ends
returns-in-Err-clause-ends g c =
    let less = c.loop-turn-test.true in
    record {
      made = c.loop-turn.turn;
      within = omega (arith, less);
      last = worker_state c.loop-turn.worker;
      uses = c.loop-turn.invariant.run;
      stays = c.in-Err.ensures.stop.stays;
      all = λ h. absurd (c.in-Err.ensures.stop.early h);
      gate = λ h. absurd (c.in-Err.ensures.stop.passed h);
      full = c.in-Err.ensures.stop.full;
    }

pub loop-turn-preserved : goal.loop-turn-preserved
loop-turn-preserved g c = record {
  run = λ plan n of.
      let p = c.loop-turn.invariant.run plan n of in
      uses_then g.L.ActLog.holds plan n c.loop-turn.turn 1 (worker_state c.args.worker.now) (worker_state c.loop-turn.worker) (worker_state c.turn.new.self) of p
      (c.in-Ok.ensures.turn.uses plan n (actor_kept g.L.ActLog.holds plan n c.loop-turn.turn (worker_state c.args.worker.now) (worker_state c.loop-turn.worker) p of));
  ends = (c.in-Ok.ensures.ends.0 ∙ c.loop-turn.invariant.ends.0, c.in-Ok.ensures.ends.1 ∙ c.loop-turn.invariant.ends.1);
  rests = c.in-Ok.ensures.turn.rests;
}

pub returns-clause-ends : goal.returns-clause-ends
returns-clause-ends g c =
    let all = c.loop-turn-test.false in
    let end = c.loop-turn.auto.turn-end in
    record {
      made = c.loop-turn.turn;
      within = omega (arith, end);
      last = worker_state c.loop-turn.worker;
      uses = c.loop-turn.invariant.run;
      stays = stays_same g.L.ActLog.holds (worker_state c.loop-turn.worker);
      all = λ h. omega (arith, all, end);
      gate = λ h. let f : Turns ≡ Gate = h in cc;
      full = λ h. let f : Turns ≡ Clock = h in cc;
    }
