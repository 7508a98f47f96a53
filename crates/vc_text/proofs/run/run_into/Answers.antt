use Rattle.std.proofs.Common.{[], arith, inl, inr, length, refl, sym, subst}
use Rattle.vc_core.specs.Replay.{Replays}
use Rattle.vc_core.specs.State.{shown, state_of, IsNetworkOf}
use Rattle.vc_text.specs.Close.{Closes}
use Rattle.vc_text.specs.Schedules.{IsInOrder}
use Rattle.vc_core.proofs.ReplayRuns.{replays}
use Rattle.vc_text.proofs.Closes.{processes_wait}
use Rattle.vc_text.proofs.GeneratorDraws.{given_words}
use Rattle.vc_text.proofs.TextWrites.{any_err}
use Rattle.vc_text.proofs.run.run_into.Goals as goal

pub returns-clause-is : goal.returns-clause-is
returns-clause-is g c =
    let p = c.args.accepted.now in
    let ran = c.in_ok-make_events.ensures.runs c.args.events.now p (c.requires _ c.in_ok-run.ensures.opening) c.in_ok-run.ensures.opens in
    subst (IsNetworkOf p) (sym c.in_ok-close.ensures.same) ran.2.reached.is

pub returns-clause-run : goal.returns-clause-run
returns-clause-run g c =
    let p = c.args.accepted.now in
    let begun = c.in_ok-run.ensures.opens in
    let empty = c.requires _ c.in_ok-run.ensures.opening in
    let t = state_of c.close.new.self.network in
    let mid = c.make_events.new.self in
    let ran = c.in_ok-make_events.ensures.runs c.args.events.now p empty begun in
    let events = ran.0 in
    let ends = c.in_ok-make_events.ensures.ends c.args.events.now p [] empty begun in
    let few = c.in_ok-make_events.ensures.few in
    let many = ran.2.many in
    let there = subst (Replays p events) (sym c.in_ok-close.ensures.same) (replays p events (state_of mid.network) ran.2.reached) in
    let closes = subst (λ z. Closes p (shown z) (length events) c.args.limit c.in_ok-close.close) (sym c.in_ok-close.ensures.same)
    (subst (λ n. Closes p (shown (state_of mid.network)) n c.args.limit c.in_ok-close.close) (sym many)
    (c.in_ok-close.ensures.closes p ran.2.reached.is ends)) in (
      events,
      subst (g.K.EventSink.holds c.args.events.now c.make_events.new.events p events) (sym c.in_ok-close.ensures.same) ran.1,
      record {
        so_far = record {
          few = omega (arith, few, many);
          runs = there.runs;
          order = subst (λ z. IsInOrder p c.args.schedule events (shown z)) (sym c.in_ok-close.ensures.same) ran.3;
          words = given_words p events mid.generators ran.2.words;
        };
        closes = closes;
        waits = processes_wait p events t (length events) c.args.limit c.in_ok-close.close there closes;
      },
    )

pub make_events-requires-clause-few : goal.make_events-requires-clause-few
make_events-requires-clause-few g c = let none = c.in_ok-run.ensures.none in omega (arith, none)

pub make_events-requires-clause-is : goal.make_events-requires-clause-is
make_events-requires-clause-is g c = (c.args.accepted.now, c.in_ok-run.ensures.opening.is)

pub close-requires : goal.close-requires
close-requires g c = c.in_ok-make_events.ensures.few

pub returns-in_err-run-clause-stops : goal.returns-in_err-run-clause-stops
returns-in_err-run-clause-stops g c = any_err c.from_residual.result (inl refl)

pub returns-in_err-make_events-clause-stops : goal.returns-in_err-make_events-clause-stops
returns-in_err-make_events-clause-stops g c = any_err c.from_residual-in_err-make_events.result
    (inr (c.in_err-make_events.ensures.stops c.args.events.now c.args.accepted.now (c.requires _ c.in_ok-run.ensures.opening) c.in_ok-run.ensures.opens))

pub returns-in_err-close-clause-stops : goal.returns-in_err-close-clause-stops
returns-in_err-close-clause-stops g c =
    let p = c.args.accepted.now in
    let mid = c.make_events.new.self in
    let ran = c.in_ok-make_events.ensures.runs c.args.events.now p (c.requires _ c.in_ok-run.ensures.opening) c.in_ok-run.ensures.opens in
    let few = c.in_ok-make_events.ensures.few in
    let many = ran.2.many in
    any_err c.from_residual-in_err-close.result (inr (
      ran.0,
      state_of mid.network,
      record {
        few = omega (arith, few, many);
        runs = (replays p ran.0 (state_of mid.network) ran.2.reached).runs;
        order = ran.3;
        words = given_words p ran.0 mid.generators ran.2.words;
      },
      inl ran.1,
    ))
