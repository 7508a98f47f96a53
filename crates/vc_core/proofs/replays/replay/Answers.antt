use Rattle.std.proofs.Common.{◌≡◌, ◌+◌, suc, sym, subst, get_or, take, arith}
use Rattle.vc_occam.specs.declared.moves.Move.TheVariants.{Offer}
use Rattle.vc_actor.specs.declared.act.Act.TheVariants.{Proc}
use Rattle.vc_core.specs.declared.event.Event.{Event}
use Rattle.std.proofs.lemmas.Option.{slice_get-get_or}
use Rattle.vc_core.specs.Replay.{Reached, Replays, IsWhyRefused}
use Rattle.vc_core.specs.State.{state_of}
use Rattle.vc_core.proofs.ReplayRuns.{reached_first, reached_more, replays, all_taken}
use Rattle.vc_core.proofs.replays.replay.Goals as goal

pub loop-index-init : goal.loop-index-init
loop-index-init c = reached_first c.args.accepted.now c.args.events.now (state_of c.in-Ok.network) c.in-Ok.ensures.opening

pub loop-index-preserved : goal.loop-index-preserved
loop-index-preserved c =
    let p = c.args.accepted.now in
    let events = c.args.events.now in
    let i = c.loop-index.index in
    let next : i + 1 ≡ suc i = omega arith in
    subst (λ z. Reached p (take z events) (state_of c.step.new.self)) (sym next)
    (reached_more p events i _ (state_of c.loop-index.network) (state_of c.step.new.self) c.loop-index.invariant (slice_get-get_or events i _ c.loop-index-test.true) (c.in_default.ensures.makes p c.loop-index.invariant.is))

pub returns-in-Err-step-clause-refused : goal.returns-in-Err-step-clause-refused
returns-in-Err-step-clause-refused c =
    let p = c.args.accepted.now in
    let events = c.args.events.now in
    let i = c.loop-index.index in
    let same = c.in-Err-step.ensures.refused in
    let before = replays p (take i events) (state_of c.loop-index.network) c.loop-index.invariant in
    let d : Event = record { actor = 0; act = Proc (Offer 0 0) } in
    let e : Event = get_or events i d in
    (e, slice_get-get_or events i d c.loop-index-test.true, subst (Replays p (take i events)) (sym same) before, subst (λ z. IsWhyRefused p z e c.in-Err-step.why) (sym same) (c.in-Err-step.ensures.not_enabled p c.loop-index.invariant.is))

pub returns-clause-replayed : goal.returns-clause-replayed
returns-clause-replayed c =
    replays c.args.accepted.now c.args.events.now (state_of c.loop-index.network)
    (subst (λ es. Reached c.args.accepted.now es (state_of c.loop-index.network)) (all_taken c.args.events.now c.loop-index.index c.loop-index-test.false) c.loop-index.invariant)
