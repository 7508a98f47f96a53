use Rattle.std.proofs.Common.{◌≡◌, ◌+◌, Bool, true, false, Result, Ok, arith, inl, refl, subst, sym}
use Rattle.vc_core.specs.Private.Turns.{Rests}
use Rattle.vc_core.specs.State.{state_of, MakesOne}
use Rattle.vc_core.specs.Turns.{FindsEvent}
use Rattle.vc_core.specs.Replay.{Reached}
use Rattle.vc_core.proofs.Awake.{rests_here}
use Rattle.vc_text.proofs.GeneratorDraws.{given_still}
use Rattle.vc_text.proofs.QuietActors.{acts_quiet, one_quiet, same_quiet}
use Rattle.vc_text.proofs.LongerRuns.{one_more, so_far, stops_there}
use Rattle.vc_text.proofs.TextWrites.{any_err}
use Rattle.vc_text.proofs.simulation.Simulation.turn.Goals as goal

-- it had one, or it had none
apart : {E : Type 0} (a b : Result Bool E) → a ≡ b → a ≡ Ok true → b ≡ Ok false → ⊥
apart a b same had none = cc

pub returns-clause-runs : goal.returns-clause-runs
returns-clause-runs g c = λ from p es kept run.
    let a = c.args.self.now in
    let s = state_of a.network in
    let t = state_of c.turn.new.self in
    let found = subst (FindsEvent p s c.args.actor) c.in-Some.is (c.in_ok-event.ensures.finds p run.reached.is) in
    let makes = subst (λ m. MakesOne p s m t) c.in-Some.is (c.in_ok-event.ensures.makes p run.reached.is) in
    one_more (g.K.EventSink.holds from) p es c.in-Some.event a _ c.args.progress.now _ _ (c.in_ok-record.ensures.ok from p es s kept makes) refl makes
    (given_still p es c.in-Some.event a.generators a.generators found.1 refl run.words)
    (acts_quiet p s t c.in-Some.event c.args.progress.now.awake c.turn.new.awake run.reached.is found.2 makes c.in_ok-event.ensures.awake run.quiet) run

pub returns-in_default-clause-runs : goal.returns-in_default-clause-runs
returns-in_default-clause-runs g c = λ from p es kept run.
    let a = c.args.self.now in
    let s = state_of a.network in
    let t = state_of c.turn.new.self in
    let same : t ≡ s = subst (λ o. MakesOne p s o t) c.in_default.is (c.in_ok-event.ensures.makes p run.reached.is) in (
      es,
      subst (g.K.EventSink.holds from c.args.events.now p es) (sym same) kept,
      record {
        reached = subst (Reached p es) (sym same) run.reached;
        many = run.many;
        words = run.words;
        quiet = one_quiet p t t c.turn.new.awake c.without-progress.result c.args.actor refl c.without-progress.ensures.others
            (subst (λ z. Rests p z c.args.actor) (sym same) (rests_here p s c.args.actor run.reached.is c.requires.none (subst (FindsEvent p s c.args.actor) c.in_default.is (c.in_ok-event.ensures.finds p run.reached.is))))
            (same_quiet p s t c.args.progress.now.awake c.turn.new.awake same c.in_ok-event.ensures.awake run.quiet);
      },
    )

pub returns-clause-still : goal.returns-clause-still
returns-clause-still g c = λ e. absurd (apart _ _ e refl refl)

pub returns-clause-rests : goal.returns-clause-rests
returns-clause-rests g c = λ e. absurd (apart _ _ e refl refl)

pub returns-in_default-clause-still : goal.returns-in_default-clause-still
returns-in_default-clause-still g c = λ e p is.
    let s = state_of c.args.self.now.network in
    let t = state_of c.turn.new.self in
    subst (λ o. MakesOne p s o t) c.in_default.is (c.in_ok-event.ensures.makes p is)

pub returns-in_default-clause-rests : goal.returns-in_default-clause-rests
returns-in_default-clause-rests g c = λ e p is.
    let s = state_of c.args.self.now.network in
    rests_here p s c.args.actor is c.requires.none (subst (FindsEvent p s c.args.actor) c.in_default.is (c.in_ok-event.ensures.finds p is))

pub returns-in_err-event-clause-stops : goal.returns-in_err-event-clause-stops
returns-in_err-event-clause-stops g c = any_err c.from_residual.result (λ from p es kept run.
    let a = c.args.self.now in
    let far = c.args.progress.now in
    (es, state_of a.network, so_far p es a far (far.made + 1) (omega arith) run, inl kept))

pub returns-in_err-record-clause-stops : goal.returns-in_err-record-clause-stops
returns-in_err-record-clause-stops g c = any_err c.from_residual-in_err-record.result (λ from p es kept run.
    let a = c.args.self.now in
    let s = state_of a.network in
    let t = state_of c.turn.new.self in
    let found = subst (FindsEvent p s c.args.actor) c.in-Some.is (c.in_ok-event.ensures.finds p run.reached.is) in
    let makes = subst (λ m. MakesOne p s m t) c.in-Some.is (c.in_ok-event.ensures.makes p run.reached.is) in
    stops_there (g.K.EventSink.holds from) (g.K.EventSink.left from) _ p es c.in-Some.event a c.args.progress.now t a.generators makes
    (given_still p es c.in-Some.event a.generators a.generators found.1 refl run.words) run (c.in_err-record.ensures.err from p es s kept makes))
