use Rattle.std.proofs.Common.{◌≡◌, ◌+◌, [], ◌∷◌, ◌++◌, Bool, true, false, Result, Ok, IfSome, arith, inl, inr, refl, sym, subst}
use Rattle.vc_core.specs.Choices.{MayMakeOne}
use Rattle.vc_core.specs.Private.Turns.{IsAtRest}
use Rattle.vc_core.specs.State.{shown, state_of, IsNetworkOf, MakesEvent}
use Rattle.vc_core.specs.declared.event.Event.{Event}
use Rattle.vc_text.specs.Private.Draws.{DrawsActor, DrawsAct}
use Rattle.vc_text.proofs.DrawnEvents.{can_worded, drawn_can, draws_more, drawn_so_far, given_act, is_drawn, is_few, none_ready, same_drawn}
use Rattle.vc_text.specs.declared.simulation.Simulation.{Simulation}
use Rattle.vc_text.proofs.TextWrites.{any_err}
use Rattle.vc_text.proofs.simulation.Simulation.draw_event.Goals as goal

pub next_act-requires : goal.next_act-requires
next_act-requires g c =
    let s = state_of c.args.self.now.network in
    let k = c.in-Some.actor in
    let may = subst (λ o. IfSome o (MayMakeOne s)) c.in-Some.is (c.in_ok-actor.ensures.may c.requires.is.0 c.requires.is.1) in
    subst (λ z. MayMakeOne z k) (sym c.in_ok-actor.ensures.same) may

pub with_word-act-requires : goal.with_word-act-requires
with_word-act-requires g c =
    let s = state_of c.args.self.now.network in
    is_few s c.in-Some.actor c.requires.is (subst (λ o. IfSome o (MayMakeOne s)) c.in-Some.is (c.in_ok-actor.ensures.may c.requires.is.0 c.requires.is.1))

pub make-requires : goal.make-requires
make-requires g c =
    let t = state_of c.next_actor.new.network in
    let p = c.requires.is.0 in
    let is = subst (IsNetworkOf p) (sym c.in_ok-actor.ensures.same) c.requires.is.1 in
    (p, is, can_worded p t c.in-Some.actor c.in_ok-drawn.drawn c.with_word-act.result is c.with_word-act.ensures.same (drawn_can p t c.in-Some.actor _ _ c.in_ok-drawn.drawn (c.in_ok-drawn.ensures p is)))

pub returns-clause-runs : goal.returns-clause-runs
returns-clause-runs g c = λ seed from p es kept has.
    let old = c.args.self.now in
    let s = state_of old.network in
    let t = state_of c.next_actor.new.network in
    let same : t ≡ s = c.in_ok-actor.ensures.same in
    let is = has.runs.reached.is in
    let k = c.in-Some.actor in
    let e : Event = record { actor = k; act = c.with_word-act.result } in
    let who = subst (DrawsActor p (shown s) c.args.draws.now.words c.next_actor.new.self.words) c.in-Some.is (c.in_ok-actor.ensures.draws p is) in
    let what = subst (λ z. DrawsAct p (shown z) k c.next_actor.new.self.words c.next_act.new.self.words c.in_ok-drawn.drawn) same (c.in_ok-drawn.ensures p (subst (IsNetworkOf p) (sym same) is)) in
    let makes = subst (λ z. MakesEvent p z e (state_of c.make.new.network)) same (c.in_ok-make.ensures p (subst (IsNetworkOf p) (sym same) is)) in (
      es ++ e ∷ [],
      c.in_ok-record.ensures.ok from p es s kept makes,
      draws_more p seed es e old _ c.args.draws.now.words c.next_act.new.self.words refl makes
          (given_act p es k c.with_word-act.result old.generators c.with_word-act.new.generators c.with_word-act.ensures.gives has.runs.words)
          (is_drawn p (shown s) c.args.draws.now.words c.next_actor.new.self.words c.next_act.new.self.words k c.in_ok-drawn.drawn c.with_word-act.result who what c.with_word-act.ensures.same) has,
    )

pub returns-clause-kept : goal.returns-clause-kept
returns-clause-kept g c = λ p is. (c.in_ok-make.ensures p (subst (IsNetworkOf p) (sym c.in_ok-actor.ensures.same) is)).kept

-- it had one, or it had none
apart : {E : Type 0} (a b : Result Bool E) → a ≡ b → a ≡ Ok true → b ≡ Ok false → ⊥
apart a b same had none = cc

pub returns-clause-rests : goal.returns-clause-rests
returns-clause-rests g c = λ e. absurd (apart _ _ e refl refl)

pub returns-in_default-clause-runs : goal.returns-in_default-clause-runs
returns-in_default-clause-runs g c = λ seed from p es kept has.
    let old = c.args.self.now in
    let same = c.in_ok-actor.ensures.same in
    let none = subst (DrawsActor p (shown (state_of old.network)) c.args.draws.now.words c.next_actor.new.self.words) c.in_default.is (c.in_ok-actor.ensures.draws p has.runs.reached.is) in
    (es, subst (g.K.EventSink.holds from c.args.events.now p es) (sym same) kept, same_drawn p seed es old _ c.args.draws.now.words c.next_actor.new.self.words same refl refl none.1 has)

pub returns-in_default-clause-kept : goal.returns-in_default-clause-kept
returns-in_default-clause-kept g c = λ p is. subst (IsNetworkOf p) (sym c.in_ok-actor.ensures.same) is

pub returns-in_default-clause-rests : goal.returns-in_default-clause-rests
returns-in_default-clause-rests g c = λ e p is.
    let s = state_of c.args.self.now.network in
    let none = subst (DrawsActor p (shown s) c.args.draws.now.words c.next_actor.new.self.words) c.in_default.is (c.in_ok-actor.ensures.draws p is) in
    subst (IsAtRest p) (sym c.in_ok-actor.ensures.same) (none_ready p s is none.0)

pub returns-in_err-actor-clause-stops : goal.returns-in_err-actor-clause-stops
returns-in_err-actor-clause-stops g c = any_err c.from_residual.result (λ seed from p es kept has.
    let a = c.args.self.now in
    (es, state_of a.network, drawn_so_far p seed es a c.args.draws.now.words (a.made + 1) (omega arith) has, inl kept))

pub returns-in_err-drawn-clause-stops : goal.returns-in_err-drawn-clause-stops
returns-in_err-drawn-clause-stops g c = any_err c.from_residual-in_err-drawn.result (λ seed from p es kept has.
    let a = c.args.self.now in
    (es, state_of a.network, drawn_so_far p seed es a c.args.draws.now.words (a.made + 1) (omega arith) has, inl kept))

pub returns-in_err-make-clause-stops : goal.returns-in_err-make-clause-stops
returns-in_err-make-clause-stops g c = any_err c.from_residual-in_err-make.result (λ seed from p es kept has.
    let a = c.args.self.now in
    (es, state_of a.network, drawn_so_far p seed es a c.args.draws.now.words (a.made + 1) (omega arith) has, inl kept))

pub returns-in_err-record-clause-stops : goal.returns-in_err-record-clause-stops
returns-in_err-record-clause-stops g c = any_err c.from_residual-in_err-record.result (λ seed from p es kept has.
    let old = c.args.self.now in
    let s = state_of old.network in
    let t = state_of c.next_actor.new.network in
    let same : t ≡ s = c.in_ok-actor.ensures.same in
    let is = has.runs.reached.is in
    let k = c.in-Some.actor in
    let e : Event = record { actor = k; act = c.with_word-act.result } in
    let who = subst (DrawsActor p (shown s) c.args.draws.now.words c.next_actor.new.self.words) c.in-Some.is (c.in_ok-actor.ensures.draws p is) in
    let what = subst (λ z. DrawsAct p (shown z) k c.next_actor.new.self.words c.next_act.new.self.words c.in_ok-drawn.drawn) same (c.in_ok-drawn.ensures p (subst (IsNetworkOf p) (sym same) is)) in
    let makes = subst (λ z. MakesEvent p z e (state_of c.make.new.network)) same (c.in_ok-make.ensures p (subst (IsNetworkOf p) (sym same) is)) in
    let new : Simulation = record old { network = c.make.new.network; generators = c.with_word-act.new.generators; made = old.made + 1 } in
    let more = draws_more p seed es e old new c.args.draws.now.words c.next_act.new.self.words refl makes
    (given_act p es k c.with_word-act.result old.generators c.with_word-act.new.generators c.with_word-act.ensures.gives has.runs.words)
    (is_drawn p (shown s) c.args.draws.now.words c.next_actor.new.self.words c.next_act.new.self.words k c.in_ok-drawn.drawn c.with_word-act.result who what c.with_word-act.ensures.same) has in (
      es ++ e ∷ [],
      state_of new.network,
      drawn_so_far p seed (es ++ e ∷ []) new c.next_act.new.self.words (old.made + 1) (omega arith) more,
      inr (c.in_err-record.ensures.err from p es s kept makes),
    ))
