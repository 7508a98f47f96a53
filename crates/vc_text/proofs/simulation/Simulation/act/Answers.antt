use Rattle.std.proofs.Common.{refl, subst}
use Rattle.vc_core.specs.State.{state_of}
use Rattle.vc_core.specs.Turns.{FindsFront}
use Rattle.vc_core.specs.declared.event.Event.{Event}
use Rattle.vc_core.proofs.Awake.{front_happens}
use Rattle.vc_actor.specs.declared.act.Act.TheVariants.{Take}
use Rattle.vc_text.proofs.GeneratorDraws.{given_take}
use Rattle.vc_text.proofs.QuietActors.{acts_quiet}
use Rattle.vc_text.proofs.LongerRuns.{one_more, stops_there}
use Rattle.vc_text.proofs.TextWrites.{any_err}
use Rattle.vc_text.proofs.simulation.Simulation.act.Goals as goal

pub returns-in_default-clause-made : goal.returns-in_default-clause-made
returns-in_default-clause-made g c = c.turn.ensures.made

pub returns-in_default-clause-runs : goal.returns-in_default-clause-runs
returns-in_default-clause-runs g c = c.turn.ensures.runs

pub returns-in_default-clause-stops : goal.returns-in_default-clause-stops
returns-in_default-clause-stops g c = c.turn.ensures.stops

pub returns-in_default-clause-still : goal.returns-in_default-clause-still
returns-in_default-clause-still g c = c.turn.ensures.still

pub returns-in_default-clause-rests : goal.returns-in_default-clause-rests
returns-in_default-clause-rests g c = λ none p is less. c.turn.ensures.rests none p is

pub turn-requires-clause-none : goal.turn-requires-clause-none
turn-requires-clause-none g c = subst (FindsFront (state_of c.args.self.now.network) c.args.actor) c.in_default.is c.link_to_take.ensures.least

pub take_front-requires : goal.take_front-requires
take_front-requires g c = (subst (FindsFront (state_of c.args.self.now.network) c.args.actor) c.in-Some.is c.link_to_take.ensures.least).0

pub returns-clause-runs : goal.returns-clause-runs
returns-clause-runs g c = λ from p es kept run.
    let a = c.args.self.now in
    let s = state_of a.network in
    let t = state_of c.take_front.new.self in
    let e : Event = record { actor = c.args.actor; act = Take c.in-Some.link c.next_word-word.result } in
    let front = (subst (FindsFront s c.args.actor) c.in-Some.is c.link_to_take.ensures.least).0 in
    let makes = c.take_front.ensures.makes p run.reached.is in
    one_more (g.K.EventSink.holds from) p es e a _ c.args.progress.now _ _ (c.in_ok-record.ensures.ok from p es s kept makes) refl makes
    (given_take p es a.generators c.next_word-word.new.self c.args.actor c.in-Some.link c.next_word-word.result c.next_word-word.ensures run.words)
    (acts_quiet p s t e c.args.progress.now.awake c.args.progress.now.awake run.reached.is (front_happens p s c.args.actor c.in-Some.link c.next_word-word.result run.reached.is front) makes (c.take_front.ensures.awake c.args.progress.now.awake) run.quiet) run

pub returns-in_err-record-clause-stops : goal.returns-in_err-record-clause-stops
returns-in_err-record-clause-stops g c = any_err c.from_residual.result (λ from p es kept run.
    let a = c.args.self.now in
    let s = state_of a.network in
    let t = state_of c.take_front.new.self in
    let e : Event = record { actor = c.args.actor; act = Take c.in-Some.link c.next_word-word.result } in
    let makes = c.take_front.ensures.makes p run.reached.is in
    stops_there (g.K.EventSink.holds from) (g.K.EventSink.left from) _ p es e a c.args.progress.now t c.next_word-word.new.self makes
    (given_take p es a.generators c.next_word-word.new.self c.args.actor c.in-Some.link c.next_word-word.result c.next_word-word.ensures run.words) run (c.in_err-record.ensures.err from p es s kept makes))
