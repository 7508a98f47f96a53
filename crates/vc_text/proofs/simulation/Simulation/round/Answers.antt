use Rattle.std.proofs.Common.{◌≡◌, ◌≤◌, ◌<◌, ◌+◌, ◌-◌, ◌^◌, Ok, refl, sym, ap, ◌∙◌, subst, inl, inr, arith}
use Rattle.std.proofs.lemmas.Bool.{cases_eq, cases_lt, ltb-false}
use Rattle.std.proofs.lemmas.Nat.Bits.{bit_at_ones, bit_at-lt}
use Rattle.std.specs.Int.{bit_at}
use Rattle.vc_core.specs.State.{state_of}
use Rattle.vc_core.specs.Private.Turns.{Rests, IsAtRest}
use Rattle.vc_actor.specs.Turns.{actors}
use Rattle.vc_core.proofs.WayTable.{few}
use Rattle.vc_text.proofs.Closes.{all_rest, still, counted_few}
use Rattle.vc_text.proofs.QuietActors.{bit_after, not_after, fewer_after}
use Rattle.vc_text.proofs.LongerRuns.{stays_on, stops_within, then_on}
use Rattle.vc_text.proofs.TextWrites.{any_err}
use Rattle.vc_text.specs.declared.schedule.Schedule.TheVariants.{InTurn}
use Rattle.vc_text.proofs.simulation.Simulation.round.Goals as goal

pub loop-actor-init : goal.loop-actor-init
loop-actor-init g c = record {
  few = c.requires;
  edge = (0, omega arith, refl);
  runs = stays_on g.K.EventSink.holds c.args.self.now c.args.events.now c.args.progress.now;
  some = omega arith;
  same = λ e from p es kept run. refl;
  rests = λ e from p es kept run k low none node. absurd (let all = bit_at_ones 64 k low in omega (arith, all, none));
}

pub loop-actor-preserved : goal.loop-actor-preserved
loop-actor-preserved g c =
    let inv = c.loop-actor.invariant in
    let n = c.in_ok-act.ensures in
    let had = c.in_ok-act.field-0 in
    let under = c.if-progress-limit.false in
    let made = counted_few had c.loop-actor.progress.made c.act.new.progress.made n.made in
    let next = c.in-Some.ensures in
    let past = next.0 in
    record {
      few = omega (arith, made, under);
      edge = (c.in-Some.actor + 1, omega arith, c.after-left.ensures);
      runs = then_on g.K.EventSink.holds c.args.self.now c.loop-actor.self c.act.new.self c.args.events.now c.loop-actor.events c.act.new.events c.args.progress.now c.loop-actor.progress c.act.new.progress inv.runs n.runs;
      some = (let s = inv.some in omega (arith, made, s));
      same = λ e from p es kept run. (let b = still had c.args.progress.now.made c.loop-actor.progress.made c.act.new.progress.made inv.some n.made e in
          let mid = inv.runs from p es kept run in n.still (ap Ok b.1) p mid.2.reached.is ∙ inv.same b.0 from p es kept run);
      rests = λ e from p es kept run k less gone node. (let b = still had c.args.progress.now.made c.loop-actor.progress.made c.act.new.progress.made inv.some n.made e in
          let mid = inv.runs from p es kept run in
          let same = inv.same b.0 from p es kept run in
          elim (cases_lt k c.in-Some.actor) [
            | inl sooner ↦ elim (cases_eq (bit_at c.loop-actor.left k) 1) [
              | inl has ↦ subst (λ z. Rests p z k) same (mid.2.quiet k less (next.2 k sooner has))
              | inr ne ↦ inv.rests b.0 from p es kept run k less (let bit = bit_at-lt c.loop-actor.left k in omega (arith, bit, ne)) node
            ]
            | inr later ↦ elim (cases_lt c.in-Some.actor k) [
              | inl behind ↦ absurd (let one = ap (λ m. bit_at m k) c.after-left.ensures ∙ bit_after c.in-Some.actor k less behind in omega (arith, one, gone))
              | inr upto ↦ (let at : c.in-Some.actor ≡ k = omega arith in
                  let rest = n.rests (ap Ok b.1) p mid.2.reached.is (subst (λ z. z < actors p) (sym at) node) in
                  subst (λ z. Rests p (state_of c.args.self.now.network) z) at (subst (λ z. Rests p z c.in-Some.actor) same rest))
            ]
          ]);
    }

pub loop-actor-smaller : goal.loop-actor-smaller
loop-actor-smaller g c =
    let edge = c.loop-actor.invariant.edge in
    let next = c.in-Some.ensures in
    let past : edge.0 ≤ c.in-Some.actor = not_after edge.0 c.in-Some.actor (subst (λ m. bit_at m c.in-Some.actor ≡ 1) edge.2 next.1) in
    let less = fewer_after edge.0 c.in-Some.actor past next.0 in
    subst (λ m. m < c.loop-actor.left) (sym c.after-left.ensures) (subst (λ m. 2 ^ 64 - 2 ^ (c.in-Some.actor + 1) < m) (sym edge.2) less)

pub returns-then-progress-limit-clause-ends : goal.returns-then-progress-limit-clause-ends
returns-then-progress-limit-clause-ends g c = λ e from p es kept run. inl (omega (arith, c.if-progress-limit.true, c.loop-actor.invariant.few))

pub returns-clause-ends : goal.returns-clause-ends
returns-clause-ends g c = λ e from p es kept run.
    let inv = c.loop-actor.invariant in
    let upto : c.loop-actor.progress.made ≤ c.args.progress.now.made = ltb-false c.args.progress.now.made c.loop-actor.progress.made (cc) in
    let none : c.loop-actor.progress.made ≡ c.args.progress.now.made = let s = inv.some in omega (arith, s, upto) in
    let mid = inv.runs from p es kept run in
    let same = inv.same none from p es kept run in
    let nodes = (few p run.reached.is.accepted).0 in
    let switches = (few p run.reached.is.accepted).1 in
    let s = state_of c.args.self.now.network in
    inr (subst (IsAtRest p) (sym same) (all_rest p s run.reached.is (actors p) (omega arith) (λ k less.
    let low : k < 64 = omega arith in
    elim (cases_eq (bit_at c.loop-actor.left k) 1) [
      | inl has ↦ subst (λ z. Rests p z k) same (mid.2.quiet k low (c.in_default.ensures k low has))
      | inr ne ↦ inv.rests none from p es kept run k low (let bit = bit_at-lt c.loop-actor.left k in omega (arith, bit, ne)) less
    ])))

pub returns-in_err-act-clause-stops : goal.returns-in_err-act-clause-stops
returns-in_err-act-clause-stops g c = any_err c.from_residual.result (λ from p es kept run.
    let made = c.loop-actor.progress.made in
    let under = c.if-progress-limit.false in
    let mid = c.loop-actor.invariant.runs from p es kept run in
    stops_within (g.K.EventSink.holds from) (g.K.EventSink.left from) _ p InTurn (made + 1) c.args.limit (omega (arith, under)) (c.in_err-act.ensures.stops from p mid.0 mid.1 mid.2))
