use Rattle.std.proofs.Common.{◌≡◌, ◌∙◌, ◌++◌, subst, sym, true, false}
use Rattle.vc_core.specs.State.{state_of}
use Rattle.vc_trace.specs.Lines.{left}
use Rattle.vc_trace.specs.Private.Replay.{MakesLine}
use Rattle.vc_trace.specs.Replay.{EndsEvents}
use Rattle.vc_trace.proofs.EventTexts.{ends, ends_here, ends_there, made_more, none_made, refuses}
use Rattle.vc_trace.proofs.replay.make_lines.Goals as goal

pub loop-number-init : goal.loop-number-init
loop-number-init g c = record {
  reader = c.in_ok-reader.ensures;
  made = none_made c.args.plan.now (g.E.Read.remaining c.args.events.now) (state_of c.args.network.now) c.requires;
}

pub returns-then-ends_events-clause-made : goal.returns-then-ends_events-clause-made
returns-then-ends_events-clause-made g c =
    let line = c.read_line.new.line.items in
    let old = g.E.Read.remaining c.args.events.now in
    let mid = g.E.Read.remaining c.loop-number.events in
    let new = g.E.Read.remaining c.read_line.new.reader in
    let read = c.in_ok-read_line.ensures in
    let end = subst EndsEvents c.as_slice.ensures.value (c.ends_events.ensures.0 c.if-ends_events.true) in
    ends c.args.plan.now old mid new (state_of c.loop-number.network) c.loop-number.number line c.loop-number.invariant.made read.read
    (ends_there (left new) line read.line end)

pub returns-then-not-branch-clause-made : goal.returns-then-not-branch-clause-made
returns-then-not-branch-clause-made g c =
    let p = c.args.plan.now in
    let line = c.read_line.new.line.items in
    let old = g.E.Read.remaining c.args.events.now in
    let mid = g.E.Read.remaining c.loop-number.events in
    let new = g.E.Read.remaining c.read_line.new.reader in
    let s = state_of c.loop-number.network in
    let t = state_of c.make_line.new.network in
    let read = c.in_ok-read_line.ensures in
    let goes_on : EndsEvents (line ++ left new) → ⊥ = λ here.
    (let e : true ≡ false = sym (c.ends_events.ensures.1 (subst EndsEvents (sym c.as_slice.ensures.value) (ends_here (left new) line read.line here))) ∙ c.if-ends_events.false in cc) in
    let inv = c.loop-number.invariant in
    let none = subst (MakesLine p s c.as_slice-in-loop-number.result.now t) c.if-not-branch.true (c.in_ok-make_line.ensures.made p inv.reader inv.made.reached.is) in
    refuses p old mid new s t (record { number = c.loop-number.number; line = c.read_line.new.line }) c.loop-number.invariant.made read.read goes_on read.line
    (subst (λ z. MakesLine p s z t false) c.as_slice-in-loop-number.ensures.value none)

pub loop-number-preserved : goal.loop-number-preserved
loop-number-preserved g c =
    let p = c.args.plan.now in
    let line = c.read_line.new.line.items in
    let old = g.E.Read.remaining c.args.events.now in
    let mid = g.E.Read.remaining c.loop-number.events in
    let new = g.E.Read.remaining c.read_line.new.reader in
    let s = state_of c.loop-number.network in
    let t = state_of c.make_line.new.network in
    let inv = c.loop-number.invariant in
    let made = subst (MakesLine p s c.as_slice-in-loop-number.result.now t) c.if-not-branch.false (c.in_ok-make_line.ensures.made p inv.reader inv.made.reached.is) in
    record {
      reader = c.in_ok-make_line.ensures.same p inv.reader;
      made = made_more p old mid new s t c.loop-number.number line made.0 inv.made c.in_ok-read_line.ensures.read (made.1 ∙ c.as_slice-in-loop-number.ensures.value) made.2;
    }
