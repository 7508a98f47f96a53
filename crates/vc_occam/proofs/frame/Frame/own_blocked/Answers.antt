use Rattle.std.proofs.Common.{◌≡◌, ◌∙◌, ap, false, map, refl, subst, true, arith}
use Rattle.vc_occam.specs.declared.frame.Construct.{Construct}
use Rattle.vc_occam.specs.declared.frame.Construct.TheVariants as run
use Rattle.vc_occam.specs.declared.frame.Frame.{Frame}
use Rattle.vc_occam.specs.declared.frame.Frame.TheViews.{out-Frame}
use Rattle.vc_occam.specs.BlockedParts.{blocked}
use Rattle.vc_occam.specs.Frames.{is_at_itself}
use Rattle.vc_occam.specs.Private.Frames.{is_open_alt, seen_guard, shape}
use Rattle.vc_occam.specs.Remains.{Rest}
use Rattle.vc_process.specs.Terms.{store}
use Rattle.vc_occam.proofs.AtItself.{guard_taken, no_block, none_taken, received_block, shown_rest, stopped_rest, taken_is}
use Rattle.vc_occam.proofs.frame.Frame.own_blocked.Goals as goal

pub returns-then-self : goal.returns-then-self
returns-then-self c = ap (λ (r : Rest). blocked r (store c.args.vars.now)) (stopped_rest c.args.self.now c.if-self.true)

pub index-requires : goal.index-requires
index-requires c =
    let o = c.in-Alt.alt.guards.ok.0 in
    let l = guard_taken c.args.self.now c.in-Alt.alt c.in-Taken.at c.requires.sound c.in-Alt.is c.in-Taken.is in
    omega arith

pub returns-in-Stop : goal.returns-in-Stop
returns-in-Stop c = ap (λ (r : Rest). blocked r (store c.args.vars.now)) (shown_rest c.args.self.now run.Stop c.if-self.false c.in-Stop.is)

pub returns-in-Send : goal.returns-in-Send
returns-in-Send c = ap (λ (r : Rest). blocked r (store c.args.vars.now)) (shown_rest c.args.self.now (run.Send c.in-Send.output) c.if-self.false c.in-Send.is) ∙ c.blocked.ensures

pub returns-in-Receive : goal.returns-in-Receive
returns-in-Receive c =
    let f = c.args.self.now in
    let n = c.in-Receive.input in
    let e = store c.args.vars.now in
    ap (λ (r : Rest). blocked r e) (shown_rest f (run.Receive n) c.if-self.false c.in-Receive.is) ∙ received_block (out-Frame f).site n.chan n.var n.begun e

pub returns-in-Taken : goal.returns-in-Taken
returns-in-Taken c =
    let f = c.args.self.now in
    let alt = c.in-Alt.alt in
    let l = guard_taken f alt c.in-Taken.at c.requires.sound c.in-Alt.is c.in-Taken.is in
    ap (λ (r : Rest). blocked r (store c.args.vars.now))
    (shown_rest f (run.Alt alt) c.if-self.false c.in-Alt.is ∙ taken_is (out-Frame f).site alt.guards.items alt.choice c.in-Taken.at c.index.result.now c.in-Taken.is l c.index.ensures)

pub returns-in_default-choice : goal.returns-in_default-choice
returns-in_default-choice c =
    let f = c.args.self.now in
    let alt = c.in-Alt.alt in
    let rest = shown_rest f (run.Alt alt) c.if-self.false c.in-Alt.is in
    let itself = subst (λ (d : Construct Frame). is_at_itself (shape d) ≡ true) c.in-Alt.is c.requires.alone in
    absurd (none_taken (out-Frame f).site (map seen_guard alt.guards.items) alt.choice itself (subst (λ (r : Rest). is_open_alt r ≡ false) rest c.requires.decided) c.in_default-choice.not-Taken)

pub returns-in_default : goal.returns-in_default
returns-in_default c =
    let f = c.args.self.now in
    let o = out-Frame f in
    let e = store c.args.vars.now in
    ap (λ (r : Rest). blocked r e) (shown_rest f o.construct c.if-self.false refl) ∙ no_block o.site o.construct e c.requires.alone c.in_default.not-Stop c.in_default.not-Send c.in_default.not-Receive c.in_default.not-Alt
