use Rattle.std.proofs.Common.{◌∙◌, ap, subst, ◌≡◌, false, refl}
use Rattle.vc_occam.specs.declared.frame.Construct.{Construct}
use Rattle.vc_occam.specs.declared.frame.Construct.TheVariants as run
use Rattle.vc_occam.specs.declared.frame.Frame.{Frame}
use Rattle.vc_occam.specs.declared.frame.Frame.TheViews.{out-Frame}
use Rattle.std.proofs.Common.{map, true}
use Rattle.vc_occam.specs.First.{own}
use Rattle.vc_occam.specs.Frames.{is_at_itself}
use Rattle.vc_occam.specs.Private.Frames.{is_open_alt, seen_guard, shape}
use Rattle.vc_occam.specs.Remains.{Rest}
use Rattle.vc_process.specs.Terms.{store}
use Rattle.vc_occam.proofs.AtItself.{decided_own, quiet_move, shown_rest, stopped_rest}
use Rattle.vc_occam.proofs.frame.Frame.own_move.Goals as goal

pub returns-then-self : goal.returns-then-self
returns-then-self c = ap (λ (r : Rest). own r (store c.args.vars.now)) (stopped_rest c.args.self.now c.if-self.true)

pub returns-in-Stop : goal.returns-in-Stop
returns-in-Stop c = ap (λ (r : Rest). own r (store c.args.vars.now)) (shown_rest c.args.self.now run.Stop c.if-self.false c.in-Stop.is)

pub returns-in-Alt : goal.returns-in-Alt
returns-in-Alt c =
    let f = c.args.self.now in
    let alt = c.in-Alt.field-0 in
    let rest = shown_rest f (run.Alt alt) c.if-self.false c.in-Alt.is in
    let itself = subst (λ (d : Construct Frame). is_at_itself (shape d) ≡ true) c.in-Alt.is c.requires.alone in
    ap (λ (r : Rest). own r (store c.args.vars.now)) rest ∙ decided_own (out-Frame f).site (map seen_guard alt.guards.items) alt.choice (store c.args.vars.now) itself (subst (λ (r : Rest). is_open_alt r ≡ false) rest c.requires.decided)

pub returns-in-Send : goal.returns-in-Send
returns-in-Send c = ap (λ (r : Rest). own r (store c.args.vars.now)) (shown_rest c.args.self.now (run.Send c.in-Send.output) c.if-self.false c.in-Send.is) ∙ c.own_move.ensures

pub returns-in-Receive : goal.returns-in-Receive
returns-in-Receive c =
    let e = store c.args.vars.now in
    ap (λ (r : Rest). own r e) (shown_rest c.args.self.now (run.Receive c.in-Receive.input) c.if-self.false c.in-Receive.is) ∙ c.own_move-in-Receive.ensures e

pub returns-in-Stopch : goal.returns-in-Stopch
returns-in-Stopch c = ap (λ (r : Rest). own r (store c.args.vars.now)) (shown_rest c.args.self.now (run.Stopch c.in-Stopch.chan) c.if-self.false c.in-Stopch.is)

pub returns-in_default : goal.returns-in_default
returns-in_default c =
    let f = c.args.self.now in
    let o = out-Frame f in
    ap (λ (r : Rest). own r (store c.args.vars.now)) (shown_rest f o.construct c.if-self.false refl)
    ∙ quiet_move o.site o.construct (store c.args.vars.now) c.requires.alone c.in_default.not-Stop c.in_default.not-Send c.in_default.not-Receive c.in_default.not-Stopch c.in_default.not-Alt
