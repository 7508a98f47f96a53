use Rattle.std.proofs.Common.{◌≡◌, ◌∙◌, ap, refl, sym, Ok, Err, ℕ, Result}
use Rattle.std.specs.Prelude.{IfOk}
use Rattle.vc_occam.specs.declared.frame.Construct.TheVariants as run
use Rattle.vc_occam.specs.declared.frame.Frame.TheViews.{out-Frame}
use Rattle.vc_occam.specs.Frames.{rest_of, view}
use Rattle.vc_occam.specs.Private.Frames.{output_shape}
use Rattle.vc_occam.specs.Remains.{Rest}
use Rattle.vc_occam.specs.States.{carried, output_at}
use Rattle.vc_process.specs.Terms.{store}
use Rattle.vc_occam.proofs.AtItself.{no_output, no_output_at, shown_rest, stopped_rest}
use Rattle.vc_occam.proofs.frame.Frame.own_message.Goals as goal
use Rattle.vc_occam.proofs.frame.Frame.own_message.Goals.{then-self-site-via-then-self-site, then-self-site-via-else-self-site+then-self}

-- what it is at every site it is at one
at_one : {T E : Type 0} (r : Result T E) (F : ℕ → T) (i : ℕ) (x : T) → F i ≡ x → IfOk r (λ (sent : T). (j : ℕ) → sent ≡ F j) → IfOk r (λ (sent : T). sent ≡ x)
at_one (Ok s) F i x h k = k i ∙ h
at_one (Err e) F i x h k = k

pub returns-then-self-site : goal.returns-then-self-site
returns-then-self-site c =
    let f = c.args.self.now in
    let i = c.args.site in
    let e = store c.args.vars.now in
    elim c.then-self-site.branch [
      | then-self-site-via-then-self-site w ↦ sym (ap carried (no_output_at i f e w.if-self-site.true c.requires.alone))
      | then-self-site-via-else-self-site+then-self w ↦ sym (ap (λ (r : Rest). carried (output_at i r e)) (stopped_rest f w.if-self.true))
    ]

pub returns-in-Send : goal.returns-in-Send
returns-in-Send c =
    let f = c.args.self.now in
    let i = c.args.site in
    let e = store c.args.vars.now in
    let output = c.in-Send.output in
    let here = ap (λ (r : Rest). carried (output_at i r e)) (shown_rest f (run.Send output) c.if-self.false c.in-Send.is) ∙ ap (λ (j : ℕ). carried (output_at i (rest_of j (output_shape output)) e)) c.if-self-site.false in
    at_one c.message.result (λ (j : ℕ). carried (output_at j (rest_of j (output_shape output)) e)) i (carried (output_at i (view f).rest e)) (sym here) c.message.ensures

pub returns-in_default : goal.returns-in_default
returns-in_default c =
    let f = c.args.self.now in
    let o = out-Frame f in
    let i = c.args.site in
    let e = store c.args.vars.now in
    sym (ap carried (ap (λ (r : Rest). output_at i r e) (shown_rest f o.construct c.if-self.false refl) ∙ no_output i o.site o.construct e c.requires.alone c.in_default.not-Send))
