use Rattle.std.proofs.Common.{◌≡◌, ◌∙◌, ap, refl, subst, sym, Option}
use Rattle.std.specs.Prelude.{IfOk}
use Rattle.vc_occam.specs.declared.frame.Construct.TheVariants as run
use Rattle.vc_occam.specs.declared.frame.Frame.TheViews.{out-Frame}
use Rattle.vc_occam.specs.Private.Frames.{assigned_at}
use Rattle.vc_occam.specs.Remains.{Rest}
use Rattle.vc_process.specs.declared.datum.Datum.{Datum}
use Rattle.vc_process.specs.Terms.{given, store}
use Rattle.vc_occam.proofs.AtItself.{assigned_here, no_assigned, no_assigned_at, shown_rest, stopped_rest}
use Rattle.vc_occam.proofs.frame.Frame.own_assigned.Goals as goal
use Rattle.vc_occam.proofs.frame.Frame.own_assigned.Goals.{then-self-site-via-then-self-site, then-self-site-via-else-self-site+then-self}

pub returns-then-self-site : goal.returns-then-self-site
returns-then-self-site c =
    let f = c.args.self.now in
    let i = c.args.site in
    let e = store c.args.vars.now in
    elim c.then-self-site.branch [
      | then-self-site-via-then-self-site w ↦ sym (no_assigned_at i f e w.if-self-site.true c.requires.alone)
      | then-self-site-via-else-self-site+then-self w ↦ sym (ap (λ (r : Rest). assigned_at i r e) (stopped_rest f w.if-self.true))
    ]

pub returns-in-Set : goal.returns-in-Set
returns-in-Set c =
    let f = c.args.self.now in
    let i = c.args.site in
    let e = store c.args.vars.now in
    let set = c.in-Set.set in
    let here = ap (λ (r : Rest). assigned_at i r e) (shown_rest f (run.Set set) c.if-self.false c.in-Set.is) ∙ assigned_here i (out-Frame f).site set.var (given set.value) e c.if-self-site.false in
    subst (λ (o : Option Datum). IfOk c.assigned_bytes.result (λ (value : Option Datum). value ≡ o)) (sym here) c.assigned_bytes.ensures

pub returns-in_default : goal.returns-in_default
returns-in_default c =
    let f = c.args.self.now in
    let o = out-Frame f in
    let i = c.args.site in
    let e = store c.args.vars.now in
    sym (ap (λ (r : Rest). assigned_at i r e) (shown_rest f o.construct c.if-self.false refl) ∙ no_assigned i o.site o.construct e c.requires.alone c.in_default.not-Set)
