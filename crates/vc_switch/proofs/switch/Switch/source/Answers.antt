use Rattle.std.proofs.Common.{◌≡◌, ◌<◌, arith, refl, subst, sym, slice_get, Some}
use Rattle.std.proofs.lemmas.Option.{slice_get_read, slice_get_past}
use Rattle.vc_switch.specs.State.{IsSwitch}
use Rattle.vc_switch.proofs.Beyond.{free_past}
use Rattle.vc_switch.proofs.Readiness.{source_tells}
use Rattle.vc_switch.proofs.switch.Switch.source.Goals as goal

pub returns-then-output-lt-LINKS : goal.returns-then-output-lt-LINKS
returns-then-output-lt-LINKS c =
    let x = c.self.inside in
    let s = c.args.self.now in
    let p = c.index.result.now in
    let read = slice_get_read x.outputs.items 32 c.from.result p (sym c.self.invariant.output_links) (subst (λ k. k < 32) (sym c.from.ensures) c.if-output-lt-LINKS.true) c.index.ensures in
    let here : slice_get s.outputs c.args.output ≡ Some p = subst (λ z. slice_get z.outputs c.args.output ≡ Some p) c.self.view_is (subst (λ j. slice_get x.outputs.items j ≡ Some p) c.from.ensures read) in
    source_tells s c.args.output p p.source (subst IsSwitch c.self.view_is c.self.invariant) here refl

pub returns-else-output-lt-LINKS : goal.returns-else-output-lt-LINKS
returns-else-output-lt-LINKS c =
    let s = c.args.self.now in
    let w = subst IsSwitch c.self.view_is c.self.invariant in
    free_past s c.args.output w (slice_get_past s.outputs c.args.output (omega (arith, w.output_links, c.if-output-lt-LINKS.false)))
