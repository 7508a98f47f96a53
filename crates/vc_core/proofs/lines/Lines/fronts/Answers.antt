use Rattle.std.proofs.Common.{◌≡◌, ◌↔◌, sym, subst}
use Rattle.std.specs.Int.{bit_at}
use Rattle.vc_core.specs.Lines.{Lined}
use Rattle.vc_core.specs.Wiring.{Comes}
use Rattle.vc_core.proofs.lines.Lines.fronts.Goals as goal

pub returns : goal.returns
returns c = λ link few.
    subst (λ (z : Lined). (bit_at c.links.result link ≡ 1) ↔ Comes z.wiring z.ways c.args.actor link) c.self.view_is
    (subst (λ n. (bit_at n link ≡ 1) ↔ Comes c.self.inside.wiring c.self.inside.ways.ways c.args.actor link) (sym c.links.ensures) (c.self.invariant.0.told c.args.actor link few))
