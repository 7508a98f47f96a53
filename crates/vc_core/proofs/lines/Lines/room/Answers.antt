use Rattle.std.proofs.Common.{◌≡◌, ◌↔◌, subst}
use Rattle.std.specs.Int.{bit_at}
use Rattle.vc_core.specs.Lines.{Lined}
use Rattle.vc_core.specs.Wiring.{Goes}
use Rattle.vc_core.proofs.LineBits.{goes_of}
use Rattle.vc_core.proofs.lines.Lines.room.Goals as goal

pub returns : goal.returns
returns c = λ link few.
    let x = c.self.inside in
    subst (λ (z : Lined). (bit_at c.room.result link ≡ 1) ↔ Goes z.wiring z.ways c.args.actor link) c.self.view_is
    (goes_of x.wiring x.ways.ways x.fronts c.args.actor link (bit_at c.room.result link) c.self.invariant.0 (c.room.ensures link few))
