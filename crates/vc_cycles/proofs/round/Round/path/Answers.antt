use Rattle.std.proofs.Common.{◌∙◌, ◌<◌, ◌∷◌, ap, arith}
use Rattle.vc_cycles.proofs.Among.{read_at}
use Rattle.vc_cycles.proofs.CycleSearch.{from_less}
use Rattle.vc_cycles.proofs.Ways.{way_more}
use Rattle.vc_cycles.proofs.round.Round.path.Goals as goal

pub loop-at-preserved : goal.loop-at-preserved
loop-at-preserved c =
    let f = c.index-found.result.now in
    let is = read_at c.args.self.now.found.items c.loop-at.at f c.loop-at.invariant.within c.index-found.ensures in
    let some : 0 < c.loop-at.at = omega arith in
    let less = from_less c.args.self.now.found.items c.loop-at.at f c.requires.back some is in
    let within = c.loop-at.invariant.within in
    record {
      within = omega (arith, less, within);
      way = way_more c.args.self.now.found.items c.requires.back c.loop-at.at f c.loop-at.ports.items c.insert.new.self.items some is
          (c.in_ok-insert.ensures.items ∙ ap (λ p. p ∷ c.loop-at.ports.items) c.port_at.ensures) ∙ c.loop-at.invariant.way;
    }

pub port_at-requires-2 : goal.port_at-requires-2
port_at-requires-2 c =
    let within = c.requires.within in
    c.requires.back.small 0 c.index.result.now (read_at c.args.self.now.found.items 0 c.index.result.now (omega (arith, within)) c.index.ensures)
