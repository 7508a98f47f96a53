use Rattle.std.proofs.Common.{◌∙◌, Bool, List, length, get_or, refl, ap, arith}
use Rattle.vc_cycles.proofs.Among.{at_index}
use Rattle.vc_cycles.proofs.CycleSearch.{looking_on, seen_long}
use Rattle.vc_cycles.proofs.round.Round.look.Goals as goal

pub find-requires : goal.find-requires
find-requires c =
    let small = c.requires.small (get_or c.args.row.now c.loop-port.port-index 0) (at_index c.args.row.now c.loop-port.port-index c.loop-port-test.true) in
    let many = c.loop-port.invariant.many in
    omega (arith, small, many)

pub loop-port-preserved : goal.loop-port-preserved
loop-port-preserved c = record {
  many = ap (λ (bs : List Bool). length bs) c.in_ok-find.ensures.seen ∙ seen_long c.loop-port.self.seen.items (get_or c.args.row.now c.loop-port.port-index 0) ∙ c.loop-port.invariant.many;
  looking = λ rows start l.
      looking_on rows start c.args.at c.args.row.now c.loop-port.port-index (get_or c.args.row.now c.loop-port.port-index 0) c.loop-port.self.found.items c.find.new.self.found.items
      c.loop-port.self.seen.items c.find.new.self.seen.items (c.loop-port.invariant.looking rows start l) c.loop-port-test.true refl c.in_ok-find.ensures.found c.in_ok-find.ensures.seen;
}
