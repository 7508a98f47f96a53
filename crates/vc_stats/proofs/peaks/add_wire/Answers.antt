use Rattle.std.proofs.Common.{refl}
use Rattle.std.proofs.lemmas.Result.{on_ok_weaker}
use Rattle.vc_stats.proofs.WayRows.{ways_more}
use Rattle.vc_stats.proofs.peaks.add_wire.Goals as goal

pub returns : goal.returns
returns c = on_ok_weaker c.add-2.result (λ after p nodes there before.
    ways_more p c.args.n c.args.wire c.args.ways.now c.add.new.self c.add-2.new.self c.actor_of.result c.actor_of-2.result _ _ there refl refl
    (c.actor_of.ensures p c.args.wire.one.link nodes) (c.actor_of-2.ensures p c.args.wire.two.link nodes) before c.in_ok-add.ensures after) c.add-2.ensures
