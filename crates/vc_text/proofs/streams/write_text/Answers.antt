use Rattle.std.proofs.Common.{ℕ, arith, length-take, length-drop}
use Rattle.vc_text.proofs.Known.{appends_more, pieces}
use Rattle.vc_text.proofs.streams.write_text.Goals as goal

pub loop-done-preserved : goal.loop-done-preserved
loop-done-preserved g c = record {
  within = omega (arith, c.in-Ok.ensures.bound, length-take {A = ℕ}, length-drop {A = ℕ});
  written = appends_more _ _ _ _ _ _ (pieces c.args.text.now c.loop-done.done c.in-Ok.n) c.loop-done.invariant.written c.in-Ok.ensures.bytes;
}
