use Rattle.std.proofs.Common.{◌≡◌, ◌<◌, arith, subst, length, get_or, refl, Global}
use Rattle.std.proofs.Math.ListN.{set}
use Rattle.rtrb.specs.declared.producer.Producer.{Producer}
use Rattle.vc_threads.specs.declared.link.Stamped.{Stamped}
use Rattle.vc_threads.specs.declared.link.LinkRule.{LinkRule}
use Rattle.std.specs.Int.{bit_at}
use Rattle.std.proofs.lemmas.Nat.Bits.{bit_at-zero}
use Rattle.vc_threads.specs.Wires.{OutLooked}
use Rattle.vc_threads.specs.Private.Rooms.{HaveRoom}
use Rattle.vc_threads.proofs.Zips.{zip_same, zip_step}
use Rattle.vc_threads.proofs.Looks.{looked_same, looked_then, low_kept, room_kept, room_more}
use Rattle.vc_threads.proofs.outs.room_of.Goals as goal
use Rattle.vc_threads.proofs.outs.room_of.Goals.{then-has_room, else-has_room}

abbrev Out : Type 0
Out = Producer Stamped Global LinkRule

pub loop-k-init : goal.loop-k-init
loop-k-init c = record {
  low = c.requires;
  looked = zip_same OutLooked looked_same c.args.outs.now;
  room = λ link one. absurd (omega (arith, bit_at-zero link));
}

pub loop-k-preserved : goal.loop-k-preserved
loop-k-preserved c =
    let old = c.loop-k.outs in
    let new = set c.loop-k.outs c.loop-k.k c.has_room.new.out in
    let within : c.loop-k.k < length old = omega arith in
    let low = c.loop-k.invariant.low c.loop-k.k c.index-outs-k.result within in
    let step = zip_step OutLooked looked_then old old c.loop-k.k c.index-outs-k.result c.has_room.new.out (zip_same OutLooked looked_same old) within c.has_room.ensures.looked in
    let rest : HaveRoom c.loop-k.room new = λ link one. room_kept link old new step (c.loop-k.invariant.room link one) in
    record {
      low = low_kept old new step c.loop-k.invariant.low;
      looked = zip_step OutLooked looked_then c.args.outs.now old c.loop-k.k c.index-outs-k.result c.has_room.new.out c.loop-k.invariant.looked within c.has_room.ensures.looked;
      room = elim c.if-has_room.branch [
        | then-has_room w ↦ λ link one. room_more old c.loop-k.room c.loop-k.k (get_or old c.loop-k.k c.index-outs-k.result).0 c.index-outs-k.result c.has_room.new.out within low refl c.has_room.ensures.looked (c.has_room.ensures.room w.if-has_room.true) rest link (subst (λ n. bit_at n link ≡ 1) w.room-is one)
        | else-has_room w ↦ λ link one. rest link (subst (λ n. bit_at n link ≡ 1) w.room-is one)
      ];
    }
