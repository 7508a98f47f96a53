-- Acts in the words of the network's steps.
use Rattle.std.proofs.Common.{◌≡◌, refl}
use Rattle.vc_actor.specs.ActorView.{act_of}
use Rattle.vc_actor.specs.declared.act.Act.{Act}
use Rattle.vc_actor.specs.declared.act.Act.TheVariants.{Proc}
use Rattle.vc_occam.specs.declared.moves.Move.TheVariants.{Offer}
use Rattle.vc_stats.specs.Private.Buffers.{buffer_in}
use Rattle.vc_stats.specs.Private.Peaks.{may_put}
use Rattle.vc_stats.specs.Private.Times.{may_turn}
use Rattle.vc_stats.proofs.WayTokens.{puts}
use Rattle.vc_stats.proofs.Finishes.{turns}
use Rattle.vc_stats.proofs.BufferEvents.{buffer_by}

pub turns_by : (a : Act) → turns (act_of a) ≡ may_turn a
turns_by (Proc (Offer site chan)) = refl
turns_by a = refl

pub puts_by : (a : Act) → puts (act_of a) ≡ may_put a
puts_by (Proc made) = refl
puts_by a = refl

pub buffers_by : (a : Act) → buffer_by (act_of a) ≡ buffer_in a
buffers_by (Proc made) = refl
buffers_by a = refl
