use denote.RattleType.{RattleType}
use denote.Param.Send.{IsSend, sendable}
use denote.Param.SendFields.{declared_send}
use Rattle.vc_actor.specs.contracts.actor.Actor as Actor
use Rattle.vc_actor.specs.contracts.actor.Part as Part
use Rattle.vc_actor.specs.contracts.node_actor.NodeActor as NodeActor
use Rattle.vc_actor.specs.contracts.node.Node as Node
use Rattle.vc_occam.specs.contracts.running.Running as Running
use Rattle.vc_process.specs.contracts.datum.Datum as Datum
use Rattle.sqlite_items.specs.contracts.items.Items as Items
use Rattle.vc_vcp.proofs.vcp.Vcp.TheSendSync as vcp
use Rattle.vc_actor.proofs.inside.Inside.TheSendSync as inside
use Rattle.vc_actor.proofs.switch_actor.SwitchActor.TheSendSync as switch
use Rattle.vc_occam.proofs.Sent.{frame_field}
use Rattle.vc_process.proofs.datum.Datum.TheSendSync as datum
use Rattle.vc_occam.specs.contracts.moves.Move as Move
use Rattle.vc_occam.proofs.moves.Move.TheSendSync as move
use Rattle.vc_occam.proofs.waiters.Waiters.TheSendSync as waiters
use Rattle.vc_threads.specs.contracts.spawn.Job as Job
use Rattle.vc_threads.specs.contracts.run.ActorRun as ActorRun
use Rattle.vc_threads.proofs.link.Ends.TheSendSync as ends
use Rattle.vc_threads.proofs.run.Stop.TheSendSync as stop
use Rattle.std.proofs.Crossing.{crosses}

datum_send : IsSend Datum.the_row
datum_send = datum.the_send

running_field : IsSend Running.the_field.row
running_field = search (sendable, crosses, frame_field, datum_send, waiters.the_send) depth 20

node_field : IsSend Node.the_field.row
node_field = search (sendable, crosses, vcp.the_send, running_field, inside.the_send) depth 20

moves_send : IsSend (Items.the_row Move.the_row)
moves_send = search (sendable, crosses, move.the_send) depth 20

node_actor_field : IsSend NodeActor.the_field.row
node_actor_field = search (sendable, crosses, node_field, moves_send) depth 30

part_field : IsSend Part.the_field.row
part_field = search (sendable, node_actor_field, switch.the_field_send) depth 20

pub actor_send : IsSend Actor.the_row
actor_send = search (sendable, part_field) depth 20

pub run_send : (L : RattleType) → IsSend L → IsSend (ActorRun.the_row L)
run_send L its =
    declared_send (ActorRun.the_type L)
    (search sendable, (search (sendable, crosses, actor_send) depth 20, (search (sendable, its), (search (sendable, crosses, ends.the_field_send) depth 20, (search (sendable, stop.the_field_send), tt)))))

pub job_send : IsSend Job.the_row
job_send = search (sendable, crosses, actor_send, ends.the_field_send) depth 20 fits 20000
