-- A frame may be sent to another thread.
use denote.Param.Send.{IsSend, sendable}
use denote.Param.SendFields.{as_row_send, declared_send, variants_send}
use denote.RattleType.{RattleType}
use Rattle.vc_occam.specs.contracts.frame.Frame as Frame
use Rattle.vc_occam.specs.contracts.frame.Construct as Construct
use Rattle.vc_occam.specs.contracts.frame.Guard as Guard
use Rattle.vc_occam.specs.contracts.frame.Alt as Alt
use Rattle.vc_occam.specs.contracts.frame.Count as Count
use Rattle.vc_occam.specs.contracts.frame.While as While
use Rattle.vc_occam.specs.contracts.frame.Branch as Branch
use Rattle.vc_occam.specs.contracts.frame.If as If
use Rattle.vc_occam.specs.contracts.frame.Input as Input
use Rattle.vc_occam.specs.contracts.frame.Output as Output
use Rattle.vc_occam.specs.contracts.frame.Assignment as Assignment
use Rattle.vc_process.specs.contracts.expression.Expr as Expr
use Rattle.vc_process.specs.contracts.condition.Cond as Cond
use Rattle.vc_process.specs.contracts.value.Value as Value
use Rattle.vc_occam.proofs.frame.Frame.TheLaws.TheKnot as frame
use Rattle.vc_occam.proofs.frame.Seq.TheSendSync as seq_of
use Rattle.vc_occam.proofs.frame.Par.TheSendSync as par_of
use Rattle.vc_occam.proofs.frame.Choice.TheSendSync as choice
use Rattle.vc_occam.proofs.frame.Turn.TheSendSync as turn
use Rattle.vc_process.proofs.expression.Expr.TheLaws.TheKnot as expr
use Rattle.vc_process.proofs.condition.Cond.TheLaws.TheKnot as cond
use Rattle.vc_process.proofs.bytes_expression.BytesExpr.TheSendSync as bytes
use Rattle.vc_process.proofs.relation.Rel.TheSendSync as rel
use Rattle.std.proofs.Crossing.{crosses}

expr_field : IsSend Expr.the_field.row
expr_field = search (sendable, crosses, expr.send-Expr) depth 20

cond_field : IsSend Cond.the_field.row
cond_field = search (sendable, crosses, cond.send-Cond, expr_field, rel.the_field_send) depth 20 fits 20000

value_field : IsSend Value.the_field.row
value_field = search (sendable, expr_field, bytes.the_field_send) depth 20

assignment_send : IsSend Assignment.the_row
assignment_send = search (sendable, value_field) depth 20

output_send : IsSend Output.the_row
output_send = search (sendable, value_field) depth 20

input_send : IsSend Input.the_row
input_send = search sendable depth 20

branch_send : (h : RattleType) → IsSend h → IsSend (Branch.the_row h)
branch_send h s = declared_send (Branch.the_type h) (as_row_send Cond.the_field cond_field, (search (sendable, s), tt))

branching_send : (h : RattleType) → IsSend h → IsSend (If.the_row h)
branching_send h s =
    let one = branch_send h s in
    declared_send (If.the_type h) (search (sendable, crosses, one) depth 20, (search (sendable, crosses) depth 20, tt))

looping_send : (h : RattleType) → IsSend h → IsSend (While.the_row h)
looping_send h s = declared_send (While.the_type h) (as_row_send Cond.the_field cond_field, (search (sendable, crosses, s) depth 20, (search sendable, tt)))

counting_send : (h : RattleType) → IsSend h → IsSend (Count.the_row h)
counting_send h s = declared_send (Count.the_type h) (search sendable, (as_row_send Expr.the_field expr_field, (as_row_send Expr.the_field expr_field, (search (sendable, crosses, s) depth 20, (search (sendable, crosses, turn.the_send) depth 20, tt)))))

guard_send : (h : RattleType) → IsSend h → IsSend (Guard.the_row h)
guard_send h s = declared_send (Guard.the_type h) (as_row_send Cond.the_field cond_field, (search sendable, (search sendable, (search (sendable, s), tt))))

alt_send : (h : RattleType) → IsSend h → IsSend (Alt.the_row h)
alt_send h s =
    let one = guard_send h s in
    declared_send (Alt.the_type h) (search (sendable, crosses, one) depth 20, (search (sendable, choice.the_send), tt))

construct_send : (h : RattleType) → IsSend h → IsSend (Construct.the_row h)
construct_send h s =
    let seq = seq_of.the_send h s in
    let par = par_of.the_send h s in
    let branching = branching_send h s in
    let looping = looping_send h s in
    let counting = counting_send h s in
    let alt = alt_send h s in
    variants_send (Construct.enum h)
    (tt, (tt, (tt, (tt, ((search (sendable, assignment_send), tt), ((search (sendable, output_send), tt), ((search (sendable, input_send), tt), ((search sendable, tt), ((search (sendable, seq), tt), ((search (sendable, par), tt), ((search (sendable, branching), tt), ((search (sendable, looping), tt), ((search (sendable, counting), tt), ((search (sendable, alt), tt), tt))))))))))))))

pub frame_field : IsSend Frame.the_field.row
frame_field = search (sendable, crosses, frame.send-Frame, construct_send) depth 20
