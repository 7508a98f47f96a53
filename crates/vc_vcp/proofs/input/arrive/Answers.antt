use Rattle.std.proofs.Common.{◌≡◌, ◌<◌, ◌∙◌, length, slice_index_or, slice_get, Some, None, sym, ap, refl, subst}
use Rattle.std.proofs.lemmas.Option.{slice_get_read, slice_get_within}
use Rattle.vc_vcp.specs.Private.Bound.{with_inputs}
use Rattle.vc_vcp.specs.Private.VcpView.{arrival_told}
use Rattle.vc_vcp.specs.State.{IsInput, IsPieceOf}
use Rattle.vc_vcp.proofs.ArrivalChanges.{stays-input}
use Rattle.vc_vcp.proofs.ListWrites.{same_read}
use Rattle.vc_vcp.proofs.Takes.{arrives_ok}
use Rattle.vc_vcp.proofs.Preservation.{all-at}
use Rattle.vc_vcp.proofs.input.arrive.Goals as goal

pub returns-clause-stays : goal.returns-clause-stays
returns-clause-stays c s w =
    let inputs = c.args.inputs.now in
    let outs = c.args.outs.now in
    let i = c.args.at in
    let k = c.from.result in
    let may = c.requires.may in
    let x = slice_index_or inputs i c.index-inputs-at.result in
    let o = slice_index_or outs k c.index-outs-from.result in
    let here : slice_get inputs i ≡ Some x = slice_get_read inputs (length inputs) i c.index-inputs-at.result refl (slice_get_within inputs i may.input may.here) c.index-inputs-at.is ∙ ap Some c.index-inputs-at.is in
    let one : may.input ≡ x = same_read inputs i may.input x may.here here in
    let is = all-at IsInput inputs i x c.requires.inputs here in
    let less : k < 4 = subst (λ z. z < 4) (sym c.from.ensures) is.link in
    let out : slice_get outs k ≡ Some o = slice_get_read outs 4 k c.index-outs-from.result (sym c.requires.four) less c.index-outs-from.is ∙ ap Some c.index-outs-from.is in
    let piece = subst (λ z. IsPieceOf z.block (record { body = c.args.body.now; mark = c.args.mark })) one may.piece in
    stays-input (with_inputs s inputs outs) i k x c.arrive.new.self o c.arrive.new.queue w here out c.arrive.ensures.stays (c.arrive.ensures.is is piece) c.arrive.ensures.sender

pub returns-clause-arrives : goal.returns-clause-arrives
returns-clause-arrives c s w =
    let inputs = c.args.inputs.now in
    let outs = c.args.outs.now in
    let i = c.args.at in
    let k = c.from.result in
    let may = c.requires.may in
    let x = slice_index_or inputs i c.index-inputs-at.result in
    let o = slice_index_or outs k c.index-outs-from.result in
    let here : slice_get inputs i ≡ Some x = slice_get_read inputs (length inputs) i c.index-inputs-at.result refl (slice_get_within inputs i may.input may.here) c.index-inputs-at.is ∙ ap Some c.index-inputs-at.is in
    let one : may.input ≡ x = same_read inputs i may.input x may.here here in
    let less : k < 4 = subst (λ z. z < 4) (sym c.from.ensures) (all-at IsInput inputs i x c.requires.inputs here).link in
    let out : slice_get outs k ≡ Some o = slice_get_read outs 4 k c.index-outs-from.result (sym c.requires.four) less c.index-outs-from.is ∙ ap Some c.index-outs-from.is in
    let empty = subst (λ z. z.half.held ≡ None) one may.empty in
    let piece = subst (λ z. IsPieceOf z.block (record { body = c.args.body.now; mark = c.args.mark })) one may.piece in
    let e = c.in_ok-arrival.ensures in
    let told = c.of_arrival.ensures ∙ ap (λ z. arrival_told z c.in_ok-arrival.arrival) c.arrive.ensures.stays.chan in
    arrives_ok (with_inputs s inputs outs) i k x c.arrive.new.self o c.arrive.new.queue c.in_ok-arrival.arrival _ (record { body = c.args.body.now; mark = c.args.mark }) w.names here c.from.ensures out empty piece e.arrival e.input e.queue told
