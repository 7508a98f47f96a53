-- A channel is stopped.
use Rattle.std.proofs.Common.{◌≡◌, ℕ, true, false, refl, sym, ap, ◌∙◌, subst, slice_get, slice_set, Some, None}
use Rattle.vc_vcp.specs.declared.input.Input.{Input}
use Rattle.vc_vcp.specs.Carrier.{set_in}
use Rattle.vc_vcp.specs.Private.Queues.{StaysInput}
use Rattle.vc_vcp.specs.VcpView.{seen, ends_of, IsKept, carrier_of, in_half, no_input, in_end}
use Rattle.vc_vcp.specs.State.{State, HaveOwnNames}
use Rattle.vc_vcp.specs.Steps.{Stops}
use Rattle.vc_vcp.proofs.KeyedLemmas.{by_name-set, by_name-kept}
use Rattle.vc_vcp.proofs.EndChanges.{in_at, end_in}

-- nothing more is taken on a channel
pub stops : (s : State) (i c : ℕ) (x y : Input) → HaveOwnNames s.outputs s.inputs → slice_get s.inputs i ≡ Some x → x.chan ≡ c → x.half.wants ≡ false → y ≡ record x { half = record x.half { stopped = true } } →
    Stops (ends_of s) (carrier_of s) c (seen (record s { inputs = slice_set s.inputs i y })).carrier
stops s i c x y w here is idle after =
    let at = in_at s i x w here in
    subst (λ d. Stops (ends_of s) (carrier_of s) d (seen (record s { inputs = slice_set s.inputs i y })).carrier) is (record {
      end = in_end x;
      here = end_in s i x w here;
      idle = ap (λ z. z.wants) at ∙ idle;
      after = (λ t. record (carrier_of s) { into = by_name-set (λ x. x.chan) in_half no_input s.inputs i x y w.in_chans here (ap (λ z. z.chan) after) t })
          ∙ (λ t. set_in (carrier_of s) x.chan ((ap in_half after ∙ (λ j. record (sym at j) { stopped = true })) t));
    })

pub kept-stop : (s : State) (i : ℕ) (x y : Input) → HaveOwnNames s.outputs s.inputs → slice_get s.inputs i ≡ Some x → StaysInput x y → IsKept s (record s { inputs = slice_set s.inputs i y })
kept-stop s i x y w here stays = record {
  ends = (λ t. record (ends_of s) {
    input = by_name-kept (λ x. x.chan) (λ x. Some (in_end x)) None s.inputs i x y w.in_chans here stays.chan
        (λ j. Some (record { link = stays.link j; block = stays.block j; route = stays.route j })) t;
  });
  limit = refl;
}
