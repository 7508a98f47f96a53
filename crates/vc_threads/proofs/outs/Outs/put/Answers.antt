use Rattle.std.proofs.Common.{◌≡◌, ℕ, ◌<◌, List, [], ◌∷◌, length, get_or, ap, subst, sym, ◌∙◌}
use Rattle.std.proofs.Math.ListN.{set}
use Rattle.std.specs.Int.{bit_at}
use Rattle.std.specs.List.{All, AllZip, HoldsAt}
use Rattle.vc_network.specs.Actors.Label.{Puts}
use Rattle.vc_threads.specs.Stamps.{stamped}
use Rattle.vc_threads.specs.Wires.{IsAmong, Sends, out_links}
use Rattle.vc_threads.specs.Works.{Out}
use Rattle.vc_threads.specs.Private.Rooms.{IsFree}
use Rattle.vc_threads.proofs.Goings.{among, sends_one}
use Rattle.vc_threads.proofs.Looks.{room_then}
use Rattle.vc_threads.proofs.outs.Outs.put.Goals as goal

-- the k-th of these ends is of the link
module _ (slice outs : List Out) (k link : ℕ) (same : slice ≡ outs) (free : HoldsAt (IsFree link) slice k) where
  of_link : (d : Out) → (get_or outs k d).0 ≡ link
  of_link d = ap (λ w. (get_or w k d).0) (sym same) ∙ (free d).0

  it_is : (r : Out) → r ≡ get_or outs k r → r.0 ≡ link
  it_is r at = ap (λ (o : Out). o.0) at ∙ of_link r

  is_low : (r : Out) → k < length outs → All (λ o. o.0 < 32) outs → link < 32
  is_low r within low = subst (λ (n : ℕ). n < 32) (of_link r) (low k r within)

pub room_after-self-requires : goal.room_after-self-requires
room_after-self-requires c =
    let outs = c.args.self.now.ends.items in
    let same = c.as_slice.ensures.value in
    let k = c.find_out-k.result in
    is_low c.as_slice.result.now outs k c.args.link same c.find_out-k.ensures.free c.index_mut.result.now (subst (λ w. k < length w) same c.find_out-k.ensures.within) c.requires.low

pub invariant_of-self : goal.invariant_of-self
invariant_of-self c =
    let a = c.args.self.now in
    let outs = a.ends.items in
    let slice = c.as_slice.result.now in
    let k = c.find_out-k.result in
    let link = c.args.link in
    let same = c.as_slice.ensures.value in
    let free = c.find_out-k.ensures.free in
    let put = c.put_item-free in
    let is = put.ensures.link ∙ it_is slice outs k link same free c.index_mut.result.now c.index_mut.ensures.value in
    let after = subst (λ n. (other : ℕ) → bit_at c.room_after-self.result other ≡ 1 → (bit_at a.room other ≡ 1) × (other ≡ link → 0 < n)) put.ensures.free c.room_after-self.ensures in
    record { known = room_then outs a.room c.room_after-self.result k link put.new.end (subst (λ w. k < length w) same c.find_out-k.ensures.within) (of_link slice outs k link same free) is after a.known }

pub returns-clause-among : goal.returns-clause-among
returns-clause-among c =
    let outs = c.args.self.now.ends.items in
    let same = c.as_slice.ensures.value in
    let k = c.find_out-k.result in
    let r = c.index_mut.result.now in
    subst (λ n. IsAmong (out_links outs) n) (it_is c.as_slice.result.now outs k c.args.link same c.find_out-k.ensures.free r c.index_mut.ensures.value)
    (among outs k r (subst (λ w. k < length w) same c.find_out-k.ensures.within) c.index_mut.ensures.value)

pub returns-clause-put : goal.returns-clause-put
returns-clause-put c = λ act.
    let outs = c.args.self.now.ends.items in
    let same = c.as_slice.ensures.value in
    let k = c.find_out-k.result in
    let r = c.index_mut.result.now in
    let x = c.args.item in
    let put = c.put_item-free in
    subst (λ l. AllZip (Sends (record { at = x.at; it = Puts act l (stamped x) } ∷ [])) outs (set outs k put.new.end))
    (it_is c.as_slice.result.now outs k c.args.link same c.find_out-k.ensures.free r c.index_mut.ensures.value)
    (sends_one outs k r put.new.end x.at act x c.requires.links (subst (λ w. k < length w) same c.find_out-k.ensures.within) c.index_mut.ensures.value put.ensures.link put.ensures.ring put.ensures.sent)
