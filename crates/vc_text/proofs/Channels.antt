-- The channels of a network, one after the other.
use Rattle.std.proofs.Common.{◌≡◌, ℕ, zero, suc, ◌+◌, ◌<◌, ◌≤◌, List, [], ◌∷◌, ◌++◌, length, map, take, slice_get, Some, refl, sym, ap, ◌∙◌, arith}
use Rattle.std.proofs.lemmas.List.{map-append}
use Rattle.vc_plan.specs.declared.channel.Channel.{Channel}
use Rattle.vc_plan.specs.declared.plan.Plan.{Plan}
use Rattle.vc_core.specs.PossibleEvents.{NetworkState}
use Rattle.vc_core.proofs.ReplayRuns.{take_more, all_taken}
use Rattle.vc_text.specs.ChannelStates.{channel_of, channels_from, channels_of}
use Rattle.vc_text.specs.Views.{shown}
use Rattle.vc_text.specs.declared.traffic.ChannelView.{ChannelView}

from_more : (p : Plan) (s : NetworkState) (c : ℕ) (xs : List Channel) (x : Channel) → channels_from p s c (xs ++ x ∷ []) ≡ channels_from p s c xs ++ channel_of p s (c + length xs) x ∷ []
from_more p s c [] x = let e : c ≡ c + 0 = omega arith in ap (λ k. channel_of p s k x ∷ []) e
from_more p s c (y ∷ ys) x =
    let e : suc c + length ys ≡ c + length (y ∷ ys) = omega arith in
    ap (λ zs. channel_of p s c y ∷ zs) (from_more p s (suc c) ys x ∙ ap (λ k. channels_from p s (suc c) ys ++ channel_of p s k x ∷ []) e)

length_take : {X : Type 0} (xs : List X) (n : ℕ) → n ≤ length xs → length (take n xs) ≡ n
length_take [] zero h = refl
length_take [] (suc n) h = absurd (omega arith)
length_take (x ∷ xs) zero h = refl
length_take (x ∷ xs) (suc n) h = ap suc (length_take xs n (omega arith))

-- one channel more
pub viewed_more : (p : Plan) (s : NetworkState) (vs : List ChannelView) (v : ChannelView) (c : ℕ) (x : Channel) → slice_get p.channels c ≡ Some x → c < length p.channels → map shown vs ≡ channels_from p s 0 (take c p.channels) →
    shown v ≡ channel_of p s c x → map shown (vs ++ v ∷ []) ≡ channels_from p s 0 (take (c + 1) p.channels)
viewed_more p s vs v c x here less is one =
    let next : c + 1 ≡ suc c = omega arith in
    let long = length_take p.channels c (omega arith) in
    let few : 0 + length (take c p.channels) ≡ c = omega arith in
    map-append shown vs (v ∷ []) ∙ (λ i. is i ++ one i ∷ [])
    ∙ ap (λ k. channels_from p s 0 (take c p.channels) ++ channel_of p s k x ∷ []) (sym few)
    ∙ sym (from_more p s 0 (take c p.channels) x)
    ∙ ap (channels_from p s 0) (sym (take_more p.channels c x here))
    ∙ ap (λ k. channels_from p s 0 (take k p.channels)) (sym next)

pub viewed_all : (p : Plan) (s : NetworkState) (vs : List ChannelView) (c : ℕ) → length p.channels ≤ c → map shown vs ≡ channels_from p s 0 (take c p.channels) → map shown vs ≡ channels_of p s
viewed_all p s vs c h is = is ∙ ap (channels_from p s 0) (all_taken p.channels c h)
