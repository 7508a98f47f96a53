use Rattle.std.proofs.Common.{◌≡◌, ◌+◌, ℕ, zero, suc, List, [], ◌∷◌, ◌++◌, length, slice_get, Some, refl, sym, ap, subst, ◌∙◌, length-append}
use Rattle.std.proofs.lemmas.Option.{slice_get_read}
use Rattle.vc_plan.specs.declared.channel.Channel.{Channel}
use Rattle.vc_plan.specs.declared.plan.Plan.{Plan}
use Rattle.vc_network.specs.Plan as network
use Rattle.vc_network.specs.Views.{source_node, sink_node}
use Rattle.vc_accepted.specs.NetworkOf.{network_of, home_in}
use Rattle.vc_accepted.proofs.Elements.{made_at}
use Rattle.vc_core.specs.Channels.{IsChannelOf, ends_at}
use Rattle.vc_core.specs.Private.Channels.{IsInfoOf}
use Rattle.vc_core.specs.declared.channels.ChannelInfo.{ChannelInfo}
use Rattle.vc_core.proofs.channels.channels_of.Goals as goal

is_channel : (p : Plan) (c : ℕ) (info : ChannelInfo) (x : Channel) → slice_get p.channels c ≡ Some x → IsInfoOf p x info → IsChannelOf p c info
is_channel p c info x there is =
    let home : network.home (network_of p) c ≡ home_in x = made_at home_in p.channels c (network.Inside (length p.nodes)) x there in
    record {
      channel = x;
      here = there;
      name = is.name;
      kind = is.kind;
      source = is.source ∙ ap (source_node (network_of p)) (sym home);
      sink = is.sink ∙ ap (sink_node (network_of p)) (sym home);
      ends = is.ends ∙ ap (ends_at (network_of p)) (sym home);
    }

-- what holds of each element of a list at its place, and of one more
one_more : {A : Type 0} (P : ℕ → A → Type 0) (xs : List A) (x : A) → ((k : ℕ) (y : A) → slice_get xs k ≡ Some y → P k y) → P (length xs) x
    → (k : ℕ) (y : A) → slice_get (xs ++ x ∷ []) k ≡ Some y → P k y
one_more P [] x each last zero y e = subst (P 0) (let same : x ≡ y = cc in same) last
one_more P [] x each last (suc k) y e = absurd (cc)
one_more P (z ∷ zs) x each last zero y e = each 0 y e
one_more P (z ∷ zs) x each last (suc k) y e = one_more (λ j w. P (suc j) w) zs x (λ j w is. each (suc j) w is) last k y e

pub loop-channel-preserved : goal.loop-channel-preserved
loop-channel-preserved c =
    let p = c.args.plan.now in
    let infos = c.loop-channel.channels.items in
    let i = c.loop-channel.channel-index in
    let info = c.in_ok-info_of.field-0 in
    let x = c.channel-item.result in
    let count = c.loop-channel.invariant.count in
    let pushed : c.push.new.self.items ≡ infos ++ info ∷ [] = c.in_ok-push.ensures.items in
    let here : slice_get p.channels i ≡ Some x = subst (λ xs. slice_get xs i ≡ Some x) c.as_slice-channel-items.ensures
    (slice_get_read c.as_slice-channel-items.result.now (length c.as_slice-channel-items.result.now) i x refl c.loop-channel-test.true c.channel-item.is) in
    record {
      count = ap length pushed ∙ (length-append infos (info ∷ []) ∙ ap (λ n. n + 1) count);
      each = λ k y e. one_more (IsChannelOf p) infos info c.loop-channel.invariant.each
          (is_channel p (length infos) info x (subst (λ n. slice_get p.channels n ≡ Some x) (sym count) here) c.in_ok-info_of.ensures) k y (subst (λ z. slice_get z k ≡ Some y) pushed e);
    }
