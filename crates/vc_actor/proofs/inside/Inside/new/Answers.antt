use Rattle.std.proofs.Common.{◌≡◌, ◌<◌, ◌+◌, ◌∙◌, ◌∷◌, ◌++◌, [], true, false, rules, length, refl, sym, arith}
use borrow.Author.Count.{falls}
use Rattle.std.proofs.lemmas.List.{append-nil}
use Rattle.std.proofs.lemmas.List.Elements.{All-same}
use Rattle.vc_accepted.specs.Begin.{is_inside}
use Rattle.vc_actor.specs.Private.Inside.{opened_inside, opened_internal}
use Rattle.vc_actor.proofs.Collection.{gathered_all, opened_more, before_more, before_one}
use Rattle.vc_actor.proofs.inside.Inside.new.Goals.{then-eq+in_ok-open, else-eq}
use Rattle.vc_actor.proofs.inside.Inside.new.Goals as goal

pub overflow_cast-chan : goal.overflow_cast-chan
overflow_cast-chan c =
    let few = c.requires in
    let less = c.loop-chan-test.true in
    omega arith

pub open-requires : goal.open-requires
open-requires c = c.loop-chan.invariant.before

pub loop-chan-smaller : goal.loop-chan-smaller
loop-chan-smaller c = falls (length c.args.channels.now) c.loop-chan.chan c.loop-chan-test.true

pub loop-chan-preserved : goal.loop-chan-preserved
loop-chan-preserved c =
    let cs = c.args.channels.now in
    let k = c.loop-chan.chan in
    let x = c.index-channels-chan.result in
    let xs = c.loop-chan.inside in
    elim c.if-eq.branch [
      | then-eq+in_ok-open w ↦ (let told : is_inside c.args.node x.home ≡ true = search rules in
          let grows : c.if-eq.inside ≡ xs ++ opened_internal k ∷ [] = w.inside-is ∙ w.in_ok-open.ensures.ok in record {
            before = All-same (λ y. y.chan < k + 1) c.if-eq.inside _ grows (before_one k xs c.loop-chan.invariant.before);
            opened = opened_more c.args.node k cs x true xs c.if-eq.inside _ c.loop-chan-test.true c.index-channels-chan.is told grows c.loop-chan.invariant.opened;
          })
      | else-eq w ↦ (let told : is_inside c.args.node x.home ≡ false = search rules in record {
        before = All-same (λ y. y.chan < k + 1) c.if-eq.inside xs w.inside-is (before_more k xs c.loop-chan.invariant.before);
        opened = opened_more c.args.node k cs x false xs c.if-eq.inside _ c.loop-chan-test.true c.index-channels-chan.is told (w.inside-is ∙ sym (append-nil xs)) c.loop-chan.invariant.opened;
      })
    ]

pub returns : goal.returns
returns c = gathered_all (opened_inside c.args.node) c.loop-chan.chan c.args.channels.now c.loop-chan.inside _ refl (let past = c.loop-chan-test.false in omega arith) c.loop-chan.invariant.opened
