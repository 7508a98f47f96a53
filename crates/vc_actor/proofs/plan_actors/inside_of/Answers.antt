use Rattle.std.proofs.Common.{◌≡◌, ◌∙◌, true, false, rules, length, refl, sym, ap, arith}
use borrow.Author.Count.{falls}
use Rattle.std.proofs.lemmas.List.{append-nil}
use Rattle.vc_accepted.specs.Begin.{is_inside, numbers_inside}
use Rattle.vc_actor.proofs.Collection.{gathered_all, number_more}
use Rattle.vc_actor.proofs.plan_actors.inside_of.Goals.{then-eq+in_ok-push, else-eq}
use Rattle.vc_actor.proofs.plan_actors.inside_of.Goals as goal

pub loop-chan-init : goal.loop-chan-init
loop-chan-init c = rw c.new-inside.ensures.items

pub overflow_cast-chan : goal.overflow_cast-chan
overflow_cast-chan c =
    let few = c.requires in
    let less = c.loop-chan-test.true in
    omega arith

pub loop-chan-smaller : goal.loop-chan-smaller
loop-chan-smaller c = falls (length c.args.channels.now) c.loop-chan.chan c.loop-chan-test.true

pub loop-chan-preserved : goal.loop-chan-preserved
loop-chan-preserved c =
    let cs = c.args.channels.now in
    let k = c.loop-chan.chan in
    let x = c.index-channels-chan.result in
    let xs = c.loop-chan.inside.items in
    elim c.if-eq.branch [
      | then-eq+in_ok-push w ↦ (let told : is_inside c.args.number x.home ≡ true = search rules in
          number_more c.args.number k cs x true xs c.if-eq.inside.items _ c.loop-chan-test.true c.index-channels-chan.is told (ap (λ v. v.items) w.inside-is ∙ w.in_ok-push.ensures.items) c.loop-chan.invariant)
      | else-eq w ↦ (let told : is_inside c.args.number x.home ≡ false = search rules in
          number_more c.args.number k cs x false xs c.if-eq.inside.items _ c.loop-chan-test.true c.index-channels-chan.is told (ap (λ v. v.items) w.inside-is ∙ sym (append-nil xs)) c.loop-chan.invariant)
    ]

pub returns : goal.returns
returns c = gathered_all (numbers_inside c.args.number) c.loop-chan.chan c.args.channels.now c.loop-chan.inside.items _ refl (let past = c.loop-chan-test.false in omega arith) c.loop-chan.invariant
