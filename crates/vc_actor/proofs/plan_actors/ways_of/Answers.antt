use Rattle.std.proofs.Common.{◌≡◌, ◌≤◌, length, take, sym, subst, ap, ◌∙◌, add-one, arith}
use borrow.Author.Count.{falls}
use Rattle.std.proofs.Math.ListN.{replicate}
use Rattle.std.proofs.lemmas.List.{length-replicate, take_all}
use Rattle.vc_accepted.specs.NodeEnds.{first_on}
use Rattle.vc_actor.specs.Private.Begin.{empty_ways, on_link}
use Rattle.vc_actor.proofs.ChannelWays.{few_channels, none_carried, next_long, next_tells}
use Rattle.vc_actor.proofs.Collection.{stands_at}
use Rattle.vc_actor.proofs.plan_actors.ways_of.Goals as goal

pub loop-chan-init : goal.loop-chan-init
loop-chan-init c =
    let none : c.in_ok-ways.ways.items ≡ replicate c.len.result empty_ways = c.in_ok-ways.ensures.items_if_clones_equal (λ y same. same) in
    record {
      long = ap length none ∙ length-replicate c.len.result empty_ways ∙ c.len.ensures;
      tells = λ v f. ap (λ ws. on_link ws v f) none ∙ none_carried c.len.result v f;
    }

pub overflow_cast-chan : goal.overflow_cast-chan
overflow_cast-chan c =
    let few = few_channels c.args.plan.now c.requires in
    let same = ap length c.as_slice-channel-items.ensures in
    let less = c.loop-chan-test.true in
    omega arith

pub loop-chan-preserved : goal.loop-chan-preserved
loop-chan-preserved c =
    let p = c.args.plan.now in
    let k = c.loop-chan.chan in
    let x = c.channel-item.result in
    let there = stands_at c.as_slice-channel-items.result.now p.channels k x c.as_slice-channel-items.ensures c.loop-chan-test.true c.channel-item.is in
    record {
      long = next_long p c.loop-chan.ways.items c.carry.new.ways.items k x c.carry.ensures c.loop-chan.invariant.long;
      tells = λ v f. next_tells p c.requires c.loop-chan.ways.items c.carry.new.ways.items k x there c.carry.ensures c.loop-chan.invariant.long c.loop-chan.invariant.tells v f
          ∙ ap (λ n. first_on 0 (take n p.channels) v f) (sym (add-one k));
    }

pub loop-chan-smaller : goal.loop-chan-smaller
loop-chan-smaller c = falls (length c.as_slice-channel-items.result.now) c.loop-chan.chan c.loop-chan-test.true

pub returns : goal.returns
returns c =
    let p = c.args.plan.now in
    let k = c.loop-chan.chan in
    let all : length p.channels ≤ k = subst (λ cs. length cs ≤ k) c.as_slice-channel-items.ensures c.loop-chan-test.false in
    record { tells = λ v f. c.loop-chan.invariant.tells v f ∙ ap (λ cs. first_on 0 cs v f) (take_all k p.channels all) }
