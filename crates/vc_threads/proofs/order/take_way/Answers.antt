use Rattle.std.proofs.Common.{◌≡◌, ◌<◌, length, sym, subst}
use Rattle.vc_accepted.specs.ActorWays.{actor_of}
use Rattle.vc_threads.specs.Private.Order.{outs_at, AtLinks, IsLeft, IsPort, LeftAt, Meet, TakenBy}
use Rattle.vc_threads.specs.Wires.{OutLooked}
use Rattle.vc_threads.proofs.RingViews.{actor_there, ends_there, one_changed, taken_none, taken_more}
use Rattle.vc_threads.proofs.Looks.{looked_same}
use Rattle.vc_threads.proofs.Zips.{zip_weaker}
use Rattle.vc_threads.proofs.order.take_way.Goals as goal
use Rattle.vc_actor.proofs.Turns.{if_ok}

pub take_between-requires : goal.take_between-requires
take_between-requires c =
    let e = c.args.ends.now in
    let s = actor_of c.args.nodes c.args.from.spot in
    let t = actor_of c.args.nodes c.args.to.spot in
    let v = c.index_mut.result.now in
    let w = c.index_mut-2.result.now in
    let a = ends_there (λ v. v.items) e.outs.items c.actor_of-source.result s c.args.from.link v c.actor_of-source.ensures.number c.index_mut.ensures.value c.requires.ring.out in
    let b = ends_there (λ v. v.items) e.ins.items c.actor_of-sink.result t c.args.to.link w c.actor_of-sink.ensures.number c.index_mut-2.ensures.value c.requires.ring.into in
    subst (λ xs. Meet xs w.items c.args.from.link c.args.to.link) a (subst (λ ys. Meet (outs_at e s) ys c.args.from.link c.args.to.link) b c.requires.ring)

pub returns : goal.returns
returns c =
    let e = c.args.ends.now in
    let nodes = c.args.nodes in
    let to = c.args.to in
    let s = actor_of nodes c.args.from.spot in
    let t = actor_of nodes to.spot in
    let source = c.actor_of-source.result in
    let sink = c.actor_of-sink.result in
    let v = c.index_mut.result.now in
    let w = c.index_mut-2.result.now in
    let l = subst (λ k. k < length e.outs.items) (sym c.actor_of-source.ensures.number) (actor_there (λ v. v.items) e.outs.items s c.args.from.link c.requires.ring.out) in
    let m = subst (λ k. k < length e.ins.items) (sym c.actor_of-sink.ensures.number) (actor_there (λ v. v.items) e.ins.items t to.link c.requires.ring.into) in
    let a = ends_there (λ v. v.items) e.outs.items source s c.args.from.link v c.actor_of-source.ensures.number c.index_mut.ensures.value c.requires.ring.out in
    let b = ends_there (λ v. v.items) e.ins.items sink t to.link w c.actor_of-sink.ensures.number c.index_mut-2.ensures.value c.requires.ring.into in
    let here = c.actor_of-sink.ensures.number in
    record {
      taken = record {
        outs = one_changed (λ v. v.items) (λ k. OutLooked) (λ k. looked_same) e.outs.items source c.take_between.new.outs v l c.index_mut.ensures.value c.take_between.ensures.outs;
        ins = one_changed (λ v. v.items) (λ k. TakenBy (IsPort nodes to k)) (λ k. taken_none (IsPort nodes to k)) e.ins.items sink c.take_between.new.ins w m c.index_mut-2.ensures.value
            (zip_weaker (TakenBy (λ link. link ≡ to.link)) (TakenBy (IsPort nodes to sink)) (taken_more (λ link. link ≡ to.link) (IsPort nodes to sink) (λ link at. (here, at))) w.items c.take_between.new.ins.items c.take_between.ensures.ins);
      };
      left = if_ok (λ tokens. AtLinks (IsLeft tokens.items) v.items w.items c.args.from.link to.link) (λ tokens. LeftAt nodes e tokens.items c.args.from to) c.take_between.result
          (λ tokens left. subst (λ ys. AtLinks (IsLeft tokens.items) (outs_at e s) ys c.args.from.link to.link) (sym b) (subst (λ xs. AtLinks (IsLeft tokens.items) xs w.items c.args.from.link to.link) (sym a) left))
          c.take_between.ensures.left;
    }
