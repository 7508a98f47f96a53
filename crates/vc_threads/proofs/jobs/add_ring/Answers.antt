use Rattle.std.proofs.Common.{◌≡◌, ◌≢◌, ◌<◌, [], length, map, get_or, refl, sym, subst, arith, ap, ◌∙◌, length-set}
use Rattle.std.specs.List.{All}
use Rattle.std.proofs.Math.ListN.{set}
use Rattle.std.proofs.Math.Seq.{map-set_same}
use Rattle.std.proofs.lemmas.List.Elements.{All-set}
use Rattle.vc_threads.specs.Private.Jobs.{IsFit}
use Rattle.vc_threads.specs.Private.Rings.{outs_of, ins_of, outs_in, ins_in}
use Rattle.vc_threads.specs.Private.Threads.{who}
use Rattle.vc_threads.specs.Works.{Out, In}
use Rattle.vc_threads.proofs.RingViews.{item_at}
use Rattle.vc_threads.proofs.Rings.{makes_ring}
use Rattle.vc_threads.proofs.jobs.add_ring.Goals as goal

pub add_out-requires-clause-fit : goal.add_out-requires-clause-fit
add_out-requires-clause-fit c =
    let same = c.actor_of-source.ensures.number in
    let less = c.requires.free.source in
    let l : c.actor_of-source.result < length c.args.jobs.now.items = omega (arith, same, less) in
    subst IsFit (sym c.index_mut.ensures.value) (c.requires.fit c.actor_of-source.result c.index_mut.result.now l)

pub add_out-requires-clause-fresh : goal.add_out-requires-clause-fresh
add_out-requires-clause-fresh c =
    let js = c.args.jobs.now.items in
    let same = c.actor_of-source.ensures.number in
    let less = c.requires.free.source in
    let l : c.actor_of-source.result < length js = omega (arith, same, less) in
    subst (All (λ (o : Out). o.0 ≢ c.args.from.link)) (ap (outs_of js) (sym same) ∙ item_at outs_in js c.actor_of-source.result c.index_mut.result.now l c.index_mut.ensures.value) c.requires.free.out

pub add_in-requires-clause-fit : goal.add_in-requires-clause-fit
add_in-requires-clause-fit c =
    let js = c.args.jobs.now.items in
    let same = c.actor_of-sink.ensures.number in
    let less = c.requires.free.sink in
    let l : c.actor_of-sink.result < length js = omega (arith, same, less) in
    subst IsFit (sym c.index_mut-2.ensures.value)
    (All-set IsFit js c.actor_of-source.result c.add_out.new.job c.in_ok-add_out.ensures.fit c.requires.fit c.actor_of-sink.result c.index_mut-2.result.now (omega (arith, l, length-set js c.actor_of-source.result c.add_out.new.job)))

pub add_in-requires-clause-fresh : goal.add_in-requires-clause-fresh
add_in-requires-clause-fresh c =
    let js = c.args.jobs.now.items in
    let s = c.actor_of-source.result in
    let t = c.actor_of-sink.result in
    let job = c.add_out.new.job in
    let same = c.actor_of-sink.ensures.number in
    let less = c.requires.free.sink in
    let l : t < length (set js s job) = omega (arith, same, less, length-set js s job) in
    let ins : map ins_in (set js s job) ≡ map ins_in js = map-set_same ins_in js s job c.index_mut.result.now (c.in_ok-add_out.ensures.ins ∙ ap ins_in c.index_mut.ensures.value) in
    subst (All (λ (i : In). i.0 ≢ c.args.to.link))
    (ap (ins_of js) (sym same) ∙ (ap (λ xs. get_or xs t []) (sym ins) ∙ item_at ins_in (set js s job) t c.index_mut-2.result.now l c.index_mut-2.ensures.value)) c.requires.free.into

pub returns-clause-fit : goal.returns-clause-fit
returns-clause-fit c =
    let js = c.args.jobs.now.items in
    All-set IsFit (set js c.actor_of-source.result c.add_out.new.job) c.actor_of-sink.result c.add_in.new.job c.in_ok-add_in.ensures.fit
    (All-set IsFit js c.actor_of-source.result c.add_out.new.job c.in_ok-add_out.ensures.fit c.requires.fit)

pub returns-clause-same : goal.returns-clause-same
returns-clause-same c =
    let js = c.args.jobs.now.items in
    map-set_same who (set js c.actor_of-source.result c.add_out.new.job) c.actor_of-sink.result c.add_in.new.job c.index_mut-2.result.now (c.in_ok-add_in.ensures.same ∙ ap who c.index_mut-2.ensures.value)
    ∙ map-set_same who js c.actor_of-source.result c.add_out.new.job c.index_mut.result.now (c.in_ok-add_out.ensures.same ∙ ap who c.index_mut.ensures.value)

pub returns-clause-ring : goal.returns-clause-ring
returns-clause-ring c =
    let js = c.args.jobs.now.items in
    let source = c.actor_of-source.ensures.number in
    let sink = c.actor_of-sink.ensures.number in
    let first = c.requires.free.source in
    let second = c.requires.free.sink in
    let l : c.actor_of-source.result < length js = omega (arith, source, first) in
    let m : c.actor_of-sink.result < length js = omega (arith, sink, second) in
    let out : Out = (c.args.from.link, c.in-Ok.producer) in
    let into : In = (c.args.to.link, c.in-Ok.consumer) in
    let made = c.in-Ok.ensures in
    makes_ring c.args.nodes js c.args.from c.args.to c.actor_of-source.result c.actor_of-sink.result c.add_out.new.job c.index_mut.result.now c.add_in.new.job c.index_mut-2.result.now out into
    c.actor_of-source.ensures.number c.actor_of-sink.ensures.number l m c.index_mut.ensures.value c.index_mut-2.ensures.value
    c.in_ok-add_out.ensures.outs c.in_ok-add_out.ensures.ins c.in_ok-add_in.ensures.ins c.in_ok-add_in.ensures.outs
    (record { pair = made.pair; unsent = made.producer.0; unreceived = made.consumer.0; near = refl; far = refl })
