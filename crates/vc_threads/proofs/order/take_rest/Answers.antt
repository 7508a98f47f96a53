use Rattle.std.proofs.Common.{◌≡◌, ◌++◌, map, refl, ap, sym, ◌∙◌}
use Rattle.rtrb.specs.Ring.{known_items}
use Rattle.vc_threads.specs.Private.Order.{IsLeft}
use Rattle.vc_threads.specs.Stamps.{item_of}
use Rattle.vc_threads.proofs.Looks.{consumer_then}
use Rattle.vc_threads.proofs.order.take_rest.Goals as goal
use Rattle.vc_actor.proofs.Turns.{if_ok}

pub returns : goal.returns
returns c =
    let looked = c.slots_beside.ensures.looked in
    let producer = c.slots_beside.ensures.producer in
    let rest = known_items c.slots_beside.new.self in
    record {
      out = (refl, producer);
      into = (refl, consumer_then c.args.into.now.1 c.slots_beside.new.self c.take_known.new.consumer looked.0 c.take_known.ensures.ring);
      left = if_ok (λ tokens. tokens.items ≡ map item_of rest) (λ tokens. IsLeft tokens.items c.args.out.now c.args.into.now) c.take_known.result
          (λ tokens are. record { rest = rest; order = ap (λ xs. xs ++ rest) (sym looked.1) ∙ (c.slots_beside.ensures.fifo ∙ producer.1); seen = looked.2; tokens_are = are })
          c.take_known.ensures.tokens;
    }
