use Rattle.std.proofs.Common.{◌∙◌, ap}
use Rattle.vc_plan.specs.Names.{actor_name}
use Rattle.vc_trace.specs.Private.Names.{number_at}
use Rattle.vc_trace.proofs.NameWords.{word_actor}
use Rattle.vc_trace.proofs.fields.actor_in.Goals as goal

pub returns : goal.returns
returns c = λ p named k words is whole.
    let word = word_actor p k named.named in (
      c.actor.ensures ∙ ap (number_at c.args.names.now.actors) (c.next.ensures.word (actor_name p k) words word whole) ∙ named.actors k is,
      c.next.ensures.rest (actor_name p k) words word whole,
    )
