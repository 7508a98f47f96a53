use Rattle.std.proofs.Common.{◌∙◌, ap}
use Rattle.vc_plan.specs.Names.{channel_name}
use Rattle.vc_trace.specs.Private.Names.{number_at}
use Rattle.vc_trace.proofs.NameWords.{word_channel}
use Rattle.vc_trace.proofs.fields.channel_in.Goals as goal

pub returns : goal.returns
returns c = λ p named k words is whole.
    let word = word_channel p k named.named in (
      c.channel.ensures ∙ ap (number_at c.args.names.now.channels) (c.next.ensures.word (channel_name p k) words word whole) ∙ named.channels k is,
      c.next.ensures.rest (channel_name p k) words word whole,
    )
