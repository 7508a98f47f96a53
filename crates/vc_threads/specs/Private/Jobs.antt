-- What the workers are given, and what they give back.
use Rattle.std.specs.Prelude.{◌<◌}
use Rattle.std.specs.List.{All}
use Rattle.vc_actor.specs.ActorView.{Acting}
use Rattle.vc_threads.specs.Wires.{Distinct, out_links, in_links}
use Rattle.vc_threads.specs.Private.Works.{IsOfSomePlan}
use Rattle.vc_threads.specs.declared.spawn.Job.{Job}
use Rattle.vc_threads.specs.declared.link.Ends.{Ends}

-- a worker can run the actor over the ends: it is one of some plan, no link stands twice, and each that goes out is below 32
pub record IsFitFor (x : Acting) (e : Ends) : Type 0 where
  pub actor : IsOfSomePlan x
  pub outs : Distinct (out_links e.outs.items)
  pub ins : Distinct (in_links e.ins.items)
  pub low : All (λ o. o.0 < 32) e.outs.items

abbrev pub IsFit : Job → Type 0
IsFit j = IsFitFor j.actor j.ends
