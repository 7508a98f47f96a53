use Rattle.vc_stats.specs.Sections.{actor_text}
use Rattle.vc_stats.proofs.Pieces.{next_of}
use Rattle.vc_stats.proofs.sections.push_actors.Goals as goal

pub loop-actor-preserved : goal.loop-actor-preserved
loop-actor-preserved c = λ es counts.
    next_of (actor_text c.args.form c.args.plan.now es) _ _ _ c.loop-actor.actor (c.loop-actor.invariant es counts) (c.in_ok-push_actor.ensures es counts)
