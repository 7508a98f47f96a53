use Rattle.std.specs.Result.{is_ok}
use Rattle.vc_threads.specs.Works.{Out}
use Rattle.vc_threads.proofs.JobEnds.{outs_more, low_more}
use Rattle.vc_threads.proofs.jobs.add_out.Goals as goal

pub returns-clause-fit : goal.returns-clause-fit
returns-clause-fit c =
    let fit = c.requires.fit in
    let os = c.args.job.now.ends.outs.items in
    let x : Out = (c.args.link, c.args.producer) in
    let b = is_ok c.push.result in
    record {
      actor = fit.actor;
      outs = outs_more os c.push.new.self.items x b fit.outs c.requires.fresh c.push.ensures.items;
      ins = fit.ins;
      low = low_more os c.push.new.self.items x b fit.low c.requires.low c.push.ensures.items;
    }
