use Rattle.std.specs.Result.{is_ok}
use Rattle.vc_threads.proofs.JobEnds.{ins_more}
use Rattle.vc_threads.proofs.jobs.add_in.Goals as goal

pub returns-clause-fit : goal.returns-clause-fit
returns-clause-fit c =
    let fit = c.requires.fit in
    record {
      actor = fit.actor;
      outs = fit.outs;
      ins = ins_more c.args.job.now.ends.ins.items c.push.new.self.items (c.args.link, c.args.consumer) (is_ok c.push.result) fit.ins c.requires.fresh c.push.ensures.items;
      low = fit.low;
    }
