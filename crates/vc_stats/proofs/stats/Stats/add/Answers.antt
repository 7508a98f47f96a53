use Rattle.std.proofs.Common.{arith}
use Rattle.vc_stats.proofs.AddedCounts.{counts_added}
use Rattle.vc_stats.specs.declared.stats.Stats.{Stats}
use Rattle.vc_stats.proofs.stats.Stats.add.Goals as goal

pub returns : goal.returns
returns c = λ es fs one two.
    let a = c.args.self.now in
    let b = c.args.other.now in
    let both : Stats = record {
      events = c.in-Some.events;
      all = c.add_all.new.self;
      kinds = c.add_all-2.new.self;
      puts = c.add_all-3.new.self;
      fcts = c.add_all-4.new.self;
      routes = c.add_all-5.new.self;
      offers = c.add_all-6.new.self;
      wants = c.add_all-7.new.self;
    } in
    let small = c.in-Some.ensures.0 in
    let total = c.in-Some.ensures.1 in
    counts_added a b both total (omega (arith, small, total)) es fs one two c.in_ok-add_all.ensures c.in_ok-add_all-2.ensures c.in_ok-add_all-3.ensures c.in_ok-add_all-4.ensures c.in_ok-add_all-5.ensures c.in_ok-add_all-6.ensures c.in_ok-add_all-7.ensures
