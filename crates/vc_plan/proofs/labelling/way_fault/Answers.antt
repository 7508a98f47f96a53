use Rattle.std.proofs.Common.{refl, sym}
use Rattle.vc_plan.proofs.labelling.way_fault.Goals as goal

pub returns-in-Some-2-clause-fault : goal.returns-in-Some-2-clause-fault
returns-in-Some-2-clause-fault c =
    let path = rw (c.in-Some-2.is, c.as_slice-in-Some.ensures) at c.in_ok-find_fault-in-Some.ensures.path in
    let least = rw (c.in-Some-2.is, c.as_slice-in-Some.ensures) at c.in_ok-find_fault-in-Some.ensures.least in
    record {
      start = refl;
      least = record {
        port = c.in-Some.port;
        across_is = sym (rw (c.as_slice.ensures, c.plan.ensures) at c.in-Some.ensures);
        path = path;
        least = least;
      };
    }
