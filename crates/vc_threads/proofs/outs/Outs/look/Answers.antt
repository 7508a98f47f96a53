use Rattle.std.proofs.Common.{sym, subst}
use Rattle.std.specs.List.{AllZip}
use Rattle.vc_threads.specs.Wires.{OutLooked}
use Rattle.vc_threads.specs.Private.Rooms.{HaveRoom}
use Rattle.vc_threads.specs.declared.outs.Outs.{Outs}
use Rattle.vc_threads.proofs.Zips.{zip_same}
use Rattle.vc_threads.proofs.Looks.{looked_same}
use Rattle.vc_threads.proofs.Backs.{same_back, zip_back}
use Rattle.vc_threads.proofs.outs.Outs.look.Goals as goal
use Rattle.vc_threads.proofs.outs.Outs.look.Goals.{then-self, else-self}

pub invariant_of-self : goal.invariant_of-self
invariant_of-self c =
    let ends = c.args.self.now.ends in
    let new = c.room_of-self.new.outs in
    let e = same_back OutLooked ends.len ends.items c.as_mut_slice.result.now new ends.ok.0 c.as_mut_slice.ensures.value c.room_of-self.ensures.looked in
    record { known = subst (HaveRoom c.room_of-self.result) (sym e) c.room_of-self.ensures.room }

pub returns-clause-looked : goal.returns-clause-looked
returns-clause-looked c =
    let ends = c.args.self.now.ends in
    elim c.if-self.branch [
      | then-self w ↦
          subst (λ (s : Outs). AllZip OutLooked ends.items s.ends.items) (sym w.self-is)
          (zip_back OutLooked ends.len ends.items w.as_mut_slice.result.now w.room_of-self.new.outs ends.ok.0 w.as_mut_slice.ensures.value w.room_of-self.ensures.looked)
      | else-self w ↦ subst (λ (s : Outs). AllZip OutLooked ends.items s.ends.items) (sym w.self-is) (zip_same OutLooked looked_same ends.items)
    ]
