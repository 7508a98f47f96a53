use Rattle.std.proofs.Common.{◌≡◌, List, ℕ, Option, Some, Result, Ok, Err, refl, subst}
use Rattle.vc_plan.specs.declared.plan.Plan.{Plan as Network}
use Rattle.vc_plan.specs.declared.port.Port.{Port}
use Rattle.vc_text.specs.CheckText.{ReadsAccepted}
use Rattle.vc_text.specs.Deadlock.{IsFound, TellsDeadlock, deadlock_text}
use Rattle.vc_text.specs.declared.fault.RunFault.{RunFault}
use Rattle.vc_text.specs.declared.fault.RunFault.TheVariants.{Write, Memory}
use Rattle.vc_text.specs.Streams.{Writes}
use Rattle.vc_text.proofs.CheckText.{memory_any}
use Rattle.vc_text.proofs.deadlock.run_deadlock.Goals as goal

-- the line could not be written, or there was no memory for it
untold : (known old new : Option (List ℕ)) (plan : Network) (found : Option (List Port)) (fault : RunFault) → ReadsAccepted known (Ok plan) → IsFound plan found →
    Writes old new (deadlock_text plan found) (Err fault) → TellsDeadlock known old new (Err fault)
untold known old new plan found Write read is w = (plan, found, read, is, w)
untold known old new plan found Memory read is w = (memory_any known, w)
untold known old new plan found x read is w = absurd w

-- what was written of a plan and ports that are these
written : (old new : Option (List ℕ)) (plan p : Network) (ports items : List Port) (r q : Result (Unit {0}) RunFault) → plan ≡ p → ports ≡ items → r ≡ q →
    Writes old new (deadlock_text plan (Some ports)) r → Writes old new (deadlock_text p (Some items)) q
written old new plan p ports items r q e f h w =
    subst (Writes old new (deadlock_text p (Some items))) h
    (subst (λ xs. Writes old new (deadlock_text p (Some xs)) r) f (subst (λ n. Writes old new (deadlock_text n (Some ports)) r) e w))

pub returns-in-Ok-write_cycle : goal.returns-in-Ok-write_cycle
returns-in-Ok-write_cycle g c =
    let p = c.in_ok-accepted.accepted in
    let found = Some c.in-Some.ports.items in
    let old = g.W.Write.contents c.args.writer.now in
    let new = g.W.Write.contents c.write_cycle.new.writer in (
      p,
      found,
      c.in_ok-accepted.ensures,
      rw c.in-Some.is at c.in_ok-find_cycle.ensures.cycle,
      refl,
      written old new c.plan.result.now p c.as_slice.result.now c.in-Some.ports.items c.write_cycle.result (Ok c.in-Ok-write_cycle.field-0) c.plan.ensures.plan c.as_slice.ensures.value
          c.in-Ok-write_cycle.is c.write_cycle.ensures,
    )

pub returns : goal.returns
returns g c =
    let p = c.in_ok-accepted.accepted in
    let found = Some c.in-Some.ports.items in
    let old = g.W.Write.contents c.args.writer.now in
    let new = g.W.Write.contents c.write_cycle.new.writer in
    untold (g.R.Read.remaining c.args.reader.now) old new p found c.in-Err-write_cycle.fault c.in_ok-accepted.ensures (rw c.in-Some.is at c.in_ok-find_cycle.ensures.cycle)
    (written old new c.plan.result.now p c.as_slice.result.now c.in-Some.ports.items c.write_cycle.result (Err c.in-Err-write_cycle.fault) c.plan.ensures.plan c.as_slice.ensures.value
    c.in-Err-write_cycle.is c.write_cycle.ensures)
