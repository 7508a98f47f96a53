use Rattle.std.proofs.Common.{◌≡◌, List, ℕ, Option, Some, None, Result, Ok, Err, Vec, Global, inl, inr, refl, sym, subst, ◌∙◌, ap}
use Rattle.std.specs.Prelude.{option_map, IfNone, IfSome}
use Rattle.vc_explore.specs.Explored.{IsVerdict}
use Rattle.vc_explore.specs.declared.explored.Explored.{Explored}
use Rattle.vc_explore.specs.declared.explored.Verdict.{Verdict}
use Rattle.vc_explore.specs.declared.explored.Verdict.TheVariants.{NeverStuck, Stuck, NotStuckWithin}
use Rattle.vc_explore_text.specs.declared.finding.Finding.TheVariants.{Free, MayStop, Open}
use Rattle.vc_free.proofs.NeverStuck.{free_placements_never_stop}
use Rattle.vc_free.specs.NeverStuck.{NeverStops}
use Rattle.vc_meaning.proofs.Endings.{ends_anywhere}
use Rattle.vc_plan.specs.Accepted.{IsAccepted}
use Rattle.vc_plan.specs.declared.plan.Plan.{Plan as Network}
use Rattle.vc_plan.specs.declared.port.Port.{Port}
use Rattle.vc_plan.specs.Dependencies.{HasRanks, IsLeastCycle}
use Rattle.vc_text.specs.CheckText.{ReadsAccepted}
use Rattle.vc_text.specs.Deadlock.{IsFound}
use Rattle.vc_text.specs.declared.fault.RunFault.{RunFault}
use Rattle.vc_text.specs.declared.fault.RunFault.TheVariants.{Write, Memory}
use Rattle.vc_text.specs.Streams.{Writes}
use Rattle.vc_text.proofs.CheckText.{memory_any}
use Rattle.vc_explore_text.specs.Exploration.{IsExploration, TellsExplored, finding_of, text_in}
use Rattle.vc_stats.specs.declared.form.Form.{Form}
use Rattle.vc_explore_text.proofs.run.run_explore.Goals as goal

-- what is found of the wires is so
wires_found : (plan : Network) (found : Option (Vec Port Global)) → IfNone found (HasRanks plan) → IfSome found (λ ports. IsLeastCycle plan ports.items) → IsFound plan (option_map (λ ports. ports.items) found)
wires_found plan None free cycle = free
wires_found plan (Some ports) free cycle = cycle

-- a network that was read is accepted
accepted_of : (known : Option (List ℕ)) (plan : Network) → ReadsAccepted known (Ok plan) → IsAccepted plan
accepted_of None plan read = read
accepted_of (Some text) plan (few, inl read) = read.1
accepted_of (Some text) plan (few, inr read) = read.1.3

-- a program that is never stuck, on wires without a cycle, never stops
never_stops : (plan : Network) (verdict : Verdict) (cycle : Option (List Port)) → IsAccepted plan → IsVerdict plan verdict → IsFound plan cycle → finding_of verdict cycle ≡ Free → NeverStops plan
never_stops plan (Stuck schedule parts) cycle acc is wires free = absurd (let e : MayStop ≡ Free = free in cc)
never_stops plan (NeverStuck ends) (Some ports) acc is wires free = absurd (let e : MayStop ≡ Free = free in cc)
never_stops plan (NotStuckWithin n) (Some ports) acc is wires free = absurd (let e : MayStop ≡ Free = free in cc)
never_stops plan (NotStuckWithin n) None acc is wires free = absurd (let e : Open ≡ Free = free in cc)
never_stops plan (NeverStuck ends) None acc is wires free =
    free_placements_never_stop plan plan acc is.0 (record { program = record { process = λ n few. refl; kinds = λ n few. refl }; nodes = refl; channels = refl }) acc wires

found_so : (known : Option (List ℕ)) (plan : Network) (explored : Explored) (cycle : Option (List Port)) → ReadsAccepted known (Ok plan) → IsVerdict plan explored.verdict → IsFound plan cycle → IsExploration plan explored cycle
found_so known plan explored cycle read verdict wires = record {
  verdict = verdict;
  wires = wires;
  never_stops = never_stops plan explored.verdict cycle (accepted_of known plan read) verdict wires;
  always_ends = λ is free. (let v = subst (IsVerdict plan) is verdict in ends_anywhere plan v.1.0 (accepted_of known plan read) (subst (IsFound plan) free wires) v.1.1);
}

-- what was written of a plan and ports that are these
written : (form : Form) (old new : Option (List ℕ)) (plan p : Network) (explored : Explored) (ports cycle : Option (List Port)) (r q : Result (Unit {0}) RunFault) → plan ≡ p → ports ≡ cycle → r ≡ q →
    Writes old new (text_in form plan explored ports) r → Writes old new (text_in form p explored cycle) q
written form old new plan p explored ports cycle r q e f h w =
    subst (Writes old new (text_in form p explored cycle)) h
    (subst (λ xs. Writes old new (text_in form p explored xs) r) f (subst (λ n. Writes old new (text_in form n explored ports) r) e w))

-- the lines could not be written, or there was no memory for them
untold : (form : Form) (known old new : Option (List ℕ)) (plan : Network) (explored : Explored) (cycle : Option (List Port)) (fault : RunFault) → ReadsAccepted known (Ok plan) → IsExploration plan explored cycle →
    Writes old new (text_in form plan explored cycle) (Err fault) → TellsExplored form known old new (Err fault)
untold form known old new plan explored cycle Write read is w = (plan, explored, cycle, read, is, w)
untold form known old new plan explored cycle Memory read is w = (memory_any known, w)
untold form known old new plan explored cycle x read is w = absurd w

pub returns-in-Ok : goal.returns-in-Ok
returns-in-Ok g c =
    let p = c.in_ok-accepted.accepted in
    let e = c.in_ok-explored.explored in
    let cycle : Option (List Port) = option_map (λ (v : Vec Port Global). v.items) c.in_ok-found.found in
    let old = g.W.Write.contents c.args.writer.now in
    let new = g.W.Write.contents c.write_explored.new.writer in (
      p,
      e,
      cycle,
      c.in_ok-accepted.ensures,
      found_so (g.R.Read.remaining c.args.reader.now) p e cycle c.in_ok-accepted.ensures c.in_ok-explored.ensures (wires_found p c.in_ok-found.found c.in_ok-found.ensures.free c.in_ok-found.ensures.cycle),
      c.finding_of.ensures ∙ ap (finding_of e.verdict) c.ports_of-cycle.ensures,
      written c.args.form old new c.plan.result.now p e _ cycle c.write_explored.result (Ok c.in-Ok.field-0) c.plan.ensures.plan c.ports_of-cycle.ensures c.in-Ok.is c.write_explored.ensures,
    )

pub returns : goal.returns
returns g c =
    let p = c.in_ok-accepted.accepted in
    let e = c.in_ok-explored.explored in
    let cycle : Option (List Port) = option_map (λ (v : Vec Port Global). v.items) c.in_ok-found.found in
    let old = g.W.Write.contents c.args.writer.now in
    let new = g.W.Write.contents c.write_explored.new.writer in
    untold c.args.form (g.R.Read.remaining c.args.reader.now) old new p e cycle c.in-Err.fault c.in_ok-accepted.ensures
    (found_so (g.R.Read.remaining c.args.reader.now) p e cycle c.in_ok-accepted.ensures c.in_ok-explored.ensures (wires_found p c.in_ok-found.found c.in_ok-found.ensures.free c.in_ok-found.ensures.cycle))
    (written c.args.form old new c.plan.result.now p e _ cycle c.write_explored.result (Err c.in-Err.fault) c.plan.ensures.plan c.ports_of-cycle.ensures c.in-Err.is c.write_explored.ensures)
