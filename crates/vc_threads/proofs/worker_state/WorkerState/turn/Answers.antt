use Rattle.std.proofs.Common.{◌≡◌, Some, refl, sym, ◌∙◌, subst, ◌++◌, take, drop, length}
use Rattle.std.specs.List.{HoldsAt}
use Rattle.vc_threads.specs.Wires.{InLooked, Distinct}
use Rattle.vc_threads.specs.declared.run.Stop.TheVariants.{Turns, Gate, Clock, Memory}
use Rattle.vc_threads.specs.Private.Least.{TakesLeast}
use Rattle.vc_threads.specs.Private.Works.{Seen, worker_state}
use Rattle.vc_threads.specs.Works.{CanTake}
use Rattle.vc_threads.proofs.Looks.{in_looked_same}
use Rattle.vc_threads.proofs.Zips.{zip_same}
use Rattle.vc_threads.proofs.Goings.{records_none, stays_looked, stays_same, turn_looked, stop_looked, looked_in_links}
use Rattle.vc_threads.proofs.Outcomes.{if_err_map}
use Rattle.vc_threads.proofs.Backs.{same_back, zip_back}
use Rattle.vc_threads.proofs.worker_state.WorkerState.turn.Goals as goal
use Rattle.vc_actor.proofs.Turns.{if_ok}

pub returns-then-is_err-clause-stop : goal.returns-then-is_err-clause-stop
returns-then-is_err-clause-stop g c = record {
  stays = let a = c.args.self.now in
      let mid : Seen g.row.L.Denot = record (worker_state a) { log = c.make_room.new.self } in
      stays_looked g.L.ActLog.holds mid mid a.log a.ins.items (records_none g.L.ActLog.holds a.log c.make_room.new.self c.make_room.ensures.holds) (zip_same InLooked in_looked_same a.ins.items) (stays_same g.L.ActLog.holds mid);
  early = λ same. absurd (let e : Memory ≡ Turns = same in cc);
  passed = λ same. absurd (let e : Memory ≡ Gate = same in cc);
  full = λ same. absurd (let e : Memory ≡ Clock = same in cc);
}

pub returns-in-Some-clause-turn : goal.returns-in-Some-clause-turn
returns-in-Some-clause-turn g c =
    let a = c.args.self.now in
    let ins = a.ins in
    let z = zip_back InLooked ins.len ins.items c.as_mut_slice.result.now c.find_in.new.ins ins.ok.0 c.as_mut_slice.ensures.value c.find_in.ensures.looked in
    let mid : Seen g.row.L.Denot = record (worker_state a) { log = c.make_room.new.self; ins = take ins.len (c.find_in.new.ins ++ drop (length c.find_in.new.ins) ins.items) } in
    if_ok _ _ c.take_from.result (λ rested. turn_looked g.L.ActLog.holds mid (worker_state c.take_from.new.self) a.log ins.items rested (records_none g.L.ActLog.holds a.log c.make_room.new.self c.make_room.ensures.holds) z) c.take_from.ensures.turn

pub returns-in-Some-clause-stop : goal.returns-in-Some-clause-stop
returns-in-Some-clause-stop g c =
    let a = c.args.self.now in
    let ins = a.ins in
    let z = zip_back InLooked ins.len ins.items c.as_mut_slice.result.now c.find_in.new.ins ins.ok.0 c.as_mut_slice.ensures.value c.find_in.ensures.looked in
    let mid : Seen g.row.L.Denot = record (worker_state a) { log = c.make_room.new.self; ins = take ins.len (c.find_in.new.ins ++ drop (length c.find_in.new.ins) ins.items) } in
    if_err_map _ _ c.take_from.result (λ why. stop_looked g.L.ActLog.holds mid (worker_state c.take_from.new.self) a.log ins.items why (records_none g.L.ActLog.holds a.log c.make_room.new.self c.make_room.ensures.holds) z) c.take_from.ensures.stop

pub returns-in-None-clause-turn : goal.returns-in-None-clause-turn
returns-in-None-clause-turn g c =
    let a = c.args.self.now in
    let ins = a.ins in
    let z = zip_back InLooked ins.len ins.items c.as_mut_slice.result.now c.find_in.new.ins ins.ok.0 c.as_mut_slice.ensures.value c.find_in.ensures.looked in
    let mid : Seen g.row.L.Denot = record (worker_state a) { log = c.make_room.new.self; ins = take ins.len (c.find_in.new.ins ++ drop (length c.find_in.new.ins) ins.items) } in
    if_ok _ _ c.make_turn.result (λ rested. turn_looked g.L.ActLog.holds mid (worker_state c.make_turn.new.self) a.log ins.items rested (records_none g.L.ActLog.holds a.log c.make_room.new.self c.make_room.ensures.holds) z) c.make_turn.ensures.turn

pub returns-in-None-clause-stop : goal.returns-in-None-clause-stop
returns-in-None-clause-stop g c =
    let a = c.args.self.now in
    let ins = a.ins in
    let z = zip_back InLooked ins.len ins.items c.as_mut_slice.result.now c.find_in.new.ins ins.ok.0 c.as_mut_slice.ensures.value c.find_in.ensures.looked in
    let mid : Seen g.row.L.Denot = record (worker_state a) { log = c.make_room.new.self; ins = take ins.len (c.find_in.new.ins ++ drop (length c.find_in.new.ins) ins.items) } in
    if_err_map _ _ c.make_turn.result (λ why. stop_looked g.L.ActLog.holds mid (worker_state c.make_turn.new.self) a.log ins.items why (records_none g.L.ActLog.holds a.log c.make_room.new.self c.make_room.ensures.holds) z) c.make_turn.ensures.stop

pub returns-then-is_err-clause-ends : goal.returns-then-is_err-clause-ends
returns-then-is_err-clause-ends g c = (refl, refl)

pub returns-in-Some-clause-ends : goal.returns-in-Some-clause-ends
returns-in-Some-clause-ends g c =
    let ins = c.args.self.now.ins in
    let z = zip_back InLooked ins.len ins.items c.as_mut_slice.result.now c.find_in.new.ins ins.ok.0 c.as_mut_slice.ensures.value c.find_in.ensures.looked in
    (c.take_from.ensures.ends.0, c.take_from.ensures.ends.1 ∙ looked_in_links ins.items (take ins.len (c.find_in.new.ins ++ drop (length c.find_in.new.ins) ins.items)) z)

pub returns-in-None-clause-ends : goal.returns-in-None-clause-ends
returns-in-None-clause-ends g c =
    let ins = c.args.self.now.ins in
    let z = zip_back InLooked ins.len ins.items c.as_mut_slice.result.now c.find_in.new.ins ins.ok.0 c.as_mut_slice.ensures.value c.find_in.ensures.looked in
    (c.make_turn.ensures.ends.0, c.make_turn.ensures.ends.1 ∙ looked_in_links ins.items (take ins.len (c.find_in.new.ins ++ drop (length c.find_in.new.ins) ins.items)) z)

pub take_from-requires-clause-links : goal.take_from-requires-clause-links
take_from-requires-clause-links g c κs within =
    let ins = c.args.self.now.ins in
    let z = zip_back InLooked ins.len ins.items c.as_mut_slice.result.now c.find_in.new.ins ins.ok.0 c.as_mut_slice.ensures.value c.find_in.ensures.looked in
    subst Distinct (sym (looked_in_links ins.items (take ins.len (c.find_in.new.ins ++ drop (length c.find_in.new.ins) ins.items)) z)) c.requires.ins

pub take_from-requires-clause-can : goal.take_from-requires-clause-can
take_from-requires-clause-can g c κs within =
    let a = c.args.self.now in
    let ins = a.ins in
    let same = same_back InLooked ins.len ins.items c.as_mut_slice.result.now c.find_in.new.ins ins.ok.0 c.as_mut_slice.ensures.value c.find_in.ensures.looked in
    subst (λ w. HoldsAt (CanTake a.actor) w c.in-Some.k) (sym same) c.in-Some.ensures.can.1

pub take_from-requires-clause-least : goal.take_from-requires-clause-least
take_from-requires-clause-least g c κs within =
    let a = c.args.self.now in
    let ins = a.ins in
    let same = same_back InLooked ins.len ins.items c.as_mut_slice.result.now c.find_in.new.ins ins.ok.0 c.as_mut_slice.ensures.value c.find_in.ensures.looked in
    subst (λ w. TakesLeast a.actor w (Some c.in-Some.k)) (sym same) c.in-Some.ensures.least
