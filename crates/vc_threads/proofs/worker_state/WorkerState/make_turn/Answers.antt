use Rattle.std.proofs.Common.{◌≡◌, ℕ, inl, refl, sym, subst, ◌∙◌, ◌∷◌, []}
use Rattle.vc_network.specs.Actors.Label.{Own, Puts}
use Rattle.vc_network.specs.LocalRun.{Turn}
use Rattle.vc_actor.specs.Turns.{PutsWithRoom, MakesTurn}
use Rattle.vc_actor.specs.declared.act.Act.{Act}
use Rattle.vc_tokens.specs.declared.token.Token.{Token}
use Rattle.vc_threads.specs.declared.link.Stamped.{Stamped}
use Rattle.vc_threads.specs.declared.run.Stop.TheVariants.{Turns, Gate, Clock, Memory}
use Rattle.vc_threads.specs.Stamps.{stamped}
use Rattle.vc_threads.specs.Wires.{InLooked, Distinct, IsAmong}
use Rattle.vc_threads.specs.Private.Works.{SameLinks, Uses, worker_state}
use Rattle.vc_threads.proofs.Zips.{zip_same}
use Rattle.vc_threads.proofs.Looks.{in_looked_same, low_kept}
use Rattle.vc_threads.proofs.Steps.{finds_quiet}
use Rattle.vc_threads.proofs.LeastTakes.{least_quiet}
use Rattle.vc_threads.proofs.Goings.{records_none, uses_idle, uses_one, stays_same, put_links, sends_quiet, receives_quiet, looked_sends, looked_out_links}
use Rattle.vc_threads.proofs.Outcomes.{of_some}
use Rattle.vc_actor.specs.OfPlan.{IsActorOf}
use Rattle.vc_network.specs.Plan.{Plan}
use Rattle.vc_threads.specs.Runs.{HasNoStep}
use Rattle.vc_threads.proofs.worker_state.WorkerState.make_turn.Goals as goal

pub returns-in_default-clause-stop : goal.returns-in_default-clause-stop
returns-in_default-clause-stop g c = record {
  stays = stays_same g.L.ActLog.holds (worker_state c.args.self.now);
  early = λ same. absurd (let e : Clock ≡ Turns = same in cc);
  passed = λ same. absurd (let e : Clock ≡ Gate = same in cc);
  full = λ clock. inl c.in_default.ensures;
}

pub returns-in-Err-clause-stop : goal.returns-in-Err-clause-stop
returns-in-Err-clause-stop g c =
    let a = c.args.self.now in
    record {
      stays = record {
        actor = c.in-Err.ensures.refused;
        clock = refl;
        log = records_none g.L.ActLog.holds a.log a.log (λ k acts h. h);
        outs = c.look-room.ensures.looked;
        ins = zip_same InLooked in_looked_same a.ins.items;
      };
      early = λ same. absurd (let e : Memory ≡ Turns = same in cc);
      passed = λ same. absurd (let e : Memory ≡ Gate = same in cc);
      full = λ same. absurd (let e : Memory ≡ Clock = same in cc);
    }

pub returns-then-is_same-clause-turn : goal.returns-then-is_same-clause-turn
returns-then-is_same-clause-turn g c =
    let a = c.args.self.now in
    let mid = c.look-room.new.self.ends.items in
    record {
      uses = λ plan n of. uses_idle g.L.ActLog.holds plan n (worker_state a)
          (record { actor = a.actor; clock = a.clock; log = a.log; outs = mid; ins = a.ins.items; words = a.words })
          (of_some (HasNoStep plan n a.actor) c.args.rested (c.is_same.ensures c.if-is_same.true) (c.requires.rests plan n of)) refl refl refl refl
          c.look-room.ensures.looked (zip_same InLooked in_looked_same a.ins.items);
      rests = c.requires.rests;
    }

pub put-requires-clause-low : goal.put-requires-clause-low
put-requires-clause-low g c = low_kept c.args.self.now.outs.ends.items c.look-room.new.self.ends.items c.look-room.ensures.looked c.requires.low

pub put-requires-clause-links : goal.put-requires-clause-links
put-requires-clause-links g c = subst Distinct (sym (looked_out_links c.args.self.now.outs.ends.items c.look-room.new.self.ends.items c.look-room.ensures.looked)) c.requires.links

pub put-requires-clause-room : goal.put-requires-clause-room
put-requires-clause-room g c = c.look-room.ensures.room c.in-Ok-Put.link (subst (PutsWithRoom c.look-room.result) c.in-Ok-Put.field-0-is c.in-Ok-Put.ensures.room)

pub returns-in-Ok-Idle-clause-turn : goal.returns-in-Ok-Idle-clause-turn
returns-in-Ok-Idle-clause-turn g c =
    let a = c.args.self.now in
    let room = c.look-room.result in
    let same : c.turn.new.self ≡ a.actor = c.in-Ok-Idle.ensures.idle c.in-Ok-Idle.field-0-is in
    let rests : (plan : Plan) (n : ℕ) → IsActorOf plan n a.actor → HasNoStep plan n a.actor = λ plan n of.
    let did = subst (λ t. MakesTurn plan n a.actor room t c.turn.new.self) c.in-Ok-Idle.field-0-is (c.in-Ok-Idle.ensures.makes plan n of) in
    finds_quiet plan n a.actor room did.1 in
    record {
      uses = λ plan n of. uses_idle g.L.ActLog.holds plan n (worker_state a)
          (record { actor = c.turn.new.self; clock = a.clock; log = a.log; outs = c.look-room.new.self.ends.items; ins = a.ins.items; words = a.words })
          (rests plan n of) same refl refl refl c.look-room.ensures.looked (zip_same InLooked in_looked_same a.ins.items);
      rests = λ plan n of. subst (HasNoStep plan n) (sym same) (rests plan n (subst (IsActorOf plan n) same of));
    }

pub returns-in-Ok-Local-clause-turn : goal.returns-in-Ok-Local-clause-turn
returns-in-Ok-Local-clause-turn g c = record {
  uses = λ plan n of.
      let a = c.args.self.now in
      let mid = c.look-room.new.self.ends.items in
      let outs' = c.look-room.ensures.looked in
      let did = subst (λ t. MakesTurn plan n a.actor c.look-room.result t c.turn.new.self) c.in-Ok-Local.field-0-is (c.in-Ok-Local.ensures.makes plan n of) in
      let t : Turn Act Token = record { at = c.in-Some.stamp; it = Own c.in-Ok-Local.act } in
      subst (λ b. Uses g.L.ActLog.holds plan n 1 (worker_state a) b) (sym c.note.ensures.others) (uses_one g.L.ActLog.holds plan n (worker_state a)
      (record { actor = c.turn.new.self; clock = c.in-Some.stamp; log = c.note.new.self.log; outs = mid; ins = a.ins.items; words = a.words })
      t did.1 c.in-Some.ensures tt (least_quiet a.actor a.ins.items t (λ l. refl) tt) tt refl c.note.ensures.log refl
      (sends_quiet (t ∷ []) (λ l. refl) a.outs.ends.items mid outs')
      (receives_quiet (t ∷ []) (λ l. refl) a.ins.items a.ins.items (zip_same InLooked in_looked_same a.ins.items)));
  rests = λ plan n of. tt;
}

pub returns-in-Ok-Put-clause-turn : goal.returns-in-Ok-Put-clause-turn
returns-in-Ok-Put-clause-turn g c = record {
  uses = λ plan n of.
      let a = c.args.self.now in
      let mid = c.look-room.new.self.ends.items in
      let outs' = c.look-room.ensures.looked in
      let new = c.put.new.self.ends.items in
      let did = subst (λ t. MakesTurn plan n a.actor c.look-room.result t c.turn.new.self) c.in-Ok-Put.field-0-is (c.in-Ok-Put.ensures.makes plan n of) in
      let act = c.in-Ok-Put.act in
      let link = c.in-Ok-Put.link in
      let x : Stamped = record { at = c.in-Some.stamp; item = c.in-Ok-Put.item } in
      let t : Turn Act Token = record { at = c.in-Some.stamp; it = Puts act link (stamped x) } in
      subst (λ b. Uses g.L.ActLog.holds plan n 1 (worker_state a) b) (sym c.note-in-Ok-Put.ensures.others) (uses_one g.L.ActLog.holds plan n (worker_state a)
      (record { actor = c.turn.new.self; clock = c.in-Some.stamp; log = c.note-in-Ok-Put.new.self.log; outs = new; ins = a.ins.items; words = a.words })
      t did.1 c.in-Some.ensures refl (least_quiet a.actor a.ins.items t (λ l. refl) tt) (subst (λ ls. IsAmong ls link) (looked_out_links a.outs.ends.items mid outs') c.put.ensures.among) refl c.note-in-Ok-Put.ensures.log refl
      (looked_sends (t ∷ []) a.outs.ends.items mid new outs' (c.put.ensures.put act))
      (receives_quiet (t ∷ []) (λ l. refl) a.ins.items a.ins.items (zip_same InLooked in_looked_same a.ins.items)));
  rests = λ plan n of. tt;
}

pub returns-in_default-clause-ends : goal.returns-in_default-clause-ends
returns-in_default-clause-ends g c = (refl, refl)

pub returns-then-is_same-clause-ends : goal.returns-then-is_same-clause-ends
returns-then-is_same-clause-ends g c =
    let a = c.args.self.now in
    let mid = c.look-room.new.self.ends.items in
    let outs' = c.look-room.ensures.looked in
    (looked_out_links a.outs.ends.items mid outs', refl)

pub returns-in-Ok-Idle-clause-ends : goal.returns-in-Ok-Idle-clause-ends
returns-in-Ok-Idle-clause-ends g c =
    let a = c.args.self.now in
    let mid = c.look-room.new.self.ends.items in
    let outs' = c.look-room.ensures.looked in
    (looked_out_links a.outs.ends.items mid outs', refl)

pub returns-in-Ok-Local-clause-ends : goal.returns-in-Ok-Local-clause-ends
returns-in-Ok-Local-clause-ends g c =
    let a = c.args.self.now in
    let mid = c.look-room.new.self.ends.items in
    let outs' = c.look-room.ensures.looked in
    subst (SameLinks (worker_state a)) (sym c.note.ensures.others) (looked_out_links a.outs.ends.items mid outs', refl)

pub returns-in-Ok-Put-clause-ends : goal.returns-in-Ok-Put-clause-ends
returns-in-Ok-Put-clause-ends g c =
    let a = c.args.self.now in
    let mid = c.look-room.new.self.ends.items in
    let outs' = c.look-room.ensures.looked in
    let new = c.put.new.self.ends.items in
    subst (SameLinks (worker_state a)) (sym c.note-in-Ok-Put.ensures.others)
    (put_links c.in-Ok-Put.link (record { at = c.in-Some.stamp; item = c.in-Ok-Put.item }) c.in-Ok-Put.act mid new c.put.ensures.put ∙ looked_out_links a.outs.ends.items mid outs', refl)

pub returns-in-Err-clause-ends : goal.returns-in-Err-clause-ends
returns-in-Err-clause-ends g c =
    let a = c.args.self.now in
    let mid = c.look-room.new.self.ends.items in
    let outs' = c.look-room.ensures.looked in
    (looked_out_links a.outs.ends.items mid outs', refl)
