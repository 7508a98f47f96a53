use Rattle.rand_pcg.specs.Lcg.{Lcg}
use Rattle.vc_network.specs.Actors.Label.{Takes}
use Rattle.vc_threads.specs.Stamps.{stamped}
use Rattle.vc_threads.specs.Runs.{Draws, word_of}
use Rattle.vc_actor.specs.declared.act.Act.{Act}
use Rattle.std.proofs.Common.{ℕ, inl, inr, refl, subst, sym, get_or, ap, ◌∙◌, ◌++◌, ◌∷◌, []}
use Rattle.std.proofs.Math.ListN.{set}
use Rattle.std.proofs.Math.Seq.{map-set_same}
use Rattle.vc_threads.specs.Wires.{OutLooked, InLooked}
use Rattle.vc_threads.specs.Works.{In}
use Rattle.vc_threads.specs.Private.Works.{SameLinks, Uses, take_of, worker_state}
use Rattle.vc_threads.proofs.Zips.{zip_same, zip_step}
use Rattle.vc_threads.proofs.Looks.{looked_same, in_looked_same, in_looked_then}
use Rattle.vc_threads.proofs.Late.{passed, written_in}
use Rattle.vc_threads.proofs.LeastTakes.{least_one}
use Rattle.vc_threads.proofs.LeastEnds.{from_least, passed_one}
use Rattle.vc_threads.proofs.Goings.{among, records_none, uses_one, receives_one, sends_quiet}
use Rattle.vc_threads.proofs.worker_state.WorkerState.take_from.Goals as goal

pub returns-in_err-stamp-clause-stop : goal.returns-in_err-stamp-clause-stop
returns-in_err-stamp-clause-stop g c =
    let a = c.args.self.now in
    let end = c.take_front.new.end in
    let same = c.in_err-stamp.ensures.err in
    let looked : InLooked (get_or a.ins.items c.args.k c.index_mut.result.now) end = subst (λ v. InLooked v end) (same.1 ∙ c.index_mut.ensures.value) (in_looked_same end) in
    passed _ c.from_residual.result c.in_err-stamp.field-0.0 c.from_residual.ensures.1 (record {
      stays = record {
        actor = same.0;
        clock = refl;
        log = records_none g.L.ActLog.holds a.log a.log (λ k acts h. h);
        outs = zip_same OutLooked looked_same a.outs.ends.items;
        ins = zip_step InLooked in_looked_then a.ins.items a.ins.items c.args.k c.index_mut.result.now end (zip_same InLooked in_looked_same a.ins.items) c.requires.within looked;
      };
      early = c.in_err-stamp.ensures.why.0;
      passed = c.in_err-stamp.ensures.why.1;
      full = λ is. elim (c.in_err-stamp.ensures.full is) [
        | inl own ↦ inl own
        | inr late ↦ inr (end, written_in a.ins.items c.args.k end c.requires.within, late)
      ];
    })

pub returns-clause-turn : goal.returns-clause-turn
returns-clause-turn g c = record {
  uses = λ plan n of.
      let a = c.args.self.now in
      let h = c.in_ok-stamp.ensures.ok plan n of in
      let made : ℕ × Act = (c.in_ok-stamp.stamp, c.in_ok-stamp.act) in
      let t = take_of made c.index_mut.result.now.0 h.item in
      subst (λ b. Uses g.L.ActLog.holds plan n 1 (worker_state a) b) (sym c.note.ensures.others) (uses_one g.L.ActLog.holds plan n (worker_state a)
      (record { actor = c.take_front.new.actor; clock = c.in_ok-stamp.stamp; log = c.note.new.self.log; outs = a.outs.ends.items; ins = set a.ins.items c.args.k c.take_front.new.end; words = c.next_word-word.new.self })
      t h.step h.stamp tt (least_one a.actor a.ins.items t (set a.ins.items c.args.k c.take_front.new.end)
      (from_least a.actor a.ins.items c.args.k c.index_mut.result.now c.requires.within c.index_mut.ensures.value c.requires.least)
      (passed_one a.ins.items c.args.k c.index_mut.result.now c.take_front.new.end c.in_ok-stamp.stamp c.in_ok-stamp.act h.item c.requires.links c.requires.within c.index_mut.ensures.value h.link h.ring h.got h.known)) (among a.ins.items c.args.k c.index_mut.result.now c.requires.within c.index_mut.ensures.value) refl c.note.ensures.log
      (subst (λ x. Draws a.words (word_of (Takes x c.index_mut.result.now.0 (stamped h.item)) ++ []) c.next_word-word.new.self) (sym h.act)
      (ap (λ (p : ℕ × Lcg). p.0) c.next_word-word.ensures, ap (λ (p : ℕ × Lcg). p.1) c.next_word-word.ensures))
      (sends_quiet (t ∷ []) (λ l. refl) a.outs.ends.items a.outs.ends.items (zip_same OutLooked looked_same a.outs.ends.items))
      (receives_one a.ins.items c.args.k c.index_mut.result.now c.take_front.new.end c.in_ok-stamp.stamp c.in_ok-stamp.act h.item c.requires.links c.requires.within c.index_mut.ensures.value h.link h.ring h.got));
  rests = λ plan n of. tt;
}

pub returns-in_err-stamp-clause-ends : goal.returns-in_err-stamp-clause-ends
returns-in_err-stamp-clause-ends g c =
    (refl, map-set_same (λ (i : In). i.0) c.args.self.now.ins.items c.args.k c.take_front.new.end c.index_mut.result.now (c.in_err-stamp.ensures.link ∙ ap (λ (i : In). i.0) c.index_mut.ensures.value))

pub returns-clause-ends : goal.returns-clause-ends
returns-clause-ends g c =
    let a = c.args.self.now in
    subst (SameLinks (worker_state a)) (sym c.note.ensures.others)
    (refl, map-set_same (λ (i : In). i.0) a.ins.items c.args.k c.take_front.new.end c.index_mut.result.now (c.in_ok-stamp.ensures.link ∙ ap (λ (i : In). i.0) c.index_mut.ensures.value))
