-- The ends that the runs leave are those of the jobs' rings, and what went over them is what the runs put and took.
use Rattle.std.proofs.Common.{◌≡◌, ℕ, zero, suc, ◌+◌, ◌*◌, ◌<◌, ◌≤◌, ◌⊎◌, inl, inr, List, [], ◌∷◌, ◌++◌, length, map, get_or, option_map, ap, sym, subst, ◌∙◌, arith}
use Rattle.std.specs.Global.{Vec}
use Rattle.std.specs.List.{AllZip, AllByRecursion}
use Rattle.std.proofs.lemmas.Bool.{cases_lt}
use Rattle.std.proofs.lemmas.List.{length-map, map-append, get_or_past}
use Rattle.std.proofs.lemmas.Option.{slice_get-map, get_or_from_slice_get}
use Rattle.std.proofs.lemmas.Simd.{map-map}
use Rattle.rtrb.specs.Ring.{sent, received, IsPair}
use Rattle.vc_accepted.specs.ActorWays.{actor_of}
use Rattle.vc_network.specs.LocalRun.{all_put, all_taken}
use Rattle.vc_actor.specs.Begin.{AreFirst}
use Rattle.vc_actor.specs.declared.act.Act.{Act}
use Rattle.vc_actor.specs.Turns.{actors}
use Rattle.vc_plan.specs.declared.plan.Plan.{Plan}
use Rattle.vc_plan.specs.declared.port.Port.{Port}
use Rattle.vc_tokens.specs.CodeTokens.{tokens}
use Rattle.vc_tokens.specs.Tokens.{Token as Item}
use Rattle.vc_tokens.specs.declared.token.Token.{Token}
use Rattle.vc_threads.specs.Private.Jobs.{IsFit}
use Rattle.vc_threads.specs.Jobs.{Ran}
use Rattle.vc_threads.specs.Private.Order.{outs_left, ins_left, outs_at, ins_at, tokens_at, Meet, MeetAt, LeftOn, OnWires}
use Rattle.vc_threads.specs.Order.{OnWays}
use Rattle.vc_threads.specs.Private.Rings.{outs_in, ins_in, outs_of, ins_of, HasRing, AreWired}
use Rattle.vc_threads.specs.Stamps.{stamped, all_stamped}
use Rattle.vc_threads.specs.Private.Threads.{AreNumbered, actor_in, who}
use Rattle.vc_threads.specs.Threads.{TakesInOrder}
use Rattle.vc_threads.specs.Wires.{Distinct, out_links, in_links, Sends, Receives, SameIn}
use Rattle.vc_threads.specs.Works.{Out, In}
use Rattle.vc_threads.specs.declared.spawn.Job.{Job}
use Rattle.vc_threads.specs.declared.order.AllEnds.{AllEnds}
use Rattle.vc_threads.specs.declared.run.ActorRun.{ActorRun}
use Rattle.vc_threads.proofs.JobEnds.{none_apart}
use Rattle.vc_threads.proofs.RingViews.{SameOut, one_end, has_end, after, meet_kept}
use Rattle.vc_threads.proofs.Reports.{did, pick, steps_of, jobs_count}
use Rattle.vc_threads.proofs.Zips.{zip_weaker, zip_length}

outs_apart : (js : List Job) → AllByRecursion IsFit js → (k : ℕ) → Distinct (out_links (outs_of js k))
outs_apart [] fit k = none_apart
outs_apart (j ∷ js) fit zero = fit.0.outs
outs_apart (j ∷ js) fit (suc k) = outs_apart js fit.1 k

ins_apart : (js : List Job) → AllByRecursion IsFit js → (k : ℕ) → Distinct (in_links (ins_of js k))
ins_apart [] fit k = none_apart
ins_apart (j ∷ js) fit zero = fit.0.ins
ins_apart (j ∷ js) fit (suc k) = ins_apart js fit.1 k

-- the two ends of a ring of the jobs meet
jobs_meet : (nodes : ℕ) (js : List Job) (from to : Port) → AllByRecursion IsFit js → HasRing nodes js from to
    → Meet (outs_of js (actor_of nodes from.spot)) (ins_of js (actor_of nodes to.spot)) from.link to.link
jobs_meet nodes js from to fit h =
    let os = outs_of js (actor_of nodes from.spot) in
    let is = ins_of js (actor_of nodes to.spot) in
    let oa = outs_apart js fit (actor_of nodes from.spot) in
    let ia = ins_apart js fit (actor_of nodes to.spot) in
    record {
      outs_apart = oa;
      ins_apart = ia;
      out = has_end os h.out from.link h.source h.ring.near;
      into = has_end is h.into to.link h.sink h.ring.far;
      pair = λ o i co ci eo ei.
          let so = one_end os h.out o oa h.source co (h.ring.near ∙ sym eo) in
          let si = one_end is h.into i ia h.sink ci (h.ring.far ∙ sym ei) in
          subst (λ (v : In). IsPair o.1 v.1) si (subst (λ (v : Out). IsPair v.1 h.into.1) so h.ring.pair);
    }

module _ {L : Type 0} (holds : L → ℕ → List (ℕ × Act) → Type 0) (p : Plan) (refuses : ℕ → ℕ → Type 0) (turns seed : ℕ) (js : List Job) (rs : List (ActorRun L)) (first : AreFirst p (actors p) (map actor_in js)) (are : AreNumbered 0 (map who js)) (ran : AllZip (Ran holds refuses turns seed) js rs) where
  -- what each actor put and took
  sent_by : (k : ℕ) (c : (k < actors p) ⊎ (actors p ≤ k)) → AllZip (Sends (pick holds p refuses turns seed js rs first are ran k c)) (outs_of js k) (get_or (map outs_left rs) k [])
  sent_by k (inl less) =
      let d = did holds p refuses turns seed js rs first are ran k less in
      let a = get_or_from_slice_get (map outs_in js) k (outs_in d.done.job) [] (slice_get-map outs_in js k ∙ ap (option_map outs_in) d.done.job_is) in
      let b = get_or_from_slice_get (map outs_left rs) k (outs_left d.done.run) [] (slice_get-map outs_left rs k ∙ ap (option_map outs_left) d.done.run_is) in
      subst (λ xs. AllZip (Sends d.has.steps) xs (get_or (map outs_left rs) k [])) (sym a) (subst (AllZip (Sends d.has.steps) (outs_in d.done.job)) (sym b) d.has.outs)
  sent_by k (inr past) =
      let n = jobs_count holds p refuses turns seed js rs first are ran in
      let m = zip_length (Ran holds refuses turns seed) js rs ran in
      let u = length-map js outs_in in
      let v = length-map rs outs_left in
      let a = get_or_past (map outs_in js) k [] (omega (arith, n, u, past)) in
      let b = get_or_past (map outs_left rs) k [] (omega (arith, n, m, v, past)) in
      subst (λ xs. AllZip (Sends []) xs (get_or (map outs_left rs) k [])) (sym a) (subst (AllZip (Sends []) []) (sym b) tt)

  taken_by : (k : ℕ) (c : (k < actors p) ⊎ (actors p ≤ k)) → AllZip (Receives (pick holds p refuses turns seed js rs first are ran k c)) (ins_of js k) (get_or (map ins_left rs) k [])
  taken_by k (inl less) =
      let d = did holds p refuses turns seed js rs first are ran k less in
      let a = get_or_from_slice_get (map ins_in js) k (ins_in d.done.job) [] (slice_get-map ins_in js k ∙ ap (option_map ins_in) d.done.job_is) in
      let b = get_or_from_slice_get (map ins_left rs) k (ins_left d.done.run) [] (slice_get-map ins_left rs k ∙ ap (option_map ins_left) d.done.run_is) in
      subst (λ xs. AllZip (Receives d.has.steps) xs (get_or (map ins_left rs) k [])) (sym a) (subst (AllZip (Receives d.has.steps) (ins_in d.done.job)) (sym b) d.has.ins)
  taken_by k (inr past) =
      let n = jobs_count holds p refuses turns seed js rs first are ran in
      let m = zip_length (Ran holds refuses turns seed) js rs ran in
      let u = length-map js ins_in in
      let v = length-map rs ins_left in
      let a = get_or_past (map ins_in js) k [] (omega (arith, n, u, past)) in
      let b = get_or_past (map ins_left rs) k [] (omega (arith, n, m, v, past)) in
      subst (λ xs. AllZip (Receives []) xs (get_or (map ins_left rs) k [])) (sym a) (subst (AllZip (Receives []) []) (sym b) tt)

  module _ (e : AllEnds) (outs : map (λ v. v.items) e.outs.items ≡ map outs_left rs) (ins : map (λ v. v.items) e.ins.items ≡ map ins_left rs) (wired : AreWired p (length p.wires) js) where
    pub sends : (k : ℕ) → AllZip (Sends (steps_of holds p refuses turns seed js rs first are ran k)) (outs_of js k) (outs_at e k)
    sends k = subst (λ xs. AllZip (Sends (steps_of holds p refuses turns seed js rs first are ran k)) (outs_of js k) (get_or xs k [])) (sym outs) (sent_by k (cases_lt k (actors p)))

    pub receives : (k : ℕ) → AllZip (Receives (steps_of holds p refuses turns seed js rs first are ran k)) (ins_of js k) (ins_at e k)
    receives k = subst (λ xs. AllZip (Receives (steps_of holds p refuses turns seed js rs first are ran k)) (ins_of js k) (get_or xs k [])) (sym ins) (taken_by k (cases_lt k (actors p)))

    meet : (fit : AllByRecursion IsFit js) (from to : Port) → HasRing (length p.nodes) js from to → MeetAt (length p.nodes) e from to
    meet fit from to h =
        let s = actor_of (length p.nodes) from.spot in
        let t = actor_of (length p.nodes) to.spot in
        meet_kept (outs_of js s) (outs_at e s) (ins_of js t) (ins_at e t) from.link to.link
        (zip_weaker (Sends (steps_of holds p refuses turns seed js rs first are ran s)) SameOut (λ a b l. (l.0, l.1)) (outs_of js s) (outs_at e s) (sends s))
        (zip_weaker (Receives (steps_of holds p refuses turns seed js rs first are ran t)) SameIn (λ a b l. (l.0, l.1)) (ins_of js t) (ins_at e t) (receives t))
        (jobs_meet (length p.nodes) js from to fit h)

    pub ends_meet : AllByRecursion IsFit js → OnWires (MeetAt (length p.nodes) e) p.wires (length p.wires)
    ends_meet fit i w less at = let h = wired.rings i w less at in (meet fit w.one w.two h.0, meet fit w.two w.one h.1)

    module _ (lines : List (Vec Token)) (left : ℕ → List Item) (left_is : (w : ℕ) → left w ≡ tokens (tokens_at lines w)) where
      takes : (way : ℕ) (from to : Port) → HasRing (length p.nodes) js from to → LeftOn (length p.nodes) e lines way from to → TakesInOrder (length p.nodes) (steps_of holds p refuses turns seed js rs first are ran) left way from to
      takes way from to h order =
          let s = actor_of (length p.nodes) from.spot in
          let t = actor_of (length p.nodes) to.spot in
          let put = steps_of holds p refuses turns seed js rs first are ran s in
          let took = steps_of holds p refuses turns seed js rs first are ran t in
          let x = after (Sends put) (outs_of js s) (outs_at e s) h.out (sends s) h.source in
          let y = after (Receives took) (ins_of js t) (ins_at e t) h.into (receives t) h.sink in
          let f = order x.it y.it x.at y.at (x.is.0 ∙ h.ring.near) (y.is.0 ∙ h.ring.far) in
          let a : all_stamped (sent x.it.1) ≡ all_put from.link put = x.is.2 ∙ (ap (λ xs. all_stamped xs ++ all_put h.out.0 put) h.ring.unsent ∙ ap (λ l. all_put l put) h.ring.near) in
          let b : all_stamped (received y.it.1) ≡ all_taken to.link took = y.is.2 ∙ (ap (λ xs. all_stamped xs ++ all_taken h.into.0 took) h.ring.unreceived ∙ ap (λ l. all_taken l took) h.ring.far) in (
            all_stamped f.rest,
            ap (λ xs. xs ++ all_stamped f.rest) (sym b) ∙ (sym (map-append stamped (received y.it.1) f.rest) ∙ (ap all_stamped f.order ∙ a)),
            left_is way ∙ ap tokens (f.tokens_are ∙ sym (map-map (λ s. s.it) stamped f.rest)),
          )

      pub takes_in_order : OnWays (LeftOn (length p.nodes) e lines) p.wires (length p.wires) → OnWays (TakesInOrder (length p.nodes) (steps_of holds p refuses turns seed js rs first are ran) left) p.wires (length p.wires)
      takes_in_order order i w less at =
          let h = wired.rings i w less at in
          let o = order i w less at in
          (takes (2 * i) w.one w.two h.0 o.0, takes (2 * i + 1) w.two w.one h.1 o.1)
