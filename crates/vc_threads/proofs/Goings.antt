-- How a turn of a worker_state is put together.
use Rattle.std.proofs.Common.{◌≡◌, ◌≢◌, ℕ, zero, suc, ◌+◌, ◌<◌, ◌≤◌, List, [], ◌∷◌, ◌++◌, length, get_or, false, Option, eqb, inl, inr, refl, ap, sym, subst, arith, map, ◌∙◌, append_assoc, length-append, eq-eqb}
use Rattle.std.specs.Global.{Vec}
use Rattle.std.specs.List.{AllZip, All, AllByRecursion}
use Rattle.std.proofs.Math.ListN.{set}
use Rattle.std.proofs.lemmas.List.{append-nil, map-append}
use Rattle.std.proofs.lemmas.Bool.Decides.{eqb_tells}
use Rattle.std.proofs.lemmas.Bool.{cases_order}
use Rattle.rand_pcg.specs.Lcg.{started, increment_of}
use Rattle.rand_pcg.specs.Pcg.{multiplier_64}
use Rattle.rtrb.specs.Ring.{sent, received, SameProducer, SameConsumer}
use Rattle.vc_network.specs.Actors.Label.{Takes, Puts}
use Rattle.vc_network.specs.LocalRun.{Turn, LocalRun, CarriesStamp, next_stamp, plain, clock_after, all_put, all_taken}
use Rattle.vc_network.specs.Plan.{Plan}
use Rattle.vc_tokens.specs.declared.token.Token.{Token}
use Rattle.vc_actor.specs.OfPlan.{IsActorOf}
use Rattle.vc_actor.specs.declared.act.Act.{Act}
use Rattle.vc_actor.specs.ActorView.{Acting}
use Rattle.vc_threads.specs.declared.worker_state.WorkerState.{WorkerState}
use Rattle.vc_threads.specs.declared.link.Ends.{Ends}
use Rattle.vc_threads.specs.declared.link.Stamped.{Stamped}
use Rattle.vc_threads.specs.declared.run.ActorRun.{ActorRun}
use Rattle.vc_threads.specs.declared.run.Stop.{Stop}
use Rattle.vc_threads.specs.declared.run.Stop.TheVariants.{Turns, Gate, Clock}
use Rattle.vc_threads.specs.Stamps.{stamped, all_stamped}
use Rattle.vc_threads.specs.Wires.{OutLooked, InLooked, Distinct, IsAmong, Sends, Receives, out_links, in_links}
use Rattle.vc_threads.specs.Runs.{StepsByLink, HasNoStep, Used, Draws, words_of}
use Rattle.vc_threads.specs.Works.{Out, In, logged, GoesOver, GoOver, TakeFromLeast, IsFull, HasRun}
use Rattle.vc_threads.specs.Private.Rooms.{HasPut}
use Rattle.vc_threads.specs.Private.Works.{Seen, worker_state, Records, Uses, Stays, TakesTurn, StopsFor}
use Rattle.vc_threads.proofs.Zips.{zip_weaker, zip_then, zip_one, zip_map, zip_same}
use Rattle.vc_threads.proofs.Looks.{producer_then, consumer_then, looked_same, in_looked_same, in_looked_then}
use Rattle.vc_threads.proofs.LeastTakes.{least_looked, least_then, least_end, least_of, same_actor_links}
use Rattle.vc_threads.proofs.Steps.{clock_then, run_then, put_then, taken_then, words_then, draws_then, used_then, run_kept}
use Rattle.vc_machine.proofs.Ownership.{all_both}

pub any_default : {X : Type 0} (xs : List X) (k : ℕ) (d e : X) → k < length xs → get_or xs k d ≡ get_or xs k e
any_default [] k d e l = absurd (omega arith)
any_default (x ∷ xs) zero d e l = refl
any_default (x ∷ xs) (suc k) d e l = any_default xs k d e (omega arith)

link_at : {X : Type 0} (xs : List (ℕ × X)) (k : ℕ) (d : ℕ × X) → k < length xs → get_or (map (λ o. o.0) xs) k 0 ≡ (get_or xs k d).0
link_at [] k d l = absurd (omega arith)
link_at (x ∷ xs) zero d l = refl
link_at (x ∷ xs) (suc k) d l = link_at xs k d (omega arith)

pub length_links : {X : Type 0} (xs : List (ℕ × X)) → length (map (λ o. o.0) xs) ≡ length xs
length_links [] = refl
length_links (x ∷ xs) = ap suc (length_links xs)

-- an end's link is among the links
pub among : {X : Type 0} (xs : List (ℕ × X)) (k : ℕ) (r : ℕ × X) → k < length xs → r ≡ get_or xs k r → IsAmong (map (λ o. o.0) xs) r.0
among xs k r within is = (k, (let n = length_links xs in omega (arith, n, within)), link_at xs k r within ∙ ap (λ o. o.0) (sym is))

-- two places have two links
pub apart : {X : Type 0} (xs : List (ℕ × X)) (j k : ℕ) (d e : ℕ × X) → Distinct (map (λ o. o.0) xs) → j < length xs → k < length xs → j ≢ k → eqb (get_or xs j d).0 (get_or xs k e).0 ≡ false
apart xs j k d e dist l m ne =
    let p = link_at xs j d l in
    let q = link_at xs k e m in
    let n = length_links xs in
    elim (eqb_tells (get_or xs j d).0 (get_or xs k e).0) [
      | inr f ↦ f.0
      | inl t ↦ elim (cases_order j k) [
        | inl same ↦ absurd (ne same)
        | inr o ↦ elim o [
          | inl less ↦ absurd (dist j k less (omega (arith, n)) (p ∙ (t.1 ∙ sym q)))
          | inr more ↦ absurd (dist k j more (omega (arith, n)) (q ∙ (sym t.1 ∙ sym p)))
        ]
      ]
    ]

apart_from : {X : Type 0} (xs : List (ℕ × X)) (j k : ℕ) (d r : ℕ × X) → Distinct (map (λ o. o.0) xs) → j < length xs → k < length xs → j ≢ k → r ≡ get_or xs k r → eqb r.0 (get_or xs j d).0 ≡ false
apart_from xs j k d r dist l m ne is = ap (λ v. eqb v.0 (get_or xs j d).0) is ∙ apart xs k j r d dist m l (λ same. ne (sym same))

-- steps that put nothing
pub sends_quiet : (ts : List (Turn Act Token)) → ((l : ℕ) → all_put l ts ≡ []) → (os ps : List Out) → AllZip OutLooked os ps → AllZip (Sends ts) os ps
sends_quiet ts q = zip_weaker OutLooked (Sends ts) (λ a b l.
    (l.0, l.1.0, ap all_stamped l.1.1 ∙ (sym (append-nil (all_stamped (sent a.1))) ∙ ap (λ w. all_stamped (sent a.1) ++ w) (sym (q a.0)))))

pub receives_quiet : (ts : List (Turn Act Token)) → ((l : ℕ) → all_taken l ts ≡ []) → (os ps : List In) → AllZip InLooked os ps → AllZip (Receives ts) os ps
receives_quiet ts q = zip_weaker InLooked (Receives ts) (λ a b l.
    (l.0, l.1.0, ap all_stamped l.1.1 ∙ (sym (append-nil (all_stamped (received a.1))) ∙ ap (λ w. all_stamped (received a.1) ++ w) (sym (q a.0)))))

-- one place has received the item, and the others nothing
pub receives_one : (ins : List In) (k : ℕ) (r y : In) (at : ℕ) (act : Act) (x : Stamped)
    → Distinct (in_links ins) → k < length ins → r ≡ get_or ins k r → y.0 ≡ r.0 → SameConsumer r.1 y.1
    → received y.1 ≡ received r.1 ++ x ∷ []
    → AllZip (Receives (record { at = at; it = Takes act r.0 (stamped x) } ∷ [])) ins (set ins k y)
receives_one ins k r y at act x dist within is link ring got =
    let t : Turn Act Token = record { at = at; it = Takes act r.0 (stamped x) } in
    let ts : List (Turn Act Token) = t ∷ [] in
    zip_one (Receives ts) ins k y within
    (λ d. subst (λ v. Receives ts v y) (is ∙ any_default ins k r d within)
    (link, ring, ap all_stamped got ∙ (map-append stamped (received r.1) (x ∷ []) ∙ rw (eq-eqb r.0 r.0 refl) refl)))
    (λ j d l ne. (refl, ((refl, refl, refl, refl), refl), rw (apart_from ins j k d r dist l within ne is) (sym (append-nil (all_stamped (received (get_or ins j d).1))))))

-- one place has sent the item, and the others nothing
pub sends_one : (outs : List Out) (k : ℕ) (r y : Out) (at : ℕ) (act : Act) (x : Stamped)
    → Distinct (out_links outs) → k < length outs → r ≡ get_or outs k r → y.0 ≡ r.0 → SameProducer r.1 y.1
    → sent y.1 ≡ sent r.1 ++ x ∷ []
    → AllZip (Sends (record { at = at; it = Puts act r.0 (stamped x) } ∷ [])) outs (set outs k y)
sends_one outs k r y at act x dist within is link ring got =
    let t : Turn Act Token = record { at = at; it = Puts act r.0 (stamped x) } in
    let ts : List (Turn Act Token) = t ∷ [] in
    zip_one (Sends ts) outs k y within
    (λ d. subst (λ v. Sends ts v y) (is ∙ any_default outs k r d within)
    (link, ring, ap all_stamped got ∙ (map-append stamped (sent r.1) (x ∷ []) ∙ rw (eq-eqb r.0 r.0 refl) refl)))
    (λ j d l ne. (refl, ((refl, refl, refl, refl), refl), rw (apart_from outs j k d r dist l within ne is) (sym (append-nil (all_stamped (sent (get_or outs j d).1))))))

-- after a put the ends are of the same links
pub put_links : (link : ℕ) (x : Stamped) (act : Act) (os ps : List Out) → HasPut link x os ps → out_links ps ≡ out_links os
put_links link x act os ps put = zip_map (λ o. o.0) (λ o. o.0) (Sends (record { at = x.at; it = Puts act link (stamped x) } ∷ [])) (λ a b s. s.0) os ps (put act)

-- a look first changes nothing
pub looked_sends : (ts : List (Turn Act Token)) (os ps qs : List Out) → AllZip OutLooked os ps → AllZip (Sends ts) ps qs → AllZip (Sends ts) os qs
looked_sends ts = zip_then OutLooked (Sends ts) (Sends ts) (λ a b c l s.
    (s.0 ∙ l.0, producer_then a.1 b.1 c.1 l.1.0 s.1, s.2 ∙ (ap (λ w. all_stamped w ++ all_put b.0 ts) l.1.1 ∙ ap (λ n. all_stamped (sent a.1) ++ all_put n ts) l.0)))

pub looked_receives : (ts : List (Turn Act Token)) (os ps qs : List In) → AllZip InLooked os ps → AllZip (Receives ts) ps qs → AllZip (Receives ts) os qs
looked_receives ts = zip_then InLooked (Receives ts) (Receives ts) (λ a b c l s.
    (s.0 ∙ l.0, consumer_then a.1 b.1 c.1 l.1.0 s.1, s.2 ∙ (ap (λ w. all_stamped w ++ all_taken b.0 ts) l.1.1 ∙ ap (λ n. all_stamped (received a.1) ++ all_taken n ts) l.0)))

-- nor does one at the end
pub sends_looked : (ts : List (Turn Act Token)) (os ps qs : List Out) → AllZip (Sends ts) os ps → AllZip OutLooked ps qs → AllZip (Sends ts) os qs
sends_looked ts = zip_then (Sends ts) OutLooked (Sends ts) (λ a b c s l. (l.0 ∙ s.0, producer_then a.1 b.1 c.1 s.1 l.1.0, ap all_stamped l.1.1 ∙ s.2))

pub receives_looked : (ts : List (Turn Act Token)) (os ps qs : List In) → AllZip (Receives ts) os ps → AllZip InLooked ps qs → AllZip (Receives ts) os qs
receives_looked ts = zip_then (Receives ts) InLooked (Receives ts) (λ a b c s l. (l.0 ∙ s.0, consumer_then a.1 b.1 c.1 s.1 l.1.0, ap all_stamped l.1.1 ∙ s.2))

pub sends_then : (ts us : List (Turn Act Token)) (os ps qs : List Out) → AllZip (Sends ts) os ps → AllZip (Sends us) ps qs → AllZip (Sends (ts ++ us)) os qs
sends_then ts us = zip_then (Sends ts) (Sends us) (Sends (ts ++ us)) (λ a b c p q. (
  q.0 ∙ p.0,
  producer_then a.1 b.1 c.1 p.1 q.1,
  q.2 ∙ (ap (λ w. w ++ all_put b.0 us) p.2 ∙ (ap (λ n. (all_stamped (sent a.1) ++ all_put a.0 ts) ++ all_put n us) p.0
      ∙ (append_assoc (all_stamped (sent a.1)) (all_put a.0 ts) (all_put a.0 us) ∙ ap (λ w. all_stamped (sent a.1) ++ w) (sym (put_then a.0 ts us))))),
))

pub receives_then : (ts us : List (Turn Act Token)) (os ps qs : List In) → AllZip (Receives ts) os ps → AllZip (Receives us) ps qs → AllZip (Receives (ts ++ us)) os qs
receives_then ts us = zip_then (Receives ts) (Receives us) (Receives (ts ++ us)) (λ a b c p q. (
  q.0 ∙ p.0,
  consumer_then a.1 b.1 c.1 p.1 q.1,
  q.2 ∙ (ap (λ w. w ++ all_taken b.0 us) p.2 ∙ (ap (λ n. (all_stamped (received a.1) ++ all_taken a.0 ts) ++ all_taken n us) p.0
      ∙ (append_assoc (all_stamped (received a.1)) (all_taken a.0 ts) (all_taken a.0 us) ∙ ap (λ w. all_stamped (received a.1) ++ w) (sym (taken_then a.0 ts us))))),
))

pub looked_out_links : (os ps : List Out) → AllZip OutLooked os ps → out_links ps ≡ out_links os
looked_out_links = zip_map (λ o. o.0) (λ o. o.0) OutLooked (λ a b l. l.0)

pub looked_in_links : (os ps : List In) → AllZip InLooked os ps → in_links ps ≡ in_links os
looked_in_links = zip_map (λ o. o.0) (λ o. o.0) InLooked (λ a b l. l.0)

-- no act more is recorded, and acts after acts
module _ {L : Type 0} (holds : L → ℕ → List (ℕ × Act) → Type 0) where
  pub records_none : (a b : L) → ((k : ℕ) (acts : List (ℕ × Act)) → holds a k acts → holds b k acts) → Records holds [] a b
  records_none a b keeps k acts h = subst (holds b k) (sym (append-nil acts)) (keeps k acts h)

  pub records_still : (a b : L) → Records holds [] a b → (k : ℕ) (acts : List (ℕ × Act)) → holds a k acts → holds b k acts
  records_still a b more k acts h = subst (holds b k) (append-nil acts) (more k acts h)

  records_then : (ts us : List (Turn Act Token)) (a b c : L) → Records holds (map logged ts) a b → Records holds (map logged us) b c → Records holds (map logged (ts ++ us)) a c
  records_then ts us a b c one two k acts h =
      subst (holds c k) (append_assoc acts (map logged ts) (map logged us) ∙ ap (λ w. acts ++ w) (sym (map-append logged ts us)))
      (two k (acts ++ map logged ts) (one k acts h))

module _ {L : Type 0} (holds : L → ℕ → List (ℕ × Act) → Type 0) (plan : Plan) (k : ℕ) where
  -- no step was made, and the actor has none of its own
  pub uses_idle : (a b : Seen L) → HasNoStep plan k a.actor → b.actor ≡ a.actor → b.clock ≡ a.clock → b.log ≡ a.log → b.words ≡ a.words
      → AllZip OutLooked a.outs b.outs → AllZip InLooked a.ins b.ins → Uses holds plan k 1 a b
  uses_idle a b quiet node clock log words outs ins = record {
    steps = [];
    few = omega arith;
    goes = record {
      run = node;
      clock = clock;
      log = records_none holds a.log b.log (λ k acts h. subst (λ l. holds l k acts) (sym log) h);
      outs = sends_quiet [] (λ l. refl) a.outs b.outs outs;
      ins = receives_quiet [] (λ l. refl) a.ins b.ins ins;
      links = tt;
      least = ins;
      words = words;
    };
    used = (quiet, node);
  }

  -- one step was made
  pub uses_one : (a b : Seen L) (t : Turn Act Token) → StepsByLink plan k a.actor (plain t.it) b.actor → t.at ≡ next_stamp a.clock t.it → CarriesStamp t.at t.it
      → TakeFromLeast a.actor a.ins (t ∷ []) b.ins → GoesOver (out_links a.outs) (in_links a.ins) t.it → b.clock ≡ t.at → Records holds (logged t ∷ []) a.log b.log → Draws a.words (words_of (t ∷ [])) b.words
      → AllZip (Sends (t ∷ [])) a.outs b.outs → AllZip (Receives (t ∷ [])) a.ins b.ins → Uses holds plan k 1 a b
  uses_one a b t step stamp carries least over clock log words outs ins = record {
    steps = t ∷ [];
    few = omega arith;
    goes = record {
      run = (b.actor, step, stamp, carries, refl);
      clock = clock;
      log = log;
      outs = outs;
      ins = ins;
      links = (over, tt);
      least = least;
      words = words;
    };
    used = inr (b.actor, (b.actor, step, stamp, carries, refl), refl);
  }

  -- after room was made, and a look
  pub uses_looked : (n : ℕ) (a b : Seen L) (log : L) (ins : List In) → Records holds [] log a.log → AllZip InLooked ins a.ins → Uses holds plan k n a b → Uses holds plan k n (record a { log = log; ins = ins }) b
  uses_looked n a b log ins room looked p = record {
    steps = p.steps;
    few = p.few;
    goes = record {
      run = p.goes.run;
      clock = p.goes.clock;
      log = λ j acts h. p.goes.log j acts (records_still holds log a.log room j acts h);
      outs = p.goes.outs;
      ins = looked_receives p.steps ins a.ins b.ins looked p.goes.ins;
      links = subst (λ ls. AllByRecursion (λ t. GoesOver (out_links a.outs) ls t.it) p.steps) (looked_in_links ins a.ins looked) p.goes.links;
      least = least_looked a.actor ins a.ins p.steps b.ins looked p.goes.least;
      words = p.goes.words;
    };
    used = p.used;
  }

  -- no turn
  pub uses_zero : (a : Seen L) → Uses holds plan k 0 a a
  uses_zero a = record {
    steps = [];
    few = omega arith;
    goes = record {
      run = refl;
      clock = refl;
      log = records_none holds a.log a.log (λ k acts h. h);
      outs = sends_quiet [] (λ l. refl) a.outs a.outs (zip_same OutLooked looked_same a.outs);
      ins = receives_quiet [] (λ l. refl) a.ins a.ins (zip_same InLooked in_looked_same a.ins);
      links = tt;
      least = zip_same InLooked in_looked_same a.ins;
      words = refl;
    };
    used = refl;
  }

  -- the ends stay those of the same links
  outs_same : (n : ℕ) (a b : Seen L) → Uses holds plan k n a b → out_links b.outs ≡ out_links a.outs
  outs_same n a b p = zip_map (λ o. o.0) (λ o. o.0) (Sends p.steps) (λ x y l. l.0) a.outs b.outs p.goes.outs

  ins_same : (n : ℕ) (a b : Seen L) → Uses holds plan k n a b → in_links b.ins ≡ in_links a.ins
  ins_same n a b p = zip_map (λ o. o.0) (λ o. o.0) (Receives p.steps) (λ x y l. l.0) a.ins b.ins p.goes.ins

  -- one turn after another
  pub uses_then : (n m : ℕ) (a b c : Seen L) → IsActorOf plan k a.actor → Uses holds plan k n a b → Uses holds plan k m b c → Uses holds plan k (n + m) a c
  uses_then n m a b c of p q =
      let few = p.few in
      let more = q.few in
      let run = subst (λ w. LocalRun (StepsByLink plan) k w b.actor q.steps c.actor) p.goes.clock q.goes.run in
      record {
        steps = p.steps ++ q.steps;
        few = omega (arith, length-append p.steps q.steps, few, more);
        goes = record {
          run = run_then (StepsByLink plan) k a.clock a.actor b.actor c.actor p.steps q.steps p.goes.run run;
          clock = q.goes.clock ∙ (ap (λ w. clock_after w q.steps) p.goes.clock ∙ sym (clock_then a.clock p.steps q.steps));
          log = records_then holds p.steps q.steps a.log b.log c.log p.goes.log q.goes.log;
          outs = sends_then p.steps q.steps a.outs b.outs c.outs p.goes.outs q.goes.outs;
          ins = receives_then p.steps q.steps a.ins b.ins c.ins p.goes.ins q.goes.ins;
          links = all_both (λ t. GoesOver (out_links a.outs) (in_links a.ins) t.it) p.steps q.steps p.goes.links
              (subst (λ ls. AllByRecursion (λ t. GoesOver ls (in_links a.ins) t.it) q.steps) (outs_same n a b p)
              (subst (λ ls. AllByRecursion (λ t. GoesOver (out_links b.outs) ls t.it) q.steps) (ins_same n a b p) q.goes.links));
          least = least_then a.actor a.ins p.steps q.steps b.ins c.ins p.goes.least
              (least_of b.actor a.actor (same_actor_links plan k b.actor a.actor (run_kept plan k a.clock a.actor p.steps b.actor p.goes.run of) of) b.ins q.steps c.ins q.goes.least);
          words = subst (λ w. Draws a.words w c.words) (sym (words_then p.steps q.steps)) (draws_then a.words b.words c.words (words_of p.steps) (words_of q.steps) p.goes.words q.goes.words);
        };
        used = used_then plan k n m a.clock a.actor b.actor c.actor p.steps q.steps p.used (subst (λ w. Used plan k m w b.actor q.steps c.actor) p.goes.clock q.used);
      }

-- the ends of the same links are below 32 where these are
pub low_kept : {X : Type 0} (os ps : List (ℕ × X)) → map (λ o. o.0) ps ≡ map (λ o. o.0) os → All (λ o. o.0 < 32) os → All (λ o. o.0 < 32) ps
low_kept os ps same low j d within =
    let n = length_links os in
    let m = length_links ps in
    let e = ap length same in
    let less : j < length os = omega (arith, n, m, e, within) in
    let at : (get_or ps j d).0 ≡ (get_or os j d).0 = sym (link_at ps j d within) ∙ (ap (λ ls. get_or ls j 0) same ∙ link_at os j d less) in
    subst (λ (v : ℕ). v < 32) (sym at) (low j d less)

module _ {L : Type 0} (holds : L → ℕ → List (ℕ × Act) → Type 0) where
  pub stays_same : (a : Seen L) → Stays holds a a
  stays_same a = record { actor = refl; clock = refl; log = records_none holds a.log a.log (λ k acts h. h); outs = zip_same OutLooked looked_same a.outs; ins = zip_same InLooked in_looked_same a.ins }

  -- nothing was done after room was made, and a look
  pub stays_looked : (a b : Seen L) (log : L) (ins : List In) → Records holds [] log a.log → AllZip InLooked ins a.ins → Stays holds a b → Stays holds (record a { log = log; ins = ins }) b
  stays_looked a b log ins room looked p = record {
    actor = p.actor;
    clock = p.clock;
    log = λ j acts h. p.log j acts (records_still holds log a.log room j acts h);
    outs = p.outs;
    ins = zip_then InLooked InLooked InLooked in_looked_then ins a.ins b.ins looked p.ins;
  }

  -- a turn after that, and a stop
  pub turn_looked : (a b : Seen L) (log : L) (ins : List In) (rested : Option ℕ) → Records holds [] log a.log → AllZip InLooked ins a.ins → TakesTurn holds a b rested → TakesTurn holds (record a { log = log; ins = ins }) b rested
  turn_looked a b log ins rested room looked t = record { uses = λ plan k of. uses_looked holds plan k 1 a b log ins room looked (t.uses plan k of); rests = t.rests }

  pub stop_looked : (a b : Seen L) (log : L) (ins : List In) (why : Stop) → Records holds [] log a.log → AllZip InLooked ins a.ins → StopsFor holds a b why → StopsFor holds (record a { log = log; ins = ins }) b why
  stop_looked a b log ins why room looked s = record { stays = stays_looked a b log ins room looked s.stays; early = s.early; passed = s.passed; full = s.full }

  -- an actor of the plan stays one
  pub actor_kept : (plan : Plan) (k n : ℕ) (a b : Seen L) → Uses holds plan k n a b → IsActorOf plan k a.actor → IsActorOf plan k b.actor
  actor_kept plan k n a b p h = run_kept plan k a.clock a.actor p.steps b.actor p.goes.run h

  -- what a worker gives back that made n turns
  pub has_run : (refuses : ℕ → ℕ → Type 0) (plan : Plan) (k n m id seed : ℕ) (a : WorkerState L) (b : Seen L) (c : WorkerState L) (actor : Acting) (ends : Ends) (r : ActorRun L)
      → Uses holds plan k n (worker_state a) b → Stays holds b (worker_state c) → n ≤ m
      → a.actor ≡ actor → a.clock ≡ 0 → holds a.log id [] → a.outs.ends ≡ ends.outs → a.ins ≡ ends.ins → a.words ≡ started 64 multiplier_64 seed (increment_of 64 id)
      → r.actor ≡ c.actor → r.log ≡ c.log → r.ends.outs ≡ c.outs.ends → r.ends.ins ≡ c.ins → (r.stop ≡ Turns → n ≡ m) → (r.stop ≡ Gate → (n < m) × refuses id n) → (r.stop ≡ Clock → IsFull c.clock c.ins.items)
      → HasRun holds refuses plan k m id seed actor ends r
  has_run refuses plan k n m id seed a b c actor ends r p s le actor_is clock_is none outs_is ins_is words_is actor' log' outs' ins' all gate full =
      let last : r.actor ≡ b.actor = actor' ∙ s.actor in
      let outs = sends_looked p.steps a.outs.ends.items b.outs c.outs.ends.items p.goes.outs s.outs in
      let ins = receives_looked p.steps a.ins.items b.ins c.ins.items p.goes.ins s.ins in
      record {
        steps = p.steps;
        made = n;
        few = p.few;
        within = le;
        run = subst (λ v. LocalRun (StepsByLink plan) k 0 v p.steps r.actor) actor_is
            (subst (λ w. LocalRun (StepsByLink plan) k w a.actor p.steps r.actor) clock_is
            (subst (λ v. LocalRun (StepsByLink plan) k a.clock a.actor p.steps v) (sym last) p.goes.run));
        acts = subst (λ l. holds l id (map logged p.steps)) (sym log') (records_still holds b.log c.log s.log id (map logged p.steps) (p.goes.log id [] none));
        outs = subst (λ (v : Vec Out). AllZip (Sends p.steps) v.items r.ends.outs.items) outs_is (subst (λ (v : Vec Out). AllZip (Sends p.steps) a.outs.ends.items v.items) (sym outs') outs);
        ins = subst (λ (v : Vec In). AllZip (Receives p.steps) v.items r.ends.ins.items) ins_is (subst (λ (v : Vec In). AllZip (Receives p.steps) a.ins.items v.items) (sym ins') ins);
        links = subst (λ (v : Vec Out). GoOver v.items ends.ins.items p.steps) outs_is (subst (λ (v : Vec In). GoOver a.outs.ends.items v.items p.steps) ins_is p.goes.links);
        least = subst (λ v. TakeFromLeast v ends.ins.items p.steps r.ends.ins.items) actor_is
            (subst (λ (v : Vec In). TakeFromLeast a.actor v.items p.steps r.ends.ins.items) ins_is
            (subst (λ (v : Vec In). TakeFromLeast a.actor a.ins.items p.steps v.items) (sym ins') (least_end a.actor a.ins.items p.steps b.ins c.ins.items p.goes.least s.ins)));
        rest = b.words;
        words = subst (λ g. Draws g (words_of p.steps) b.words) words_is p.goes.words;
        used = subst (λ v. Used plan k n 0 v p.steps r.actor) actor_is
            (subst (λ w. Used plan k n w a.actor p.steps r.actor) clock_is
            (subst (λ v. Used plan k n a.clock a.actor p.steps v) (sym last) p.used));
        all = all;
        gate = gate;
        full = λ h. subst (λ (v : Vec In). IsFull (clock_after 0 p.steps) v.items) (sym ins')
            (subst (λ w. IsFull w c.ins.items) (s.clock ∙ (p.goes.clock ∙ ap (λ w. clock_after w p.steps) clock_is)) (full h));
      }
