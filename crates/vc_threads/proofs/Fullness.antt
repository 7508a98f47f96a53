-- Where a worker ended by its clock, an act of the runs has the greatest stamp.
use Rattle.std.proofs.Common.{◌≡◌, ℕ, suc, ◌+◌, ◌*◌, ◌^◌, ◌<◌, ◌≤◌, ◌⊎◌, inl, inr, Bool, true, false, not, if◌then◌else◌, ◌==◌, List, [], ◌∷◌, ◌++◌, length, map, get_or, option_map, slice_get, Some, refl, ap, sym, subst, ◌∙◌, arith, eqb-true, append_assoc}
use Rattle.std.specs.Global.{Vec}
use Rattle.std.specs.List.{AllZip, Contains}
use mathlib.Core.List.{IsPrefix}
use Rattle.std.proofs.lemmas.Bool.{cases_lt, and_parts}
use Rattle.std.proofs.lemmas.List.{map-append}
use Rattle.std.proofs.lemmas.Option.{slice_get-map, get_or_from_slice_get}
use Rattle.rtrb.specs.Ring.{sent, received, known_items}
use Rattle.vc_accepted.specs.NetworkOf.{network_of}
use Rattle.vc_accepted.specs.ActorWays.{actor_of}
use Rattle.vc_network.specs.Actors.{Label, Steps, put_on}
use Rattle.vc_network.specs.Actors.Label.{Own, Takes, Puts}
use Rattle.vc_network.specs.LocalRun as local
use Rattle.vc_network.specs.LocalRun.{Turn, LocalRun, CarriesStamp, all_put, clock_after}
use Rattle.vc_actor.specs.Begin.{AreFirst}
use Rattle.vc_actor.specs.ActorView.{Acting}
use Rattle.vc_actor.specs.Turns.{actors}
use Rattle.vc_actor.specs.declared.act.Act.{Act}
use Rattle.vc_plan.specs.Accepted.{port_of}
use Rattle.vc_plan.specs.declared.plan.Plan.{Plan}
use Rattle.vc_plan.specs.declared.port.Wire.{Wire}
use Rattle.vc_tokens.specs.declared.token.Token.{Token}
use Rattle.vc_threads.specs.Private.Close.{stop_at}
use Rattle.vc_threads.specs.Jobs.{Ran}
use Rattle.vc_threads.specs.Private.Order.{outs_left, ins_left, outs_at, ins_at, LeftOn}
use Rattle.vc_threads.specs.Order.{OnWays}
use Rattle.vc_threads.specs.Private.Rings.{outs_of, ins_of, AreWired, HasRing}
use Rattle.vc_threads.specs.Rings.{IsOnWire}
use Rattle.vc_threads.specs.Runs.{StepsByLink}
use Rattle.vc_threads.specs.Stamps.{stamped, all_stamped}
use Rattle.vc_threads.specs.Private.Threads.{AreNumbered, actor_in, who}
use Rattle.vc_threads.specs.Threads.{HasGreatest}
use Rattle.vc_threads.specs.Wires.{Sends, Receives}
use Rattle.vc_threads.specs.Works.{In, IsFull, IsGreatest, IsLate}
use Rattle.vc_threads.specs.declared.spawn.Job.{Job}
use Rattle.vc_threads.specs.declared.link.Stamped.{Stamped}
use Rattle.vc_threads.specs.declared.order.AllEnds.{AllEnds}
use Rattle.vc_threads.specs.declared.run.ActorRun.{ActorRun}
use Rattle.vc_threads.specs.declared.run.Stop.TheVariants.{Clock}
use Rattle.vc_threads.proofs.RingViews.{before, after}
use Rattle.vc_threads.proofs.EndOrder.{sends, receives}
use Rattle.vc_threads.proofs.Reports.{Did, did, pick, steps_of, stop_is}

-- some item has the greatest stamp
abbrev Late : List (local.Stamped Token) → Type 0
Late [] = ⊥
Late (s ∷ ss) = IsGreatest s.at ⊎ Late ss

late_split : (xs ys : List (local.Stamped Token)) → Late (xs ++ ys) → Late xs ⊎ Late ys
late_split [] ys h = inr h
late_split (x ∷ xs) ys (inl g) = inl (inl g)
late_split (x ∷ xs) ys (inr h) = elim (late_split xs ys h) [ inl a ↦ inl (inr a) | inr b ↦ inr b ]

late_left : (xs ys : List (local.Stamped Token)) → Late xs → Late (xs ++ ys)
late_left [] ys h = absurd h
late_left (x ∷ xs) ys (inl g) = inl g
late_left (x ∷ xs) ys (inr h) = inr (late_left xs ys h)

late_right : (xs ys : List (local.Stamped Token)) → Late ys → Late (xs ++ ys)
late_right [] ys h = h
late_right (x ∷ xs) ys h = inr (late_right xs ys h)

-- what waits with the greatest stamp was sent
late_sent : (r known past : List Stamped) (x : Stamped) → IsPrefix (x ∷ []) known → IsGreatest x.at → IsPrefix (r ++ known) past → Late (all_stamped past)
late_sent r known past x first g all =
    subst (λ xs. Late (all_stamped xs)) all.1
    (subst Late (sym (map-append stamped (r ++ known) all.0)) (late_left (all_stamped (r ++ known)) (all_stamped all.0)
    (subst Late (sym (map-append stamped r known)) (late_right (all_stamped r) (all_stamped known) (subst (λ xs. Late (all_stamped xs)) first.1 (inl g))))))

first_act : (t : Turn Act Token) (ts : List (Turn Act Token)) → IsGreatest t.at → HasGreatest (t ∷ ts)
first_act t ts g = (t, (0, omega arith, refl), g)

later_act : (t : Turn Act Token) (ts : List (Turn Act Token)) → HasGreatest ts → HasGreatest (t ∷ ts)
later_act t ts h = let m = h.1.1 in (h.0, (suc h.1.0, omega (arith, m), h.1.2), h.2)

-- a clock at its end is that of an act
last_act : (clock : ℕ) (ts : List (Turn Act Token)) → clock + 1 < 2 ^ 64 → IsGreatest (clock_after clock ts) → HasGreatest ts
last_act clock [] less g = absurd (omega (arith, less, g))
last_act clock (t ∷ ts) less g = elim (cases_lt (t.at + 1) (2 ^ 64)) [
  | inl small ↦ later_act t ts (last_act t.at ts small g)
  | inr great ↦ first_act t ts great
]

put_greatest : (link at : ℕ) (l : Label Act (local.Stamped Token)) → CarriesStamp at l → Late (put_on link l) → IsGreatest at
put_greatest link at (Own act) c h = absurd h
put_greatest link at (Takes act m s) c h = absurd h
put_greatest link at (Puts act m s) c h = by_test (m == link) h
  where
    by_test : (b : Bool) → Late (if b then s ∷ [] else []) → IsGreatest at
    by_test true (inl g) = subst IsGreatest c g
    by_test true (inr none) = absurd none
    by_test false none = absurd none

-- an item carries the stamp of the act that put it
put_act : (Local : Steps Acting Act Token) (k link clock : ℕ) (old new : Acting) (ts : List (Turn Act Token)) → LocalRun Local k clock old ts new → Late (all_put link ts) → HasGreatest ts
put_act Local k link clock old new [] run h = absurd h
put_act Local k link clock old new (t ∷ ts) run h = elim (late_split (put_on link t.it) (all_put link ts) h) [
  | inl now ↦ first_act t ts (put_greatest link t.at t.it run.3 now)
  | inr later ↦ later_act t ts (put_act Local k link t.at run.0 new ts run.4 later)
]

module _ {L : Type 0} (holds : L → ℕ → List (ℕ × Act) → Type 0) (p : Plan) (refuses : ℕ → ℕ → Type 0) (turns seed : ℕ) (js : List Job) (rs : List (ActorRun L)) (first : AreFirst p (actors p) (map actor_in js)) (are : AreNumbered 0 (map who js)) (ran : AllZip (Ran holds refuses turns seed) js rs)
    (e : AllEnds) (outs : map (λ v. v.items) e.outs.items ≡ map outs_left rs) (ins : map (λ v. v.items) e.ins.items ≡ map ins_left rs) (wired : AreWired p (length p.wires) js)
    (lines : List (Vec Token)) (left : OnWays (LeftOn (length p.nodes) e lines) p.wires (length p.wires)) where
  picked_act : (s link : ℕ) (c : (s < actors p) ⊎ (actors p ≤ s)) → Late (all_put link (pick holds p refuses turns seed js rs first are ran s c)) → HasGreatest (pick holds p refuses turns seed js rs first are ran s c)
  picked_act s link (inl less) h = let d = did holds p refuses turns seed js rs first are ran s less in put_act (StepsByLink (network_of p)) s link 0 d.done.job.actor d.done.run.actor d.has.steps d.has.run h
  picked_act s link (inr past) h = absurd h

  -- an item that waits at a side of a wire was put on the other side
  put_there : (m : ℕ) (w : Wire) (side : Bool) (i : In) → m < length p.wires → slice_get p.wires m ≡ Some w → Contains (ins_at e (actor_of (length p.nodes) (port_of w side).spot)) i → i.0 ≡ (port_of w side).link → IsLate i
      → (j : ℕ) × HasGreatest (steps_of holds p refuses turns seed js rs first are ran j)
  put_there m w side i less is ci at late =
      let from = port_of w (not side) in
      let to = port_of w side in
      let s = actor_of (length p.nodes) from.spot in
      let put = steps_of holds p refuses turns seed js rs first are ran s in
      let h = ring side in
      let x = after (Sends put) (outs_of js s) (outs_at e s) h.out (sends holds p refuses turns seed js rs first are ran e outs ins wired s) h.source in
      let a : all_stamped (sent x.it.1) ≡ all_put from.link put = x.is.2 ∙ (ap (λ xs. all_stamped xs ++ all_put h.out.0 put) h.ring.unsent ∙ ap (λ l. all_put l put) h.ring.near) in
      let o = (order side).1 x.it i x.at ci (x.is.0 ∙ h.ring.near) at in
      let front : IsPrefix (received i.1 ++ known_items i.1) (sent x.it.1) = (o.seen.0, append_assoc (received i.1) (known_items i.1) o.seen.0 ∙ (ap (λ xs. received i.1 ++ xs) o.seen.1 ∙ o.order)) in
      (s, picked_act s from.link (cases_lt s (actors p)) (subst Late a (late_sent (received i.1) (known_items i.1) (sent x.it.1) late.0 late.1 late.2 front)))
    where
      ring : (b : Bool) → HasRing (length p.nodes) js (port_of w (not b)) (port_of w b)
      ring true = (wired.rings m w less is).1
      ring false = (wired.rings m w less is).0

      order : (b : Bool) → (way : ℕ) × LeftOn (length p.nodes) e lines way (port_of w (not b)) (port_of w b)
      order true = (2 * m + 1, (left m w less is).1)
      order false = (2 * m, (left m w less is).0)

  waits : (k : ℕ) (i : In) → Contains (ins_at e k) i → IsLate i → (j : ℕ) × HasGreatest (steps_of holds p refuses turns seed js rs first are ran j)
  waits k i c late =
      let took = steps_of holds p refuses turns seed js rs first are ran k in
      let x = before (Receives took) (ins_of js k) (ins_at e k) i (receives holds p refuses turns seed js rs first are ran e outs ins wired k) c in
      let on = wired.ins k x.it x.at in
      at_wire x.it.0 x.is.0 on
    where
      at_wire : (link : ℕ) → i.0 ≡ link → IsOnWire p (length p.wires) k link → (j : ℕ) × HasGreatest (steps_of holds p refuses turns seed js rs first are ran j)
      at_wire link same (m, w, side, less, is, at) =
          let r = and_parts (actor_of (length p.nodes) (port_of w side).spot == k) ((port_of w side).link == link) at in
          let actor = eqb-true (actor_of (length p.nodes) (port_of w side).spot) k r.0 in
          let there = eqb-true (port_of w side).link link r.1 in
          put_there m w side i less is (subst (λ a. Contains (ins_at e a) i) (sym actor) c) (same ∙ sym there) late

  by_clock : (k : ℕ) (d : Did holds p refuses turns seed js rs first are ran k) → steps_of holds p refuses turns seed js rs first are ran k ≡ d.has.steps → IsFull (clock_after 0 d.has.steps) d.done.run.ends.ins.items
      → (j : ℕ) × HasGreatest (steps_of holds p refuses turns seed js rs first are ran j)
  by_clock k d same (inl own) = (k, subst HasGreatest (sym same) (last_act 0 d.has.steps (omega arith) own))
  by_clock k d same (inr (i, c, late)) =
      let left = get_or_from_slice_get (map ins_left rs) k (ins_left d.done.run) [] (slice_get-map ins_left rs k ∙ ap (option_map ins_left) d.done.run_is) in
      let all = ap (λ xs. get_or xs k []) ins ∙ left in
      waits k i (subst (λ xs. Contains xs i) (sym all) c) late

  picked_full : (k : ℕ) (c : (k < actors p) ⊎ (actors p ≤ k)) → steps_of holds p refuses turns seed js rs first are ran k ≡ pick holds p refuses turns seed js rs first are ran k c → k < actors p → stop_at rs k ≡ Clock
      → (j : ℕ) × HasGreatest (steps_of holds p refuses turns seed js rs first are ran j)
  picked_full k (inr past) same less stop = absurd (omega (arith, past, less))
  picked_full k (inl within) same less stop =
      let d = did holds p refuses turns seed js rs first are ran k within in
      by_clock k d same (d.has.full (sym (stop_is holds p refuses turns seed js rs first are ran k d) ∙ stop))

  pub greatest_there : (k : ℕ) → k < actors p → stop_at rs k ≡ Clock → (j : ℕ) × HasGreatest (steps_of holds p refuses turns seed js rs first are ran j)
  greatest_there k = picked_full k (cases_lt k (actors p)) refl
