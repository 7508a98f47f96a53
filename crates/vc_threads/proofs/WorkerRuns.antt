-- What the workers gave back is a run of the network.
use Rattle.std.proofs.Common.{◌≡◌, ◌≢◌, ◌↔◌, ℕ, zero, suc, ◌*◌, ◌≤◌, List, [], ◌∷◌, length, map, slice_get, refl, ap, sym, subst, ◌∙◌, arith}
use Rattle.std.specs.Global.{Vec}
use Rattle.std.specs.List.{AllZip}
use Rattle.std.proofs.lemmas.List.{length-map}
use Rattle.vc_accepted.specs.NetworkOf.{network_of, wire_of}
use Rattle.vc_network.specs.Actors.{act_of}
use Rattle.vc_network.specs.LocalRun.{restamped}
use Rattle.vc_network.specs.Merge.{Made, IsMerge}
use Rattle.vc_actor.specs.Begin.{AreFirst}
use Rattle.vc_actor.specs.ActorView.{actor_of}
use Rattle.vc_core.specs.State.{State, shown, IsNetworkOf}
use Rattle.vc_core.specs.Turns.{AllHaveEnded}
use Rattle.vc_actor.specs.Turns.{actors}
use Rattle.vc_actor.specs.declared.act.Act.{Act}
use Rattle.vc_core.specs.declared.close.Close.{Close}
use Rattle.vc_core.specs.declared.close.Close.TheVariants.{Done}
use Rattle.vc_network.specs.Network.{IsSwitch}
use Rattle.vc_network.specs.Plan.{ways}
use Rattle.vc_plan.specs.Accepted.{IsAccepted}
use Rattle.vc_plan.specs.declared.plan.Plan.{Plan}
use Rattle.vc_switch.specs.Switch.{new_switch}
use Rattle.vc_tokens.specs.CodeTokens.{tokens}
use Rattle.vc_tokens.specs.declared.token.Token.{Token}
use Rattle.vc_packets.specs.Functions.{shown_or}
use Rattle.vc_threads.specs.Close.{ClosesBy, stop_among}
use Rattle.vc_threads.specs.Private.Close.{stop_at, stop_in}
use Rattle.vc_threads.specs.Jobs.{Ran}
use Rattle.vc_threads.specs.MergedRuns.{made_event}
use Rattle.vc_threads.specs.Private.Order.{actor_left, outs_left, ins_left, tokens_at, LeftOn}
use Rattle.vc_threads.specs.Order.{OnWays}
use Rattle.vc_threads.specs.Private.Rings.{AreWired}
use Rattle.vc_threads.specs.Private.Threads.{AreNumbered, actor_in, who}
use Rattle.vc_threads.specs.Threads.{IsRunOf, IsThreadRun}
use Rattle.vc_threads.specs.declared.spawn.Job.{Job}
use Rattle.vc_threads.specs.declared.order.AllEnds.{AllEnds}
use Rattle.vc_threads.specs.declared.run.ActorRun.{ActorRun}
use Rattle.vc_threads.specs.declared.run.Stop.{Stop}
use Rattle.vc_threads.proofs.Fullness.{greatest_there}
use Rattle.vc_threads.proofs.EndOrder.{takes_in_order}
use Rattle.vc_threads.proofs.Reports.{steps_of, last_of, each_run, no_run, idle_there, ends_there, runs_count}
use Rattle.vc_threads.proofs.RunWays.{leads_there}

-- the tokens on a way, where these stand on all
shown_at : (lines : List (Vec Token)) (w : ℕ) → shown_or [] (λ ts. ts) (slice_get (map (λ line. tokens line.items) lines) w) ≡ tokens (tokens_at lines w)
shown_at [] w = refl
shown_at (x ∷ xs) zero = refl
shown_at (x ∷ xs) (suc w) = shown_at xs w

-- past them there are none
none_past : (lines : List (Vec Token)) (w : ℕ) → length lines ≤ w → tokens (tokens_at lines w) ≡ []
none_past [] w h = refl
none_past (x ∷ xs) zero h = absurd (omega arith)
none_past (x ∷ xs) (suc w) h = none_past xs w (omega arith)

module _ {L : Type 0} (holds : L → ℕ → List (ℕ × Act) → Type 0) (p : Plan) (acc : IsAccepted p) (refuses : ℕ → ℕ → Type 0) (turns seed : ℕ) (js : List Job) (rs : List (ActorRun L)) (begins : AreFirst p (actors p) (map actor_in js)) (are : AreNumbered 0 (map who js))
    (ran : AllZip (Ran holds refuses turns seed) js rs) (wired : AreWired p (length p.wires) js) (e : AllEnds)
    (outs : map (λ v. v.items) e.outs.items ≡ map outs_left rs) (ins : map (λ v. v.items) e.ins.items ≡ map ins_left rs)
    (lines : List (Vec Token)) (count : length lines ≡ 2 * length p.wires) (left : OnWays (LeftOn (length p.nodes) e lines) p.wires (length p.wires)) (merged : List (Made Act))
    (made : IsMerge (λ k. map (restamped act_of) (steps_of holds p refuses turns seed js rs begins are ran k)) merged) where
  pub is_run : (s : State) (stops : List Stop) (close : Close) → stops ≡ map stop_in rs → IsNetworkOf p s → s.actors ≡ map actor_left rs → s.ways ≡ map (λ line. tokens line.items) lines
      → close ≡ Done ↔ AllHaveEnded p s → (close ≢ Done → ClosesBy (length rs) (stop_at rs) close) → (r : IsThreadRun p refuses turns seed (map made_event merged) s stops close) × ((k : ℕ) → r.runs k ≡ steps_of holds p refuses turns seed js rs begins are ran k)
  is_run s stops close are_stops is actors_are ways_are done closes =
      let run = steps_of holds p refuses turns seed js rs begins are ran in
      let last = last_of holds p refuses turns seed js rs begins are ran in
      let each = each_run holds p refuses turns seed js rs begins are ran wired in
      let none = no_run holds p refuses turns seed js rs begins are ran in
      let ends : (k : ℕ) → last k ≡ (shown s).state k = λ k. ends_there holds p refuses turns seed js rs begins are ran k ∙ ap (λ xs. shown_or (IsSwitch new_switch) actor_of (slice_get xs k)) (sym actors_are) in
      let on : (w : ℕ) → (shown s).way w ≡ tokens (tokens_at lines w) = λ w. ap (λ xs. shown_or [] (λ ts. ts) (slice_get xs w)) ways_are ∙ shown_at lines w in
      let bare : (w : ℕ) → ways (network_of p) ≤ w → (shown s).way w ≡ [] = λ w past. let n = length-map p.wires wire_of in on w ∙ none_past lines w (omega (arith, past, count, n)) in
      let order = takes_in_order holds p refuses turns seed js rs begins are ran e outs ins wired lines (shown s).way on left in
      let leads = leads_there p acc refuses turns seed run (stop_at rs) last each none (idle_there holds p refuses turns seed js rs begins are ran) (shown s).way order bare merged made (map made_event merged) refl s is ends (λ w. refl) in (
        record {
          runs = run;
          count = ap length are_stops ∙ (length-map rs stop_in ∙ runs_count holds p refuses turns seed js rs begins are ran);
          each = λ k less. subst (λ ss. IsRunOf p refuses turns seed k (run k) (stop_among ss k) ((shown s).state k)) (sym are_stops) (subst (IsRunOf p refuses turns seed k (run k) (stop_at rs k)) (ends k) (each k less));
          none = none;
          order = order;
          merged = merged;
          merge = made;
          steps = refl;
          replays = leads;
          done = done;
          full = λ k less at_clock. greatest_there holds p refuses turns seed js rs begins are ran e outs ins wired lines left k less (ap (λ ss. stop_among ss k) (sym are_stops) ∙ at_clock);
          closes = λ not. subst (λ ss. ClosesBy (actors p) (stop_among ss) close) (sym are_stops) (subst (λ n. ClosesBy n (stop_at rs) close) (runs_count holds p refuses turns seed js rs begins are ran) (closes not));
        },
        λ k. refl,
      )
