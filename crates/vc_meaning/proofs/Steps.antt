-- Each event is one of those of which it is known what they do to the meaning.
use Rattle.std.proofs.Common.{◌≡◌, ◌≢◌, ◌⊎◌, inl, inr, ℕ, suc, ◌+◌, ◌≤◌, ◌<◌, Bool, true, false, List, [], ◌∷◌, ◌++◌, length, slice_get, Option, Some, None, refl, sym, ap, subst, ◌∙◌, arith, length-append, eq-eqb, if◌then◌else◌}
use Rattle.std.proofs.lemmas.Bool.{cases_eq}
use Rattle.std.proofs.lemmas.Option.{slice_get_past, same_Some}
use Rattle.std.specs.List.{Contains}
use Rattle.vc_accepted.proofs.Processes.{kind_on}
use Rattle.vc_accepted.specs.Begin.{begin_of}
use Rattle.vc_accepted.specs.NetworkOf.{network_of}
use Rattle.vc_accepted.specs.Process.{Process, Goes, does}
use Rattle.vc_core.specs.PossibleEvents.{NetworkState}
use Rattle.vc_free.proofs.NodePaths.{SoFar, all_run, bit, under}
use Rattle.vc_free.proofs.Nexts.{said_in, node_next, switch_next}
use Rattle.vc_free.proofs.PutOff.{total, total_inserted, is_out, is_in}
use Rattle.vc_free.proofs.Rest.{output_here, input_here}
use Rattle.vc_free.proofs.RestKnown.{known_of}
use Rattle.vc_free.proofs.StepsSaid.{goes_of}
use Rattle.vc_free.specs.Delivery.{in_half}
use Rattle.vc_machine.proofs.Runs.{part_here, part_other}
use Rattle.vc_machine.proofs.Views.{slice_get_end}
use Rattle.vc_machine.specs.Rendezvous as rendezvous
use Rattle.vc_machine.specs.Rendezvous.{View, DoesAll, part}
use Rattle.vc_meaning.proofs.Channels.{never_both, one_there, one_asked}
use Rattle.vc_meaning.proofs.Counting.{bit_same, took_waits}
use Rattle.vc_meaning.proofs.Ends.{two_nodes}
use Rattle.vc_meaning.proofs.Keeping as keeping
use Rattle.vc_meaning.proofs.Keeping.{Meant, begun, by_move, Carried, less_late, unchanged, Begins, asking, asking_waits}
use Rattle.vc_meaning.proofs.Known.{Course, at_rest, under_way, to_end, course, held, ready_of, source_waits, sink_waits, in_half_is, stopped_half}
use Rattle.vc_meaning.proofs.Sequences.{finish_counts, message_counts, other_in}
use Rattle.vc_meaning.proofs.Measures.{all_late, all_alone}
use Rattle.vc_meaning.specs.Meaning.{IsOnLink, MessagePasses, IsUnfinished, EndIsToCome, Means}
use Rattle.vc_network.proofs.NodeLinks.{said_by_pass}
use Rattle.vc_network.specs.Actors.{Label, Step, ActBy, act_of}
use Rattle.vc_network.specs.Actors.Label.{Own, Takes, Puts}
use Rattle.vc_network.specs.Network.{Act, Proc, Take, Put, Fct, Pass, Node, IsNode, Moves, GoesOn, NodeStep}
use Rattle.vc_network.specs.Plan as network
use Rattle.vc_network.specs.Plan.{Way, Inside, home}
use Rattle.vc_network.specs.Processes as made
use Rattle.vc_network.specs.Still.{IsNoMove}
use Rattle.vc_network.specs.Views.{vcps, inner_of, view_at, source_node, sink_node, view}
use Rattle.vc_occam.proofs.Insertion.{is_inserted}
use Rattle.vc_occam.proofs.StepWaits.{step_waits}
use Rattle.vc_occam.specs.SiteActions as action
use Rattle.vc_occam.specs.States.{State, StepsTo, Does, meeting, input, output, waiting}
use Rattle.vc_occam.specs.Traces.{Comm, Out, Fin, In, Stp}
use Rattle.vc_plan.specs.Accepted.{IsAccepted}
use Rattle.vc_plan.specs.declared.plan.Plan.{Plan}
use Rattle.vc_process.specs.Messages.{message}
use Rattle.vc_process.specs.ProcessStep.{Offers, Wants, Chooses, Stops, Meets, Rests, Finishes, Receives}
use Rattle.vc_process.specs.declared.datum.Datum.{Datum}
use Rattle.vc_program.specs.Program.{Program, Move, Makes, Reaches}
use Rattle.vc_switch.specs.Waiting.{Waiting}
use Rattle.vc_tokens.specs.Tokens.{Token}
use Rattle.vc_vcp.specs.Carrier.{End, InHalf}
use Rattle.vc_vcp.specs.Steps as node

-- the message after those that were taken
next_is : (xs : List (List ℕ)) (m l : List ℕ) → slice_get (xs ++ l ∷ []) (length xs) ≡ Some m → l ≡ m
next_is xs m l h = same_Some l m (sym (slice_get_end xs l []) ∙ h)

none_next : (xs : List (List ℕ)) (m : List ℕ) → slice_get xs (length xs) ≡ Some m → ⊥
none_next xs m h = let e : None ≡ Some m = sym (slice_get_past xs (length xs) (omega arith)) ∙ h in cc

-- what an event does: it makes a move of the program; or the meaning stays, and one thing more has begun alone, or less is to come, or nothing
-- has changed but tokens
pub data Nearer (p : Plan) (s : Program) (x : NetworkState) (act : Act) (y : NetworkState) : Type 0 where
  makes_move : (IsNoMove act → ⊥) → (m : Move) (t : Program) → Makes p s m t → Means p y t → Nearer p s x act y
  begins_one : Means p y s → Begins p x y → Nearer p s x act y
  comes_nearer : Means p y s → suc (all_late p y) ≡ all_late p x → Nearer p s x act y
  carries_on : IsNoMove act → Means p y s → all_late p y ≡ all_late p x → all_alone p y ≡ all_alone p x → Nearer p s x act y

module _ (p : Plan) (rule : Waiting) (acc : IsAccepted p) (x y : NetworkState) (ks ls : List (ℕ × Comm)) (rx : SoFar p rule (known_of p acc).ok (kind_on p) (known_of p acc).good x ks) (ry : SoFar p rule (known_of p acc).ok (kind_on p) (known_of p acc).good y ls)
    (ms : List Move) (s : Program) (reaches : Reaches p ms s) (means : Means p x s)
    (n : ℕ) (few : n < length p.nodes) (a b : Node Process) (ea : x.state n ≡ IsNode a) (eb : y.state n ≡ IsNode b) (others : (k : ℕ) → (k ≡ n → ⊥) → y.state k ≡ x.state k) where
  abbrev N : network.Plan
  N = network_of p

  abbrev Views : List (ℕ × rendezvous.Comm) → Type 0
  Views said = (d : ℕ) → DoesAll (view N x d) (part d said) (view N y d)

  abbrev unacked_at : ℕ → List (List ℕ)
  unacked_at c = ((vcps x (source_node N (home N c))).carrier.out c).unacked

  all_same : Views [] → (d : ℕ) → view N y d ≡ view N x d
  all_same v d = v d

  others_same : (c : ℕ) (k : rendezvous.Comm) → Views ((c, k) ∷ []) → (d : ℕ) → (d ≡ c → ⊥) → view N y d ≡ view N x d
  others_same c k v d ne = subst (λ z. DoesAll (view N x d) z (view N y d)) (part_other d c k [] (λ q. ne (sym q))) (v d)

  its_own : (c : ℕ) (k : rendezvous.Comm) → Views ((c, k) ∷ []) → (w : View) × rendezvous.Does (view N x c) k w × (view N y c ≡ w)
  its_own c k v = subst (λ z. DoesAll (view N x c) z (view N y c)) (part_here c k []) (v c)

  -- ---- an output begins

  offers : (i c : ℕ) (m : List ℕ) (e : Datum) (end : End) → m ≡ message e → (network.ends N n).output c ≡ Some end → Views ((c, rendezvous.Out m) ∷ []) → StepsTo a.process.state i (action.Offer c) (Out c e ∷ []) b.process.state → Meant p s x y
  offers i c m e end is here views st = by_course (course p rule acc x ks rx c o.0 o.1 o.2)
    where
      o : (v : ℕ) × (ab : Bool) × (home N c ≡ Way v ab) × (source_node N (Way v ab) ≡ n)
      o = output_here N n c end here

      w : (w : View) × ((length (view N x c).offered ≡ (view N x c).finished) × (w ≡ record (view N x c) { offered = (view N x c).offered ++ m ∷ [] })) × (view N y c ≡ w)
      w = its_own c (rendezvous.Out m) views

      after : view N y c ≡ record (view N x c) { offered = (view N x c).offered ++ m ∷ [] }
      after = w.2 ∙ w.1.1

      ins : (d : ℕ) → total (is_in d) (waiting b.process.state.rest) ≡ total (is_in d) (waiting a.process.state.rest)
      ins d = let r = total_inserted (is_in d) (step_waits st) in omega arith

      by_asked : (k : Bool) → (in_half p x c).wants ≡ k → (view N x c).taken ≡ (view N x c).offered → (view N x c).finished ≡ length (view N x c).offered → total (is_out c) (waiting a.process.state.rest) ≡ 0 → Meant p s x y
      by_asked false asked taken count none =
          keeping.begins_alone p rule acc x y ks ls rx ry ms s reaches means n few a b ea eb others c o.0 o.1 o.2 (others_same c (rendezvous.Out m) views) (λ d ne. ins d) i e st o.3 count taken none
          (ap (λ (z : View). z.offered) after ∙ ap (λ z. (view N x c).offered ++ z ∷ []) is) (ap (λ (z : View). z.taken) after) (ap (λ (z : View). z.finished) after) (ap (λ (z : View). z.stopped) after)
          (keeping.asked_same p rule acc x y ks ls rx ry ms s reaches means n few a b ea eb others c (ins c) (o.0, o.1, o.2)) asked
      by_asked true asked taken count none =
          keeping.passes_on p rule acc x y ks ls rx ry ms s reaches means n few a b ea eb others c o.0 o.1 o.2 (others_same c (rendezvous.Out m) views) (λ d ne. ins d) i e st o.3 count taken none
          (ap (λ (z : View). z.offered) after ∙ ap (λ z. (view N x c).offered ++ z ∷ []) is) (ap (λ (z : View). z.taken) after) (ap (λ (z : View). z.finished) after) (ap (λ (z : View). z.stopped) after)
          (keeping.asked_same p rule acc x y ks ls rx ry ms s reaches means n few a b ea eb others c (ins c) (o.0, o.1, o.2)) asked

      by_course : Course (view N x c) (unacked_at c) → Meant p s x y
      by_course (at_rest taken count idle) = by_asked (in_half p x c).wants refl taken count (source_waits p rule acc x ks rx c o.0 o.1 o.2 n few a ea o.3 ∙ ap under idle)
      by_course (under_way l off count busy) = absurd (let f = w.1.0 in let g = ap length off in let k = length-append (view N x c).taken (l ∷ []) in omega arith)
      by_course (to_end taken count busy) = absurd (let f = w.1.0 in omega arith)

  -- ---- an input or a guard

  module _ (i c : ℕ) (end : End) (may : node.IsOpen (network.ends N n) a.vcp.carrier c end) where
    o2 : (v : ℕ) × (ab : Bool) × (home N c ≡ Way v ab) × (sink_node N (Way v ab) ≡ n)
    o2 = input_here N n c end may.here

    half_x : in_half p x c ≡ a.vcp.carrier.into c
    half_x = in_half_is p rule acc x ks rx c o2.0 o2.1 o2.2 n a ea o2.3

    unasked : (in_half p x c).wants ≡ false
    unasked = ap (λ (z : InHalf). z.wants) half_x ∙ may.idle

    going : (view N x c).stopped ≡ false
    going = stopped_half p rule acc x ks rx c o2.0 o2.1 o2.2 ∙ ap (λ (z : InHalf). z.stopped) half_x ∙ may.not_stopped

    none_in : total (is_in c) (waiting a.process.state.rest) ≡ 0
    none_in = sink_waits p rule acc x ks rx c o2.0 o2.1 o2.2 n few a ea o2.3 ∙ ap bit unasked

    bits_y : total (is_in c) (waiting b.process.state.rest) ≡ bit (in_half p y c).wants
    bits_y = sink_waits p rule acc y ls ry c o2.0 o2.1 o2.2 n few b eb o2.3

    ends2 : source_node N (Way o2.0 o2.1) < length p.nodes
    ends2 = (two_nodes p acc c o2.0 o2.1 o2.2).source

    busy_at : (z : Node Process) → x.state (source_node N (Way o2.0 o2.1)) ≡ IsNode z → (l : List (List ℕ)) → under l ≡ 1 → total (is_out c) (waiting z.process.state.rest) ≡ under l → total (is_out c) (waiting z.process.state.rest) ≡ 1
    busy_at z ez l u e = e ∙ u

    -- it waits
    asks : (g : Option ℕ) → StepsTo a.process.state i (asking g c None) [] b.process.state → (g ≡ None) ⊎ ((m : List ℕ) × ((view N x c).offered ≡ (view N x c).taken ++ m ∷ [])) → Views [] → Meant p s x y
    asks g st some views = by_course (course p rule acc x ks rx c o2.0 o2.1 o2.2)
      where
        same : (d : ℕ) → view N y d ≡ view N x d
        same = all_same views

        w : Contains (waiting b.process.state.rest) (input i c) × (total (is_in c) (waiting b.process.state.rest) ≡ is_in c (input i c) + total (is_in c) (waiting a.process.state.rest)) × ((d : ℕ) → total (is_out d) (waiting b.process.state.rest) ≡ total (is_out d) (waiting a.process.state.rest)) × ((d : ℕ) → (c ≡ d → ⊥) → total (is_in d) (waiting b.process.state.rest) ≡ total (is_in d) (waiting a.process.state.rest))
        w = asking_waits g st

        ins : (d : ℕ) → (d ≡ c → ⊥) → total (is_in d) (waiting b.process.state.rest) ≡ total (is_in d) (waiting a.process.state.rest)
        ins d ne = w.3 d (λ q. ne (sym q))

        asked : (in_half p y c).wants ≡ true
        asked = bit_same (in_half p y c).wants true (sym bits_y ∙ (let f = one_asked c i b.process.state w.0 in by_small (in_half p y c).wants bits_y f))
          where
            by_small : (k : Bool) → total (is_in c) (waiting b.process.state.rest) ≡ bit k → 1 ≤ total (is_in c) (waiting b.process.state.rest) → total (is_in c) (waiting b.process.state.rest) ≡ 1
            by_small true e l = e
            by_small false e l = absurd (omega arith)

        alone : (g ≡ None) ⊎ ((m : List ℕ) × ((view N x c).offered ≡ (view N x c).taken ++ m ∷ [])) → (view N x c).taken ≡ (view N x c).offered → Meant p s x y
        alone (inr f) taken = absurd (never_both (view N x c).taken (view N x c).offered f.0 taken f.1)
        alone (inl e) taken =
            keeping.asks_alone p rule acc x y ks ls rx ry ms s reaches means n few a b ea eb others c o2.0 o2.1 o2.2 (λ d ne. same d) ins o2.3 unasked going (ap (λ (z : View). z.offered) (same c)) (ap (λ (z : View). z.finished) (same c)) (ap (λ (z : View). z.stopped) (same c))
            i (subst (λ z. StepsTo a.process.state i (asking z c None) [] b.process.state) e st) asked taken (ap (λ (z : View). z.taken) (same c))

        by_course : Course (view N x c) (unacked_at c) → Meant p s x y
        by_course (at_rest taken count idle) = alone some taken
        by_course (to_end taken count busy) = alone some taken
        by_course (under_way m off count busy) =
            let mine : MessagePasses p y c m = record {
              on_link = (o2.0, o2.1, o2.2);
              offered = ap (λ (z : View). z.offered) (same c) ∙ off ∙ ap (λ (z : View). z.taken ++ m ∷ []) (sym (same c));
              asked = asked;
            } in
            keeping.waits_on p rule acc x y ks ls rx ry ms s reaches means n few a b ea eb others c o2.0 o2.1 o2.2 (λ d ne. same d) ins o2.3 unasked going (ap (λ (z : View). z.offered) (same c)) (ap (λ (z : View). z.finished) (same c)) (ap (λ (z : View). z.stopped) (same c))
            m off (λ z ez. source_waits p rule acc x ks rx c o2.0 o2.1 o2.2 (source_node N (Way o2.0 o2.1)) ends2 z ez refl ∙ busy) (inr (m, mine)) g i st mine (ap (λ (z : View). z.taken) (same c))

    -- it has its message at once
    has : (g : Option ℕ) (m : List ℕ) (e : Datum) → StepsTo a.process.state i (meeting g c m) (In c e ∷ []) b.process.state → Views ((c, rendezvous.In m) ∷ []) → Meant p s x y
    has g m e st views = by_course (course p rule acc x ks rx c o2.0 o2.1 o2.2)
      where
        w : (w : View) × ((slice_get (view N x c).offered (length (view N x c).taken) ≡ Some m) × ((view N x c).stopped ≡ false) × (w ≡ record (view N x c) { taken = (view N x c).taken ++ m ∷ [] })) × (view N y c ≡ w)
        w = its_own c (rendezvous.In m) views

        after : view N y c ≡ record (view N x c) { taken = (view N x c).taken ++ m ∷ [] }
        after = w.2 ∙ w.1.2

        ins : (d : ℕ) → total (is_in d) (waiting b.process.state.rest) ≡ total (is_in d) (waiting a.process.state.rest)
        ins d = ap (total (is_in d)) (took_waits g m st)

        unasked_y : (in_half p y c).wants ≡ false
        unasked_y = bit_same (in_half p y c).wants false (sym bits_y ∙ ins c ∙ none_in)

        by_course : Course (view N x c) (unacked_at c) → Meant p s x y
        by_course (at_rest taken count idle) = absurd (none_next (view N x c).offered m (subst (λ z. slice_get (view N x c).offered (length z) ≡ Some m) taken w.1.0))
        by_course (to_end taken count busy) = absurd (none_next (view N x c).offered m (subst (λ z. slice_get (view N x c).offered (length z) ≡ Some m) taken w.1.0))
        by_course (under_way l off count busy) =
            let is : l ≡ m = next_is (view N x c).taken m l (subst (λ z. slice_get z (length (view N x c).taken) ≡ Some m) off w.1.0) in
            let off2 : (view N x c).offered ≡ (view N x c).taken ++ m ∷ [] = off ∙ ap (λ z. (view N x c).taken ++ z ∷ []) is in
            let all_y : (view N y c).taken ≡ (view N y c).offered = ap (λ (z : View). z.taken) after ∙ sym off2 ∙ ap (λ (z : View). z.offered) (sym after) in
            let ending : IsUnfinished p y c = record {
              on_link = (o2.0, o2.1, o2.2);
              taken = all_y;
              unfinished = (let f = ap (λ (z : View). length z.offered) after in let g = ap length off2 in let k = length-append (view N x c).taken (m ∷ []) in let j = ap (λ (z : View). z.finished) after in omega arith);
            } in
            keeping.has_at_once p rule acc x y ks ls rx ry ms s reaches means n few a b ea eb others c o2.0 o2.1 o2.2 (others_same c (rendezvous.In m) views) (λ d ne. ins d) o2.3 unasked going (ap (λ (z : View). z.offered) after) (ap (λ (z : View). z.finished) after) (ap (λ (z : View). z.stopped) after)
            m off2 (λ z ez. source_waits p rule acc x ks rx c o2.0 o2.1 o2.2 (source_node N (Way o2.0 o2.1)) ends2 z ez refl ∙ busy) (inl ending) g i e st unasked_y (ap (λ (z : View). z.taken) after)

  -- ---- a message comes, or the end of an output

  receives : (i c : ℕ) (m : List ℕ) (e : Datum) → StepsTo a.process.state i (action.Message m) (In c e ∷ []) b.process.state → Views ((c, rendezvous.In m) ∷ []) → Carried p s x y
  receives i c m e st views = by_course (course p rule acc x ks rx c o.0 o.1 o.2)
    where
      in_same : (k l : ℕ) (f g : Datum) → In k f ∷ [] ≡ In l g ∷ [] → k ≡ l
      in_same k l f g z = cc

      here : 1 ≤ total (is_in c) (waiting a.process.state.rest)
      here = let q = step_waits st in one_asked c i a.process.state (subst (λ z. Contains (waiting a.process.state.rest) (input i z)) (sym (in_same c q.0 e q.1 q.2)) (is_inserted q.3))

      one : (k : Bool) → total (is_in c) (waiting a.process.state.rest) ≡ bit k → bit k ≡ 1
      one true z = refl
      one false z = absurd (omega (arith, here))

      o : (v : ℕ) × (ab : Bool) × (home N c ≡ Way v ab) × (sink_node N (Way v ab) ≡ n)
      o = let r = ready_of p rule acc x ks rx n few a ea in let f = r.in_home c (one (a.vcp.carrier.into c).wants (r.matches.ins c)) in input_here N n c f.0 f.1

      bits_x : total (is_in c) (waiting a.process.state.rest) ≡ bit (in_half p x c).wants
      bits_x = sink_waits p rule acc x ks rx c o.0 o.1 o.2 n few a ea o.3

      asked : (in_half p x c).wants ≡ true
      asked = bit_same (in_half p x c).wants true (one (in_half p x c).wants bits_x)

      counts : total (is_in c) (waiting a.process.state.rest) ≡ suc (total (is_in c) (waiting b.process.state.rest))
      counts = let r = (message_counts c st).1 in let f : is_in c (input i c) ≡ 1 = ap (λ k. if k then 1 else 0) (eq-eqb c c refl) in omega arith

      ins_same : (d : ℕ) → (d ≡ c → ⊥) → total (is_in d) (waiting b.process.state.rest) ≡ total (is_in d) (waiting a.process.state.rest)
      ins_same d ne = let r = (message_counts d st).1 in let f = other_in d c i (λ q. ne (sym q)) in omega arith

      unasked_y : (in_half p y c).wants ≡ false
      unasked_y = bit_same (in_half p y c).wants false (sym (sink_waits p rule acc y ls ry c o.0 o.1 o.2 n few b eb o.3) ∙ (let f = one (in_half p x c).wants bits_x in let g = counts in let k = bits_x in omega arith))

      w : (w : View) × ((slice_get (view N x c).offered (length (view N x c).taken) ≡ Some m) × ((view N x c).stopped ≡ false) × (w ≡ record (view N x c) { taken = (view N x c).taken ++ m ∷ [] })) × (view N y c ≡ w)
      w = its_own c (rendezvous.In m) views

      after : view N y c ≡ record (view N x c) { taken = (view N x c).taken ++ m ∷ [] }
      after = w.2 ∙ w.1.2

      by_course : Course (view N x c) (unacked_at c) → Carried p s x y
      by_course (at_rest taken count idle) = absurd (none_next (view N x c).offered m (subst (λ z. slice_get (view N x c).offered (length z) ≡ Some m) taken w.1.0))
      by_course (to_end taken count busy) = absurd (none_next (view N x c).offered m (subst (λ z. slice_get (view N x c).offered (length z) ≡ Some m) taken w.1.0))
      by_course (under_way l off count busy) =
          let is : l ≡ m = next_is (view N x c).taken m l (subst (λ z. slice_get z (length (view N x c).taken) ≡ Some m) off w.1.0) in
          keeping.message_came p rule acc x y ks ls rx ry ms s reaches means n few a b ea eb others c o.0 o.1 o.2 (others_same c (rendezvous.In m) views) ins_same i m e st o.3 asked unasked_y (off ∙ ap (λ z. (view N x c).taken ++ z ∷ []) is) count
          (ap (λ (z : View). z.offered) after) (ap (λ (z : View). z.taken) after) (ap (λ (z : View). z.finished) after) (ap (λ (z : View). z.stopped) after)

  finishes : (i c : ℕ) → StepsTo a.process.state i action.Finish (Fin c ∷ []) b.process.state → Views ((c, rendezvous.Fin) ∷ []) → Carried p s x y
  finishes i c st views = by_course (course p rule acc x ks rx c o.0 o.1 o.2)
    where
      fin_same : (k l : ℕ) → Fin k ∷ [] ≡ Fin l ∷ [] → k ≡ l
      fin_same k l z = cc

      here : 1 ≤ total (is_out c) (waiting a.process.state.rest)
      here = let q = step_waits st in one_there c i a.process.state (subst (λ z. Contains (waiting a.process.state.rest) (output i z)) (sym (fin_same c q.0 q.1)) (is_inserted q.2))

      one : (l : List (List ℕ)) → total (is_out c) (waiting a.process.state.rest) ≡ under l → under l ≡ 1
      one (k ∷ l) z = refl
      one [] z = absurd (omega (arith, here))

      o : (v : ℕ) × (ab : Bool) × (home N c ≡ Way v ab) × (source_node N (Way v ab) ≡ n)
      o = let r = ready_of p rule acc x ks rx n few a ea in let f = r.out_home c (one (a.vcp.carrier.out c).unacked (r.matches.outs c)) in output_here N n c f.0 f.1

      w : (w : View) × (((view N x c).finished < length (view N x c).taken) × (w ≡ record (view N x c) { finished = suc (view N x c).finished })) × (view N y c ≡ w)
      w = its_own c rendezvous.Fin views

      after : view N y c ≡ record (view N x c) { finished = suc (view N x c).finished }
      after = w.2 ∙ w.1.1

      ins : (d : ℕ) → total (is_in d) (waiting b.process.state.rest) ≡ total (is_in d) (waiting a.process.state.rest)
      ins d = sym (finish_counts d st).1

      by_course : Course (view N x c) (unacked_at c) → Carried p s x y
      by_course (at_rest taken count idle) = absurd (let f = w.1.0 in let g = ap length taken in omega arith)
      by_course (under_way l off count busy) = absurd (let f = w.1.0 in omega arith)
      by_course (to_end taken count busy) =
          keeping.output_ended p rule acc x y ks ls rx ry ms s reaches means n few a b ea eb others c o.0 o.1 o.2 (others_same c rendezvous.Fin views) (λ d ne. ins d) i st o.3 (source_waits p rule acc x ks rx c o.0 o.1 o.2 n few a ea o.3 ∙ busy) taken count
          (ap (λ (z : View). z.offered) after) (ap (λ (z : View). z.taken) after) (ap (λ (z : View). z.finished) after) (ap (λ (z : View). z.stopped) after)
          (keeping.asked_same p rule acc x y ks ls rx ry ms s reaches means n few a b ea eb others c (ins c) (o.0, o.1, o.2))

  -- ---- what the node does

  goes_on : (taken : Option node.Taken) → Views (said_by_pass taken) → (goes : GoesOn does a.process taken b.process) → Carried p s x y
  goes_on None v goes = keeping.nothing_changes p rule acc x y ks ls rx ry ms s reaches means n few a b ea eb others goes (all_same v)
  goes_on (Some (node.Held c)) v goes = keeping.nothing_changes p rule acc x y ks ls rx ry ms s reaches means n few a b ea eb others goes (all_same v)
  goes_on (Some (node.Stored c)) v goes = keeping.nothing_changes p rule acc x y ks ls rx ry ms s reaches means n few a b ea eb others goes (all_same v)
  goes_on (Some (node.More c)) v goes = keeping.nothing_changes p rule acc x y ks ls rx ry ms s reaches means n few a b ea eb others goes (all_same v)
  goes_on (Some node.Stray) v goes = keeping.nothing_changes p rule acc x y ks ls rx ry ms s reaches means n few a b ea eb others goes (all_same v)
  goes_on (Some (node.Complete c m)) v goes = let d = goes.does in receives d.0 c m d.1 (subst (λ z. StepsTo a.process.state d.0 (action.Message m) z b.process.state) d.2 d.3) v
  goes_on (Some (node.Finished c)) v goes = let d = goes.does in finishes d.0 c (subst (λ z. StepsTo a.process.state d.0 action.Finish z b.process.state) d.1 d.2) v

  moved : (m : made.Move) (h : Moves N does n a m b) → Views (said_in N does n a b (Own (Proc m)) h) → Meant p s x y
  moved (made.Offer i c) (m, k, o, rest) v =
      let d = (goes_of a.process b.process (Offers i c m) k).does in
      offers i c m d.0 o.end d.1 o.here v (subst (λ z. StepsTo a.process.state i (action.Offer c) z b.process.state) d.2 d.3)
  moved (made.Want i c) (None, end, k, may, w, rest) v =
      let d = (goes_of a.process b.process (Wants i c None) k).does in
      asks i c end may None (subst (λ z. StepsTo a.process.state i (action.Want c None) z b.process.state) d.0 d.1) (inl refl) v
  moved (made.Want i c) (Some m, end, k, may, w, rest) v =
      let d = (goes_of a.process b.process (Wants i c (Some m)) k).does in
      has i c end may None m d.0 (subst (λ z. StepsTo a.process.state i (action.Want c (Some m)) z b.process.state) d.1 d.2) v
  moved (made.Choose i g c) (None, end, k, may, f, rest) v =
      let d = (goes_of a.process b.process (Chooses i g c None) k).does in
      let o = input_here N n c end may.here in
      asks i c end may (Some g) (subst (λ z. StepsTo a.process.state i (action.Choose g c None) z b.process.state) d.0 d.1)
      (inr (held p rule acc x ks rx c o.0 o.1 o.2 (λ e. (let z : None ≡ Some f.packet = sym e ∙ ap (λ (z : InHalf). z.held) (in_half_is p rule acc x ks rx c o.0 o.1 o.2 n a ea o.3) ∙ f.held in cc)))) v
  moved (made.Choose i g c) (Some m, end, k, may, f, rest) v =
      let d = (goes_of a.process b.process (Chooses i g c (Some m)) k).does in
      has i c end may (Some g) m d.0 (subst (λ z. StepsTo a.process.state i (action.Choose g c (Some m)) z b.process.state) d.1 d.2) v
  moved (made.Stopch i c) (k, h) v =
      let d = (goes_of a.process b.process (Stops i c) k).does in
      let w = its_own c rendezvous.Stp v in
      keeping.stops_channel p rule acc x y ks ls rx ry ms s reaches means n few a b ea eb others i c (others_same c rendezvous.Stp v) (w.2 ∙ w.1) (subst (λ z. StepsTo a.process.state i (action.StopChannel c) z b.process.state) d.0 d.1)
  moved (made.Inner i j g c) (m, k, within, going, vcp, inner) v =
      let d = (goes_of a.process b.process (Meets i j g c m) k).does in
      let shown : view N x c ≡ a.inner c = ap (view_at N x c) within ∙ ap (λ z. inner_of z c) ea in
      let three = inside_three c m v in
      keeping.meets_inside p rule acc x y ks ls rx ry ms s reaches means n few a b ea eb others i j c g m d.0 d.1 d.2 d.3 within (ap (λ (z : View). z.stopped) shown ∙ going) d.4 (inside_others c m v) three.0 three.1 d.6 d.7 d.8
    where
      inside_others : (c : ℕ) (m : List ℕ) → Views ((c, rendezvous.Out m) ∷ (c, rendezvous.In m) ∷ (c, rendezvous.Fin) ∷ []) → (d : ℕ) → (d ≡ c → ⊥) → view N y d ≡ view N x d
      inside_others c m v d ne =
          let far : c ≡ d → ⊥ = λ q. ne (sym q) in
          let e = part_other d c (rendezvous.Out m) ((c, rendezvous.In m) ∷ (c, rendezvous.Fin) ∷ []) far ∙ part_other d c (rendezvous.In m) ((c, rendezvous.Fin) ∷ []) far ∙ part_other d c rendezvous.Fin [] far in
          subst (λ z. DoesAll (view N x d) z (view N y d)) e (v d)

      inside_three : (c : ℕ) (m : List ℕ) → Views ((c, rendezvous.Out m) ∷ (c, rendezvous.In m) ∷ (c, rendezvous.Fin) ∷ []) → ((view N y c).taken ≡ (view N x c).taken ++ m ∷ []) × ((view N y c).stopped ≡ (view N x c).stopped)
      inside_three c m v =
          let e = part_here c (rendezvous.Out m) ((c, rendezvous.In m) ∷ (c, rendezvous.Fin) ∷ []) ∙ ap (λ z. rendezvous.Out m ∷ z) (part_here c (rendezvous.In m) ((c, rendezvous.Fin) ∷ []) ∙ ap (λ z. rendezvous.In m ∷ z) (part_here c rendezvous.Fin [])) in
          let h = subst (λ z. DoesAll (view N x c) z (view N y c)) e (v c) in
          let out = h.1.1 in
          let got = h.2.1.2 in
          let fin = h.2.2.1.1 in
          let last = h.2.2.2 in (
            ap (λ (z : View). z.taken) last ∙ ap (λ (z : View). z.taken) fin ∙ ap (λ (z : View). z.taken) got ∙ ap (λ (z : View). z.taken ++ m ∷ []) out,
            ap (λ (z : View). z.stopped) last ∙ ap (λ (z : View). z.stopped) fin ∙ ap (λ (z : View). z.stopped) got ∙ ap (λ (z : View). z.stopped) out,
          )
  moved (made.Quiet i) (k, vcp, inner) v =
      let d = (goes_of a.process b.process (Rests i) k).does in
      keeping.rests p rule acc x y ks ls rx ry ms s reaches means n few a b ea eb others i (all_same v) (subst (λ z. StepsTo a.process.state i action.Quiet z b.process.state) d.0 d.1)

  by_process : (m : made.Move) → Meant p s x y → Nearer p s x (Proc m) y
  by_process m (begun h k) = begins_one h k
  by_process m (by_move mv t st h) = makes_move (λ z. z) mv t st h

  by_token : {k : Act} → IsNoMove k → Carried p s x y → Nearer p s x k y
  by_token none (less_late h k) = comes_nearer h k
  by_token none (unchanged h k l) = carries_on none h k l

  stays_so : {k : Act} → IsNoMove k → Views [] → b.process ≡ a.process → Nearer p s x k y
  stays_so none v e = by_token none (keeping.nothing_changes p rule acc x y ks ls rx ry ms s reaches means n few a b ea eb others e (all_same v))

  pub node_event : (label : Label Act Token) (h : NodeStep N does n a label b) → Views (said_in N does n a b label h) → Nearer p s x (act_of label) y
  node_event (Own (Proc m)) h v = by_process m (moved m h v)
  node_event (Own (Pass l)) (taken, pass, goes, inner) v = by_token tt (goes_on taken v goes)
  node_event (Takes (Take l word) w k) h v = stays_so tt v h.2.process
  node_event (Puts (Put l) w k) h v = stays_so tt v h.2.process
  node_event (Puts (Fct l) w k) h v = stays_so tt v h.3.process
  node_event d h v = absurd h
