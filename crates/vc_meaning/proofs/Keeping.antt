-- What an event does to what the network's state means.
use Rattle.std.proofs.Common.{◌≡◌, ◌≢◌, ◌⊎◌, inl, inr, ℕ, suc, ◌+◌, ◌-◌, ◌≤◌, ◌<◌, Bool, true, false, List, [], ◌∷◌, ◌++◌, length, slice_get, Option, Some, None, refl, sym, ap, subst, ◌∙◌, arith, length-append, eq-eqb, ne_eqb, if◌then◌else◌, ◌==◌}
use Rattle.std.proofs.lemmas.Bool.{cases_eq}
use Rattle.std.proofs.lemmas.List.{length-map}
use Rattle.std.specs.List.{Contains}
use Rattle.vc_accepted.proofs.Processes.{kind_on}
use Rattle.vc_accepted.specs.NetworkOf.{network_of, home_in}
use Rattle.vc_accepted.specs.Process.{Process}
use Rattle.vc_core.specs.PossibleEvents.{NetworkState}
use Rattle.vc_free.proofs.Delays.{meld, an_input, a_guard}
use Rattle.vc_free.proofs.NodePaths.{SoFar, bit, under, same_node}
use Rattle.vc_free.proofs.PlanChannels.{is_declared}
use Rattle.vc_free.proofs.PutOff.{total, total_inserted, is_out, is_in}
use Rattle.vc_free.proofs.Rest.{output_here, input_here}
use Rattle.vc_free.proofs.RestKnown.{known_of}
use Rattle.vc_free.specs.Delivery.{in_half}
use Rattle.vc_machine.proofs.Basics.{put-same, put-other, every_put}
use Rattle.vc_machine.specs.Rendezvous.{View}
use Rattle.vc_meaning.proofs.Channels.{next_one, never_both, true_false, SameAt, back, output_alone, input_alone, message_passes, is_unfinished, end_is_to_come, have_passed, Carries, carries_same, carries_none, carried}
use Rattle.vc_meaning.proofs.Counting.{some_out, some_in, AheadByNumbers, by_numbers, is_ahead, no_output, no_input, pair_waits, took_waits, triple_waits, bit_same}
use Rattle.vc_meaning.proofs.Ends.{TwoNodes, two_nodes}
use Rattle.vc_meaning.proofs.Known.{Course, at_rest, under_way, to_end, course, is_open, held, kept_of, ready_of, source_waits, sink_waits, no_source, no_sink}
use Rattle.vc_meaning.proofs.Sequences.{IsMove, Kept, kept, ahead_beside, ahead_finish, ahead_append, ahead_kept, ahead_map, ahead_fewer, ahead_outs, ahead_ins, finish_first, message_first, alone_past, alone_append, alone_takes, alone_ends, alone_map, by_input, by_other, own_output, other_output}
use Rattle.vc_meaning.proofs.Measures.{Stands, all_late, all_alone, all_late_same, all_alone_same, late_changes, alone_changes}
use Rattle.vc_meaning.specs.Meaning.{IsOnLink, OutputAlone, InputAlone, MessagePasses, IsUnfinished, EndIsToCome, GetsAhead, all_got, end_comes, message_comes, BeginsAlone, all_begun, output_begins, input_begins, IsAhead, PartMeans, HavePassed, Means}
use Rattle.vc_network.proofs.Wiring.{carried as is_carried}
use Rattle.vc_network.specs.Network.{Node, IsNode}
use Rattle.vc_network.specs.Plan as network
use Rattle.vc_network.specs.Plan.{Way, Inside, home}
use Rattle.vc_network.specs.Views.{vcp_of, source_node, sink_node, view}
use Rattle.vc_occam.proofs.GoingOn.{finishes, receives}
use Rattle.vc_occam.proofs.Insertion.{is_inserted}
use Rattle.vc_occam.proofs.Preservation.{lawful}
use Rattle.vc_occam.proofs.SiteMoves.{offer_on}
use Rattle.vc_occam.proofs.StepWaits.{step_waits}
use Rattle.vc_occam.specs.SiteActions as action
use Rattle.vc_occam.specs.SiteActions.{SiteAction}
use Rattle.vc_occam.specs.States.{State, StepsTo, meeting, input, output, waiting}
use Rattle.vc_occam.specs.Traces.{Comm, Out, Fin, In, Stp}
use Rattle.vc_packets.specs.Functions.{put}
use Rattle.vc_plan.specs.Accepted.{IsAccepted}
use Rattle.vc_plan.specs.declared.plan.Plan.{Plan}
use Rattle.vc_process.specs.Messages.{message}
use Rattle.vc_process.specs.declared.datum.Datum.{Datum}
use Rattle.vc_program.proofs.OneKind.{one_kind}
use Rattle.vc_program.proofs.Reached.{reached}
use Rattle.vc_program.specs.Program.{Program, Move, Goes, Stops, Passes, Makes, goes, stops, passes, Reaches}
use Rattle.vc_program.specs.SiteSteps.{SameKind}
use Rattle.vc_switch.specs.Waiting.{Waiting}

-- one thing more has begun alone
pub record Begins (p : Plan) (x y : NetworkState) : Type 0 where
  pub late : all_late p y ≡ all_late p x
  pub alone : all_alone p y ≡ suc (all_alone p x)

-- the state means what one move leads to, or the same, and one thing more has begun alone
pub data Meant (p : Plan) (s : Program) (x y : NetworkState) : Type 0 where
  begun : Means p y s → Begins p x y → Meant p s x y
  by_move : (m : Move) (t : Program) → Makes p s m t → Means p y t → Meant p s x y

-- it means the same, and less is to come, or nothing has changed
pub data Carried (p : Plan) (s : Program) (x y : NetworkState) : Type 0 where
  less_late : Means p y s → suc (all_late p y) ≡ all_late p x → Carried p s x y
  unchanged : Means p y s → all_late p y ≡ all_late p x → all_alone p y ≡ all_alone p x → Carried p s x y

fin_same : (c d : ℕ) → Fin c ∷ [] ≡ Fin d ∷ [] → c ≡ d
fin_same c d e = cc

message_want : {c : ℕ} {o : Option (List ℕ)} {m : List ℕ} → SameKind (action.Message m) (action.Want c o) → ⊥
message_want k = elim k [ ]

message_choose : {g c : ℕ} {o : Option (List ℕ)} {m : List ℕ} → SameKind (action.Message m) (action.Choose g c o) → ⊥
message_choose k = elim k [ ]

-- the action of an input, or of a guard
abbrev pub asking : Option ℕ → ℕ → Option (List ℕ) → SiteAction
asking None c o = action.Want c o
asking (Some g) c o = action.Choose g c o

is_move : (g : Option ℕ) (c : ℕ) (o : Option (List ℕ)) → IsMove (asking g c o)
is_move None c o = tt
is_move (Some k) c o = tt

meeting_is : (g : Option ℕ) (c : ℕ) (m : List ℕ) → asking g c (Some m) ≡ meeting g c m
meeting_is None c m = refl
meeting_is (Some k) c m = refl

no_message_in : (g : Option ℕ) (c : ℕ) (m a : List ℕ) → meeting g c m ≡ action.Message a → ⊥
no_message_in None c m a e = cc
no_message_in (Some k) c m a e = cc

-- to begin to wait and then have the message is to have it at once
at_once : (g : Option ℕ) {s t u : State} {i c : ℕ} {m : List ℕ} {y : Datum} → StepsTo s i (asking g c None) [] t → StepsTo t i (action.Message m) (In c y ∷ []) u → Kept s → StepsTo s i (meeting g c m) (In c y ∷ []) u
at_once None {s} st st2 k = elim (meld an_input st st2 (lawful s.rest k.uses)) [ inl h ↦ h | inr q ↦ absurd (message_want (one_kind q.first st refl k.sites)) ]
at_once (Some g) {s} st st2 k = elim (meld a_guard st st2 (lawful s.rest k.uses)) [ inl h ↦ h | inr q ↦ absurd (message_choose (one_kind q.first st refl k.sites)) ]

pub asking_waits : (g : Option ℕ) {s t : State} {i c : ℕ} → StepsTo s i (asking g c None) [] t → Contains (waiting t.rest) (input i c) × (total (is_in c) (waiting t.rest) ≡ is_in c (input i c) + total (is_in c) (waiting s.rest)) × ((d : ℕ) → total (is_out d) (waiting t.rest) ≡ total (is_out d) (waiting s.rest)) × ((d : ℕ) → (c ≡ d → ⊥) → total (is_in d) (waiting t.rest) ≡ total (is_in d) (waiting s.rest))
asking_waits None {s} {t} {i} {c} st = (is_inserted (step_waits st), total_inserted (is_in c) (step_waits st), (λ d. let r = total_inserted (is_out d) (step_waits st) in omega arith), (λ d ne. let a = total_inserted (is_in d) (step_waits st) in let b = other_at c d i ne in omega arith))
  where
    other_at : (c d i : ℕ) → (c ≡ d → ⊥) → is_in d (input i c) ≡ 0
    other_at c d i ne = ap (λ b. if b then 1 else 0) (ne_eqb c d ne)
asking_waits (Some g) {s} {t} {i} {c} st = (is_inserted (step_waits st), total_inserted (is_in c) (step_waits st), (λ d. let r = total_inserted (is_out d) (step_waits st) in omega arith), (λ d ne. let a = total_inserted (is_in d) (step_waits st) in let b = other_at c d i ne in omega arith))
  where
    other_at : (c d i : ℕ) → (c ≡ d → ⊥) → is_in d (input i c) ≡ 0
    other_at c d i ne = ap (λ b. if b then 1 else 0) (ne_eqb c d ne)

module _ (p : Plan) (rule : Waiting) (acc : IsAccepted p) (x y : NetworkState) (ks ls : List (ℕ × Comm)) (rx : SoFar p rule (known_of p acc).ok (kind_on p) (known_of p acc).good x ks) (ry : SoFar p rule (known_of p acc).ok (kind_on p) (known_of p acc).good y ls)
    (ms : List Move) (s : Program) (reaches : Reaches p ms s) (means : Means p x s)
    (n : ℕ) (few : n < length p.nodes) (a b : Node Process) (ea : x.state n ≡ IsNode a) (eb : y.state n ≡ IsNode b) (others : (k : ℕ) → (k ≡ n → ⊥) → y.state k ≡ x.state k) where
  abbrev N : network.Plan
  N = network_of p

  abbrev count : ℕ
  count = length p.nodes

  there_kept : (k : ℕ) → k < count → Kept (s.part k)
  there_kept k l = let r = reached p ms s acc reaches in record { uses = r.uses k l; sites = r.sites k l }

  part_of : (k : ℕ) → k < count → (c : Node Process) → x.state k ≡ IsNode c → PartMeans p x c.process.state (s.part k)
  part_of k l c e = let m = means.part k l in subst (λ (z : Node Process). PartMeans p x z.process.state (s.part k)) (same_node m.0 c (sym m.1 ∙ e)) m.2

  a_kept : Kept a.process.state
  a_kept = kept_of p rule acc x ks rx n few a ea

  -- the acting node's part, and the others'
  parts : (Q : ℕ → State) → PartMeans p y b.process.state (Q n) → ((k : ℕ) → k < count → (k ≡ n → ⊥) → (c : Node Process) → x.state k ≡ IsNode c → PartMeans p y c.process.state (Q k)) →
      (k : ℕ) → k < count → (c : Node Process) × (y.state k ≡ IsNode c) × PartMeans p y c.process.state (Q k)
  parts Q here rest k l = elim (cases_eq k n) [
    | inl e ↦ subst (λ z. (c : Node Process) × (y.state z ≡ IsNode c) × PartMeans p y c.process.state (Q z)) (sym e) (b, eb, here)
    | inr ne ↦ (let m = means.part k l in (m.0, others k ne ∙ m.1, rest k l ne m.0 m.1))
  ]

  -- an input waits on a channel where it did, if the acting node's process waits as before
  pub asked_same : (d : ℕ) → total (is_in d) (waiting b.process.state.rest) ≡ total (is_in d) (waiting a.process.state.rest) → IsOnLink p d → (in_half p y d).wants ≡ (in_half p x d).wants
  asked_same d same (v, ab, h) = elim (cases_eq (sink_node N (Way v ab)) n) [
    | inl k ↦ bit_same (in_half p y d).wants (in_half p x d).wants (sym (sink_waits p rule acc y ls ry d v ab h n few b eb k) ∙ same ∙ sink_waits p rule acc x ks rx d v ab h n few a ea k)
    | inr ne ↦ ap (λ z. ((vcp_of z).carrier.into d).wants) (others (sink_node N (home N d)) (λ q. ne (ap (sink_node N) (sym h) ∙ q)))
  ]

  same_at : (d : ℕ) → view N y d ≡ view N x d → total (is_in d) (waiting b.process.state.rest) ≡ total (is_in d) (waiting a.process.state.rest) → SameAt p x y d
  same_at d e same = record {
    offered = ap (λ (z : View). z.offered) e;
    taken = ap (λ (z : View). z.taken) e;
    finished = ap (λ (z : View). z.finished) e;
    asked = λ l. asked_same d same l;
  }

  -- ---- a move by which no message passes on a virtual link, and nothing begins to wait

  -- what such a move leads to
  record Gone (act : SiteAction) (i : ℕ) (cs : List Comm) : Type 0 where
    to : State
    step : StepsTo (s.part n) i act cs to
    part : PartMeans p x b.process.state to

  goes_plain : (i : ℕ) (act : SiteAction) (cs : List Comm) → IsMove act → ((m : List ℕ) → act ≡ action.Message m → ⊥) → ((c : ℕ) → cs ≡ Fin c ∷ [] → ⊥) → StepsTo a.process.state i act cs b.process.state →
      ((u w : State) → StepsTo u i act cs w → waiting w.rest ≡ waiting u.rest) → Gone act i cs
  goes_plain i act cs mv nm nf st waits =
      let q = part_of n few a ea in
      let u = ahead_beside q.ahead st mv a_kept in
      let w = alone_past q.alone u.1 nm (λ c m o. nf c) (there_kept n few) in
      record {
        to = w.0;
        step = w.1;
        part = record {
          both = u.0;
          ahead = u.2;
          all_came = record {
            ends = λ c e j k. q.all_came.ends c e j (subst (λ ws. Contains ws (output j c)) (waits q.both u.0 u.1) k);
            messages = λ c m e j k. q.all_came.messages c m e j (subst (λ ws. Contains ws (input j c)) (waits q.both u.0 u.1) k);
          };
          alone = w.2;
          waits_not = waits (s.part n) w.0 w.1 ∙ q.waits_not;
        };
      }

  -- the other nodes' parts, where each channel shows the same
  rest_same : ((d : ℕ) → SameAt p x y d) → (t : State) (k : ℕ) → k < count → (k ≡ n → ⊥) → (c : Node Process) → x.state k ≡ IsNode c → PartMeans p y c.process.state (put s.part n t k)
  rest_same same t k l ne c e = subst (PartMeans p y c.process.state) (sym (put-other s.part n t k ne)) (carried (part_of k l c e) (λ d. carries_same (same d)))

  part_put : ((d : ℕ) → SameAt p x y d) → (t : State) → PartMeans p x b.process.state t → PartMeans p y b.process.state (put s.part n t n)
  part_put same t q = subst (PartMeans p y b.process.state) (sym (put-same s.part n t)) (carried q (λ d. carries_same (same d)))

  -- an event by which no process goes on
  pub nothing_changes : b.process ≡ a.process → ((d : ℕ) → view N y d ≡ view N x d) → Carried p s x y
  nothing_changes e views =
      let same : (d : ℕ) → SameAt p x y d = λ d. same_at d (views d) (ap (λ (z : Process). total (is_in d) (waiting z.state.rest)) e) in
      unchanged (record {
        part = parts s.part (carried (subst (λ (z : Process). PartMeans p x z.state (s.part n)) (sym e) (part_of n few a ea)) (λ d. carries_same (same d))) (λ k l ne c ec. carried (part_of k l c ec) (λ d. carries_same (same d)));
        stopped = λ d l. means.stopped d l ∙ ap (λ (z : View). z.stopped) (sym (views d));
        passed = λ d l. have_passed (same d) (means.passed d l);
      }) (all_late_same p x y same) (all_alone_same p x y same)

  pub rests : (i : ℕ) → ((d : ℕ) → view N y d ≡ view N x d) → StepsTo a.process.state i action.Quiet [] b.process.state → Meant p s x y
  rests i views st =
      let g = goes_plain i action.Quiet [] tt (λ m e. cc) (λ c e. cc) st (λ u w h. step_waits h) in
      let same : (d : ℕ) → SameAt p x y d = λ d. same_at d (views d) (ap (total (is_in d)) (step_waits st)) in
      by_move (Goes n i) (record s { part = put s.part n g.to }) (goes n i g.to few g.step) (record {
        part = parts (put s.part n g.to) (part_put same g.to g.part) (rest_same same g.to);
        stopped = λ d l. means.stopped d l ∙ ap (λ (z : View). z.stopped) (sym (views d));
        passed = λ d l. have_passed (same d) (means.passed d l);
      })

  pub stops_channel : (i c : ℕ) → ((d : ℕ) → (d ≡ c → ⊥) → view N y d ≡ view N x d) → view N y c ≡ record (view N x c) { stopped = true } → StepsTo a.process.state i (action.StopChannel c) (Stp c ∷ []) b.process.state → Meant p s x y
  stops_channel i c views stop st =
      let g = goes_plain i (action.StopChannel c) (Stp c ∷ []) tt (λ m e. cc) (λ d e. cc) st (λ u w h. step_waits h) in
      let same : (d : ℕ) → SameAt p x y d = λ d. elim (cases_eq d c) [
        | inl e ↦ subst (SameAt p x y) (sym e) (record {
          offered = ap (λ (z : View). z.offered) stop;
          taken = ap (λ (z : View). z.taken) stop;
          finished = ap (λ (z : View). z.finished) stop;
          asked = λ l. asked_same c (ap (total (is_in c)) (step_waits st)) l;
        })
        | inr ne ↦ same_at d (views d ne) (ap (total (is_in d)) (step_waits st))
      ] in
      by_move (Stops n i c) (record s { part = put s.part n g.to; stopped = put s.stopped c true }) (stops n i c g.to few g.step) (record {
        part = parts (put s.part n g.to) (part_put same g.to g.part) (rest_same same g.to);
        stopped = λ d l. elim (cases_eq d c) [
          | inl e ↦ subst (λ z. put s.stopped c true z ≡ (view N y z).stopped) (sym e) (put-same s.stopped c true ∙ ap (λ (z : View). z.stopped) (sym stop))
          | inr ne ↦ put-other s.stopped c true d ne ∙ means.stopped d l ∙ ap (λ (z : View). z.stopped) (sym (views d ne))
        ];
        passed = λ d l. have_passed (same d) (means.passed d l);
      })

  -- ---- a message passes inside a node

  no_end_off : (c : ℕ) → (IsOnLink p c → ⊥) → EndIsToCome p x c → ⊥
  no_end_off c off (inl h) = off h.on_link
  no_end_off c off (inr h) = off h.1.on_link

  no_end_off_y : (c : ℕ) → (IsOnLink p c → ⊥) → EndIsToCome p y c → ⊥
  no_end_off_y c off (inl h) = off h.on_link
  no_end_off_y c off (inr h) = off h.1.on_link

  carries_off : {here both : State} {c : ℕ} → (IsOnLink p c → ⊥) → Carries p x y here both c
  carries_off {c = c} off = record {
    ending = λ l h. absurd (no_end_off c off h);
    coming = λ m l h. absurd (off h.on_link);
    offered = λ m l h. absurd (off h.on_link);
    asked = λ l h. absurd (off h.on_link);
    ended = λ l h. absurd (no_end_off_y c off h);
    came = λ m l h. absurd (off h.on_link);
  }

  asking_move : (g : Option ℕ) (c : ℕ) (m : List ℕ) → IsMove (meeting g c m)
  asking_move None c m = tt
  asking_move (Some k) c m = tt

  three_out : (d : ℕ) {u v w z : State} {i l j c : ℕ} {e f : Datum} (g : Option ℕ) (m : List ℕ) → StepsTo u i (action.Offer c) (Out c e ∷ []) v → StepsTo v j (meeting g c m) (In c f ∷ []) w → StepsTo w l action.Finish (Fin c ∷ []) z → (total (is_out d) (waiting z.rest) ≡ total (is_out d) (waiting u.rest)) × (total (is_in d) (waiting z.rest) ≡ total (is_in d) (waiting u.rest))
  three_out d {u} {v} {w} {z} {i} {l} {j} {c} g m st st2 st3 =
      let a1 = total_inserted (is_out d) (step_waits st) in
      let a2 = ap (total (is_out d)) (took_waits g m st2) in
      let f = step_waits st3 in
      let a3 = total_inserted (is_out d) f.2 in
      let same : is_out d (output l f.0) ≡ is_out d (output i c) = ap (λ k. if k == d then 1 else 0) (sym (fin_same c f.0 f.1)) in
      let b1 = total_inserted (is_in d) (step_waits st) in
      let b2 = ap (total (is_in d)) (took_waits g m st2) in
      let b3 = total_inserted (is_in d) f.2 in
      (omega arith, omega arith)

  pub meets_inside : (i j c : ℕ) (g : Option ℕ) (m : List ℕ) (e f : Datum) (t u : State) → home N c ≡ Inside n → (view N x c).stopped ≡ false → m ≡ message e → ((d : ℕ) → (d ≡ c → ⊥) → view N y d ≡ view N x d) →
      (view N y c).taken ≡ (view N x c).taken ++ m ∷ [] → (view N y c).stopped ≡ (view N x c).stopped → StepsTo a.process.state i (action.Offer c) (Out c e ∷ []) t → StepsTo t j (meeting g c m) (In c f ∷ []) u → StepsTo u i action.Finish (Fin c ∷ []) b.process.state → Meant p s x y
  meets_inside i j c g m e f t u h going is views took stop st st2 st3 =
      let off : IsOnLink p c → ⊥ = λ l. (let z : Way l.0 l.1 ≡ Inside n = sym l.2 ∙ h in cc) in
      let q = part_of n few a ea in
      let k2 = kept {t = t} st a_kept in
      let u1 = ahead_beside q.ahead st tt a_kept in
      let u2 = ahead_beside u1.2 st2 (asking_move g c m) k2 in
      let u3 = ahead_finish (no_end_off c off) u2.2 st3 (kept {t = u} st2 k2) in
      let l1 = there_kept n few in
      let w1 = alone_past q.alone u1.1 (λ z e. cc) (λ d z o e. cc) l1 in
      let w2 = alone_past w1.2 u2.1 (no_message_in g c m) (λ d z o e. cc) (kept w1.1 l1) in
      let w3 = alone_past w2.2 u3.1 (λ z e. cc) (λ d z o e. off (subst (IsOnLink p) (sym (fin_same c d e)) o.on_link)) (kept w2.1 (kept w1.1 l1)) in
      let by = by_numbers q.all_came in
      let new : PartMeans p x b.process.state w3.0 = record {
        both = u3.0;
        ahead = u3.2;
        all_came = is_ahead (record {
          ends = λ d z. (let r = three_out d g m u1.1 u2.1 u3.1 in r.0 ∙ by.ends d z);
          messages = λ d l z. (let r = three_out d g m u1.1 u2.1 u3.1 in r.1 ∙ by.messages d l z);
        });
        alone = w3.2;
        waits_not = triple_waits g m w1.1 w2.1 w3.1 q.waits_not;
      } in
      let carries : (here both : State) (d : ℕ) → Carries p x y here both d = λ here both d. elim (cases_eq d c) [
        | inl z ↦ carries_off (subst (λ k. IsOnLink p k → ⊥) (sym z) off)
        | inr ne ↦ carries_same (same_at d (views d ne) (three_out d g m st st2 st3).1)
      ] in
      let less = is_declared p ms s acc reaches n c few (offer_on w1.1) in
      let free : s.stopped c ≡ false = means.stopped c less ∙ going in
      let Q = put (put (put s.part n w1.0) n w2.0) n w3.0 in
      by_move (Passes c n i n j g) (record s { part = Q; passed = put s.passed c (s.passed c ++ message e ∷ []) })
      (passes c n i n j g e f w1.0 w2.0 w3.0 few few free w1.1
      (subst (λ z. StepsTo z j (meeting g c (message e)) (In c f ∷ []) w2.0) (sym (put-same s.part n w1.0)) (subst (λ z. StepsTo w1.0 j (meeting g c z) (In c f ∷ []) w2.0) is w2.1))
      (subst (λ z. StepsTo z i action.Finish (Fin c ∷ []) w3.0) (sym (put-same (put s.part n w1.0) n w2.0)) w3.1))
      (record {
        part = parts Q (subst (PartMeans p y b.process.state) (sym (put-same (put (put s.part n w1.0) n w2.0) n w3.0)) (carried new (carries b.process.state u3.0)))
            (λ k l ne z ez. subst (PartMeans p y z.process.state) (sym (put-other (put (put s.part n w1.0) n w2.0) n w3.0 k ne ∙ put-other (put s.part n w1.0) n w2.0 k ne ∙ put-other s.part n w1.0 k ne))
            (let o = part_of k l z ez in carried o (carries z.process.state o.both)));
        stopped = λ d l. means.stopped d l ∙ sym (elim (cases_eq d c) [ inl z ↦ subst (λ k. (view N y k).stopped ≡ (view N x k).stopped) (sym z) stop | inr ne ↦ ap (λ (z : View). z.stopped) (views d ne) ]);
        passed = λ d l. elim (cases_eq d c) [
          | inl z ↦ subst (λ k. HavePassed p y k (put s.passed c (s.passed c ++ message e ∷ []) k)) (sym z) (record {
            passing = λ k o. absurd (off o.on_link);
            taken = λ none. put-same s.passed c (s.passed c ++ message e ∷ []) ∙ ap (λ k. k ++ message e ∷ []) ((means.passed c less).taken (λ k o. off o.on_link)) ∙ ap (λ k. (view N x c).taken ++ k ∷ []) (sym is) ∙ sym took;
          })
          | inr ne ↦ subst (HavePassed p y d) (sym (put-other s.passed c (s.passed c ++ message e ∷ []) d ne)) (have_passed (same_at d (views d ne) (three_out d g m st st2 st3).1) (means.passed d l))
        ];
      })

  -- ---- an event of a channel on a virtual link

  module _ (c v : ℕ) (ab : Bool) (h : home N c ≡ Way v ab) (views : (d : ℕ) → (d ≡ c → ⊥) → view N y d ≡ view N x d)
      (same_ins : (d : ℕ) → (d ≡ c → ⊥) → total (is_in d) (waiting b.process.state.rest) ≡ total (is_in d) (waiting a.process.state.rest)) where
    abbrev src : ℕ
    src = source_node N (Way v ab)

    abbrev snk : ℕ
    snk = sink_node N (Way v ab)

    on_link : IsOnLink p c
    on_link = (v, ab, h)

    less : c < length p.channels
    less = subst (λ z. c < z) (length-map p.channels home_in) (is_carried N c v ab h).0

    ends : TwoNodes p v ab
    ends = two_nodes p acc c v ab h

    there_at : (d : ℕ) → (d ≡ c → ⊥) → SameAt p x y d
    there_at d ne = same_at d (views d ne) (same_ins d ne)

    carries_at : {here both : State} → Carries p x y here both c → (d : ℕ) → Carries p x y here both d
    carries_at {here} {both} k d = elim (cases_eq d c) [ inl e ↦ subst (Carries p x y here both) (sym e) k | inr ne ↦ carries_same (there_at d ne) ]

    no_outs : (k : ℕ) → k < count → (z : Node Process) → x.state k ≡ IsNode z → (src ≡ k → ⊥) → total (is_out c) (waiting z.process.state.rest) ≡ 0
    no_outs k l z e ne = no_source p rule acc x ks rx c v ab h k l z e ne

    no_ins : (k : ℕ) → k < count → (z : Node Process) → x.state k ≡ IsNode z → (snk ≡ k → ⊥) → total (is_in c) (waiting z.process.state.rest) ≡ 0
    no_ins k l z e ne = no_sink p rule acc x ks rx c v ab h k l z e ne

    -- a node at neither end
    bystander : (k : ℕ) → k < count → (z : Node Process) → x.state k ≡ IsNode z → (src ≡ k → ⊥) → (snk ≡ k → ⊥) → PartMeans p y z.process.state (s.part k)
    bystander k l z e ne ne2 =
        let q = part_of k l z e in
        let w = ahead_fewer c q.ahead in
        carried q (carries_at (carries_none (no_outs k l z e ne) (no_ins k l z e ne2) w.0 w.1))

    stopped_same : (view N y c).stopped ≡ (view N x c).stopped → (d : ℕ) → d < length p.channels → s.stopped d ≡ (view N y d).stopped
    stopped_same e d l = means.stopped d l ∙ sym (elim (cases_eq d c) [ inl z ↦ subst (λ k. (view N y k).stopped ≡ (view N x k).stopped) (sym z) e | inr ne ↦ ap (λ (z : View). z.stopped) (views d ne) ])

    passed_at : HavePassed p y c (s.passed c) → (d : ℕ) → d < length p.channels → HavePassed p y d (s.passed d)
    passed_at here d l = elim (cases_eq d c) [ inl e ↦ subst (λ z. HavePassed p y z (s.passed z)) (sym e) here | inr ne ↦ have_passed (there_at d ne) (means.passed d l) ]

    passed_one : (m : List ℕ) → HavePassed p y c (s.passed c ++ m ∷ []) → (d : ℕ) → d < length p.channels → HavePassed p y d (put s.passed c (s.passed c ++ m ∷ []) d)
    passed_one m here d l = elim (cases_eq d c) [
      | inl e ↦ subst (λ z. HavePassed p y z (put s.passed c (s.passed c ++ m ∷ []) z)) (sym e) (subst (HavePassed p y c) (sym (put-same s.passed c (s.passed c ++ m ∷ []))) here)
      | inr ne ↦ subst (HavePassed p y d) (sym (put-other s.passed c (s.passed c ++ m ∷ []) d ne)) (have_passed (there_at d ne) (means.passed d l))
    ]

    -- the meaning is kept: the acting node's part, and those of the two ends
    stays : PartMeans p y b.process.state (s.part n) → ((k : ℕ) → k < count → (k ≡ n → ⊥) → (z : Node Process) → x.state k ≡ IsNode z → PartMeans p y z.process.state (s.part k)) → (view N y c).stopped ≡ (view N x c).stopped → HavePassed p y c (s.passed c) → Means p y s
    stays here rest stop pass = record { part = parts s.part here rest; stopped = stopped_same stop; passed = passed_at pass }

    -- what is to come of other channels, by numbers, of a process that waits as another but on this channel
    ahead_at : (z u : State) → AheadByNumbers p x z → ((d : ℕ) → (d ≡ c → ⊥) → (total (is_out d) (waiting u.rest) ≡ total (is_out d) (waiting z.rest)) × (total (is_in d) (waiting u.rest) ≡ total (is_in d) (waiting z.rest))) →
        (EndIsToCome p y c → total (is_out c) (waiting u.rest) ≡ 0) → ((m : List ℕ) → MessagePasses p y c m → total (is_in c) (waiting u.rest) ≡ 0) → IsAhead p y u
    ahead_at z u by same f g = is_ahead (record {
      ends = λ d e. elim (cases_eq d c) [
        | inl k ↦ subst (λ j. total (is_out j) (waiting u.rest) ≡ 0) (sym k) (f (subst (EndIsToCome p y) k e))
        | inr ne ↦ (same d ne).0 ∙ by.ends d (end_is_to_come (back (there_at d ne)) e)
      ];
      messages = λ d m e. elim (cases_eq d c) [
        | inl k ↦ subst (λ j. total (is_in j) (waiting u.rest) ≡ 0) (sym k) (g m (subst (λ j. MessagePasses p y j m) k e))
        | inr ne ↦ (same d ne).1 ∙ by.messages d m (message_passes (back (there_at d ne)) e)
      ];
    })

    -- what is to come, and what has begun alone, is so in the new state where this channel has no part in it
    map_ahead : {u z : State} → GetsAhead (EndIsToCome p x) (MessagePasses p x) u z → (1 ≤ total (is_out c) (waiting u.rest) → EndIsToCome p x c → EndIsToCome p y c) → ((m : List ℕ) → 1 ≤ total (is_in c) (waiting u.rest) → MessagePasses p x c m → MessagePasses p y c m) →
        GetsAhead (EndIsToCome p y) (MessagePasses p y) u z
    map_ahead {u} {z} k f g = ahead_map k
        (λ d l e. elim (cases_eq d c) [ inl q ↦ subst (EndIsToCome p y) (sym q) (f (subst (λ j. 1 ≤ total (is_out j) (waiting u.rest)) q l) (subst (EndIsToCome p x) q e)) | inr ne ↦ end_is_to_come (there_at d ne) e ])
        (λ d m l e. elim (cases_eq d c) [ inl q ↦ subst (λ j. MessagePasses p y j m) (sym q) (g m (subst (λ j. 1 ≤ total (is_in j) (waiting u.rest)) q l) (subst (λ j. MessagePasses p x j m) q e)) | inr ne ↦ message_passes (there_at d ne) e ])

    map_alone : {u z : State} → BeginsAlone (OutputAlone p x) (InputAlone p x) u z → ((m : List ℕ) → 1 ≤ total (is_out c) (waiting z.rest) → OutputAlone p x c m → OutputAlone p y c m) → (1 ≤ total (is_in c) (waiting z.rest) → InputAlone p x c → InputAlone p y c) →
        BeginsAlone (OutputAlone p y) (InputAlone p y) u z
    map_alone {u} {z} k f g = alone_map k
        (λ d m l e. elim (cases_eq d c) [ inl q ↦ subst (λ j. OutputAlone p y j m) (sym q) (f m (subst (λ j. 1 ≤ total (is_out j) (waiting z.rest)) q l) (subst (λ j. OutputAlone p x j m) q e)) | inr ne ↦ output_alone (there_at d ne) e ])
        (λ d l e. elim (cases_eq d c) [ inl q ↦ subst (InputAlone p y) (sym q) (g (subst (λ j. 1 ≤ total (is_in j) (waiting z.rest)) q l) (subst (InputAlone p x) q e)) | inr ne ↦ input_alone (there_at d ne) e ])

    -- numbers of a channel other than this one
    other_out : (d i : ℕ) → (d ≡ c → ⊥) → is_out d (output i c) ≡ 0
    other_out d i ne = ap (λ k. if k then 1 else 0) (ne_eqb c d (λ q. ne (sym q)))

    other_in : (d i : ℕ) → (d ≡ c → ⊥) → is_in d (input i c) ≡ 0
    other_in d i ne = ap (λ k. if k then 1 else 0) (ne_eqb c d (λ q. ne (sym q)))

    its_out : (i : ℕ) → is_out c (output i c) ≡ 1
    its_out i = ap (λ k. if k then 1 else 0) (eq-eqb c c refl)

    its_in : (i : ℕ) → is_in c (input i c) ≡ 1
    its_in i = ap (λ k. if k then 1 else 0) (eq-eqb c c refl)

    offer_counts : {u z : State} {i : ℕ} {e : Datum} → StepsTo u i (action.Offer c) (Out c e ∷ []) z → (total (is_out c) (waiting z.rest) ≡ suc (total (is_out c) (waiting u.rest))) × ((d : ℕ) → (d ≡ c → ⊥) → total (is_out d) (waiting z.rest) ≡ total (is_out d) (waiting u.rest)) × ((d : ℕ) → total (is_in d) (waiting z.rest) ≡ total (is_in d) (waiting u.rest))
    offer_counts {u} {z} {i} st = (
      (let r = total_inserted (is_out c) (step_waits st) in let o = its_out i in omega arith),
      (λ d ne. let r = total_inserted (is_out d) (step_waits st) in let o = other_out d i ne in omega arith),
      (λ d. let r = total_inserted (is_in d) (step_waits st) in omega arith),
    )

    end_counts : {u z : State} {i : ℕ} → StepsTo u i action.Finish (Fin c ∷ []) z → (total (is_out c) (waiting u.rest) ≡ suc (total (is_out c) (waiting z.rest))) × ((d : ℕ) → (d ≡ c → ⊥) → total (is_out d) (waiting z.rest) ≡ total (is_out d) (waiting u.rest)) × ((d : ℕ) → total (is_in d) (waiting z.rest) ≡ total (is_in d) (waiting u.rest))
    end_counts {u} {z} {i} st =
        let w = step_waits st in
        let same = fin_same c w.0 w.1 in (
          (let r = total_inserted (is_out c) w.2 in let o = its_out i in let q : is_out c (output i w.0) ≡ is_out c (output i c) = ap (λ k. is_out c (output i k)) (sym same) in omega arith),
          (λ d ne. let r = total_inserted (is_out d) w.2 in let o = other_out d i ne in let q : is_out d (output i w.0) ≡ is_out d (output i c) = ap (λ k. is_out d (output i k)) (sym same) in omega arith),
          (λ d. let r = total_inserted (is_in d) w.2 in omega arith),
        )

    in_same : (k l : ℕ) (e f : Datum) → In k e ∷ [] ≡ In l f ∷ [] → k ≡ l
    in_same k l e f z = cc

    message_counts : {u z : State} {i : ℕ} {m : List ℕ} {e : Datum} → StepsTo u i (action.Message m) (In c e ∷ []) z → (total (is_in c) (waiting u.rest) ≡ suc (total (is_in c) (waiting z.rest))) × ((d : ℕ) → (d ≡ c → ⊥) → total (is_in d) (waiting z.rest) ≡ total (is_in d) (waiting u.rest)) × ((d : ℕ) → total (is_out d) (waiting z.rest) ≡ total (is_out d) (waiting u.rest))
    message_counts {u} {z} {i} {m} {e} st =
        let w = step_waits st in
        let same = in_same c w.0 e w.1 w.2 in (
          (let r = total_inserted (is_in c) w.3 in let o = its_in i in let q : is_in c (input i w.0) ≡ is_in c (input i c) = ap (λ k. is_in c (input i k)) (sym same) in omega arith),
          (λ d ne. let r = total_inserted (is_in d) w.3 in let o = other_in d i ne in let q : is_in d (input i w.0) ≡ is_in d (input i c) = ap (λ k. is_in d (input i k)) (sym same) in omega arith),
          (λ d. let r = total_inserted (is_out d) w.3 in omega arith),
        )

    -- ---- an output begins

    module _ (i : ℕ) (e : Datum) (st : StepsTo a.process.state i (action.Offer c) (Out c e ∷ []) b.process.state) (is_src : src ≡ n) (idle : (view N x c).finished ≡ length (view N x c).offered) (all_taken : (view N x c).taken ≡ (view N x c).offered) (nothing : total (is_out c) (waiting a.process.state.rest) ≡ 0)
        (offers : (view N y c).offered ≡ (view N x c).offered ++ message e ∷ []) (takes : (view N y c).taken ≡ (view N x c).taken) (ends_same : (view N y c).finished ≡ (view N x c).finished) (stop : (view N y c).stopped ≡ (view N x c).stopped) (asks : (in_half p y c).wants ≡ (in_half p x c).wants) where
      abbrev m : List ℕ
      m = message e

      not_sink : snk ≡ n → ⊥
      not_sink k = ends.apart (is_src ∙ sym k)

      none_passes : (l : List ℕ) → MessagePasses p x c l → ⊥
      none_passes l k = never_both (view N x c).taken (view N x c).offered l all_taken k.offered

      no_end_x : EndIsToCome p x c → ⊥
      no_end_x (inl k) = (let z = k.unfinished in omega arith)
      no_end_x (inr k) = none_passes k.0 k.1

      not_alone_x : (l : List ℕ) → OutputAlone p x c l → ⊥
      not_alone_x l k = never_both (view N x c).taken (view N x c).offered l all_taken k.offered

      under_way_y : (view N y c).offered ≡ (view N y c).taken ++ m ∷ []
      under_way_y = offers ∙ ap (λ z. z ++ m ∷ []) (sym all_taken ∙ sym takes)

      not_all_y : (view N y c).taken ≡ (view N y c).offered → ⊥
      not_all_y k = never_both (view N y c).taken (view N y c).offered m k under_way_y

      q : PartMeans p x a.process.state (s.part n)
      q = part_of n few a ea

      by : AheadByNumbers p x q.both
      by = by_numbers q.all_came

      u : (z : State) × StepsTo q.both i (action.Offer c) (Out c e ∷ []) z × GetsAhead (EndIsToCome p x) (MessagePasses p x) b.process.state z
      u = ahead_beside q.ahead st tt a_kept

      none_out : total (is_out c) (waiting q.both.rest) ≡ 0
      none_out = let f = (ahead_fewer c q.ahead).0 in omega arith

      none_in : total (is_in c) (waiting q.both.rest) ≡ 0
      none_in = let f = (ahead_fewer c q.ahead).1 in let g = no_ins n few a ea not_sink in omega arith

      stands_x_at : (w : Bool) → (in_half p x c).wants ≡ w → Stands p x c 0 0 w
      stands_x_at w e = record { not_taken = (let r = ap length all_taken in omega arith); not_finished = (let r = idle in omega arith); asked = e }

      stands_y : (in_half p x c).wants ≡ false → Stands p y c 1 1 false
      stands_y unasked = record {
        not_taken = (let r = ap length under_way_y in let f = length-append (view N y c).taken (m ∷ []) in omega arith);
        not_finished = (let r = ap length offers in let f = length-append (view N x c).offered (m ∷ []) in let k = ends_same in let l = idle in omega arith);
        asked = asks ∙ unasked;
      }

      pub begins_alone : (in_half p x c).wants ≡ false → Meant p s x y
      begins_alone unasked =
          let mine : OutputAlone p y c m = record { on_link = on_link; offered = under_way_y; unasked = asks ∙ unasked } in
          let none_y : (l : List ℕ) → MessagePasses p y c l → ⊥ = λ l k. true_false (in_half p y c).wants k.asked (asks ∙ unasked) in
          let no_end_y : EndIsToCome p y c → ⊥ = λ k. elim k [ inl z ↦ not_all_y z.taken | inr z ↦ none_y z.0 z.1 ] in
          let w = offer_counts u.1 in
          begun (stays
          (record {
            both = u.0;
            ahead = map_ahead u.2 (λ l k. absurd (no_end_x k)) (λ o l k. absurd (none_passes o k));
            all_came = ahead_at q.both u.0 by (λ d ne. (w.1 d ne, w.2 d)) (λ k. absurd (no_end_y k)) (λ o k. absurd (none_y o k));
            alone = alone_append (map_alone q.alone (λ o l k. absurd (not_alone_x o k)) (λ l k. absurd (true_false (in_half p x c).wants k.asked unasked))) (output_begins mine u.1 all_begun);
            waits_not = q.waits_not;
          })
          (λ k l ne z ez.
          let o = part_of k l z ez in
          let f = ahead_fewer c o.ahead in
          let outs = no_outs k l z ez (λ g. ne (sym g ∙ is_src)) in
          let ins : total (is_in c) (waiting z.process.state.rest) ≡ 0 = elim (cases_eq snk k) [ inl g ↦ sink_waits p rule acc x ks rx c v ab h k l z ez g ∙ ap bit unasked | inr g ↦ no_ins k l z ez g ] in
          carried o (carries_at (carries_none outs ins f.0 f.1)))
          stop
          (record {
            passing = λ l k. absurd (none_y l k);
            taken = λ none. (means.passed c less).taken none_passes ∙ sym takes;
          })) (record {
            late = (let r = late_changes p x y c v ab h less there_at 0 0 1 1 false false (stands_x_at false unasked) (stands_y unasked) in omega arith);
            alone = (let r = alone_changes p x y c v ab h less there_at 0 0 1 1 false false (stands_x_at false unasked) (stands_y unasked) in omega arith);
          })

      -- the process whose input has begun, once it has the message
      record Received (z : Node Process) : Type 0 where
        to : State
        site : ℕ
        datum : Datum
        step : StepsTo (s.part snk) site (action.Want c (Some m)) (In c datum ∷ []) to
        part : PartMeans p y z.process.state to

      receiver : (z : Node Process) → x.state snk ≡ IsNode z → PartMeans p x z.process.state (s.part snk) → (in_half p x c).wants ≡ true → MessagePasses p y c m → Received z
      receiver z ez o asked mine =
          let one : total (is_in c) (waiting z.process.state.rest) ≡ 1 = sink_waits p rule acc x ks rx c v ab h snk ends.sink z ez refl ∙ ap bit asked in
          let out0 = no_outs snk ends.sink z ez ends.apart in
          let ins = ahead_ins c none_passes o.ahead in
          let outs = (ahead_fewer c o.ahead).0 in
          let at = some_in c (waiting o.both.rest) (omega arith) in
          let got = receives o.both.rest o.both.store at.0 c m at.1 in
          let z3 : State = record { rest = got.1; store = got.2 } in
          let w = message_counts {z = z3} got.3 in
          let none_left : total (is_in c) (waiting z3.rest) ≡ 0 = (let r = w.0 in omega arith) in
          let none_sent : total (is_out c) (waiting z3.rest) ≡ 0 = (let r = w.2 c in omega arith) in
          let t = alone_takes {z2 = z3} o.alone got.3 (there_kept snk ends.sink) in elim t.1 [
            | by_input {j = j} st2 ↦ record {
              to = t.0;
              site = j;
              datum = got.0;
              step = st2;
              part = record {
                both = z3;
                ahead = ahead_append (map_ahead o.ahead (λ l k. absurd (no_end_x k)) (λ f l k. absurd (none_passes f k))) (message_comes mine got.3 all_got);
                all_came = ahead_at o.both z3 (by_numbers o.all_came) (λ d ne. (w.2 d, w.1 d ne)) (λ k. none_sent) (λ f k. none_left);
                alone = map_alone t.2 (λ f l k. absurd (not_alone_x f k)) (λ l k. absurd (omega (arith, none_left)));
                waits_not = step_waits st2 ∙ o.waits_not;
              };
            }
            | by_other st2 ↦ absurd (let r = step_waits st2 in no_input (s.part snk) o.waits_not (is_inserted r.3))
          ]

      -- an input of its message has begun: the message passes
      pub passes_on : (in_half p x c).wants ≡ true → Meant p s x y
      passes_on asked =
          let mine : MessagePasses p y c m = record { on_link = on_link; offered = under_way_y; asked = asks ∙ asked } in
          let only : (l : List ℕ) → MessagePasses p y c l → l ≡ m = λ l k. next_one (view N y c).taken l m (sym k.offered ∙ under_way_y) in
          let w = offer_counts u.1 in
          let fin = (finishes u.0.rest u.0.store i c (is_inserted (step_waits u.1))).2 in
          let z2 : State = record { rest = (finishes u.0.rest u.0.store i c (is_inserted (step_waits u.1))).0; store = (finishes u.0.rest u.0.store i c (is_inserted (step_waits u.1))).1 } in
          let w2 = end_counts {z = z2} fin in
          let l1 = there_kept n few in
          let t1 = alone_past q.alone u.1 (λ k z. cc) (λ d k o z. cc) l1 in
          let t2 = alone_past {z2 = z2} t1.2 fin (λ k z. cc) (λ d k o z. not_alone_x k (subst (λ j. OutputAlone p x j k) (sym (fin_same c d z)) o)) (kept t1.1 l1) in
          let none_out2 : total (is_out c) (waiting z2.rest) ≡ 0 = (let r = w2.0 in let r2 = w.0 in omega (arith, none_out)) in
          let none_in2 : total (is_in c) (waiting z2.rest) ≡ 0 = w2.2 c ∙ w.2 c ∙ none_in in
          let sender : PartMeans p y b.process.state t2.0 = record {
            both = z2;
            ahead = ahead_append (map_ahead u.2 (λ l k. absurd (no_end_x k)) (λ o l k. absurd (none_passes o k))) (end_comes (inr (m, mine)) fin all_got);
            all_came = ahead_at q.both z2 by (λ d ne. (w2.1 d ne ∙ w.1 d ne, w2.2 d ∙ w.2 d)) (λ k. none_out2) (λ o k. none_in2);
            alone = map_alone t2.2 (λ o l k. absurd (not_alone_x o k)) (λ l k. absurd (omega (arith, none_in2)));
            waits_not = pair_waits t1.1 t2.1 q.waits_not;
          } in
          let r = means.part snk ends.sink in
          let got = receiver r.0 r.1 r.2 asked mine in
          let free : s.stopped c ≡ false = means.stopped c less ∙ is_open p rule acc x ks rx c v ab h asked in
          let Q = put (put (put s.part n t1.0) snk got.to) n t2.0 in
          let far : src ≡ snk → ⊥ = ends.apart in
          let apart : snk ≡ n → ⊥ = not_sink in
          by_move (Passes c n i snk got.site None) (record s { part = Q; passed = put s.passed c (s.passed c ++ message e ∷ []) })
          (passes c n i snk got.site None e got.datum t1.0 got.to t2.0 few ends.sink free t1.1
          (subst (λ z. StepsTo z got.site (action.Want c (Some m)) (In c got.datum ∷ []) got.to) (sym (put-other s.part n t1.0 snk apart)) got.step)
          (subst (λ z. StepsTo z i action.Finish (Fin c ∷ []) t2.0) (sym (put-other (put s.part n t1.0) snk got.to n (λ k. apart (sym k)) ∙ put-same s.part n t1.0)) t2.1))
          (record {
            part = parts Q (subst (PartMeans p y b.process.state) (sym (put-same (put (put s.part n t1.0) snk got.to) n t2.0)) sender)
                (λ k l ne z ez. subst (PartMeans p y z.process.state) (sym (put-other (put (put s.part n t1.0) snk got.to) n t2.0 k ne)) (elim (cases_eq k snk) [
                  | inl g ↦ subst (PartMeans p y z.process.state) (sym (ap (put (put s.part n t1.0) snk got.to) g ∙ put-same (put s.part n t1.0) snk got.to))
                      (subst (λ (f : Node Process). PartMeans p y f.process.state got.to) (same_node r.0 z (sym r.1 ∙ ap x.state (sym g) ∙ ez)) got.part)
                  | inr ne2 ↦ subst (PartMeans p y z.process.state) (sym (put-other (put s.part n t1.0) snk got.to k ne2 ∙ put-other s.part n t1.0 k ne)) (bystander k l z ez (λ g. ne (sym g ∙ is_src)) (λ g. ne2 (sym g)))
                ]));
            stopped = stopped_same stop;
            passed = passed_one m (record {
              passing = λ l k. ap (λ z. z ++ m ∷ []) ((means.passed c less).taken none_passes ∙ sym takes) ∙ ap (λ z. (view N y c).taken ++ z ∷ []) (sym (only l k));
              taken = λ none. absurd (none m mine);
            });
          })

    -- ---- an input or a guard begins, or has its message at once

    module _ (is_snk : snk ≡ n) (unasked : (in_half p x c).wants ≡ false) (going : (view N x c).stopped ≡ false) (offered_same : (view N y c).offered ≡ (view N x c).offered) (ends_same : (view N y c).finished ≡ (view N x c).finished) (stop : (view N y c).stopped ≡ (view N x c).stopped) where
      not_source : src ≡ n → ⊥
      not_source k = ends.apart (k ∙ sym is_snk)

      none_passes2 : (l : List ℕ) → MessagePasses p x c l → ⊥
      none_passes2 l k = true_false (in_half p x c).wants k.asked unasked

      not_asked_x : InputAlone p x c → ⊥
      not_asked_x k = true_false (in_half p x c).wants k.asked unasked

      q2 : PartMeans p x a.process.state (s.part n)
      q2 = part_of n few a ea

      by2 : AheadByNumbers p x q2.both
      by2 = by_numbers q2.all_came

      none_out3 : total (is_out c) (waiting q2.both.rest) ≡ 0
      none_out3 = let f = (ahead_fewer c q2.ahead).0 in let g = no_outs n few a ea not_source in omega arith

      none_in3 : total (is_in c) (waiting q2.both.rest) ≡ 0
      none_in3 = let f = (ahead_fewer c q2.ahead).1 in let g = sink_waits p rule acc x ks rx c v ab h n few a ea is_snk ∙ ap bit unasked in omega arith

      -- no output of its message has begun
      pub asks_alone : (i : ℕ) → StepsTo a.process.state i (action.Want c None) [] b.process.state → (in_half p y c).wants ≡ true → (view N x c).taken ≡ (view N x c).offered → (view N y c).taken ≡ (view N x c).taken → Meant p s x y
      asks_alone i st asked all_taken takes =
          let all_y : (view N y c).taken ≡ (view N y c).offered = takes ∙ all_taken ∙ sym offered_same in
          let mine : InputAlone p y c = record { on_link = on_link; taken = all_y; asked = asked } in
          let none_y : (l : List ℕ) → MessagePasses p y c l → ⊥ = λ l k. never_both (view N y c).taken (view N y c).offered l all_y k.offered in
          let not_alone : (l : List ℕ) → OutputAlone p x c l → ⊥ = λ l k. never_both (view N x c).taken (view N x c).offered l all_taken k.offered in
          let to_y : EndIsToCome p x c → EndIsToCome p y c = λ k. elim k [ inl z ↦ inl (record { on_link = on_link; taken = all_y; unfinished = ap length offered_same ∙ z.unfinished ∙ ap suc (sym ends_same) }) | inr z ↦ absurd (none_passes2 z.0 z.1) ] in
          let to_x : EndIsToCome p y c → EndIsToCome p x c = λ k. elim k [ inl z ↦ inl (record { on_link = on_link; taken = all_taken; unfinished = ap length (sym offered_same) ∙ z.unfinished ∙ ap suc ends_same }) | inr z ↦ absurd (none_y z.0 z.1) ] in
          let u = ahead_beside q2.ahead st tt a_kept in
          let w = asking_waits None u.1 in
          let open_now = length (view N x c).offered - (view N x c).finished in
          let stands_before : Stands p x c 0 open_now false = record { not_taken = (let r = ap length all_taken in omega arith); not_finished = refl; asked = unasked } in
          let stands_after : Stands p y c 0 open_now true = record { not_taken = (let r = ap length all_y in omega arith); not_finished = ap (λ z. length z - (view N y c).finished) offered_same ∙ ap (λ z. length (view N x c).offered - z) ends_same; asked = asked } in
          begun (stays
          (record {
            both = u.0;
            ahead = map_ahead u.2 (λ l k. to_y k) (λ o l k. absurd (none_passes2 o k));
            all_came = ahead_at q2.both u.0 by2 (λ d ne. (w.2 d, w.3 d (λ z. ne (sym z)))) (λ k. w.2 c ∙ none_out3) (λ o k. absurd (none_y o k));
            alone = alone_append (map_alone q2.alone (λ o l k. absurd (not_alone o k)) (λ l k. absurd (not_asked_x k))) (input_begins mine u.1 all_begun);
            waits_not = q2.waits_not;
          })
          (λ k l ne z ez. carried (part_of k l z ez) (carries_at (record {
            ending = λ r g. to_y g;
            coming = λ o r g. absurd (none_passes2 o g);
            offered = λ o r g. absurd (not_alone o g);
            asked = λ r g. absurd (not_asked_x g);
            ended = λ r g. to_x g;
            came = λ o r g. absurd (none_y o g);
          })))
          stop
          (record {
            passing = λ l k. absurd (none_y l k);
            taken = λ none. (means.passed c less).taken none_passes2 ∙ sym takes;
          })) (record {
            late = (let r = late_changes p x y c v ab h less there_at 0 open_now 0 open_now false true stands_before stands_after in omega arith);
            alone = (let r = alone_changes p x y c v ab h less there_at 0 open_now 0 open_now false true stands_before stands_after in omega arith);
          })

      -- an output of its message has begun: the message passes
      module _ (m : List ℕ) (under_way_x : (view N x c).offered ≡ (view N x c).taken ++ m ∷ []) (busy : (z : Node Process) → x.state src ≡ IsNode z → total (is_out c) (waiting z.process.state.rest) ≡ 1) (ending : EndIsToCome p y c) (g : Option ℕ) (i : ℕ) where
        no_end_x2 : EndIsToCome p x c → ⊥
        no_end_x2 (inl k) = never_both (view N x c).taken (view N x c).offered m k.taken under_way_x
        no_end_x2 (inr k) = none_passes2 k.0 k.1

        -- the process whose output has begun, once it is finished
        record Sent (z : Node Process) : Type 0 where
          begun : State
          ended : State
          site : ℕ
          datum : Datum
          offers : StepsTo (s.part src) site (action.Offer c) (Out c datum ∷ []) begun
          finish : StepsTo begun site action.Finish (Fin c ∷ []) ended
          is : message datum ≡ m
          part : PartMeans p y z.process.state ended

        sender : (z : Node Process) → x.state src ≡ IsNode z → PartMeans p x z.process.state (s.part src) → Sent z
        sender z ez o =
            let one = busy z ez in
            let outs = ahead_outs c no_end_x2 o.ahead in
            let ins = (ahead_fewer c o.ahead).1 in
            let in0 = no_ins src ends.source z ez (λ k. ends.apart (sym k)) in
            let at = some_out c (waiting o.both.rest) (omega arith) in
            let fin = finishes o.both.rest o.both.store at.0 c at.1 in
            let z3 : State = record { rest = fin.0; store = fin.1 } in
            let w = end_counts {z = z3} fin.2 in
            let none_left : total (is_out c) (waiting z3.rest) ≡ 0 = (let r = w.0 in omega arith) in
            let none_asked : total (is_in c) (waiting z3.rest) ≡ 0 = (let r = w.2 c in omega arith) in
            let t = alone_ends {z2 = z3} o.alone fin.2 (there_kept src ends.source) in elim t.1 [
              | own_output {i = j} {x = e} {v = f} o2 off fin2 ↦ record {
                begun = f;
                ended = t.0;
                site = j;
                datum = e;
                offers = off;
                finish = fin2;
                is = next_one (view N x c).taken (message e) m (sym o2.offered ∙ under_way_x);
                part = record {
                  both = z3;
                  ahead = ahead_append (map_ahead o.ahead (λ l k. absurd (no_end_x2 k)) (λ r l k. absurd (none_passes2 r k))) (end_comes ending fin.2 all_got);
                  all_came = ahead_at o.both z3 (by_numbers o.all_came) (λ d ne. (w.1 d ne, w.2 d)) (λ k. none_left) (λ r k. none_asked);
                  alone = map_alone t.2 (λ r l k. absurd (omega (arith, none_left))) (λ l k. absurd (not_asked_x k));
                  waits_not = pair_waits off fin2 o.waits_not;
                };
              }
              | other_output st2 ↦ absurd (no_output (s.part src) o.waits_not (is_inserted (step_waits st2).2))
            ]

        -- the acting process, once it has the message
        pub record Took : Type 0 where
          pub to : State
          pub datum : Datum
          pub step : StepsTo (s.part n) i (meeting g c m) (In c datum ∷ []) to
          pub part : PartMeans p y b.process.state to

        begins_to_wait : StepsTo a.process.state i (asking g c None) [] b.process.state → MessagePasses p y c m → Took
        begins_to_wait st mine =
            let u = ahead_beside q2.ahead st (is_move g c None) a_kept in
            let aw = asking_waits g u.1 in
            let got = receives u.0.rest u.0.store i c m aw.0 in
            let z3 : State = record { rest = got.1; store = got.2 } in
            let w = message_counts {z = z3} got.3 in
            let none_left : total (is_in c) (waiting z3.rest) ≡ 0 = (let r = w.0 in let f = aw.1 in let k = its_in i in let l = none_in3 in omega arith) in
            let none_sent : total (is_out c) (waiting z3.rest) ≡ 0 = w.2 c ∙ aw.2 c ∙ none_out3 in
            let direct = at_once g {u = z3} u.1 got.3 (ahead_kept q2.ahead a_kept) in
            let t = alone_past {z2 = z3} q2.alone direct (no_message_in g c m) (λ d k o z. cc) (there_kept n few) in
            record {
              to = t.0;
              datum = got.0;
              step = t.1;
              part = record {
                both = z3;
                ahead = ahead_append (map_ahead u.2 (λ l k. absurd (no_end_x2 k)) (λ r l k. absurd (none_passes2 r k))) (message_comes mine got.3 all_got);
                all_came = ahead_at q2.both z3 by2 (λ d ne. (w.2 d ∙ aw.2 d, w.1 d ne ∙ aw.3 d (λ z. ne (sym z)))) (λ k. none_sent) (λ r k. none_left);
                alone = map_alone t.2 (λ r l k. absurd (omega (arith, none_sent))) (λ l k. absurd (not_asked_x k));
                waits_not = took_waits g m t.1 ∙ q2.waits_not;
              };
            }

        takes_at_once : (e : Datum) → StepsTo a.process.state i (meeting g c m) (In c e ∷ []) b.process.state → ((l : List ℕ) → MessagePasses p y c l → ⊥) → Took
        takes_at_once e st none_y =
            let u = ahead_beside q2.ahead st (asking_move g c m) a_kept in
            let t = alone_past q2.alone u.1 (no_message_in g c m) (λ d k o z. cc) (there_kept n few) in
            let none_sent : total (is_out c) (waiting u.0.rest) ≡ 0 = ap (total (is_out c)) (took_waits g m u.1) ∙ none_out3 in
            record {
              to = t.0;
              datum = e;
              step = t.1;
              part = record {
                both = u.0;
                ahead = map_ahead u.2 (λ l k. absurd (no_end_x2 k)) (λ r l k. absurd (none_passes2 r k));
                all_came = ahead_at q2.both u.0 by2 (λ d ne. (ap (total (is_out d)) (took_waits g m u.1), ap (total (is_in d)) (took_waits g m u.1))) (λ k. none_sent) (λ r k. absurd (none_y r k));
                alone = map_alone t.2 (λ r l k. absurd (omega (arith, none_sent))) (λ l k. absurd (not_asked_x k));
                waits_not = took_waits g m t.1 ∙ q2.waits_not;
              };
            }

        pub met : Took → ((e : Datum) → message e ≡ m → HavePassed p y c (s.passed c ++ message e ∷ [])) → Meant p s x y
        met w pass =
            let r = means.part src ends.source in
            let f = sender r.0 r.1 r.2 in
            let free : s.stopped c ≡ false = means.stopped c less ∙ going in
            let apart : n ≡ src → ⊥ = λ k. not_source (sym k) in
            let Q = put (put (put s.part src f.begun) n w.to) src f.ended in
            by_move (Passes c src f.site n i g) (record s { part = Q; passed = put s.passed c (s.passed c ++ message f.datum ∷ []) })
            (passes c src f.site n i g f.datum w.datum f.begun w.to f.ended ends.source few free f.offers
            (subst (λ z. StepsTo z i (meeting g c (message f.datum)) (In c w.datum ∷ []) w.to) (sym (put-other s.part src f.begun n apart)) (subst (λ z. StepsTo (s.part n) i (meeting g c z) (In c w.datum ∷ []) w.to) (sym f.is) w.step))
            (subst (λ z. StepsTo z f.site action.Finish (Fin c ∷ []) f.ended) (sym (put-other (put s.part src f.begun) n w.to src not_source ∙ put-same s.part src f.begun)) f.finish))
            (record {
              part = parts Q (subst (PartMeans p y b.process.state) (sym (put-other (put (put s.part src f.begun) n w.to) src f.ended n apart ∙ put-same (put s.part src f.begun) n w.to)) w.part)
                  (λ k l ne z ez. elim (cases_eq k src) [
                    | inl d ↦ subst (PartMeans p y z.process.state) (sym (ap Q d ∙ put-same (put (put s.part src f.begun) n w.to) src f.ended))
                        (subst (λ (j : Node Process). PartMeans p y j.process.state f.ended) (same_node r.0 z (sym r.1 ∙ ap x.state (sym d) ∙ ez)) f.part)
                    | inr ne2 ↦ subst (PartMeans p y z.process.state) (sym (put-other (put (put s.part src f.begun) n w.to) src f.ended k ne2 ∙ put-other (put s.part src f.begun) n w.to k ne ∙ put-other s.part src f.begun k ne2))
                        (bystander k l z ez (λ d. ne2 (sym d)) (λ d. ne (sym d ∙ is_snk)))
                  ]);
              stopped = stopped_same stop;
              passed = passed_one (message f.datum) (pass f.datum f.is);
            })

        -- it begins to wait
        pub waits_on : StepsTo a.process.state i (asking g c None) [] b.process.state → MessagePasses p y c m → (view N y c).taken ≡ (view N x c).taken → Meant p s x y
        waits_on st mine takes = met (begins_to_wait st mine) (λ e is. record {
          passing = λ l k. (let same : l ≡ m = next_one (view N y c).taken l m (sym k.offered ∙ mine.offered) in
              ap (λ z. z ++ message e ∷ []) ((means.passed c less).taken none_passes2 ∙ sym takes) ∙ ap (λ z. (view N y c).taken ++ z ∷ []) (is ∙ sym same));
          taken = λ none. absurd (none m mine);
        })

        -- it has the message at once
        pub has_at_once : (e : Datum) → StepsTo a.process.state i (meeting g c m) (In c e ∷ []) b.process.state → (in_half p y c).wants ≡ false → (view N y c).taken ≡ (view N x c).taken ++ m ∷ [] → Meant p s x y
        has_at_once e st unasked_y took =
            let none_y : (l : List ℕ) → MessagePasses p y c l → ⊥ = λ l k. true_false (in_half p y c).wants k.asked unasked_y in
            met (takes_at_once e st none_y) (λ f is. record {
              passing = λ l k. absurd (none_y l k);
              taken = λ none. ap (λ z. z ++ message f ∷ []) ((means.passed c less).taken none_passes2) ∙ ap (λ z. (view N x c).taken ++ z ∷ []) is ∙ sym took;
            })

    -- ---- a message comes, or the end of an output

    pub message_came : (i : ℕ) (m : List ℕ) (e : Datum) → StepsTo a.process.state i (action.Message m) (In c e ∷ []) b.process.state → snk ≡ n → (in_half p x c).wants ≡ true → (in_half p y c).wants ≡ false → (view N x c).offered ≡ (view N x c).taken ++ m ∷ [] → (view N x c).finished ≡ length (view N x c).taken →
        (view N y c).offered ≡ (view N x c).offered → (view N y c).taken ≡ (view N x c).taken ++ m ∷ [] → (view N y c).finished ≡ (view N x c).finished → (view N y c).stopped ≡ (view N x c).stopped → Carried p s x y
    message_came i m e st is_snk asked unasked_y under_way_x count_x offered_same took ends_same stop =
        let mine : MessagePasses p x c m = record { on_link = on_link; offered = under_way_x; asked = asked } in
        let only : (l : List ℕ) → MessagePasses p x c l → m ≡ l = λ l k. next_one (view N x c).taken m l (sym under_way_x ∙ k.offered) in
        let all_y : (view N y c).taken ≡ (view N y c).offered = took ∙ sym under_way_x ∙ sym offered_same in
        let unfinished : IsUnfinished p y c = record {
          on_link = on_link;
          taken = all_y;
          unfinished = (let r = ap length (sym all_y ∙ took) in let f = length-append (view N x c).taken (m ∷ []) in omega arith);
        } in
        let none_y : (l : List ℕ) → MessagePasses p y c l → ⊥ = λ l k. true_false (in_half p y c).wants k.asked unasked_y in
        let q = part_of n few a ea in
        let first = message_first a.process.state b.process.state q.both i c m e a_kept (λ j k. q.all_came.messages c m mine j k) only st q.ahead in
        let w = message_counts st in
        let not_src : src ≡ n → ⊥ = λ k. ends.apart (k ∙ sym is_snk) in
        let out0 : total (is_out c) (waiting b.process.state.rest) ≡ 0 = w.2 c ∙ no_outs n few a ea not_src in
        let in0 : total (is_in c) (waiting b.process.state.rest) ≡ 0 = (let r = w.0 in let f = sink_waits p rule acc x ks rx c v ab h n few a ea is_snk ∙ ap bit asked in omega arith) in
        let f = ahead_fewer c first in
        less_late (stays
        (carried (record { both = q.both; ahead = first; all_came = q.all_came; alone = q.alone; waits_not = q.waits_not }) (carries_at (carries_none out0 in0 f.0 f.1)))
        (λ k l ne z ez.
        let o = part_of k l z ez in
        let ins = no_ins k l z ez (λ d. ne (sym d ∙ is_snk)) in
        let fewer = (ahead_fewer c o.ahead).1 in
        carried o (carries_at (record {
          ending = λ r g. inl unfinished;
          coming = λ t r g. absurd (omega (arith, ins));
          offered = λ t r g. absurd (true_false (in_half p x c).wants asked g.unasked);
          asked = λ r g. absurd (omega (arith, ins, fewer));
          ended = λ r g. inr (m, mine);
          came = λ t r g. absurd (none_y t g);
        })))
        stop
        (record { passing = λ l k. absurd (none_y l k); taken = λ none. (means.passed c less).passing m mine ∙ sym took }))
        (let r = late_changes p x y c v ab h less there_at 1 1 0 1 true false
        (record {
          not_taken = (let t = ap length under_way_x in let g = length-append (view N x c).taken (m ∷ []) in omega arith);
          not_finished = (let t = ap length under_way_x in let g = length-append (view N x c).taken (m ∷ []) in let k = count_x in omega arith);
          asked = asked;
        })
        (record {
          not_taken = (let t = ap length all_y in omega arith);
          not_finished = (let t = unfinished.unfinished in omega arith);
          asked = unasked_y;
        }) in omega arith)

    pub output_ended : (i : ℕ) → StepsTo a.process.state i action.Finish (Fin c ∷ []) b.process.state → src ≡ n → total (is_out c) (waiting a.process.state.rest) ≡ 1 → (view N x c).taken ≡ (view N x c).offered → length (view N x c).offered ≡ suc (view N x c).finished →
        (view N y c).offered ≡ (view N x c).offered → (view N y c).taken ≡ (view N x c).taken → (view N y c).finished ≡ suc (view N x c).finished → (view N y c).stopped ≡ (view N x c).stopped → (in_half p y c).wants ≡ (in_half p x c).wants → Carried p s x y
    output_ended i st is_src one all_taken open_x offered_same takes now_ended stop asks =
        let unfinished : IsUnfinished p x c = record { on_link = on_link; taken = all_taken; unfinished = open_x } in
        let all_y : (view N y c).taken ≡ (view N y c).offered = takes ∙ all_taken ∙ sym offered_same in
        let none_x : (l : List ℕ) → MessagePasses p x c l → ⊥ = λ l k. never_both (view N x c).taken (view N x c).offered l all_taken k.offered in
        let none_y : (l : List ℕ) → MessagePasses p y c l → ⊥ = λ l k. never_both (view N y c).taken (view N y c).offered l all_y k.offered in
        let q = part_of n few a ea in
        let first = finish_first a.process.state b.process.state q.both i c a_kept (λ j k. q.all_came.ends c (inl unfinished) j k) st q.ahead in
        let w = end_counts st in
        let out0 : total (is_out c) (waiting b.process.state.rest) ≡ 0 = (let r = w.0 in omega (arith, one)) in
        let in0 : total (is_in c) (waiting b.process.state.rest) ≡ 0 = w.2 c ∙ no_ins n few a ea (λ k. ends.apart (is_src ∙ sym k)) in
        let f = ahead_fewer c first in
        less_late (stays
        (carried (record { both = q.both; ahead = first; all_came = q.all_came; alone = q.alone; waits_not = q.waits_not }) (carries_at (carries_none out0 in0 f.0 f.1)))
        (λ k l ne z ez.
        let o = part_of k l z ez in
        let outs = no_outs k l z ez (λ d. ne (sym d ∙ is_src)) in
        let fewer = (ahead_fewer c o.ahead).0 in
        carried o (carries_at (record {
          ending = λ r g. absurd (omega (arith, outs));
          coming = λ t r g. absurd (none_x t g);
          offered = λ t r g. absurd (omega (arith, outs, fewer));
          asked = λ r g. record { on_link = on_link; taken = all_y; asked = asks ∙ g.asked };
          ended = λ r g. absurd (omega (arith, outs, fewer));
          came = λ t r g. absurd (none_y t g);
        })))
        stop
        (record { passing = λ l k. absurd (none_y l k); taken = λ none. (means.passed c less).taken none_x ∙ sym takes }))
        (let r = late_changes p x y c v ab h less there_at 0 1 0 0 (in_half p x c).wants (in_half p y c).wants
        (record { not_taken = (let t = ap length all_taken in omega arith); not_finished = (let t = open_x in omega arith); asked = refl })
        (record { not_taken = (let t = ap length all_y in omega arith); not_finished = (let t = open_x in let g = ap length offered_same in let k = now_ended in omega arith); asked = refl }) in omega arith)
