-- What a move of the code's node is: a move of the network's node.
use Rattle.std.proofs.Common.{◌≡◌, ◌≢◌, inl, inr, ℕ, true, List, Option, Some, None, sym, ap, ◌∙◌, subst, IsSome, is_some, ◌↔◌}
use Rattle.std.proofs.lemmas.Bool.{cases_eq}
use Rattle.vc_machine.proofs.Basics.{put-same, put-other}
use Rattle.vc_machine.specs.Rendezvous.{nothing_yet}
use Rattle.vc_network.specs.Network.{StopsChannel}
use Rattle.std.specs.List.{Contains}
use Rattle.vc_packets.specs.Functions.{put, shown_or}
use Rattle.vc_process.specs.ProcessStep as step
use Rattle.vc_occam.specs.Runnings.{moves, state, inner_channels}
use Rattle.vc_occam.specs.States.{Acts, waiting, output, input, doing, sent_by, bytes_or_none, came}
use Rattle.vc_occam.specs.declared.answer.Answer.{Answer}
use Rattle.vc_occam.specs.declared.answer.Answer.TheVariants.{Nothing}
use Rattle.vc_blocks.specs.declared.in_half.Want.{Want}
use Rattle.vc_occam.specs.States as occam
use Rattle.vc_occam.proofs.Sites.{doing_keeps}
use Rattle.vc_occam.proofs.StepWaits.{waits_after}
use Rattle.vc_occam.specs.declared.moves.Move.{Move}
use Rattle.vc_occam.specs.declared.moves.Move.TheVariants as move
use Rattle.vc_vcp.specs.Carrier.{Carrier, End}
use Rattle.vc_vcp.specs.Names.{named}
use Rattle.vc_vcp.specs.VcpView.{seen, ends_of, Inputs, IsKept, answered}
use Rattle.vc_vcp.specs.Steps.{Offers, Stops, Wants, Fetches, fetches, waits, IsOpen}
use Rattle.vc_vcp.specs.State.{limit_of}
use Rattle.vc_network.specs.Plan.{Plan}
use Rattle.vc_actor.proofs.Halves as halved
use Rattle.vc_actor.specs.MayMove.{MakesMove}
use Rattle.vc_actor.specs.OfPlan.{IsNodeOf, InStep, AreInside}
use Rattle.vc_accepted.specs.Process.{Goes}
use Rattle.vc_actor.specs.ActorView.{node_of, process_of, view_of, views_of}
use Rattle.vc_actor.specs.Private.Inside.{exchanged_on, stopped_on}
use Rattle.vc_actor.specs.Inside.{IsOpen as IsGoing}
use Rattle.vc_actor.specs.declared.node.Node.{Node}
use Rattle.vc_actor.specs.declared.inside.Internal.{Internal}

-- what a process did is what it goes on by
went : (n u : Node) (d : step.ProcessStep) → Acts (state n.process) d (state u.process) → inner_channels u.process ≡ inner_channels n.process → Goes (process_of n.process) d (process_of u.process)
went n u d acts same = record { comms = acts.0; does = acts.1; inside = same }

-- the node stays one of the plan
stays : (plan : Plan) (k : ℕ) (n u : Node) (d : step.ProcessStep) → IsNodeOf plan k n → Acts (state n.process) d (state u.process) → IsKept n.vcp u.vcp → AreInside plan k u.inside → InStep (seen u.vcp).carrier (process_of u.process) → IsNodeOf plan k u
stays plan k n u d is acts kept inside step =
    record { ends = kept.ends ∙ is.ends; limit = kept.limit ∙ is.limit; inside = inside; in_step = step; own = doing_keeps (state n.process) (state u.process) d acts.0 acts.1 is.own }

pub offered : (plan : Plan) (k : ℕ) (n u : Node) (i c : ℕ) (m : List ℕ) → IsNodeOf plan k n → Contains (moves n.process) (move.Offer i c) →
    Offers (ends_of n.vcp) (seen n.vcp).carrier c m (seen u.vcp).carrier → (seen u.vcp).link ≡ (seen n.vcp).link → IsKept n.vcp u.vcp → u.inside ≡ n.inside →
    Acts (state n.process) (step.Offers i c m) (state u.process) → inner_channels u.process ≡ inner_channels n.process → MakesMove plan k n (move.Offer i c) u
offered plan k n u i c m is listed offers links kept inside acts same =
    let w = waits_after (state n.process) (state u.process) (step.Offers i c m) acts.0 acts.1 in
    let old = waiting (state n.process).rest in
    let new = waiting (state u.process).rest in
    record {
      moves = (m, (listed, went n u (step.Offers i c m) acts same), subst (λ z. Offers z (seen n.vcp).carrier c m (seen u.vcp).carrier) is.ends offers, record { link = links; inner = ap views_of inside });
      kept = stays plan k n u (step.Offers i c m) is acts kept (subst (AreInside plan k) (sym inside) is.inside) (halved.by_parts (seen u.vcp).carrier (process_of u.process)
          (halved.has_same halved.Wants input (seen n.vcp).carrier.into (seen u.vcp).carrier.into old new (ap (λ z. z.into) offers.after) is.in_step.inputs (λ j d. halved.still (output i c) old new w (input j d)))
          (halved.has_put halved.Sends output (seen n.vcp).carrier.out (seen u.vcp).carrier.out old new c _ (ap (λ z. z.out) offers.after) is.in_step.outputs
          (λ b. (i, halved.added (output i c) old new w)) (λ j d ne. halved.still (output i c) old new w (output j d))));
    }

pub rested : (plan : Plan) (k : ℕ) (n u : Node) (i : ℕ) → IsNodeOf plan k n → Contains (moves n.process) (move.Quiet i) → u.vcp ≡ n.vcp → u.inside ≡ n.inside →
    Acts (state n.process) (step.Rests i) (state u.process) → inner_channels u.process ≡ inner_channels n.process → MakesMove plan k n (move.Quiet i) u
rested plan k n u i is listed vcp inside acts same =
    let w = waits_after (state n.process) (state u.process) (step.Rests i) acts.0 acts.1 in
    let old = waiting (state n.process).rest in
    let new = waiting (state u.process).rest in
    record {
      moves = ((listed, went n u (step.Rests i) acts same), ap seen vcp, ap views_of inside);
      kept = record {
        ends = ap ends_of vcp ∙ is.ends;
        limit = ap (λ z. limit_of z.ins) vcp ∙ is.limit;
        inside = subst (AreInside plan k) (sym inside) is.inside;
        own = doing_keeps (state n.process) (state u.process) (step.Rests i) acts.0 acts.1 is.own;
        in_step = halved.by_parts (seen u.vcp).carrier (process_of u.process)
            (halved.has_same halved.Wants input (seen n.vcp).carrier.into (seen u.vcp).carrier.into old new (ap (λ z. (seen z).carrier.into) vcp) is.in_step.inputs (λ j d. halved.kept old new w (input j d)))
            (halved.has_same halved.Sends output (seen n.vcp).carrier.out (seen u.vcp).carrier.out old new (ap (λ z. (seen z).carrier.out) vcp) is.in_step.outputs (λ j d. halved.kept old new w (output j d)));
      };
    }

-- a move that is the one named
is_named : (plan : Plan) (k : ℕ) (n u : Node) (m l : Move) (a : Answer) → m ≡ l → Contains (moves n.process) m → Acts (state n.process) (doing m (sent_by (state n.process) m) a) (state u.process) →
    (Contains (moves n.process) l → Acts (state n.process) (doing l (sent_by (state n.process) l) a) (state u.process) → MakesMove plan k n l u) → MakesMove plan k n m u
is_named plan k n u m l a e listed acts go =
    subst (λ z. MakesMove plan k n z u) (sym e) (go (subst (Contains (moves n.process)) e listed) (subst (λ z. Acts (state n.process) (doing z (sent_by (state n.process) z) a) (state u.process)) e acts))

pub rests : (plan : Plan) (k : ℕ) (n u : Node) (m : Move) (i : ℕ) → m ≡ move.Quiet i → IsNodeOf plan k n → Contains (moves n.process) m → u.vcp ≡ n.vcp → u.inside ≡ n.inside →
    Acts (state n.process) (doing m (sent_by (state n.process) m) Nothing) (state u.process) → inner_channels u.process ≡ inner_channels n.process → MakesMove plan k n m u
rests plan k n u m i e is listed vcp inside acts same = is_named plan k n u m (move.Quiet i) Nothing e listed acts (λ l a. rested plan k n u i is l vcp inside a same)

pub offers : (plan : Plan) (k : ℕ) (n u : Node) (m : Move) (i c : ℕ) (message : List ℕ) → m ≡ move.Offer i c → Some message ≡ sent_by (state n.process) m → IsNodeOf plan k n → Contains (moves n.process) m →
    Offers (ends_of n.vcp) (seen n.vcp).carrier c message (seen u.vcp).carrier → (seen u.vcp).link ≡ (seen n.vcp).link → IsKept n.vcp u.vcp → u.inside ≡ n.inside →
    Acts (state n.process) (doing m (sent_by (state n.process) m) Nothing) (state u.process) → inner_channels u.process ≡ inner_channels n.process → MakesMove plan k n m u
offers plan k n u m i c message e sent is listed begins links kept inside acts same =
    is_named plan k n u m (move.Offer i c) Nothing e listed acts (λ l a.
    offered plan k n u i c message is l begins links kept inside
    (subst (λ z. Acts (state n.process) (step.Offers i c (bytes_or_none z)) (state u.process)) (sym (sent ∙ ap (sent_by (state n.process)) e)) a) same)

pub inputs : (plan : Plan) (k : ℕ) (n u : Node) (i c : ℕ) (w : Want) → IsNodeOf plan k n → Contains (moves n.process) (move.Want i c) →
    Inputs (ends_of n.vcp) (seen n.vcp).carrier c w (seen u.vcp).carrier → (seen u.vcp).link ≡ (seen n.vcp).link → IsKept n.vcp u.vcp → u.inside ≡ n.inside →
    Acts (state n.process) (step.Wants i c (answered w)) (state u.process) → inner_channels u.process ≡ inner_channels n.process → MakesMove plan k n (move.Want i c) u
inputs plan k n u i c w is listed takes links kept inside acts same =
    let old = waiting (state n.process).rest in
    let new = waiting (state u.process).rest in
    let after = halved.after_want i c (answered w) old new (waits_after (state n.process) (state u.process) (step.Wants i c (answered w)) acts.0 acts.1) in
    let halves = halved.wanted (seen n.vcp).carrier (seen u.vcp).carrier c takes.end (answered w) i old new takes.wants after is.in_step.inputs is.in_step.outputs in
    record {
      moves = (answered w, takes.end, (listed, went n u (step.Wants i c (answered w)) acts same), subst (λ z. IsOpen z (seen n.vcp).carrier c takes.end) is.ends takes.may, takes.wants, record { link = links; inner = ap views_of inside });
      kept = stays plan k n u (step.Wants i c (answered w)) is acts kept (subst (AreInside plan k) (sym inside) is.inside) (halved.by_parts (seen u.vcp).carrier (process_of u.process) halves.0 halves.1);
    }

pub wants : (plan : Plan) (k : ℕ) (n u : Node) (m : Move) (i c : ℕ) (w : Want) (a : Answer) → m ≡ move.Want i c → came a ≡ answered w → IsNodeOf plan k n → Contains (moves n.process) m →
    Inputs (ends_of n.vcp) (seen n.vcp).carrier c w (seen u.vcp).carrier → (seen u.vcp).link ≡ (seen n.vcp).link → IsKept n.vcp u.vcp → u.inside ≡ n.inside →
    Acts (state n.process) (doing m (sent_by (state n.process) m) a) (state u.process) → inner_channels u.process ≡ inner_channels n.process → MakesMove plan k n m u
wants plan k n u m i c w a e told is listed takes links kept inside acts same =
    is_named plan k n u m (move.Want i c) a e listed acts (λ l b.
    inputs plan k n u i c w is l takes links kept inside (subst (λ z. Acts (state n.process) (step.Wants i c z) (state u.process)) told b) same)

-- a guard whose piece is there is taken with it
held_is : (a b : Carrier) (c : ℕ) (end : End) (answer : Option (List ℕ)) → (a.into c).held ≢ None → Wants a c end answer b → Fetches a c end answer b
held_is a b c end answer h (fetches f) = f
held_is a b c end answer h (waits empty none after) = absurd (h empty)

pub guarded : (plan : Plan) (k : ℕ) (n u : Node) (i g c : ℕ) (w : Want) → IsNodeOf plan k n → Contains (moves n.process) (move.Choose i g c) → ((seen n.vcp).carrier.into c).held ≢ None →
    Inputs (ends_of n.vcp) (seen n.vcp).carrier c w (seen u.vcp).carrier → (seen u.vcp).link ≡ (seen n.vcp).link → IsKept n.vcp u.vcp → u.inside ≡ n.inside →
    Acts (state n.process) (step.Chooses i g c (answered w)) (state u.process) → inner_channels u.process ≡ inner_channels n.process → MakesMove plan k n (move.Choose i g c) u
guarded plan k n u i g c w is listed held takes links kept inside acts same =
    let old = waiting (state n.process).rest in
    let new = waiting (state u.process).rest in
    let after = halved.after_choose i g c (answered w) old new (waits_after (state n.process) (state u.process) (step.Chooses i g c (answered w)) acts.0 acts.1) in
    let f = held_is (seen n.vcp).carrier (seen u.vcp).carrier c takes.end (answered w) held takes.wants in
    let halves = halved.fetched (seen n.vcp).carrier (seen u.vcp).carrier c takes.end (answered w) i old new f after is.in_step.inputs is.in_step.outputs in
    record {
      moves = (answered w, takes.end, (listed, went n u (step.Chooses i g c (answered w)) acts same), subst (λ z. IsOpen z (seen n.vcp).carrier c takes.end) is.ends takes.may, f, record { link = links; inner = ap views_of inside });
      kept = stays plan k n u (step.Chooses i g c (answered w)) is acts kept (subst (AreInside plan k) (sym inside) is.inside) (halved.by_parts (seen u.vcp).carrier (process_of u.process) halves.0 halves.1);
    }

pub chooses : (plan : Plan) (k : ℕ) (n u : Node) (m : Move) (i g c : ℕ) (w : Want) (a : Answer) → m ≡ move.Choose i g c → came a ≡ answered w → IsNodeOf plan k n → Contains (moves n.process) m → ((seen n.vcp).carrier.into c).held ≢ None →
    Inputs (ends_of n.vcp) (seen n.vcp).carrier c w (seen u.vcp).carrier → (seen u.vcp).link ≡ (seen n.vcp).link → IsKept n.vcp u.vcp → u.inside ≡ n.inside →
    Acts (state n.process) (doing m (sent_by (state n.process) m) a) (state u.process) → inner_channels u.process ≡ inner_channels n.process → MakesMove plan k n m u
chooses plan k n u m i g c w a e told is listed held takes links kept inside acts same =
    is_named plan k n u m (move.Choose i g c) a e listed acts (λ l b.
    guarded plan k n u i g c w is l held takes links kept inside (subst (λ z. Acts (state n.process) (step.Chooses i g c z) (state u.process)) told b) same)

-- the process goes on, and nothing of its channels' halves changes
pub in_step_same : (n u : Node) (d : step.ProcessStep) → InStep (seen n.vcp).carrier (process_of n.process) → (seen u.vcp).carrier.out ≡ (seen n.vcp).carrier.out →
    ((c : ℕ) → ((seen u.vcp).carrier.into c).wants ≡ ((seen n.vcp).carrier.into c).wants) → ((w : occam.Waiting) → Contains (waiting (state n.process).rest) w → Contains (waiting (state u.process).rest) w) → InStep (seen u.vcp).carrier (process_of u.process)
in_step_same n u d step out into keep = record {
  inputs = λ c b. (let r = step.inputs c (sym (into c) ∙ b) in (r.0, keep (input r.0 c) r.1));
  outputs = λ c b. (let r = step.outputs c (λ e. b (ap (λ z. (z c).unacked) out ∙ e)) in (r.0, keep (output r.0 c) r.1));
}

pub stopped : (plan : Plan) (k : ℕ) (n u : Node) (i c : ℕ) → IsNodeOf plan k n → Contains (moves n.process) (move.Stopch i c) → StopsChannel plan k (node_of n) c (node_of u) → AreInside plan k u.inside → IsKept n.vcp u.vcp →
    (seen u.vcp).carrier.out ≡ (seen n.vcp).carrier.out → ((d : ℕ) → ((seen u.vcp).carrier.into d).wants ≡ ((seen n.vcp).carrier.into d).wants) →
    Acts (state n.process) (step.Stops i c) (state u.process) → inner_channels u.process ≡ inner_channels n.process → MakesMove plan k n (move.Stopch i c) u
stopped plan k n u i c is listed stops inside kept out into acts same =
    let w = waits_after (state n.process) (state u.process) (step.Stops i c) acts.0 acts.1 in
    record {
      moves = ((listed, went n u (step.Stops i c) acts same), stops);
      kept = stays plan k n u (step.Stops i c) is acts kept inside (in_step_same n u (step.Stops i c) is.in_step out into (halved.kept (waiting (state n.process).rest) (waiting (state u.process).rest) w));
    }

same_kept : (n u : Node) → u.vcp ≡ n.vcp → IsKept n.vcp u.vcp
same_kept n u e = record { ends = ap ends_of e; limit = ap (λ z. limit_of z.ins) e }

-- the same channels are inside
same_inside : (plan : Plan) (k : ℕ) (xs ys : List Internal) → AreInside plan k xs → ((c : ℕ) → IsSome (named (λ x. x.chan) c ys) ↔ IsSome (named (λ x. x.chan) c xs)) → AreInside plan k ys
same_inside plan k xs ys h e c = ((λ s. (h c).0 ((e c).0 s)), (λ s. (e c).1 ((h c).1 s)))

wants_put : (a b : Carrier) (c d : ℕ) → b.into ≡ put a.into c (record (a.into c) { stopped = true }) → (b.into d).wants ≡ (a.into d).wants
wants_put a b c d e = elim (cases_eq d c) [
  | inl same ↦ ap (λ z. (z d).wants) e ∙ ap (λ z. (put a.into c (record (a.into c) { stopped = true }) z).wants) same ∙ ap (λ z. z.wants) (put-same a.into c (record (a.into c) { stopped = true })) ∙ ap (λ z. (a.into z).wants) (sym same)
  | inr other ↦ ap (λ z. (z d).wants) e ∙ ap (λ z. z.wants) (put-other a.into c (record (a.into c) { stopped = true }) d other)
]

-- a channel on a virtual link is stopped
pub stops_link : (plan : Plan) (k : ℕ) (n u : Node) (m : Move) (i c : ℕ) → m ≡ move.Stopch i c → IsNodeOf plan k n → Contains (moves n.process) m →
    Stops (ends_of n.vcp) (seen n.vcp).carrier c (seen u.vcp).carrier → (seen u.vcp).link ≡ (seen n.vcp).link → IsKept n.vcp u.vcp → u.inside ≡ n.inside →
    Acts (state n.process) (doing m (sent_by (state n.process) m) Nothing) (state u.process) → inner_channels u.process ≡ inner_channels n.process → MakesMove plan k n m u
stops_link plan k n u m i c e is listed stops links kept inside acts same =
    is_named plan k n u m (move.Stopch i c) Nothing e listed acts (λ l a.
    stopped plan k n u i c is l (inl (subst (λ z. Stops z (seen n.vcp).carrier c (seen u.vcp).carrier) is.ends stops, record { link = links; inner = ap views_of inside })) (subst (AreInside plan k) (sym inside) is.inside) kept
    (ap (λ z. z.out) stops.after) (λ d. wants_put (seen n.vcp).carrier (seen u.vcp).carrier c d (ap (λ z. z.into) stops.after)) a same)

-- a channel inside the node is stopped
pub stops_inside : (plan : Plan) (k : ℕ) (n u : Node) (m : Move) (i c : ℕ) → m ≡ move.Stopch i c → IsNodeOf plan k n → Contains (moves n.process) m → IsSome (named (λ x. x.chan) c n.inside) → u.vcp ≡ n.vcp →
    views_of u.inside ≡ stopped_on (views_of n.inside) c → ((d : ℕ) → IsSome (named (λ x. x.chan) d u.inside) ↔ IsSome (named (λ x. x.chan) d n.inside)) →
    Acts (state n.process) (doing m (sent_by (state n.process) m) Nothing) (state u.process) → inner_channels u.process ≡ inner_channels n.process → MakesMove plan k n m u
stops_inside plan k n u m i c e is listed has vcp views names acts same =
    is_named plan k n u m (move.Stopch i c) Nothing e listed acts (λ l a.
    stopped plan k n u i c is l (inr ((is.inside c).0 has, ap seen vcp, views)) (same_inside plan k n.inside u.inside is.inside names) (same_kept n u vcp)
    (ap (λ z. (seen z).carrier.out) vcp) (λ d. ap (λ z. ((seen z).carrier.into d).wants) vcp) a same)

-- an output meets an input, or a guard, inside the node
pub meets : (plan : Plan) (k : ℕ) (n u : Node) (m : Move) (i j : ℕ) (g : Option ℕ) (c : ℕ) (message : List ℕ) (a : Answer) → m ≡ move.Inner i j g c → Some message ≡ sent_by (state n.process) m → IsNodeOf plan k n → Contains (moves n.process) m → IsGoing n.inside c →
    u.vcp ≡ n.vcp → views_of u.inside ≡ exchanged_on (views_of n.inside) c message → ((d : ℕ) → IsSome (named (λ x. x.chan) d u.inside) ↔ IsSome (named (λ x. x.chan) d n.inside)) →
    Acts (state n.process) (doing m (sent_by (state n.process) m) a) (state u.process) → inner_channels u.process ≡ inner_channels n.process → MakesMove plan k n m u
meets plan k n u m i j g c message a e sent is listed going vcp views names acts same =
    is_named plan k n u m (move.Inner i j g c) a e listed acts (λ l b.
    let s = state n.process in
    let d = subst (λ z. Acts s (step.Meets i j g c (bytes_or_none z)) (state u.process)) (sym (sent ∙ ap (sent_by s) e)) b in
    let w = waits_after s (state u.process) (step.Meets i j g c message) d.0 d.1 in
    record {
      moves = (message, (l, went n u (step.Meets i j g c message) d same), (is.inside c).0 (ap is_some going.here), ap (λ x. (shown_or nothing_yet view_of x).stopped) going.here ∙ going.going, ap seen vcp, views);
      kept = stays plan k n u (step.Meets i j g c message) is d (same_kept n u vcp) (same_inside plan k n.inside u.inside is.inside names)
          (in_step_same n u (step.Meets i j g c message) is.in_step (ap (λ z. (seen z).carrier.out) vcp) (λ x. ap (λ z. ((seen z).carrier.into x).wants) vcp) (halved.kept (waiting s.rest) (waiting (state u.process).rest) w));
    })
