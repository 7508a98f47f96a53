-- A step of a node's links is a step of the token machine of ways.
use Rattle.std.proofs.Common.{◌≡◌, ℕ, ◌+◌, ◌-◌, ◌<◌, ◌≤◌, List, [], ◌∷◌, ◌++◌, length, Option, Some, None, refl, sym, ap, subst, ◌∙◌}
use Rattle.vc_packets.specs.declared.mark.Mark.{Mark}
use Rattle.vc_packets.specs.declared.packet.Packet.{Packet}
use Rattle.vc_machine.specs.Paths.{AtNode}
use Rattle.vc_machine.specs.Rendezvous.{Comm}
use Rattle.vc_machine.specs.Machine as net
use Rattle.vc_machine.specs.Machine.{set_way}
use Rattle.vc_packets.specs.Functions.{put}
use Rattle.vc_machine.proofs.Basics.{put-same, put-other, every_put}
use Rattle.vc_tokens.specs.Tokens.{Token, Byte, EndMark}
use Rattle.vc_tokens.specs.Tokens as tokens
use Rattle.vc_credit.specs.Ends.{Sender, puts_byte, puts_mark}
use Rattle.vc_machine.specs.Links.{Receiver, Tokens, set_wire, set_receiver}
use Rattle.vc_machine.specs.TokenMachine as tok
use Rattle.vc_switch.specs.Waiting.{Waiting}
use Rattle.vc_machine.specs.TokenMachine.{TokenEvent, TokenStep, arrive, put_byte, put_mark}
use Rattle.vc_machine.proofs.Update.{changed, kept}
use Rattle.vc_vcp.specs.Carrier.{Carrier}
use Rattle.vc_vcp.specs.Steps as node
use Rattle.vc_vcp.specs.Links.{Link, Vcp, set_link, with_token, passing, Sends, SendsFct, unqueued}
use Rattle.vc_switch.specs.Switch.{Switch}
use Rattle.vc_network.specs.Plan.{Plan, ends, back, net_of, IsAccepted, IsOutOf, IsInto}
use Rattle.vc_network.specs.Views.{queue_at}
use Rattle.vc_network.proofs.Backs.{back_back, back_into, back_out}
use Rattle.vc_network.proofs.Seen.{Sees, keep, queue_seen}
use Rattle.vc_network.proofs.ChannelSteps.{Says, silent}
use Rattle.vc_network.proofs.NodeLift.{said_by_taken, reached}
use Rattle.vc_network.specs.Credit.{sender_at}
use Rattle.vc_network.proofs.TokenViews.{Shows, NodeEnd, SameReceiver, carriers, losses, node_shown}

pub record TokenLifted (plan : Plan) (waiting : Waiting) (vs : ℕ → Vcp) (sw : ℕ → Switch) (lines : ℕ → List Token) (t : Tokens) (e : TokenEvent) (ks : List (ℕ × Comm)) : Type 0 where
  pub new : Tokens
  pub step : TokenStep (net_of plan) back waiting t e new
  pub shows : Shows plan vs sw lines new
  pub says : Says (net_of plan) t.nodes new.nodes ks

pub wire_take : (plan : Plan) (vs : ℕ → Vcp) (sw : ℕ → Switch) (lines : ℕ → List Token) (t : Tokens) (w : ℕ) (rest : List Token) → Shows plan vs sw lines t → (v : ℕ) → put t.wire w rest v ≡ put lines w rest v
wire_take plan vs sw lines t w rest s = every_put (λ v y. y ≡ put lines w rest v) t.wire w rest (sym (put-same lines w rest)) (λ v ne. s.wire v ∙ sym (put-other lines w rest v ne))

pub wire_put : (plan : Plan) (vs : ℕ → Vcp) (sw : ℕ → Switch) (lines : ℕ → List Token) (t : Tokens) (w : ℕ) (ts : List Token) → Shows plan vs sw lines t → (v : ℕ) → put t.wire w (t.wire w ++ ts) v ≡ put lines w (lines w ++ ts) v
wire_put plan vs sw lines t w ts s v = ap (λ z. put t.wire w (z ++ ts) v) (s.wire w) ∙ wire_take plan vs sw lines t w (lines w ++ ts) s v

pub same_carriers : (vs : ℕ → Vcp) (n : ℕ) (b : Vcp) → b.carrier ≡ (vs n).carrier → carriers vs ≡ carriers (put vs n b)
same_carriers vs n b e = λ i m. sym (keep (λ a. a.carrier) vs n b e m) i

pub new_carriers : (vs : ℕ → Vcp) (n : ℕ) (b : Vcp) → put (carriers vs) n b.carrier ≡ carriers (put vs n b)
new_carriers vs n b = λ i m. every_put (λ j y. y ≡ carriers (put vs n b) j) (carriers vs) n b.carrier (sym (ap (λ a. a.carrier) (put-same vs n b))) (λ j ne. sym (ap (λ a. a.carrier) (put-other vs n b j ne))) m i

-- what the pass of a token says
abbrev pub said_by_pass : Option node.Taken → List (ℕ × Comm)
said_by_pass None = []
said_by_pass (Some what) = said_by_taken what

module _ (plan : Plan) (waiting : Waiting) (acc : IsAccepted plan) (vs : ℕ → Vcp) (sw : ℕ → Switch) (lines : ℕ → List Token) (t : Tokens) (s : Shows plan vs sw lines t) (n l : ℕ) where
  abbrev x : Link
  x = (vs n).link l

  end_of_way : (w : ℕ) → IsInto plan w (AtNode n l) → NodeEnd x (t.receiver w)
  end_of_way w into = subst (λ p. SameReceiver plan vs sw p (t.receiver w)) into.1 (s.receiver w into.0)

  sender_of_way : (w : ℕ) → IsOutOf plan w (AtNode n l) → t.sender w ≡ x.sender
  sender_of_way w out = s.sender w out.0 ∙ ap (sender_at vs sw) out.1

  same_nodes : (b : Vcp) → b.carrier ≡ (vs n).carrier → Sees plan (carriers (put vs n b)) (losses sw) t.nodes
  same_nodes b e = subst (λ z. Sees plan z (losses sw) t.nodes) (same_carriers vs n b e) s.nodes

  -- a token other than an FCT comes
  received : (w word : ℕ) (k : Token) (rest : List Token) (b : Vcp) → IsInto plan w (AtNode n l) → lines w ≡ k ∷ rest →
      b ≡ set_link (vs n) l (record x { receiver = record { buffer = x.receiver.buffer ++ k ∷ []; promised = x.receiver.promised - 1 } }) →
      (r : Receiver) → r ≡ record (t.receiver w) { buffer = (t.receiver w).buffer ++ k ∷ []; promised = (t.receiver w).promised - 1; word = word } →
      arrive back (set_wire t w rest) w word k ≡ set_receiver (set_wire t w rest) w r → TokenLifted plan waiting (put vs n b) sw (put lines w rest) t (tok.Take w word) []
  received w word k rest b into front h r is came =
      let u = set_receiver (set_wire t w rest) w r in
      let e = end_of_way w into in
      let out = back_out plan w (AtNode n l) into in
      record {
        new = u;
        step = record { token = k; rest = rest; real = into.0; front = s.wire w ∙ front; after = sym came };
        shows = node_shown plan vs sw lines (put lines w rest) t u n l w (back w) b (record x { receiver = record { buffer = x.receiver.buffer ++ k ∷ []; promised = x.receiver.promised - 1 } }) r (t.sender (back w)) acc into out s
            (ap (λ z. z.link) h) (same_nodes b (ap (λ z. z.carrier) h)) (kept (back w) t.sender) (sender_of_way (back w) out) (wire_take plan vs sw lines t w rest s) (changed w t.receiver r)
            (record {
              buffer = ap (λ z. z.buffer) is ∙ ap (λ z. z ++ k ∷ []) e.buffer;
              promised = ap (λ z. z.promised) is ∙ ap (λ z. z - 1) e.promised;
              got = ap (λ z. z.got) is ∙ e.got;
              mark = ap (λ z. z.mark) is ∙ e.mark;
              bound = ap (λ z. z.bound) is ∙ e.bound;
            });
        says = silent refl (λ d. refl);
      }

  pub comes : (w word : ℕ) (k : Token) (rest : List Token) (b : Vcp) → IsInto plan w (AtNode n l) → lines w ≡ k ∷ rest → b ≡ set_link (vs n) l (with_token x k) → TokenLifted plan waiting (put vs n b) sw (put lines w rest) t (tok.Take w word) []
  comes w word (Byte c) rest b into front h = received w word (Byte c) rest b into front h (record (t.receiver w) { buffer = (t.receiver w).buffer ++ Byte c ∷ []; promised = (t.receiver w).promised - 1; word = word }) refl refl
  comes w word (EndMark m) rest b into front h = received w word (EndMark m) rest b into front h (record (t.receiver w) { buffer = (t.receiver w).buffer ++ EndMark m ∷ []; promised = (t.receiver w).promised - 1; word = word }) refl refl
  comes w word tokens.Fct rest b into front h =
      let u = arrive back (set_wire t w rest) w word tokens.Fct in
      let e = end_of_way w into in
      let out = back_out plan w (AtNode n l) into in
      let y = with_token x tokens.Fct in
      let r = record (t.receiver w) { word = word } in
      let a = record (t.sender (back w)) { credit = (t.sender (back w)).credit + 8 } in
      record {
        new = u;
        step = record { token = tokens.Fct; rest = rest; real = into.0; front = s.wire w ∙ front; after = refl };
        shows = node_shown plan vs sw lines (put lines w rest) t u n l w (back w) b y r a acc into out s (ap (λ z. z.link) h) (same_nodes b (ap (λ z. z.carrier) h)) (changed (back w) t.sender a)
            (ap (λ (z : Sender). record z { credit = z.credit + 8 }) (sender_of_way (back w) out)) (wire_take plan vs sw lines t w rest s) (changed w t.receiver r)
            (record { buffer = e.buffer; promised = e.promised; got = e.got; mark = e.mark; bound = e.bound });
        says = silent refl (λ d. refl);
      }

  pub passes_a_byte : (w c : ℕ) (rest : List Token) (b : Vcp) → IsInto plan w (AtNode n l) → x.receiver.buffer ≡ Byte c ∷ rest → b ≡ set_link (vs n) l (passing x rest (x.passed ++ c ∷ [])) →
      TokenLifted plan waiting (put vs n b) sw lines t (tok.Pass w) []
  passes_a_byte w c rest b into front h =
      let e = end_of_way w into in
      let out = back_out plan w (AtNode n l) into in
      let r = record (t.receiver w) { buffer = rest; got = (t.receiver w).got ++ c ∷ [] } in
      record {
        new = set_receiver t w r;
        step = (into.0, tok.node_byte n l c rest into.1 (e.buffer ∙ front) refl);
        shows = node_shown plan vs sw lines lines t (set_receiver t w r) n l w (back w) b (passing x rest (x.passed ++ c ∷ [])) r (t.sender (back w)) acc into out s (ap (λ z. z.link) h)
            (same_nodes b (ap (λ z. z.carrier) h)) (kept (back w) t.sender) (sender_of_way (back w) out) s.wire (changed w t.receiver r)
            (record { buffer = refl; promised = e.promised; got = ap (λ z. z ++ c ∷ []) e.got; mark = e.mark; bound = e.bound });
        says = silent refl (λ d. refl);
      }

  pub passes_a_mark : (w : ℕ) (m : Mark) (rest : List Token) (what : node.Taken) (carrier : Carrier) (b : Vcp) → IsInto plan w (AtNode n l) → x.receiver.buffer ≡ EndMark m ∷ rest →
      node.Arrives (ends plan n) (vs n).carrier (record { body = x.passed; mark = m }) what carrier → b ≡ record (set_link (vs n) l (passing x rest [])) { carrier = carrier } →
      TokenLifted plan waiting (put vs n b) sw lines t (tok.Pass w) (said_by_taken what)
  passes_a_mark w m rest what carrier b into front arrives h =
      let e = end_of_way w into in
      let out = back_out plan w (AtNode n l) into in
      let r = record (t.receiver w) { buffer = rest; got = [] } in
      let p : Packet = record { body = x.passed; mark = m } in
      let g = reached plan (carriers vs) (losses sw) t.nodes n p what carrier acc s.nodes arrives in
      let u = record (set_receiver t w r) { nodes = g.new } in
      let cars : put (carriers vs) n carrier ≡ carriers (put vs n b) = ap (λ z. put (carriers vs) n z) (sym (ap (λ z. z.carrier) h)) ∙ new_carriers vs n b in
      record {
        new = u;
        step = (into.0, tok.node_mark n l m rest g.new into.1 (e.buffer ∙ front) (subst (λ z. net.Reaches (net_of plan) t.nodes n (record { body = z; mark = m }) g.new) (sym e.got) g.reaches) refl);
        shows = node_shown plan vs sw lines lines t u n l w (back w) b (passing x rest []) r (t.sender (back w)) acc into out s (ap (λ z. z.link) h)
            (subst (λ z. Sees plan z (losses sw) g.new) cars g.sees) (kept (back w) t.sender) (sender_of_way (back w) out) s.wire (changed w t.receiver r)
            (record { buffer = refl; promised = e.promised; got = refl; mark = e.mark; bound = e.bound });
        says = g.says;
      }

  pub sends : (w : ℕ) (k : Token) (b : Vcp) → IsOutOf plan w (AtNode n l) → Sends (vs n) l k b → TokenLifted plan waiting (put vs n b) sw (put lines w (lines w ++ k ∷ [])) t (tok.Put w) []
  sends w k b out h =
      let into = back_into plan w (AtNode n l) out in
      let e = end_of_way (back w) into in
      let a = sender_of_way w out in
      let queue : (t.nodes.ways w).queue ≡ h.packet ∷ h.rest = s.nodes.queue w out.0 ∙ ap (queue_at (carriers vs)) out.1 ∙ h.front in
      elim h.puts [
        | puts_byte c more credit body is after ↦ (
            let sent : Sender = record { sent = (t.sender w).sent ++ c ∷ []; credit = (t.sender w).credit - 1 } in
            let y = record x { sender = h.sender } in
            let u = put_byte t w c in
            let link : b.link ≡ put (vs n).link l y = ap (λ z. z.link) h.after in
            let carrier : b.carrier ≡ (vs n).carrier = ap (λ z. z.carrier) h.after ∙ ap (unqueued (vs n).carrier l h.rest) is in
            let same : sent ≡ h.sender = ap (λ (z : Sender). record { sent = z.sent ++ c ∷ []; credit = z.credit - 1 }) a ∙ sym after in
            record {
              new = u;
              step = (out.0, subst (λ (z : Sender). 0 < z.credit) (sym a) credit, tok.node_byte n l h.packet h.rest c more out.1 queue (body ∙ ap (λ (z : Sender). z.sent ++ c ∷ more) (sym a)) refl);
              shows = node_shown plan vs sw lines (put lines w (lines w ++ k ∷ [])) t u n l (back w) w b y (t.receiver (back w)) sent acc into out s link (same_nodes b carrier) (changed w t.sender sent) same
                  (subst (λ z. (v : ℕ) → u.wire v ≡ put lines w (lines w ++ z ∷ []) v) (sym is) (wire_put plan vs sw lines t w (Byte c ∷ []) s)) (kept (back w) t.receiver)
                  (record { buffer = e.buffer; promised = e.promised; got = e.got; mark = e.mark; bound = e.bound });
              says = silent refl (λ d. refl);
            })
        | puts_mark m credit body some is after ↦ (
            let sent : Sender = record { sent = []; credit = (t.sender w).credit - 1 } in
            let y = record x { sender = h.sender } in
            let nodes = set_way t.nodes w (record (t.nodes.ways w) { queue = h.rest }) in
            let u = record (put_mark t w h.packet.mark) { nodes = nodes } in
            let link : b.link ≡ put (vs n).link l y = ap (λ z. z.link) h.after in
            let carrier : b.carrier ≡ record (vs n).carrier { queue = put (vs n).carrier.queue l h.rest } = ap (λ z. z.carrier) h.after ∙ ap (unqueued (vs n).carrier l h.rest) is in
            let same : sent ≡ h.sender = ap (λ (z : Sender). record { sent = []; credit = z.credit - 1 }) a ∙ sym after in
            let mark : h.packet.mark ≡ m = cc in
            let cars : put (carriers vs) n (record (vs n).carrier { queue = put (vs n).carrier.queue l h.rest }) ≡ carriers (put vs n b) = ap (put (carriers vs) n) (sym carrier) ∙ new_carriers vs n b in
            record {
              new = u;
              step = (out.0, subst (λ (z : Sender). 0 < z.credit) (sym a) credit, tok.node_mark n l h.packet h.rest out.1 queue (body ∙ ap (λ (z : Sender). z.sent) (sym a)) refl);
              shows = node_shown plan vs sw lines (put lines w (lines w ++ k ∷ [])) t u n l (back w) w b y (t.receiver (back w)) sent acc into out s link
                  (subst (λ z. Sees plan z (losses sw) nodes) cars (queue_seen plan (carriers vs) (losses sw) t.nodes n l w h.rest acc out.0 out.1 s.nodes)) (changed w t.sender sent) same
                  (subst (λ z. (v : ℕ) → u.wire v ≡ put lines w (lines w ++ z ∷ []) v) (sym (is ∙ ap EndMark (sym mark))) (wire_put plan vs sw lines t w (EndMark h.packet.mark ∷ []) s)) (kept (back w) t.receiver)
                  (record { buffer = e.buffer; promised = e.promised; got = e.got; mark = e.mark; bound = e.bound });
              says = silent refl (λ d. refl);
            })
      ]

  pub sends_fct : (w : ℕ) (b : Vcp) → IsOutOf plan w (AtNode n l) → SendsFct (vs n) l b → TokenLifted plan waiting (put vs n b) sw (put lines w (lines w ++ tokens.Fct ∷ [])) t (tok.PutFct (back w)) []
  sends_fct w b out h =
      let into = back_into plan w (AtNode n l) out in
      let e = end_of_way (back w) into in
      let r = record (t.receiver (back w)) { promised = (t.receiver (back w)).promised + 8 } in
      let y = record x { receiver = h.receiver } in
      let u = set_wire (set_receiver t (back w) r) (back (back w)) (t.wire (back (back w)) ++ tokens.Fct ∷ []) in
      record {
        new = u;
        step = record {
          real = into.0;
          room = subst (λ z. length z + (t.receiver (back w)).promised + 8 ≤ 16) (sym e.buffer) (subst (λ z. length x.receiver.buffer + z + 8 ≤ 16) (sym e.promised) h.grants.room);
          after = refl;
        };
        shows = node_shown plan vs sw lines (put lines w (lines w ++ tokens.Fct ∷ [])) t u n l (back w) w b y r (t.sender w) acc into out s (ap (λ z. z.link) h.after) (same_nodes b (ap (λ z. z.carrier) h.after))
            (kept w t.sender) (sender_of_way w out)
            (subst (λ z. (v : ℕ) → put t.wire z (t.wire z ++ tokens.Fct ∷ []) v ≡ put lines w (lines w ++ tokens.Fct ∷ []) v) (sym (back_back w)) (wire_put plan vs sw lines t w (tokens.Fct ∷ []) s))
            (changed (back w) t.receiver r)
            (record { buffer = e.buffer ∙ sym (ap (λ z. z.buffer) h.grants.after); promised = ap (λ z. z + 8) e.promised ∙ sym (ap (λ z. z.promised) h.grants.after); got = e.got; mark = e.mark; bound = e.bound });
        says = silent refl (λ d. refl);
      }
