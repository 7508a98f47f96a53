-- A step of a switch is a step of the token machine of ways.
use Rattle.std.proofs.Common.{◌≡◌, ℕ, suc, ◌+◌, ◌-◌, ◌<◌, ◌≤◌, List, [], ◌∷◌, ◌++◌, length, Option, Some, None, refl, sym, ap, subst, ◌∙◌, arith}
use Rattle.std.proofs.lemmas.Option.{same_Some, none-some}
use Rattle.vc_machine.specs.Paths.{Port, AtNode, AtSwitch}
use Rattle.vc_machine.specs.Machine as net
use Rattle.vc_packets.specs.Functions.{put}
use Rattle.vc_machine.proofs.Basics.{every_put}
use Rattle.vc_tokens.specs.Tokens.{Token, Byte, EndMark}
use Rattle.vc_tokens.specs.Tokens as tokens
use Rattle.vc_credit.specs.Ends.{Sender, puts_byte, puts_mark, credited}
use Rattle.vc_machine.specs.Links.{Receiver, Tokens, set_wire, set_receiver}
use Rattle.vc_machine.specs.TokenMachine as tok
use Rattle.vc_switch.specs.Waiting.{Waiting, MayGo}
use Rattle.vc_machine.specs.TokenMachine.{arrive, put_byte, put_mark}
use Rattle.vc_machine.proofs.Update.{Changed, changed, kept}
use Rattle.vc_machine.proofs.Ports.{switch_same}
use Rattle.vc_credit.specs.Ends as link_ends
use Rattle.vc_vcp.specs.Links.{Vcp}
use Rattle.vc_switch.specs.Switch as switch
use Rattle.vc_switch.specs.Switch.{Switch, Input, set_input, drawn, headed, with_header, with_token, passing, Passes, passes_byte, drops_byte, passes_mark, loses, Routes, Sends, SendsFct, released}
use Rattle.vc_network.proofs.Wires.{found_by, one_near}
use Rattle.vc_network.specs.Plan.{body_limit, Plan, ways, far, back, way_from, net_of, switch_plan, IsAccepted, IsOutOf, IsInto}
use Rattle.vc_network.proofs.Backs.{back_back, back_into, back_out}
use Rattle.vc_network.proofs.Seen.{Sees, keep}
use Rattle.vc_network.proofs.ChannelSteps.{silent}
use Rattle.vc_network.specs.Credit.{sender_at}
use Rattle.vc_network.specs.Packets.{SameBound}
use Rattle.vc_network.proofs.TokenViews.{Shows, SwitchEnd, SameReceiver, carriers, losses, switch_shown}
use Rattle.vc_network.proofs.NodeLinks.{TokenLifted, wire_take, wire_put}

-- the words of a switch and of the network say the same
pub body_leaves : (plan : Plan) (k : ℕ) (b : List ℕ) (link : ℕ) (d : List ℕ) → IsAccepted plan → switch.BodyLeaves (switch_plan plan k) b link d →
    net.BodyLeaves (net_of plan) k b (way_from plan (AtSwitch k link)) d
body_leaves plan k b link d acc h =
    let l = h.leaves in
    let w = found_by plan (AtSwitch k link) (acc.groups k l.header l.first l.last link l.group l.low l.high) in
    record {
      stack = h.stack;
      after = h.after;
      rest = h.rest;
      before_is = h.before_is;
      leaves = record { header = l.header; rest = l.rest; first = l.first; last = l.last; link = link; front = l.front; group = l.group; low = l.low; high = l.high; real = w.0; near = w.1; left = l.left };
      after_is = h.after_is;
    }

pub has_group : (plan : Plan) (k : ℕ) (b : List ℕ) → switch.HasGroup (switch_plan plan k) b → net.HasGroup (net_of plan) k b
has_group plan k b h = record { stack = h.stack; rest = h.rest; header = h.header; behind_it = h.behind_it; first = h.first; last = h.last; is = h.is; front = h.front; group = h.group }

pub group_back : (plan : Plan) (k : ℕ) (b : List ℕ) → net.HasGroup (net_of plan) k b → switch.HasGroup (switch_plan plan k) b
group_back plan k b h = record { stack = h.stack; rest = h.rest; header = h.header; behind_it = h.behind_it; first = h.first; last = h.last; is = h.is; front = h.front; group = h.group }

-- the way that leaves by a port of a group
out_way : (plan : Plan) (k output : ℕ) (b d : List ℕ) → IsAccepted plan → switch.BodyLeaves (switch_plan plan k) b output d → IsOutOf plan (way_from plan (AtSwitch k output)) (AtSwitch k output)
out_way plan k output b d acc h = let l = h.leaves in let f = found_by plan (AtSwitch k output) (acc.groups k l.header l.first l.last output l.group l.low l.high) in (f.0, f.1)

pub header_same : (plan : Plan) (k l : ℕ) (x : Input) (r : Receiver) → SwitchEnd plan k x r → tok.with_header (net_of plan) k l r ≡ with_header (switch_plan plan k) l x
header_same plan k l x r e = λ i. headed (drawn ((switch_plan plan k).random l) (e.word i)) (e.got i)

put_own : {X : Type 0} (f : ℕ → X) (i : ℕ) → f ≡ put f i (f i)
put_own f i = λ j m. sym (every_put (λ v y. y ≡ f v) f i (f i) refl (λ v ne. refl) m) j

bound_none : (plan : Plan) (k : ℕ) (x b : Option ℕ) → SameBound plan k x b → x ≡ None → b ≡ None
bound_none plan k None b h e = h
bound_none plan k (Some l) b h e = absurd (none-some l (sym e))

pub bound_some : (plan : Plan) (k l : ℕ) (x b : Option ℕ) → SameBound plan k x b → x ≡ Some l → (out : ℕ) × (b ≡ Some out) × IsOutOf plan out (AtSwitch k l)
bound_some plan k l x b h e = subst (λ z. SameBound plan k z b) e h

pub bound_back : (plan : Plan) (k out : ℕ) (x b : Option ℕ) → SameBound plan k x b → b ≡ Some out → (l : ℕ) × (x ≡ Some l) × IsOutOf plan out (AtSwitch k l)
bound_back plan k out None b h e = absurd (none-some out (sym h ∙ e))
bound_back plan k out (Some l) b h e = (l, refl, subst (λ z. IsOutOf plan z (AtSwitch k l)) (same_Some h.0 out (sym h.1 ∙ e)) h.2)

module _ (plan : Plan) (waiting : Waiting) (acc : IsAccepted plan) (vs : ℕ → Vcp) (sw : ℕ → Switch) (lines : ℕ → List Token) (t : Tokens) (s : Shows plan vs sw lines t) (k : ℕ) where
  abbrev x : ℕ → Input
  x l = (sw k).input l

  end_of_way : (l w : ℕ) → IsInto plan w (AtSwitch k l) → SwitchEnd plan k (x l) (t.receiver w)
  end_of_way l w into = subst (λ p. SameReceiver plan vs sw p (t.receiver w)) into.1 (s.receiver w into.0)

  sender_of_way : (l w : ℕ) → IsOutOf plan w (AtSwitch k l) → t.sender w ≡ (sw k).output l
  sender_of_way l w out = s.sender w out.0 ∙ ap (sender_at vs sw) out.1

  same_losses : (b : Switch) → b.lost ≡ (sw k).lost → Sees plan (carriers vs) (losses (put sw k b)) t.nodes
  same_losses b e = subst (λ z. Sees plan (carriers vs) z t.nodes) (λ i m. sym (keep (λ a. a.lost) sw k b e m) i) s.nodes

  -- only the input changes, with the token that comes or passes
  input_shown : (l w : ℕ) (b : Switch) (y : Input) (r : Receiver) (u : Tokens) (lines' : ℕ → List Token) → IsInto plan w (AtSwitch k l) → b.input ≡ put (sw k).input l y → b.output ≡ (sw k).output →
      Sees plan (carriers vs) (losses (put sw k b)) u.nodes → u.sender ≡ t.sender → ((v : ℕ) → u.wire v ≡ lines' v) → u.receiver ≡ put t.receiver w r → SwitchEnd plan k y r → Shows plan vs (put sw k b) lines' u
  input_shown l w b y r u lines' into ei eo nodes senders wires receivers end =
      let out = back_out plan w (AtSwitch k l) into in
      switch_shown plan vs sw lines lines' t u k l l w (back w) b y ((sw k).output l) r (t.sender (back w)) acc into out s ei (eo ∙ put_own (sw k).output l) nodes
      (subst (λ f. Changed (back w) t.sender f (t.sender (back w))) (sym senders) (kept (back w) t.sender)) (sender_of_way l (back w) out) wires (subst (λ f. Changed w t.receiver f r) (sym receivers) (changed w t.receiver r)) end

  -- a token other than an FCT comes
  received : (l w word : ℕ) (c : Token) (rest : List Token) (b : Switch) → IsInto plan w (AtSwitch k l) → lines w ≡ c ∷ rest →
      b ≡ set_input (sw k) l (record (x l) { receiver = link_ends.received (x l).receiver c; word = word }) → (r : Receiver) →
      r ≡ record (t.receiver w) { buffer = (t.receiver w).buffer ++ c ∷ []; promised = (t.receiver w).promised - 1; word = word } →
      arrive back (set_wire t w rest) w word c ≡ set_receiver (set_wire t w rest) w r → TokenLifted plan waiting vs (put sw k b) (put lines w rest) t (tok.Take w word) []
  received l w word c rest b into front h r is came =
      let u = set_receiver (set_wire t w rest) w r in
      let e = end_of_way l w into in
      record {
        new = u;
        step = record { token = c; rest = rest; real = into.0; front = s.wire w ∙ front; after = sym came };
        shows = input_shown l w b (record (x l) { receiver = link_ends.received (x l).receiver c; word = word }) r u (put lines w rest) into (ap (λ z. z.input) h) (ap (λ z. z.output) h) (same_losses b (ap (λ z. z.lost) h)) refl
            (wire_take plan vs sw lines t w rest s) refl
            (record {
              buffer = ap (λ z. z.buffer) is ∙ ap (λ z. z ++ c ∷ []) e.buffer;
              promised = ap (λ z. z.promised) is ∙ ap (λ z. z - 1) e.promised;
              word = ap (λ z. z.word) is;
              got = ap (λ z. z.got) is ∙ e.got;
              mark = ap (λ z. z.mark) is ∙ e.mark;
              bound = subst (SameBound plan k (x l).bound) (sym (ap (λ z. z.bound) is)) e.bound;
            });
        says = silent refl (λ d. refl);
      }

  pub comes : (l w word : ℕ) (c : Token) (rest : List Token) (b : Switch) → IsInto plan w (AtSwitch k l) → lines w ≡ c ∷ rest → b ≡ with_token (sw k) l word c →
      TokenLifted plan waiting vs (put sw k b) (put lines w rest) t (tok.Take w word) []
  comes l w word (Byte c) rest b into front h = received l w word (Byte c) rest b into front h (record (t.receiver w) { buffer = (t.receiver w).buffer ++ Byte c ∷ []; promised = (t.receiver w).promised - 1; word = word }) refl refl
  comes l w word (EndMark m) rest b into front h = received l w word (EndMark m) rest b into front h (record (t.receiver w) { buffer = (t.receiver w).buffer ++ EndMark m ∷ []; promised = (t.receiver w).promised - 1; word = word }) refl refl
  comes l w word tokens.Fct rest b into front h =
      let u = arrive back (set_wire t w rest) w word tokens.Fct in
      let e = end_of_way l w into in
      let out = back_out plan w (AtSwitch k l) into in
      let r = record (t.receiver w) { word = word } in
      let a = record (t.sender (back w)) { credit = (t.sender (back w)).credit + 8 } in
      record {
        new = u;
        step = record { token = tokens.Fct; rest = rest; real = into.0; front = s.wire w ∙ front; after = refl };
        shows = switch_shown plan vs sw lines (put lines w rest) t u k l l w (back w) b (record (x l) { word = word }) (credited ((sw k).output l)) r a acc into out s (ap (λ z. z.input) h) (ap (λ z. z.output) h)
            (same_losses b (ap (λ z. z.lost) h)) (changed (back w) t.sender a) (ap (λ (z : Sender). record z { credit = z.credit + 8 }) (sender_of_way l (back w) out)) (wire_take plan vs sw lines t w rest s) (changed w t.receiver r)
            (record { buffer = e.buffer; promised = e.promised; word = refl; got = e.got; mark = e.mark; bound = e.bound });
        says = silent refl (λ d. refl);
      }

  pub passes_a_byte : (l w c : ℕ) (rest : List Token) (b : Switch) → IsInto plan w (AtSwitch k l) → (x l).mark ≡ None → (x l).receiver.buffer ≡ Byte c ∷ rest →
      b ≡ set_input (sw k) l (passing (x l) rest (with_header (switch_plan plan k) l (x l) ++ c ∷ []) None) → TokenLifted plan waiting vs (put sw k b) lines t (tok.Pass w) []
  passes_a_byte l w c rest b into unmarked front h =
      let e = end_of_way l w into in
      let head = header_same plan k l (x l) (t.receiver w) e in
      let r = record (t.receiver w) { buffer = rest; got = tok.with_header (net_of plan) k l (t.receiver w) ++ c ∷ [] } in
      record {
        new = set_receiver t w r;
        step = (into.0, tok.switch_byte k l c rest into.1 (e.mark ∙ unmarked) (e.buffer ∙ front) refl);
        shows = input_shown l w b (passing (x l) rest (with_header (switch_plan plan k) l (x l) ++ c ∷ []) None) r (set_receiver t w r) lines into (ap (λ z. z.input) h) (ap (λ z. z.output) h)
            (same_losses b (ap (λ z. z.lost) h)) refl s.wire refl
            (record { buffer = refl; promised = e.promised; word = e.word; got = ap (λ z. z ++ c ∷ []) head; mark = e.mark ∙ unmarked; bound = e.bound });
        says = silent refl (λ d. refl);
      }

  pub passes_rest : (l w : ℕ) (b : Switch) → IsInto plan w (AtSwitch k l) → Passes (body_limit plan) (switch_plan plan k) (sw k) l b → ((c : ℕ) (rest : List Token) → (x l).receiver.buffer ≡ Byte c ∷ rest → body_limit plan ≤ length (with_header (switch_plan plan k) l (x l)) → (x l).mark ≡ None → ⊥) →
      TokenLifted plan waiting vs (put sw k b) lines t (tok.Pass w) []
  passes_rest l w b into (passes_byte c rest unmarked front short h) fits = passes_a_byte l w c rest b into unmarked front h
  passes_rest l w b into (drops_byte c rest unmarked front long h) fits = absurd (fits c rest front long unmarked)
  passes_rest l w b into (passes_mark m rest unmarked front group h) fits =
      let e = end_of_way l w into in
      let head = header_same plan k l (x l) (t.receiver w) e in
      let got = tok.with_header (net_of plan) k l (t.receiver w) in
      let r = record (t.receiver w) { buffer = rest; got = got; mark = Some m } in
      record {
        new = set_receiver t w r;
        step = (into.0, tok.switch_mark k l m rest into.1 (e.mark ∙ unmarked) (e.buffer ∙ front) (tok.keeps (subst (net.HasGroup (net_of plan) k) (sym head) (has_group plan k _ group)) refl));
        shows = input_shown l w b (passing (x l) rest (with_header (switch_plan plan k) l (x l)) (Some m)) r (set_receiver t w r) lines into (ap (λ z. z.input) h) (ap (λ z. z.output) h)
            (same_losses b (ap (λ z. z.lost) h)) refl s.wire refl
            (record { buffer = refl; promised = e.promised; word = e.word; got = head; mark = refl; bound = e.bound });
        says = silent refl (λ d. refl);
      }
  passes_rest l w b into (loses m rest unmarked front nobody h) fits =
      let e = end_of_way l w into in
      let head = header_same plan k l (x l) (t.receiver w) e in
      let got = tok.with_header (net_of plan) k l (t.receiver w) in
      let r = record (t.receiver w) { buffer = rest; got = [] } in
      let u = record (set_receiver t w r) { nodes = record t.nodes { lost = suc t.nodes.lost } } in
      record {
        new = u;
        step = (into.0, tok.switch_mark k l m rest into.1 (e.mark ∙ unmarked) (e.buffer ∙ front) (tok.loses (λ g. nobody (group_back plan k _ (subst (net.HasGroup (net_of plan) k) head g))) refl));
        shows = input_shown l w b (passing (x l) rest [] None) r u lines into (ap (λ z. z.input) h) (ap (λ z. z.output) h)
            (record { queue = s.nodes.queue; chan = s.nodes.chan; strays = s.nodes.strays; lost = λ f. absurd (let q : suc t.nodes.lost ≡ 0 = f in omega arith) }) refl s.wire refl
            (record { buffer = refl; promised = e.promised; word = e.word; got = refl; mark = e.mark ∙ unmarked; bound = e.bound });
        says = silent refl (λ d. refl);
      }

  pub routes : (l o w : ℕ) (b : Switch) → IsInto plan w (AtSwitch k l) → Routes (switch_plan plan k) waiting (sw k) l o b → TokenLifted plan waiting vs (put sw k b) lines t (tok.Route w (way_from plan (AtSwitch k o))) []
  routes l o w b into h =
      let e = end_of_way l w into in
      let out = way_from plan (AtSwitch k o) in
      let to = out_way plan k o (x l).got h.body acc h.group in
      let r = record (t.receiver w) { bound = Some out } in
      record {
        new = set_receiver t w r;
        step = record {
          body = h.body;
          switch = k;
          link = l;
          real = into.0;
          far = into.1;
          unbound = bound_none plan k (x l).bound (t.receiver w).bound e.bound h.unbound;
          group = subst (λ z. net.BodyLeaves (net_of plan) k z out h.body) (sym e.got) (body_leaves plan k (x l).got o h.body acc h.group);
          may_go = subst (MayGo waiting) (sym e.mark) h.may_go;
          free = λ v real is. taken (far plan v) v real is (s.receiver v real);
          after = refl;
        };
        shows = input_shown l w b (record (x l) { bound = Some o }) r (set_receiver t w r) lines into (ap (λ z. z.input) h.after) (ap (λ z. z.output) h.after) (same_losses b (ap (λ z. z.lost) h.after)) refl s.wire refl
            (record { buffer = e.buffer; promised = e.promised; word = e.word; got = e.got; mark = e.mark; bound = (out, refl, to) });
        says = silent refl (λ d. refl);
      }
    where
      taken : (p : Port) (v : ℕ) → v < ways plan → (t.receiver v).bound ≡ Some (way_from plan (AtSwitch k o)) → SameReceiver plan vs sw p (t.receiver v) → ⊥
      taken (AtNode n j) v real is e = none-some (way_from plan (AtSwitch k o)) (sym e.bound ∙ is)
      taken (AtSwitch m j) v real is e =
          let q = bound_back plan m (way_from plan (AtSwitch k o)) ((sw m).input j).bound (t.receiver v).bound e.bound is in
          let same = switch_same m k q.0 o (sym q.2.1 ∙ (out_way plan k o (x l).got h.body acc h.group).1) in
          h.free j (subst (λ z. ((sw z).input j).bound ≡ Some o) same.0 (q.1 ∙ ap Some same.1))

  pub sends : (o w v : ℕ) (c : Token) (b : Switch) → IsOutOf plan w (AtSwitch k o) → (h : Sends (switch_plan plan k) waiting (sw k) o c b) → IsInto plan v (AtSwitch k h.link) →
      TokenLifted plan waiting vs (put sw k b) (put lines w (lines w ++ c ∷ [])) t (tok.Put w) []
  sends o w v c b out h into =
      let l = h.link in
      let e = end_of_way l v into in
      let a = sender_of_way o w out in
      let to = out_way plan k o (x l).got h.body acc h.leaves in
      let way : way_from plan (AtSwitch k o) ≡ w = one_near plan acc (way_from plan (AtSwitch k o)) w to.0 out.0 (to.1 ∙ sym out.1) in
      let q = bound_some plan k o (x l).bound (t.receiver v).bound e.bound h.bound in
      let bound : tok.IsBoundTo (net_of plan) waiting t k v w h.body = record {
        real = into.0;
        link = l;
        far = into.1;
        bound = q.1 ∙ ap Some (one_near plan acc q.0 w q.2.0 out.0 (q.2.1 ∙ sym out.1));
        leaves = subst (λ z. net.BodyLeaves (net_of plan) k z w h.body) (sym e.got) (subst (λ z. net.BodyLeaves (net_of plan) k (x l).got z h.body) way (body_leaves plan k (x l).got o h.body acc h.leaves));
        may_go = subst (MayGo waiting) (sym e.mark) h.may_go;
      } in
      elim h.puts [
        | puts_byte d more credit body is after ↦ (
            let sent : Sender = record { sent = (t.sender w).sent ++ d ∷ []; credit = (t.sender w).credit - 1 } in
            let u = put_byte t w d in
            let same : sent ≡ h.sender = ap (λ (z : Sender). record { sent = z.sent ++ d ∷ []; credit = z.credit - 1 }) a ∙ sym after in
            let left : released (sw k) l c ≡ sw k = ap (released (sw k) l) is in
            record {
              new = u;
              step = (out.0, subst (λ (z : Sender). 0 < z.credit) (sym a) credit, tok.switch_byte k v h.body d more bound (body ∙ ap (λ (z : Sender). z.sent ++ d ∷ more) (sym a)) refl);
              shows = switch_shown plan vs sw lines (put lines w (lines w ++ c ∷ [])) t u k l o v w b (x l) h.sender (t.receiver v) sent acc into out s
                  (ap (λ z. z.input) h.after ∙ ap (λ z. z.input) left ∙ put_own (sw k).input l) (ap (λ z. z.output) h.after ∙ ap (λ z. put z.output o h.sender) left)
                  (same_losses b (ap (λ z. z.lost) h.after ∙ ap (λ z. z.lost) left)) (changed w t.sender sent) same
                  (subst (λ z. (j : ℕ) → u.wire j ≡ put lines w (lines w ++ z ∷ []) j) (sym is) (wire_put plan vs sw lines t w (Byte d ∷ []) s)) (kept v t.receiver) e;
              says = silent refl (λ d. refl);
            })
        | puts_mark m credit body some is after ↦ (
            let sent : Sender = record { sent = []; credit = (t.sender w).credit - 1 } in
            let r = record (t.receiver v) { got = []; mark = None; bound = None } in
            let u = put_mark (tok.released t v) w m in
            let same : sent ≡ h.sender = ap (λ (z : Sender). record { sent = []; credit = z.credit - 1 }) a ∙ sym after in
            let y = record (x l) { got = []; mark = None; bound = None } in
            let left : released (sw k) l c ≡ set_input (sw k) l y = ap (released (sw k) l) is in
            record {
              new = u;
              step = (out.0, subst (λ (z : Sender). 0 < z.credit) (sym a) credit, tok.switch_mark k v h.body m bound (e.mark ∙ some) (body ∙ ap (λ (z : Sender). z.sent) (sym a)) refl);
              shows = switch_shown plan vs sw lines (put lines w (lines w ++ c ∷ [])) t u k l o v w b y h.sender r sent acc into out s
                  (ap (λ z. z.input) h.after ∙ ap (λ z. z.input) left) (ap (λ z. z.output) h.after ∙ ap (λ z. put z.output o h.sender) left)
                  (same_losses b (ap (λ z. z.lost) h.after ∙ ap (λ z. z.lost) left)) (changed w t.sender sent) same
                  (subst (λ z. (j : ℕ) → u.wire j ≡ put lines w (lines w ++ z ∷ []) j) (sym is) (wire_put plan vs sw lines t w (EndMark m ∷ []) s)) (changed v t.receiver r)
                  (record { buffer = e.buffer; promised = e.promised; word = e.word; got = refl; mark = refl; bound = refl });
              says = silent refl (λ d. refl);
            })
      ]

  pub sends_fct : (l w : ℕ) (b : Switch) → IsOutOf plan w (AtSwitch k l) → SendsFct (sw k) l b → TokenLifted plan waiting vs (put sw k b) (put lines w (lines w ++ tokens.Fct ∷ [])) t (tok.PutFct (back w)) []
  sends_fct l w b out h =
      let into = back_into plan w (AtSwitch k l) out in
      let e = end_of_way l (back w) into in
      let r = record (t.receiver (back w)) { promised = (t.receiver (back w)).promised + 8 } in
      let u = set_wire (set_receiver t (back w) r) (back (back w)) (t.wire (back (back w)) ++ tokens.Fct ∷ []) in
      record {
        new = u;
        step = record {
          real = into.0;
          room = subst (λ z. length z + (t.receiver (back w)).promised + 8 ≤ 16) (sym e.buffer) (subst (λ z. length (x l).receiver.buffer + z + 8 ≤ 16) (sym e.promised) h.grants.room);
          after = refl;
        };
        shows = input_shown l (back w) b (record (x l) { receiver = h.receiver }) r u (put lines w (lines w ++ tokens.Fct ∷ [])) into (ap (λ z. z.input) h.after) (ap (λ z. z.output) h.after) (same_losses b (ap (λ z. z.lost) h.after)) refl
            (subst (λ z. (v : ℕ) → put t.wire z (t.wire z ++ tokens.Fct ∷ []) v ≡ put lines w (lines w ++ tokens.Fct ∷ []) v) (sym (back_back w)) (wire_put plan vs sw lines t w (tokens.Fct ∷ []) s)) refl
            (record { buffer = e.buffer ∙ sym (ap (λ z. z.buffer) h.grants.after); promised = ap (λ z. z + 8) e.promised ∙ sym (ap (λ z. z.promised) h.grants.after); word = e.word; got = e.got; mark = e.mark; bound = e.bound });
        says = silent refl (λ d. refl);
      }
