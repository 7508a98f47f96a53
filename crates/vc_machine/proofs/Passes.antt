-- Pass: a byte is no step, a mark at a node is Receive, a mark at a switch is Enter, and Route where the input is bound.
use Rattle.std.proofs.Common.{◌≡◌, ℕ, suc, ◌<◌, inl, inr, List, [], ◌∷◌, ◌++◌, refl, sym, ap, subst, ◌∙◌, Option, Some, None, append_assoc}
use Rattle.std.proofs.lemmas.Bool.{cases_eq}
use Rattle.vc_packets.specs.declared.mark.Mark.{Mark}
use Rattle.vc_packets.specs.declared.packet.Packet.{Packet}
use Rattle.vc_packets.specs.Headers.{spelled}
use Rattle.vc_machine.specs.Paths.{AtNode, AtSwitch, Net}
use Rattle.vc_switch.specs.Forward.{behind}
use Rattle.vc_machine.specs.Machine.{State, WayState, Full, set_way, Receive, Enter, Reaches, fills, lost, HasGroup, BodyLeaves}
use Rattle.vc_packets.specs.Functions.{put}
use Rattle.vc_tokens.specs.Tokens.{Token, Byte, EndMark, bytes, Spells, without_fcts}
use Rattle.vc_machine.specs.Links.{Receiver, Tokens, set_receiver}
use Rattle.vc_machine.specs.TokenMachine.{with_header, keeps, loses, Passes, node_byte, node_mark, switch_byte, switch_mark}
use Rattle.vc_machine.specs.View.{Got, nothing, without_mark, with_mark, stream, TokenView, Bindings, AtMostTwo, stays, moves, enters_bound}
use Rattle.vc_machine.specs.Laws.{Ranges}
use Rattle.vc_tokens.proofs.Spellings.{bytes-append}
use Rattle.vc_machine.proofs.Update.{changed, kept}
use Rattle.vc_machine.proofs.TokenNodes.{reaches_alike}
use Rattle.vc_machine.proofs.ViewChanges.{view_at, view_received, view_kept, same_nodes, framed_view, front_packet}
use Rattle.vc_machine.proofs.Heads.{headed_is, got_headed, got_at_node, inside_node, inside_unmarked, seen_bound, group_with_header, same_switch}
use Rattle.vc_machine.proofs.Basics.{put-same, put-other}

-- a byte moved on stays in the stream
byte_moved : (bs : List ℕ) (b : ℕ) (rest ts : List Token) → bytes (bs ++ b ∷ []) ++ (rest ++ ts) ≡ bytes bs ++ (Byte b ∷ rest ++ ts)
byte_moved bs b rest ts = ap (λ k. k ++ (rest ++ ts)) (bytes-append bs (b ∷ [])) ∙ append_assoc (bytes bs) (Byte b ∷ []) (rest ++ ts)

line_moved : (net : Net) (t : Tokens) (s : State) (w b : ℕ) (rest : List Token) (view : TokenView net t s) → (t.receiver w).buffer ≡ Byte b ∷ rest →
    Spells (stream ((view.ways w).passed ++ b ∷ []) rest (t.wire w)) (s.ways w).line (t.sender w).sent
line_moved net t s w b rest view e =
    let i = view.ways w in
    byte_moved i.passed b rest (without_fcts (t.wire w)) ∙ subst (λ k. Spells (stream i.passed k (t.wire w)) (s.ways w).line (t.sender w).sent) e i.line

at_node_byte : (net : Net) (t : Tokens) (s : State) (w n i b : ℕ) (rest : List Token) → TokenView net t s → net.far w ≡ AtNode n i → (t.receiver w).buffer ≡ Byte b ∷ rest →
    TokenView net (set_receiver t w (record (t.receiver w) { buffer = rest; got = (t.receiver w).got ++ b ∷ [] })) s
at_node_byte net t s w n i b rest view far e =
    let v = view.ways w in
    let r = t.receiver w in
    let at = inside_node net (net.far w) n i r.got r.mark r.bound v.passed (s.ways w).input far v.inside in
    view_kept net t s w (record r { buffer = rest; got = r.got ++ b ∷ [] }) view
    (record {
      passed = v.passed ++ b ∷ [];
      same_queue = v.same_queue;
      line = line_moved net t s w b rest view e;
      inside = without_mark at.0 (subst (λ k. Got net (net.far w) (r.got ++ b ∷ []) (k ++ b ∷ [])) at.1 (got_at_node net (net.far w) n i r.got b far)) at.2;
    })

at_switch_byte : (net : Net) (t : Tokens) (s : State) (w n i b : ℕ) (rest : List Token) → Ranges net → TokenView net t s → net.far w ≡ AtSwitch n i → (t.receiver w).mark ≡ None →
    (t.receiver w).buffer ≡ Byte b ∷ rest →
    TokenView net (set_receiver t w (record (t.receiver w) { buffer = rest; got = with_header net n i (t.receiver w) ++ b ∷ [] })) s
at_switch_byte net t s w n i b rest ranges view far none e =
    let v = view.ways w in
    let r = t.receiver w in
    let at = inside_unmarked net (net.far w) r.got r.mark r.bound v.passed (s.ways w).input none v.inside in
    let h = headed_is net (net.far w) n i r v.passed ranges far at.0 in
    view_kept net t s w (record r { buffer = rest; got = with_header net n i r ++ b ∷ [] }) view
    (record {
      passed = v.passed ++ b ∷ [];
      same_queue = v.same_queue;
      line = line_moved net t s w b rest view e;
      inside = without_mark none (got_headed net (net.far w) n i (with_header net n i r) v.passed b far h) at.1;
    })

at_node_mark : (net : Net) (t : Tokens) (s : State) (w n i : ℕ) (m : Mark) (rest : List Token) (k : State) → w < net.ways → TokenView net t s → net.far w ≡ AtNode n i →
    (t.receiver w).buffer ≡ EndMark m ∷ rest → Reaches net t.nodes n (record { body = (t.receiver w).got; mark = m }) k →
    AtMostTwo net s (record (set_receiver t w (record (t.receiver w) { buffer = rest; got = [] })) { nodes = k })
at_node_mark net t s w n i m rest k real view far e reach =
    let v = view.ways w in
    let r = t.receiver w in
    let at = inside_node net (net.far w) n i r.got r.mark r.bound v.passed (s.ways w).input far v.inside in
    let f = front_packet net t s w m rest view e in
    let r2 : Receiver = record r { buffer = rest; got = [] } in
    let x : WayState = record (s.ways w) { line = f.others } in
    let view2 : TokenView net (set_receiver t w r2) (set_way s w x) =
    view_received net t s w r2 x view
    (record { passed = []; same_queue = v.same_queue; line = f.spells; inside = without_mark at.0 (nothing refl refl) at.2 }) in
    let p : Packet = record { body = v.passed; mark = m } in
    let reach2 : Reaches net t.nodes n p k = subst (λ b. Reaches net t.nodes n (record { body = b; mark = m }) k) at.1 reach in
    let g = reaches_alike net t.nodes (set_way s w x) k n p (same_nodes net (set_receiver t w r2) (set_way s w x) view2) reach2 in
    moves (Receive w) g.after
    (record { packet = p; rest = f.others; node = n; link = i; real = real; far = far; front = f.is; after = g.step })
    (framed_view net (set_receiver t w r2) (set_way s w x) k (Reaches net (set_way s w x) n p) view2 g)

-- the mark of a packet without a group
at_switch_lost : (net : Net) (t : Tokens) (s : State) (w n i : ℕ) (m : Mark) (rest : List Token) → Ranges net → w < net.ways → TokenView net t s → net.far w ≡ AtSwitch n i →
    (t.receiver w).mark ≡ None → (t.receiver w).buffer ≡ EndMark m ∷ rest →
    (HasGroup net n (with_header net n i (t.receiver w)) → ⊥) →
    AtMostTwo net s (record (set_receiver t w (record (t.receiver w) { buffer = rest; got = [] })) { nodes = record t.nodes { lost = suc t.nodes.lost } })
at_switch_lost net t s w n i m rest ranges real view far none e alone =
    let v = view.ways w in
    let r = t.receiver w in
    let at = inside_unmarked net (net.far w) r.got r.mark r.bound v.passed (s.ways w).input none v.inside in
    let h = headed_is net (net.far w) n i r v.passed ranges far at.0 in
    let f = front_packet net t s w m rest view e in
    let r2 : Receiver = record r { buffer = rest; got = [] } in
    let x : WayState = record (s.ways w) { line = f.others } in
    let u : Tokens = record (set_receiver t w r2) { nodes = record t.nodes { lost = suc t.nodes.lost } } in
    let s2 : State = record s { ways = put s.ways w x; lost = suc s.lost } in
    moves (Enter w h.drawn) s2
    (record {
      packet = record { body = v.passed; mark = m };
      rest = f.others;
      switch = n;
      link = i;
      real = real;
      far = far;
      draw = h.may;
      front = f.is;
      free = at.1;
      after = lost (λ g. alone (subst (HasGroup net n) (sym h.is) g)) refl;
    })
    (view_at net t u s s2 w _ _ _ r2 x view
    (kept w t.nodes.ways) (kept w t.sender) (kept w t.wire) (changed w t.receiver r2) (changed w s.ways x) view.chans view.strays (ap suc view.lost)
    (record { passed = []; same_queue = v.same_queue; line = f.spells; inside = without_mark none (nothing refl refl) at.1 }))

-- what the input is bound to, if anything
data Bound (b : Option ℕ) : Type 0 where
  free : b ≡ None → Bound b
  to : (out : ℕ) → b ≡ Some out → Bound b

bound_or_not : (b : Option ℕ) → Bound b
bound_or_not None = free refl
bound_or_not (Some out) = to out refl

-- the mark of a packet with a group
at_switch_kept : (net : Net) (t : Tokens) (s : State) (w n i : ℕ) (m : Mark) (rest : List Token) → Ranges net → w < net.ways → TokenView net t s → Bindings net t →
    net.far w ≡ AtSwitch n i → (t.receiver w).mark ≡ None → (t.receiver w).buffer ≡ EndMark m ∷ rest → HasGroup net n (with_header net n i (t.receiver w)) →
    Bound (t.receiver w).bound →
    AtMostTwo net s (set_receiver t w (record (t.receiver w) { buffer = rest; got = with_header net n i (t.receiver w); mark = Some m }))
at_switch_kept net t s w n i m rest ranges real view bindings far none e group (free unbound) =
    let v = view.ways w in
    let r = t.receiver w in
    let at = inside_unmarked net (net.far w) r.got r.mark r.bound v.passed (s.ways w).input none v.inside in
    let h = headed_is net (net.far w) n i r v.passed ranges far at.0 in
    let f = front_packet net t s w m rest view e in
    let got = with_header net n i r in
    let r2 : Receiver = record r { buffer = rest; got = got; mark = Some m } in
    let p : Packet = record { body = spelled (behind h.drawn []) ++ v.passed; mark = m } in
    let x : WayState = record (s.ways w) { line = f.others; input = Full p None } in
    moves (Enter w h.drawn) (set_way s w x)
    (record {
      packet = record { body = v.passed; mark = m };
      rest = f.others;
      switch = n;
      link = i;
      real = real;
      far = far;
      draw = h.may;
      front = f.is;
      free = at.1;
      after = fills (subst (HasGroup net n) h.is group) refl;
    })
    (view_received net t s w r2 x view
    (record {
      passed = [];
      same_queue = v.same_queue;
      line = f.spells;
      inside = with_mark n i m far refl refl (λ j. Full (record { body = sym h.is j; mark = m }) (sym unbound j));
    }))
at_switch_kept net t s w n i m rest ranges real view bindings far none e group (to bound is) =
    let v = view.ways w in
    let r = t.receiver w in
    let at = inside_unmarked net (net.far w) r.got r.mark r.bound v.passed (s.ways w).input none v.inside in
    let h = headed_is net (net.far w) n i r v.passed ranges far at.0 in
    let f = front_packet net t s w m rest view e in
    let got = with_header net n i r in
    let r2 : Receiver = record r { buffer = rest; got = got; mark = Some m } in
    let p : Packet = record { body = spelled (behind h.drawn []) ++ v.passed; mark = m } in
    let x : WayState = record (s.ways w) { line = f.others; input = Full p None } in
    let y : WayState = record (s.ways w) { line = f.others; input = Full p (Some bound) } in
    let s1 : State = set_way s w x in
    let s2 : State = set_way s1 w (record (s1.ways w) { input = Full p (Some bound) }) in
    let here : s1.ways w ≡ x = put-same s.ways w x in
    let g = group_with_header net (net.far w) _ r.got bound (bindings.group w bound is) in
    let same : g.switch ≡ n = same_switch g.switch g.link n i (sym g.far ∙ far) in
    enters_bound w bound h.drawn s1 s2
    (record {
      packet = record { body = v.passed; mark = m };
      rest = f.others;
      switch = n;
      link = i;
      real = real;
      far = far;
      draw = h.may;
      front = f.is;
      free = at.1;
      after = fills (subst (HasGroup net n) h.is group) refl;
    })
    (record {
      packet = p;
      body = g.body;
      switch = n;
      link = i;
      real = real;
      far = far;
      full = ap (λ k. k.input) here;
      group = subst (λ k. BodyLeaves net n k bound g.body) h.is (subst (λ k. BodyLeaves net k got bound g.body) same g.group);
      free = λ j q real2 full. elim (cases_eq j w) [
        | inl same2 ↦ (let c : Full p None ≡ Full q (Some bound) = sym (ap (λ k. k.input) here) ∙ subst (λ k. (s1.ways k).input ≡ Full q (Some bound)) same2 full in cc)
        | inr ne ↦ (let i2 = view.ways j in
            let c : (s.ways j).input ≡ Full q (Some bound) = sym (ap (λ k. k.input) (put-other s.ways w x j ne)) ∙ full in
            let b = seen_bound net (net.far j) (t.receiver j).got (t.receiver j).mark (t.receiver j).bound i2.passed (s.ways j).input q bound i2.inside c in
            ne (bindings.one j w bound real2 real b is))
      ];
      after = refl;
    })
    (view_at net t (set_receiver t w r2) s s2 w _ _ _ r2 y view
    (kept w t.nodes.ways) (kept w t.sender) (kept w t.wire) (changed w t.receiver r2)
    (record {
      here = put-same s1.ways w _ ∙ ap (λ (k : WayState). record k { input = Full p (Some bound) }) here;
      there = λ j ne. put-other s1.ways w _ j ne ∙ put-other s.ways w x j ne;
    })
    view.chans view.strays view.lost
    (record {
      passed = [];
      same_queue = v.same_queue;
      line = f.spells;
      inside = with_mark n i m far refl refl (λ j. Full (record { body = sym h.is j; mark = m }) (sym is j));
    }))

pub passes_view : (net : Net) (t : Tokens) (s : State) (w : ℕ) (u : Tokens) → Ranges net → w < net.ways → TokenView net t s → Bindings net t → Passes net t w u → AtMostTwo net s u
passes_view net t s w u ranges real view bindings (node_byte n i b rest far front after) =
    stays (subst (λ k. TokenView net k s) (sym after) (at_node_byte net t s w n i b rest view far front))
passes_view net t s w u ranges real view bindings (node_mark n i m rest k far front reach after) =
    subst (AtMostTwo net s) (sym after) (at_node_mark net t s w n i m rest k real view far front reach)
passes_view net t s w u ranges real view bindings (switch_byte n i b rest far none front after) =
    stays (subst (λ k. TokenView net k s) (sym after) (at_switch_byte net t s w n i b rest ranges view far none front))
passes_view net t s w u ranges real view bindings (switch_mark n i m rest far none front (keeps group after)) =
    subst (AtMostTwo net s) (sym after) (at_switch_kept net t s w n i m rest ranges real view bindings far none front group (bound_or_not (t.receiver w).bound))
passes_view net t s w u ranges real view bindings (switch_mark n i m rest far none front (loses alone after)) =
    subst (AtMostTwo net s) (sym after) (at_switch_lost net t s w n i m rest ranges real view far none front alone)
