-- Each step keeps what is ahead.
use Rattle.std.proofs.Common.{◌≡◌, ℕ, suc, ◌+◌, ◌-◌, ◌<◌, ◌⊎◌, inl, inr, List, [], ◌∷◌, ◌++◌, refl, sym, ap, subst, ◌∙◌, Some, None, append-nil, append_assoc}
use Rattle.std.proofs.lemmas.Bool.{cases_eq}
use Rattle.vc_packets.specs.declared.mark.Mark.{Mark}
use Rattle.vc_packets.specs.declared.packet.Packet.{Packet}
use Rattle.vc_machine.specs.Paths.{Net}
use Rattle.vc_machine.specs.Machine.{State, WayState, BodyLeaves, set_way}
use Rattle.vc_packets.specs.Functions.{put}
use Rattle.vc_tokens.specs.Tokens.{Token, Byte, Fct, EndMark, without_fcts}
use Rattle.vc_credit.specs.Ends.{Sender}
use Rattle.vc_machine.specs.Links.{Receiver, Tokens, set_sender, set_wire, set_receiver, no_tokens}
use Rattle.vc_switch.specs.Waiting.{Waiting}
use Rattle.vc_switch.specs.Switch.{drawn}
use Rattle.vc_machine.specs.TokenMachine.{TokenEvent, Proc, Take, Pass, Put, PutFct, TokenStep, arrive, with_header, put_byte, put_mark, released, keeps, loses, Passes, node_byte, node_mark, switch_byte, switch_mark, Puts, Grants, Binds}
use Rattle.vc_machine.specs.View.{TokenView, BoundGroup, Bindings}
use Rattle.vc_machine.specs.Private.Laws.{IsLimit, AllFit}
use Rattle.vc_tokens.proofs.Spellings.{without_fcts-append}
use Rattle.vc_machine.proofs.Update.{changed, kept, every_put}
use Rattle.vc_machine.proofs.Heads.{group_with_header, same_switch, group_of}
use Rattle.vc_machine.proofs.Bindings.{not_at_node}
use Rattle.vc_machine.proofs.Queues.{Grown, reaches_grown, proc_grown}
use Rattle.vc_machine.proofs.Ahead.{WholeGot, WholeAt, Sending, Ahead, KeepsBound, both_kept, bound_at, each_kept, from_kept, whole_byte, whole_mark, whole_put, whole_closed}
use Rattle.vc_machine.proofs.PacketStarts.{Starts, start_node, start_switch, node_next, switch_next, switch_last}
use Rattle.vc_machine.proofs.Basics.{put-same, put-other}

-- what was put stays, and so does what is to come
same_ahead : (net : Net) (Fits : ℕ → List ℕ → Type 0) (t u : Tokens) → (a : Ahead net Fits t) → ((w : ℕ) → (u.sender w).sent ≡ (t.sender w).sent) → Grown t.nodes u.nodes →
    ((w : ℕ) → KeepsBound net t a.full u a.full w) → Ahead net Fits u
same_ahead net Fits t u a sent grown keep = record { full = a.full; each = λ w. each_kept net Fits t u a.full a.full w (a.each w) (sent w) refl (grown.front w) (keep w) }

unchanged : (s : State) → Grown s s
unchanged s = record { front = λ w p rest h. (rest, h) }

-- only the receiving end of way v is changed
receiver_ahead : (net : Net) (Fits : ℕ → List ℕ → Type 0) (t : Tokens) (v : ℕ) (r : Receiver) (n : State) → (a : Ahead net Fits t) → Grown t.nodes n →
    ((w : ℕ) (b : List ℕ) → (t.receiver v).bound ≡ Some w → WholeAt net t a.full v b →
    (r.bound ≡ Some w) × WholeGot net (net.far v) (t.sender v).sent (r.buffer ++ without_fcts (t.wire v)) r.got r.mark (a.full v) b) →
    Ahead net Fits (record (set_receiver t v r) { nodes = n })
receiver_ahead net Fits t v r n a grown here =
    let u : Tokens = record (set_receiver t v r) { nodes = n } in
    same_ahead net Fits t u a (λ w. refl) grown
    (λ w. bound_at net t u a.full a.full w v (t.sender v) (t.wire v) r (a.full v) (kept v t.sender) (kept v t.wire) (changed v t.receiver r) (kept v a.full) (here w))

-- Take

came : (net : Net) (t : Tokens) (f : ℕ → List ℕ) (w v : ℕ) (ts : List Token) (r : Receiver) → r.buffer ++ without_fcts ts ≡ (t.receiver v).buffer ++ without_fcts (t.wire v) →
    r.got ≡ (t.receiver v).got → r.mark ≡ (t.receiver v).mark → r.bound ≡ (t.receiver v).bound → KeepsBound net t f (set_receiver (set_wire t v ts) v r) f w
came net t f w v ts r xs got mark bound =
    bound_at net t (set_receiver (set_wire t v ts) v r) f f w v (t.sender v) ts r (f v) (kept v t.sender) (changed v t.wire ts) (changed v t.receiver r) (kept v f)
    (λ b is whole. (
      bound ∙ is,
      subst (λ k. WholeGot net (net.far v) (t.sender v).sent k r.got r.mark (f v) b) (sym xs)
          (subst (λ k. WholeGot net (net.far v) (t.sender v).sent ((t.receiver v).buffer ++ without_fcts (t.wire v)) k r.mark (f v) b) (sym got)
          (subst (λ k. WholeGot net (net.far v) (t.sender v).sent ((t.receiver v).buffer ++ without_fcts (t.wire v)) (t.receiver v).got k (f v) b) (sym mark) whole)),
    ))

credit_kept : (net : Net) (t : Tokens) (f : ℕ → List ℕ) (w v c : ℕ) → KeepsBound net t f (set_sender t v (record (t.sender v) { credit = c })) f w
credit_kept net t f w v c =
    bound_at net t (set_sender t v (record (t.sender v) { credit = c })) f f w v (record (t.sender v) { credit = c }) (t.wire v) (t.receiver v) (f v)
    (changed v t.sender (record (t.sender v) { credit = c })) (kept v t.wire) (kept v t.receiver) (kept v f) (λ b is whole. (is, whole))

same_sent : (f : ℕ → Sender) (i c : ℕ) (w : ℕ) → (put f i (record (f i) { credit = c }) w).sent ≡ (f w).sent
same_sent f i c = every_put (λ j x. x.sent ≡ (f j).sent) f i (record (f i) { credit = c }) refl (λ j. refl)

arrive_ahead : (net : Net) (Fits : ℕ → List ℕ → Type 0) (back : ℕ → ℕ) (t : Tokens) (v word : ℕ) (k : Token) (rest : List Token) → Ahead net Fits t → t.wire v ≡ k ∷ rest →
    Ahead net Fits (arrive back (set_wire t v rest) v word k)
arrive_ahead net Fits back t v word Fct rest a e =
    let r : Receiver = record (t.receiver v) { word = word } in
    let t1 = set_receiver (set_wire t v rest) v r in
    let c = (t.sender (back v)).credit + 8 in
    let u : Tokens = set_sender t1 (back v) (record (t.sender (back v)) { credit = c }) in
    same_ahead net Fits t u a (same_sent t.sender (back v) c) (unchanged t.nodes)
    (λ w. both_kept net t t1 u a.full a.full a.full w
    (came net t a.full w v rest r (ap (λ (x : List Token). (t.receiver v).buffer ++ without_fcts x) (sym e)) refl refl refl) (credit_kept net t1 a.full w (back v) c))
arrive_ahead net Fits back t v word (Byte b) rest a e =
    same_ahead net Fits t _ a (λ w. refl) (unchanged t.nodes)
    (λ w. came net t a.full w v rest (record (t.receiver v) { buffer = (t.receiver v).buffer ++ Byte b ∷ []; promised = (t.receiver v).promised - 1; word = word })
    (append_assoc (t.receiver v).buffer (Byte b ∷ []) (without_fcts rest) ∙ ap (λ (x : List Token). (t.receiver v).buffer ++ without_fcts x) (sym e)) refl refl refl)
arrive_ahead net Fits back t v word (EndMark m) rest a e =
    same_ahead net Fits t _ a (λ w. refl) (unchanged t.nodes)
    (λ w. came net t a.full w v rest (record (t.receiver v) { buffer = (t.receiver v).buffer ++ EndMark m ∷ []; promised = (t.receiver v).promised - 1; word = word })
    (append_assoc (t.receiver v).buffer (EndMark m ∷ []) (without_fcts rest) ∙ ap (λ (x : List Token). (t.receiver v).buffer ++ without_fcts x) (sym e)) refl refl refl)

-- PutFct

grants_ahead : (net : Net) (Fits : ℕ → List ℕ → Type 0) (back : ℕ → ℕ) (t : Tokens) (v : ℕ) (u : Tokens) → Ahead net Fits t → Grants net back t v u → Ahead net Fits u
grants_ahead net Fits back t v u a h =
    let r : Receiver = record (t.receiver v) { promised = (t.receiver v).promised + 8 } in
    let t1 = set_receiver t v r in
    let ts = t.wire (back v) ++ Fct ∷ [] in
    let same : without_fcts ts ≡ without_fcts (t.wire (back v)) = without_fcts-append (t.wire (back v)) (Fct ∷ []) ∙ append-nil (without_fcts (t.wire (back v))) in
    subst (Ahead net Fits) (sym h.after)
    (same_ahead net Fits t (set_wire t1 (back v) ts) a (λ w. refl) (unchanged t.nodes)
    (λ w. both_kept net t t1 (set_wire t1 (back v) ts) a.full a.full a.full w
    (bound_at net t t1 a.full a.full w v (t.sender v) (t.wire v) r (a.full v) (kept v t.sender) (kept v t.wire) (changed v t.receiver r) (kept v a.full) (λ b is whole. (is, whole)))
    (bound_at net t1 (set_wire t1 (back v) ts) a.full a.full w (back v) (t.sender (back v)) ts (t1.receiver (back v)) (a.full (back v))
    (kept (back v) t.sender) (changed (back v) t.wire ts) (kept (back v) t1.receiver) (kept (back v) a.full)
    (λ b is whole. (
      is,
      subst (λ (x : List Token). WholeGot net (net.far (back v)) (t.sender (back v)).sent ((t1.receiver (back v)).buffer ++ x) (t1.receiver (back v)).got (t1.receiver (back v)).mark (a.full (back v)) b)
          (sym same) whole,
    )))))

-- Pass

passes_ahead : (net : Net) (Fits : ℕ → List ℕ → Type 0) (t : Tokens) (v : ℕ) (u : Tokens) → Bindings net t → Ahead net Fits t → Passes net t v u → Ahead net Fits u
passes_ahead net Fits t v u bindings a (node_byte n i b rest far front after) =
    subst (Ahead net Fits) (sym after)
    (receiver_ahead net Fits t v (record (t.receiver v) { buffer = rest; got = (t.receiver v).got ++ b ∷ [] }) t.nodes a (unchanged t.nodes)
    (λ w x is whole. absurd (not_at_node net (net.far v) n i (t.receiver v).got w far (bindings.group v w is))))
passes_ahead net Fits t v u bindings a (node_mark n i m rest k far front reach after) =
    subst (Ahead net Fits) (sym after)
    (receiver_ahead net Fits t v (record (t.receiver v) { buffer = rest; got = [] }) k a (reaches_grown net t.nodes n (record { body = (t.receiver v).got; mark = m }) k reach)
    (λ w x is whole. absurd (not_at_node net (net.far v) n i (t.receiver v).got w far (bindings.group v w is))))
passes_ahead net Fits t v u bindings a (switch_byte n i b rest far none front after) =
    let r = t.receiver v in
    let d = drawn ((net.switch n).random i) r.word in
    subst (Ahead net Fits) (sym after)
    (receiver_ahead net Fits t v (record r { buffer = rest; got = with_header net n i r ++ b ∷ [] }) t.nodes a (unchanged t.nodes)
    (λ w x is whole. (
      is,
      whole_byte net (net.far v) (t.sender v).sent d b (rest ++ without_fcts (t.wire v)) r.got r.mark (a.full v) x none
          (subst (λ (k : List Token). WholeGot net (net.far v) (t.sender v).sent (k ++ without_fcts (t.wire v)) r.got r.mark (a.full v) x) front whole),
    )))
passes_ahead net Fits t v u bindings a (switch_mark n i m rest far none front (keeps group after)) =
    let r = t.receiver v in
    let d = drawn ((net.switch n).random i) r.word in
    subst (Ahead net Fits) (sym after)
    (receiver_ahead net Fits t v (record r { buffer = rest; got = with_header net n i r; mark = Some m }) t.nodes a (unchanged t.nodes)
    (λ w x is whole. (
      is,
      whole_mark net (net.far v) (t.sender v).sent d m (rest ++ without_fcts (t.wire v)) r.got r.mark (a.full v) x (rest ++ without_fcts (t.wire v)) none
          (subst (λ (k : List Token). WholeGot net (net.far v) (t.sender v).sent (k ++ without_fcts (t.wire v)) r.got r.mark (a.full v) x) front whole),
    )))
passes_ahead net Fits t v u bindings a (switch_mark n i m rest far none front (loses alone after)) =
    subst (Ahead net Fits) (sym after)
    (receiver_ahead net Fits t v (record (t.receiver v) { buffer = rest; got = [] }) (record t.nodes { lost = suc t.nodes.lost }) a (record { front = λ w p more h. (more, h) })
    (λ w x is whole.
    let g : BoundGroup net (net.far v) (with_header net n i (t.receiver v)) w = group_with_header net (net.far v) _ (t.receiver v).got w (bindings.group v w is) in
    absurd (alone (group_of net n _ w g.body (subst (λ k. BodyLeaves net k (with_header net n i (t.receiver v)) w g.body) (same_switch g.switch g.link n i (sym g.far ∙ far)) g.group)))))

-- Route

binds_ahead : (net : Net) (Fits : ℕ → List ℕ → Type 0) (waiting : Waiting) (t : Tokens) (v out : ℕ) (u : Tokens) → Ahead net Fits t → Binds net waiting t v out u → Ahead net Fits u
binds_ahead net Fits waiting t v out u a h =
    subst (Ahead net Fits) (sym h.after)
    (receiver_ahead net Fits t v (record (t.receiver v) { bound = Some out }) t.nodes a (unchanged t.nodes)
    (λ w x is whole. absurd (let e : None ≡ Some w = sym h.unbound ∙ is in cc)))

-- Put

put_kept : (net : Net) (t : Tokens) (f : ℕ → List ℕ) (j w c : ℕ) → KeepsBound net t f (put_byte t w c) f j
put_kept net t f j w c =
    let a : Sender = record { sent = (t.sender w).sent ++ c ∷ []; credit = (t.sender w).credit - 1 } in
    bound_at net t (put_byte t w c) f f j w a (t.wire w ++ Byte c ∷ []) (t.receiver w) (f w) (changed w t.sender a) (changed w t.wire (t.wire w ++ Byte c ∷ [])) (kept w t.receiver) (kept w f)
    (λ b is whole. (
      is,
      subst (λ (x : List Token). WholeGot net (net.far w) ((t.sender w).sent ++ c ∷ []) x (t.receiver w).got (t.receiver w).mark (f w) b)
          (append_assoc (t.receiver w).buffer (without_fcts (t.wire w)) (Byte c ∷ []) ∙ ap (λ x. (t.receiver w).buffer ++ x) (sym (without_fcts-append (t.wire w) (Byte c ∷ []))))
          (whole_put net (net.far w) (t.sender w).sent c ((t.receiver w).buffer ++ without_fcts (t.wire w)) (t.receiver w).got (t.receiver w).mark (f w) (f w) b (λ some. refl) whole),
    ))

byte_ahead : (net : Net) (Fits : ℕ → List ℕ → Type 0) (t : Tokens) (w c : ℕ) (more : List ℕ) → (s : Starts net Fits t w) → s.ahead.full w ≡ ((t.sender w).sent ++ c ∷ []) ++ more →
    Ahead net Fits (put_byte t w c)
byte_ahead net Fits t w c more s is =
    let f = s.ahead.full in
    let a : Sender = record { sent = (t.sender w).sent ++ c ∷ []; credit = (t.sender w).credit - 1 } in
    let sent : (j : ℕ) → (j ≡ w → ⊥) → (put t.sender w a j).sent ≡ (t.sender j).sent = λ j ne. ap (λ (k : Sender). k.sent) (put-other t.sender w a j ne) in
    let here : (put t.sender w a w).sent ≡ (t.sender w).sent ++ c ∷ [] = ap (λ (k : Sender). k.sent) (put-same t.sender w a) in
    record {
      full = f;
      each = λ j. elim (cases_eq j w) [
        | inl e ↦ inr (subst (Sending net Fits (put_byte t w c) f) (sym e) (record {
          more = more;
          is = is ∙ ap (λ k. k ++ more) (sym here);
          fits = s.sending.fits;
          comes_from = from_kept net t (put_byte t w c) f f w s.sending.comes_from refl (λ p rest h. (rest, h)) (put_kept net t f w w c);
        }))
        | inr ne ↦ each_kept net Fits t (put_byte t w c) f f j (s.ahead.each j) (sent j ne) refl (λ p rest h. (rest, h)) (put_kept net t f j w c)
      ];
    }

-- the mark is put, where what was put is the whole packet
mark_ahead : (net : Net) (Fits : ℕ → List ℕ → Type 0) (t x : Tokens) (w : ℕ) (m : Mark) (n : State) → (a : Ahead net Fits t) →
    ((t.sender w).sent ≡ []) ⊎ (a.full w ≡ (t.sender w).sent) →
    x.sender ≡ t.sender → x.wire ≡ t.wire → ((j : ℕ) → (j ≡ w → ⊥) → KeepsBound net t a.full x a.full j) →
    ((j : ℕ) → (j ≡ w → ⊥) → (p : Packet) (rest : List Packet) → (t.nodes.ways j).queue ≡ p ∷ rest → (more : List Packet) × ((n.ways j).queue ≡ p ∷ more)) →
    Ahead net Fits (record (put_mark x w m) { nodes = n })
mark_ahead net Fits t x w m n a whole es ew keep front =
    let f = a.full in
    let u : Tokens = record (put_mark x w m) { nodes = n } in
    let b : Sender = record { sent = []; credit = (x.sender w).credit - 1 } in
    let ts = x.wire w ++ EndMark m ∷ [] in
    let full_is : ((x.sender w).sent ≡ [] → ⊥) → f w ≡ (x.sender w).sent =
    subst (λ (g : ℕ → Sender). ((g w).sent ≡ [] → ⊥) → f w ≡ (g w).sent) (sym es)
    (λ some. elim whole [ inl none ↦ absurd (some none) | inr is ↦ is ]) in
    let second : (j : ℕ) → KeepsBound net x f u f j =
    λ j. bound_at net x u f f j w b ts (x.receiver w) (f w) (changed w x.sender b) (changed w x.wire ts) (kept w x.receiver) (kept w f)
    (λ c is got. (
      is,
      subst (λ (k : List Token). WholeGot net (net.far w) [] k (x.receiver w).got (x.receiver w).mark (f w) c)
          (append_assoc (x.receiver w).buffer (without_fcts (x.wire w)) (EndMark m ∷ []) ∙ ap (λ k. (x.receiver w).buffer ++ k) (sym (without_fcts-append (x.wire w) (EndMark m ∷ []))))
          (whole_closed net (net.far w) (x.sender w).sent m ((x.receiver w).buffer ++ without_fcts (x.wire w)) (x.receiver w).got (x.receiver w).mark (f w) c full_is got),
    )) in
    record {
      full = f;
      each = λ j. elim (cases_eq j w) [
        | inl e ↦ inl (subst (λ k. (put x.sender w b k).sent ≡ []) (sym e) (ap (λ (k : Sender). k.sent) (put-same x.sender w b)))
        | inr ne ↦ each_kept net Fits t u f f j (a.each j)
            (ap (λ (k : Sender). k.sent) (put-other x.sender w b j ne) ∙ ap (λ (g : ℕ → Sender). (g j).sent) es) refl (front j ne)
            (both_kept net t x u f f f j (keep j ne) (second j))
      ];
    }

node_front : (net : Net) (t : Tokens) (s : State) (w : ℕ) (p : Packet) (rest : List Packet) → TokenView net t s → (t.nodes.ways w).queue ≡ p ∷ rest → (s.ways w).queue ≡ p ∷ rest
node_front net t s w p rest view e = (view.ways w).same_queue ∙ e

puts_ahead : (net : Net) (Fits : ℕ → List ℕ → Type 0) (limit : ℕ) (waiting : Waiting) (t : Tokens) (s : State) (w : ℕ) (u : Tokens) → IsLimit net Fits limit → AllFit net Fits s → w < net.ways →
    TokenView net t s → Bindings net t → Ahead net Fits t → Puts net waiting t w u → Ahead net Fits u
puts_ahead net Fits limit waiting t s w u limits fit real view bindings a (node_byte n i p rest c more near front e after) =
    let x = start_node net Fits t w n i p rest a near front (fit.queues w p rest real (node_front net t s w p rest view front)) in
    let is = node_next net t x.ahead.full w n i p rest near front x.sending.comes_from in
    subst (Ahead net Fits) (sym after) (byte_ahead net Fits t w c more x (sym is ∙ e ∙ sym (append_assoc (t.sender w).sent (c ∷ []) more)))
puts_ahead net Fits limit waiting t s w u limits fit real view bindings a (node_mark n i p rest near front e after) =
    subst (Ahead net Fits) (sym after)
    (mark_ahead net Fits t t w p.mark (set_way t.nodes w (record (t.nodes.ways w) { queue = rest })) a
    (elim (a.each w) [ inl none ↦ inl none | inr x ↦ inr (sym (node_next net t a.full w n i p rest near front x.comes_from) ∙ e) ])
    refl refl (λ j ne v b is whole. (is, whole))
    (λ j ne q more h. (more, ap (λ (k : WayState). k.queue) (put-other t.nodes.ways w (record (t.nodes.ways w) { queue = rest }) j ne) ∙ h)))
puts_ahead net Fits limit waiting t s w u limits fit real view bindings a (switch_byte n v d c more h e after) =
    let x = start_switch net Fits limit waiting t s n v w d limits fit view a h in
    let is = switch_next net Fits waiting t n v w d x.ahead bindings h x.sending.comes_from in
    subst (Ahead net Fits) (sym after)
    (byte_ahead net Fits t w c (more ++ is.0) x
    (is.1 ∙ ap (λ k. k ++ is.0) (e ∙ sym (append_assoc (t.sender w).sent (c ∷ []) more)) ∙ append_assoc ((t.sender w).sent ++ c ∷ []) more is.0))
puts_ahead net Fits limit waiting t s w u limits fit real view bindings a (switch_mark n v d m h mark e after) =
    let r : Receiver = record (t.receiver v) { got = []; mark = None; bound = None } in
    subst (Ahead net Fits) (sym after)
    (mark_ahead net Fits t (released t v) w m t.nodes a
    (elim (a.each w) [ inl none ↦ inl none | inr x ↦ inr (switch_last net Fits waiting t n v w d m a bindings h mark x.comes_from ∙ e) ])
    refl refl
    (λ j ne. bound_at net t (released t v) a.full a.full j v (t.sender v) (t.wire v) r (a.full v) (kept v t.sender) (kept v t.wire) (changed v t.receiver r) (kept v a.full)
    (λ b is whole. absurd (ne (let same : Some j ≡ Some w = sym is ∙ h.bound in cc))))
    (λ j ne q more k. (more, k)))

pub step_ahead : (net : Net) (back : ℕ → ℕ) (waiting : Waiting) (Fits : ℕ → List ℕ → Type 0) (limit : ℕ) (t : Tokens) (s : State) (e : TokenEvent) (u : Tokens) → IsLimit net Fits limit →
    AllFit net Fits s → TokenView net t s → Bindings net t → Ahead net Fits t → TokenStep net back waiting t e u → Ahead net Fits u
step_ahead net back waiting Fits limit t s (Proc e) u limits fit view bindings a h =
    subst (Ahead net Fits) (sym h.1.2)
    (same_ahead net Fits t (record t { nodes = h.1.0 }) a (λ w. refl) (proc_grown net t.nodes e h.1.0 h.0 h.1.1) (λ w v b is whole. (is, whole)))
step_ahead net back waiting Fits limit t s (Take w word) u limits fit view bindings a h =
    subst (Ahead net Fits) (sym h.after) (arrive_ahead net Fits back t w word h.token h.rest a h.front)
step_ahead net back waiting Fits limit t s (Pass w) u limits fit view bindings a h = passes_ahead net Fits t w u bindings a h.1
step_ahead net back waiting Fits limit t s (Put w) u limits fit view bindings a h = puts_ahead net Fits limit waiting t s w u limits fit h.0 view bindings a h.2
step_ahead net back waiting Fits limit t s (PutFct w) u limits fit view bindings a h = grants_ahead net Fits back t w u a h
step_ahead net back waiting Fits limit t s (TokenEvent.Route w out) u limits fit view bindings a h = binds_ahead net Fits waiting t w out u a h

pub nothing_ahead : (net : Net) (Fits : ℕ → List ℕ → Type 0) → Ahead net Fits no_tokens
nothing_ahead net Fits = record { full = λ w. []; each = λ w. inl refl }
