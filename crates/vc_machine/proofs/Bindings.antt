-- What is bound keeps its group, and each output is bound to one input.
use Rattle.std.proofs.Common.{◌≡◌, ℕ, ◌<◌, ◌⊎◌, inl, inr, List, [], ◌∷◌, ◌++◌, refl, sym, ap, subst, ◌∙◌, Some, None}
use Rattle.std.proofs.lemmas.Bool.{cases_eq}
use Rattle.vc_machine.specs.Paths.{Port, AtNode, Net}
use Rattle.vc_machine.specs.Machine.{BodyLeaves}
use Rattle.vc_tokens.specs.Tokens.{Token, Fct}
use Rattle.vc_machine.specs.Links.{Receiver, Tokens, set_wire, no_tokens}
use Rattle.vc_switch.specs.Waiting.{Waiting}
use Rattle.vc_machine.specs.TokenMachine.{TokenEvent, Proc, Take, Pass, Put, PutFct, Route, TokenStep, arrive, with_header, keeps, loses, Passes, node_byte, node_mark, switch_byte, switch_mark, Puts, Binds}
use Rattle.vc_machine.specs.View.{BoundGroup, Bindings}
use Rattle.vc_machine.proofs.Update.{Changed, changed}
use Rattle.vc_machine.proofs.Heads.{group_more, group_with_header, same_switch, group_of}

abbrev pub IsFree : Net → Tokens → ℕ → Type 0
IsFree net t out = (v : ℕ) → v < net.ways → (t.receiver v).bound ≡ Some out → ⊥

-- the input at the end of way w is changed
bindings_at : (net : Net) (t u : Tokens) (w : ℕ) (r : Receiver) → Bindings net t → Changed w t.receiver u.receiver r →
    ((out : ℕ) → r.bound ≡ Some out → BoundGroup net (net.far w) r.got out) →
    ((out : ℕ) → r.bound ≡ Some out → ((t.receiver w).bound ≡ Some out) ⊎ IsFree net t out) → Bindings net u
bindings_at net t u w r b c group now =
    let at : (v out : ℕ) → v ≡ w → (u.receiver v).bound ≡ Some out → r.bound ≡ Some out =
    λ v out e h. sym (ap (λ (k : Receiver). k.bound) (subst (λ k. u.receiver k ≡ r) (sym e) c.here)) ∙ h in
    let off : (v out : ℕ) → (v ≡ w → ⊥) → (u.receiver v).bound ≡ Some out → (t.receiver v).bound ≡ Some out =
    λ v out ne h. sym (ap (λ (k : Receiver). k.bound) (c.there v ne)) ∙ h in
    let apart : (v out : ℕ) → v < net.ways → w < net.ways → r.bound ≡ Some out → (t.receiver v).bound ≡ Some out → v ≡ w =
    λ v out hv hw h k. elim (now out h) [ inl same ↦ b.one v w out hv hw k same | inr free ↦ absurd (free v hv k) ] in
    record {
      group = λ v out h. elim (cases_eq v w) [
        | inl e ↦ subst (λ (k : Receiver). BoundGroup net (net.far v) k.got out) (sym (subst (λ k. u.receiver k ≡ r) (sym e) c.here))
            (subst (λ k. BoundGroup net (net.far k) r.got out) (sym e) (group out (at v out e h)))
        | inr ne ↦ subst (λ (k : Receiver). BoundGroup net (net.far v) k.got out) (sym (c.there v ne)) (b.group v out (off v out ne h))
      ];
      one = λ v x out hv hx h k. elim (cases_eq v w) [
        | inl e ↦ elim (cases_eq x w) [
          | inl f ↦ e ∙ sym f
          | inr nf ↦ e ∙ sym (apart x out hx (subst (λ j. j < net.ways) e hv) (at v out e h) (off x out nf k))
        ]
        | inr ne ↦ elim (cases_eq x w) [
          | inl f ↦ apart v out hv (subst (λ j. j < net.ways) f hx) (at x out f k) (off v out ne h) ∙ sym f
          | inr nf ↦ b.one v x out hv hx (off v out ne h) (off x out nf k)
        ]
      ];
    }

-- a change that leaves the bytes got and the binding alone
untouched : (net : Net) (t u : Tokens) (w : ℕ) (r : Receiver) → Bindings net t → Changed w t.receiver u.receiver r → r.got ≡ (t.receiver w).got → r.bound ≡ (t.receiver w).bound → Bindings net u
untouched net t u w r b c got bound =
    bindings_at net t u w r b c (λ out h. subst (λ k. BoundGroup net (net.far w) k out) (sym got) (b.group w out (sym bound ∙ h))) (λ out h. inl (sym bound ∙ h))

arrive_bindings : (net : Net) (back : ℕ → ℕ) (t : Tokens) (w word : ℕ) (k : Token) → Bindings net t → Bindings net (arrive back t w word k)
arrive_bindings net back t w word Fct b = untouched net t _ w _ b (changed w t.receiver _) refl refl
arrive_bindings net back t w word x b = untouched net t _ w _ b (changed w t.receiver _) refl refl

pub not_at_node : (net : Net) (p : Port) (n i : ℕ) (got : List ℕ) (out : ℕ) → p ≡ AtNode n i → BoundGroup net p got out → ⊥
not_at_node net p n i got out far g = let e = sym far ∙ g.far in cc

passes_bindings : (net : Net) (t : Tokens) (w : ℕ) (u : Tokens) → Bindings net t → Passes net t w u → Bindings net u
passes_bindings net t w u b (node_byte n i c rest far front after) =
    subst (Bindings net) (sym after)
    (bindings_at net t _ w (record (t.receiver w) { buffer = rest; got = (t.receiver w).got ++ c ∷ [] }) b (changed w t.receiver _)
    (λ out h. group_more net (net.far w) (t.receiver w).got (c ∷ []) out (b.group w out h)) (λ out h. inl h))
passes_bindings net t w u b (node_mark n i m rest k far front reach after) =
    subst (Bindings net) (sym after)
    (bindings_at net t _ w (record (t.receiver w) { buffer = rest; got = [] }) b (changed w t.receiver _)
    (λ out h. absurd (not_at_node net (net.far w) n i (t.receiver w).got out far (b.group w out h))) (λ out h. inl h))
passes_bindings net t w u b (switch_byte n i c rest far none front after) =
    subst (Bindings net) (sym after)
    (bindings_at net t _ w (record (t.receiver w) { buffer = rest; got = with_header net n i (t.receiver w) ++ c ∷ [] }) b (changed w t.receiver _)
    (λ out h. group_more net (net.far w) (with_header net n i (t.receiver w)) (c ∷ []) out (group_with_header net (net.far w) _ (t.receiver w).got out (b.group w out h)))
    (λ out h. inl h))
passes_bindings net t w u b (switch_mark n i m rest far none front (keeps group after)) =
    subst (Bindings net) (sym after)
    (bindings_at net t _ w (record (t.receiver w) { buffer = rest; got = with_header net n i (t.receiver w); mark = Some m }) b (changed w t.receiver _)
    (λ out h. group_with_header net (net.far w) _ (t.receiver w).got out (b.group w out h)) (λ out h. inl h))
passes_bindings net t w u b (switch_mark n i m rest far none front (loses alone after)) =
    subst (Bindings net) (sym after)
    (bindings_at net t _ w (record (t.receiver w) { buffer = rest; got = [] }) b (changed w t.receiver _)
    (λ out h. let g : BoundGroup net (net.far w) (with_header net n i (t.receiver w)) out = group_with_header net (net.far w) _ (t.receiver w).got out (b.group w out h) in
    absurd (alone (group_of net n _ out g.body (subst (λ k. BodyLeaves net k (with_header net n i (t.receiver w)) out g.body) (same_switch g.switch g.link n i (sym g.far ∙ far)) g.group))))
    (λ out h. inl h))

puts_bindings : (net : Net) (waiting : Waiting) (t : Tokens) (w : ℕ) (u : Tokens) → Bindings net t → Puts net waiting t w u → Bindings net u
puts_bindings net waiting t w u b (node_byte n i p rest c more near front e after) = subst (Bindings net) (sym after) (record { group = b.group; one = b.one })
puts_bindings net waiting t w u b (node_mark n i p rest near front e after) = subst (Bindings net) (sym after) (record { group = b.group; one = b.one })
puts_bindings net waiting t w u b (switch_byte n v d c more h e after) = subst (Bindings net) (sym after) (record { group = b.group; one = b.one })
puts_bindings net waiting t w u b (switch_mark n v d m h is e after) =
    subst (Bindings net) (sym after)
    (bindings_at net t _ v (record (t.receiver v) { got = []; mark = None; bound = None }) b (changed v t.receiver _) (λ out k. absurd (cc)) (λ out k. absurd (cc)))

binds_bindings : (net : Net) (waiting : Waiting) (t : Tokens) (w out : ℕ) (u : Tokens) → Bindings net t → Binds net waiting t w out u → Bindings net u
binds_bindings net waiting t w out u b h =
    subst (Bindings net) (sym h.after)
    (bindings_at net t _ w (record (t.receiver w) { bound = Some out }) b (changed w t.receiver _)
    (λ o e. let same : out ≡ o = cc in
    subst (BoundGroup net (net.far w) (t.receiver w).got) same (record { switch = h.switch; link = h.link; body = h.body; far = h.far; group = h.group }))
    (λ o e. let same : out ≡ o = cc in inr (subst (IsFree net t) same h.free)))

pub step_bindings : (net : Net) (back : ℕ → ℕ) (waiting : Waiting) (t : Tokens) (e : TokenEvent) (u : Tokens) → Bindings net t → TokenStep net back waiting t e u → Bindings net u
step_bindings net back waiting t (Proc e) u b h = subst (Bindings net) (sym h.1.2) (record { group = b.group; one = b.one })
step_bindings net back waiting t (Take w word) u b h =
    subst (Bindings net) (sym h.after) (arrive_bindings net back (set_wire t w h.rest) w word h.token (record { group = b.group; one = b.one }))
step_bindings net back waiting t (Pass w) u b h = passes_bindings net t w u b h.1
step_bindings net back waiting t (Put w) u b h = puts_bindings net waiting t w u b h.2
step_bindings net back waiting t (PutFct w) u b h = subst (Bindings net) (sym h.after) (untouched net t _ w _ b (changed w t.receiver _) refl refl)
step_bindings net back waiting t (Route w out) u b h = binds_bindings net waiting t w out u b h

pub no_bindings : (net : Net) → Bindings net no_tokens
no_bindings net = record { group = λ w out e. absurd (cc); one = λ v w out hv hw e f. absurd (cc) }
