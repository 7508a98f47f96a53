-- Wherever a run has come on an accepted network with ranks, some token can move, or nothing can happen but moves of processes; then
-- nothing is under way.
--
-- It is found in stages, over all ways: a token that can be taken, one that can pass, an FCT that can be put, and a token of a packet that
-- can be put, from the lesser ranks up; then a packet that can be routed, from the greater ranks down. Where no stage finds one,
-- each way is clear.
use Rattle.std.proofs.Common.{◌≡◌, ◌⊎◌, ℕ, zero, suc, ◌+◌, ◌<◌, ◌≤◌, inl, inr, List, [], ◌∷◌, ◌++◌, length, refl, sym, ap, subst, ◌∙◌, arith, Option, Some, None, append-nil, append_assoc}
use Rattle.std.proofs.lemmas.Bool.{cases_lt, cases_eq}
use Rattle.std.proofs.lemmas.Option.{same_Some, none-some}
use Rattle.vc_packets.specs.declared.mark.Mark.{Mark}
use Rattle.vc_packets.specs.declared.packet.Packet.{Packet}
use Rattle.vc_packets.specs.Headers.{spelled}
use Rattle.vc_machine.specs.Paths.{Port, AtNode, AtSwitch, Net, IsAccepted}
use Rattle.vc_switch.specs.Forward.{behind}
use Rattle.vc_switch.specs.Waiting.{Waiting, StoreAndForward, Wormhole, MayGo}
use Rattle.vc_machine.specs.Machine.{BodyLeaves, HasGroup, taken}
use Rattle.vc_tokens.specs.Tokens.{Token, Byte, Fct, EndMark, bytes, spelling, spellings, fcts, without_fcts}
use Rattle.vc_machine.specs.Links.{Tokens}
use Rattle.vc_machine.specs.TokenMachine.{TokenEvent, Proc, Take, Pass, Put, PutFct, Route, TokenStep, IsBoundTo, node_byte, node_mark, switch_byte, switch_mark, keeps, with_header}
use Rattle.vc_machine.specs.TokenMachine as tok
use Rattle.vc_machine.specs.View.{MayDraw, nothing, begun, stream, BoundGroup}
use Rattle.vc_machine.specs.Private.Laws.{FitsWay, CameFitting}
use Rattle.vc_machine.specs.Dependencies.{Depends, HasRanks}
use Rattle.vc_machine.specs.Still.{MovesTokens, IsStill, IsClear, BackStays}
use Rattle.vc_machine.proofs.Ways.{front_of}
use Rattle.vc_machine.proofs.Moves.{drawn_on, has_way}
use Rattle.vc_tokens.proofs.Spellings.{fcts-append, mark_in_bytes}
use Rattle.vc_machine.proofs.Heads.{headed_is, inside_node, inside_unmarked, inside_marked, longer, no_group, same_switch, group_of}
use Rattle.vc_machine.proofs.ViewChanges.{front_packet}
use Rattle.vc_machine.proofs.Ahead.{Sending, queued, bound}
use Rattle.vc_machine.proofs.Cover.{onward, spelled_behind}
use Rattle.vc_machine.proofs.Standing.{Standing, taken_whole, depends, bounded}
use Rattle.vc_machine.proofs.Functional.{fcts_bytes, fcts_spellings}
use Rattle.vc_machine.proofs.Ports.{not_both}

-- ---- what is found, or holds of all

abbrev chain : {R A B : Type 0} → R ⊎ A → (A → R ⊎ B) → R ⊎ B
chain (inl r) f = inl r
chain (inr a) f = f a

each : {R : Type 0} {P : ℕ → Type 0} (n : ℕ) → ((w : ℕ) → w < n → R ⊎ P w) → R ⊎ ((w : ℕ) → w < n → P w)
each zero f = inr (λ w h. absurd (let z : w < 0 = h in omega arith))
each {R} {P} (suc n) f = chain (each n (λ w h. f w (omega arith))) (λ before. chain (f n (omega arith)) (λ last. inr (joined before last)))
  where
    joined : ((w : ℕ) → w < n → P w) → P n → (w : ℕ) → w < suc n → P w
    joined before last w h = elim (cases_lt w n) [
      | inl less ↦ before w less
      | inr more ↦ subst P (let e : n ≡ w = omega arith in e) last
    ]

-- ---- lists of tokens

no_fct_among : (bs : List ℕ) (xs : List Token) (ps : List Packet) (rest : List ℕ) → bytes bs ++ Fct ∷ xs ≡ spellings ps ++ bytes rest → ⊥
no_fct_among bs xs ps rest e =
    let a : fcts (bytes bs ++ Fct ∷ xs) ≡ fcts (bytes bs) + suc (fcts xs) = fcts-append (bytes bs) (Fct ∷ xs) in
    let b = fcts-append (spellings ps) (bytes rest) in
    let c = ap fcts e in
    let d = fcts_spellings ps in
    let f = fcts_bytes rest in
    omega arith

same_bytes : (as' bs : List ℕ) → bytes as' ≡ bytes bs → as' ≡ bs
same_bytes [] [] e = refl
same_bytes [] (b ∷ bs) e = absurd (cc)
same_bytes (a ∷ as') [] e = absurd (cc)
same_bytes (a ∷ as') (b ∷ bs) e =
    let h : a ≡ b = cc in
    let t : bytes as' ≡ bytes bs = cc in
    (λ i. h i ∷ same_bytes as' bs t i)

-- bytes alone are the last packet's
alone : (bs : List ℕ) (ps : List Packet) (rest : List ℕ) → bytes bs ≡ spellings ps ++ bytes rest → bs ≡ rest
alone bs [] rest e = same_bytes bs rest e
alone bs (p ∷ ps) rest e =
    absurd (mark_in_bytes p.body p.mark (spellings ps ++ bytes rest) bs
    (sym (append_assoc (bytes p.body) (EndMark p.mark ∷ []) (spellings ps ++ bytes rest)) ∙ sym (append_assoc (spelling p) (spellings ps) (bytes rest)) ∙ sym e))

may_go : (waiting : Waiting) (m : Mark) → MayGo waiting (Some m)
may_go StoreAndForward m = tt
may_go Wormhole m = tt

-- a token can move
pub record Progress (net : Net) (back : ℕ → ℕ) (waiting : Waiting) (t : Tokens) : Type 0 where
  pub event : TokenEvent
  pub new : Tokens
  pub moves : MovesTokens event
  pub step : TokenStep net back waiting t event new

-- no token can move, and each way is clear
pub record IsAtRest (net : Net) (back : ℕ → ℕ) (waiting : Waiting) (t : Tokens) : Type 0 where
  pub still : IsStill net back waiting t
  pub clear : (w : ℕ) → w < net.ways → IsClear net t w

-- way x can carry a token, and no packet is being put on it
record IsUnused (net : Net) (t : Tokens) (x : ℕ) : Type 0 where
  pub nobody : (v : ℕ) → v < net.ways → (t.receiver v).bound ≡ Some x → ⊥
  pub queue : (n i : ℕ) → net.near x ≡ AtNode n i → (t.nodes.ways x).queue ≡ []
  pub sent : (t.sender x).sent ≡ []

-- nothing waits at the end of way w
record IsSettled (t : Tokens) (w : ℕ) : Type 0 where
  pub buffer : (t.receiver w).buffer ≡ []
  pub mark : (t.receiver w).mark ≡ None

-- nothing can pass from the buffer of way w
record HasPassed (net : Net) (t : Tokens) (w : ℕ) : Type 0 where
  pub node : (n i : ℕ) → net.far w ≡ AtNode n i → (t.receiver w).buffer ≡ []
  pub switch : (n i : ℕ) → net.far w ≡ AtSwitch n i → (t.receiver w).mark ≡ None → (t.receiver w).buffer ≡ []

module _ (net : Net) (back : ℕ → ℕ) (waiting : Waiting) (most : ℕ) (t : Tokens) (acc : IsAccepted net) (ranks : HasRanks net) (stays : BackStays net back) (g : Standing net back waiting most t) where
  abbrev Found : Type 0
  Found = Progress net back waiting t

  moved : (e : TokenEvent) (u : Tokens) → MovesTokens e → TokenStep net back waiting t e u → Found
  moved e u own step = record { event = e; new = u; moves = own; step = step }

  -- ---- wires

  taken_from : (w : ℕ) → w < net.ways → Found ⊎ (t.wire w ≡ [])
  taken_from w real = by_wire (t.wire w) refl
    where
      by_wire : (ts : List Token) → t.wire w ≡ ts → Found ⊎ (t.wire w ≡ [])
      by_wire [] e = inr e
      by_wire (k ∷ rest) e = inl (moved (Take w 0) _ tt (record { token = k; rest = rest; real = real; front = e; after = refl }))

  granted : (w : ℕ) → w < net.ways → Found ⊎ (8 < length (t.receiver w).buffer + (t.receiver w).promised)
  granted w real = elim (cases_lt 8 (length (t.receiver w).buffer + (t.receiver w).promised)) [
    | inl more ↦ inr more
    | inr few ↦ inl (moved (PutFct w) _ tt (record { real = real; room = omega arith; after = refl }))
  ]

  -- ---- buffers, where wires are empty

  module _ (wires : (w : ℕ) → w < net.ways → t.wire w ≡ []) where
    -- what has passed, is in the buffer and is on the wire
    line : (w : ℕ) (ts : List Token) → w < net.ways → (t.receiver w).buffer ≡ ts → bytes (g.view.ways w).passed ++ ts ≡ spellings (g.state.ways w).line ++ bytes (t.sender w).sent
    line w ts real e =
        let v = g.view.ways w in
        sym (ap (λ k. bytes v.passed ++ k) (append-nil ts))
        ∙ ap (λ k. bytes v.passed ++ (ts ++ without_fcts k)) (sym (wires w real))
        ∙ subst (λ k. stream v.passed k (t.wire w) ≡ spellings (g.state.ways w).line ++ bytes (t.sender w).sent) e v.line

    no_fct : (w : ℕ) (rest : List Token) → w < net.ways → (t.receiver w).buffer ≡ Fct ∷ rest → ⊥
    no_fct w rest real e = no_fct_among (g.view.ways w).passed rest (g.state.ways w).line (t.sender w).sent (line w (Fct ∷ rest) real e)

    node_passes : (w n i : ℕ) → w < net.ways → net.far w ≡ AtNode n i → Found ⊎ ((t.receiver w).buffer ≡ [])
    node_passes w n i real far = by_buffer (t.receiver w).buffer refl
      where
        by_buffer : (ts : List Token) → (t.receiver w).buffer ≡ ts → Found ⊎ ((t.receiver w).buffer ≡ [])
        by_buffer [] e = inr e
        by_buffer (Byte b ∷ rest) e = inl (moved (Pass w) _ tt (real, node_byte n i b rest far e refl))
        by_buffer (Fct ∷ rest) e = absurd (no_fct w rest real e)
        by_buffer (EndMark m ∷ rest) e = (let k = taken_whole net t g.state w n i m rest g.view g.inv real far e in inl (moved (Pass w) _ tt (real, node_mark n i m rest k.0 far e (taken k.1) refl)))

    -- a packet that has come whole to a switch has a group
    whole_group : (w n i : ℕ) (m : Mark) (rest : List Token) → w < net.ways → net.far w ≡ AtSwitch n i → (t.receiver w).mark ≡ None → (t.receiver w).buffer ≡ EndMark m ∷ rest →
        HasGroup net n (with_header net n i (t.receiver w))
    whole_group w n i m rest real far none e =
        let v = g.view.ways w in
        let at = inside_unmarked net (net.far w) (t.receiver w).got (t.receiver w).mark (t.receiver w).bound v.passed (g.state.ways w).input none v.inside in
        let h = headed_is net (net.far w) n i (t.receiver w) v.passed acc.ranges far at.0 in
        let f = front_packet net t g.state w m rest g.view e in
        let p : Packet = record { body = v.passed; mark = m } in
        let l = front_of net g.inv.phases g.state.chans w (g.inv.labels w).line (g.state.ways w).line p f.others (g.inv.ways w real).line f.is in
        let on = drawn_on net g.inv.phases g.state.chans w h.drawn l.label p l.on in
        let way = has_way net g.inv.phases g.state.chans w h.drawn l.label (record p { body = spelled (behind h.drawn []) ++ v.passed }) n i far h.may on in
        subst (HasGroup net n) (sym h.is) (group_of net n (spelled (behind h.drawn []) ++ v.passed) way.0 way.1 way.2)

    switch_passes : (w n i : ℕ) → w < net.ways → net.far w ≡ AtSwitch n i → (t.receiver w).mark ≡ None → Found ⊎ ((t.receiver w).buffer ≡ [])
    switch_passes w n i real far none = by_buffer (t.receiver w).buffer refl
      where
        by_buffer : (ts : List Token) → (t.receiver w).buffer ≡ ts → Found ⊎ ((t.receiver w).buffer ≡ [])
        by_buffer [] e = inr e
        by_buffer (Byte b ∷ rest) e = inl (moved (Pass w) _ tt (real, switch_byte n i b rest far none e refl))
        by_buffer (Fct ∷ rest) e = absurd (no_fct w rest real e)
        by_buffer (EndMark m ∷ rest) e = inl (moved (Pass w) _ tt (real, switch_mark n i m rest far none e (keeps (whole_group w n i m rest real far none e) refl)))

    passed_from : (w : ℕ) → w < net.ways → Found ⊎ HasPassed net t w
    passed_from w real = by_port (net.far w) refl
      where
        by_mark : (n i : ℕ) → net.far w ≡ AtSwitch n i → (m : Option Mark) → (t.receiver w).mark ≡ m → Found ⊎ HasPassed net t w
        by_mark n i far None e = chain (switch_passes w n i real far e)
            (λ (empty : (t.receiver w).buffer ≡ []). inr (record { node = λ k l at. empty; switch = λ k l at none. empty }))
        by_mark n i far (Some m) e = inr (record {
          node = λ k l at. absurd (not_both k l n i (sym at ∙ far));
          switch = λ k l at none. absurd (let q : None ≡ Some m = sym none ∙ e in cc);
        })

        by_port : (p : Port) → net.far w ≡ p → Found ⊎ HasPassed net t w
        by_port (AtNode n i) far = chain (node_passes w n i real far)
            (λ (empty : (t.receiver w).buffer ≡ []). inr (record { node = λ k l at. empty; switch = λ k l at none. empty }))
        by_port (AtSwitch n i) far = by_mark n i far (t.receiver w).mark refl

    -- ---- puts, where nothing can pass and no FCT can be put

    module _ (passes : (w : ℕ) → w < net.ways → HasPassed net t w) (grants : (w : ℕ) → w < net.ways → 8 < length (t.receiver w).buffer + (t.receiver w).promised) where
      credit : (w : ℕ) → w < net.ways → (t.receiver w).buffer ≡ [] → 0 < (t.sender w).credit
      credit w real none =
          let p = (g.counts.each w).same in
          let a : fcts (t.wire (back w)) ≡ 0 = ap fcts (wires (back w) (stays w real)) in
          let b : length (without_fcts (t.wire w)) ≡ 0 = ap (λ k. length (without_fcts k)) (wires w real) in
          let c : length (t.receiver w).buffer ≡ 0 = ap length none in
          let d = grants w real in
          omega arith

      -- of a packet that is being got on a way with nothing in its buffer, some has been put there
      not_begun : (v n x : ℕ) (d : List ℕ) → v < net.ways → (t.receiver v).mark ≡ None → (t.receiver v).buffer ≡ [] → BodyLeaves net n (t.receiver v).got x d → (t.sender v).sent ≡ [] → ⊥
      not_begun v n x d real none empty group sent =
          let w = g.view.ways v in
          let at = inside_unmarked net (net.far v) (t.receiver v).got (t.receiver v).mark (t.receiver v).bound w.passed (g.state.ways v).input none w.inside in
          let passed : w.passed ≡ [] = alone w.passed (g.state.ways v).line (t.sender v).sent (sym (append-nil (bytes w.passed)) ∙ line v [] real empty) ∙ sent in
          elim at.0 [
            | nothing got all ↦ no_group net n x d (subst (λ b. BodyLeaves net n b x d) got group)
            | begun drawn may some is ↦ some passed
          ]

      -- the way by which such a packet comes depends on the way to which it is bound
      rises : (v n i x : ℕ) (d : List ℕ) → v < net.ways → net.far v ≡ AtSwitch n i → (t.receiver v).mark ≡ None → (t.receiver v).buffer ≡ [] → BodyLeaves net n (t.receiver v).got x d →
          Sending net (FitsWay net most) t g.ahead.full v → Depends net v x
      rises v n i x d real far none empty group s =
          let w = g.view.ways v in
          let at = inside_unmarked net (net.far v) (t.receiver v).got (t.receiver v).mark (t.receiver v).bound w.passed (g.state.ways v).input none w.inside in
          let passed : w.passed ≡ (t.sender v).sent = alone w.passed (g.state.ways v).line (t.sender v).sent (sym (append-nil (bytes w.passed)) ∙ line v [] real empty) in
          elim at.0 [
            | nothing got all ↦ absurd (no_group net n x d (subst (λ b. BodyLeaves net n b x d) got group))
            | begun drawn may some is ↦ (
                let h = spelled (behind drawn []) in
                let whole : (t.receiver v).got ++ s.more ≡ h ++ g.ahead.full v =
                ap (λ k. k ++ s.more) is ∙ append_assoc h w.passed s.more ∙ ap (λ k. h ++ (k ++ s.more)) passed ∙ ap (λ k. h ++ k) (sym s.is) in
                depends net most v n i x drawn (g.ahead.full v) (d ++ s.more) s.fits far (subst (λ k. MayDraw net k drawn) far may)
                (subst (λ k. BodyLeaves net n k x (d ++ s.more)) whole (longer net n (t.receiver v).got s.more x d group)))
          ]

      -- an input that is bound to a way with credit puts a token there
      bound_puts : (x v : ℕ) → x < net.ways → v < net.ways → 0 < (t.sender x).credit → (t.receiver v).bound ≡ Some x →
          ((y : ℕ) → y < net.ways → ranks.rank y < ranks.rank x → 0 < (t.sender y).credit → IsUnused net t y) → Found
      bound_puts x v real there some b before = by_mark (t.receiver v).mark refl
        where
          h : BoundGroup net (net.far v) (t.receiver v).got x
          h = g.bindings.group v x b

          by_mark : (m : Option Mark) → (t.receiver v).mark ≡ m → Found
          by_mark (Some m) e =
              let to : IsBoundTo net waiting t h.switch v x h.body =
              record { real = there; link = h.link; far = h.far; bound = b; leaves = h.group; may_go = subst (MayGo waiting) (sym e) (may_go waiting m) } in
              let k = g.puts.marked h.switch v x h.body m real to some e in
              moved (Put x) k.0 tt k.1
          by_mark None e =
              let empty = (passes v there).switch h.switch h.link h.far e in
              let begins = not_begun v h.switch x h.body there e empty h.group in
              absurd (elim (g.ahead.each v) [
                | inl none ↦ begins none
                | inr s ↦ begins (before v there (ranks.rises v x (rises v h.switch h.link x h.body there h.far e empty h.group s)) (credit v there empty)).sent
              ])

      -- the ways of lesser rank are unused that have credit
      abbrev UnusedBelow : ℕ → ℕ → Type 0
      UnusedBelow k y = ranks.rank y < k → 0 < (t.sender y).credit → IsUnused net t y

      nobody_bound : (x : ℕ) → x < net.ways → 0 < (t.sender x).credit → ((y : ℕ) → y < net.ways → ranks.rank y < ranks.rank x → 0 < (t.sender y).credit → IsUnused net t y) →
          (v : ℕ) → v < net.ways → Found ⊎ ((t.receiver v).bound ≡ Some x → ⊥)
      nobody_bound x real some before v there = by_bound (t.receiver v).bound refl
        where
          by_bound : (b : Option ℕ) → (t.receiver v).bound ≡ b → Found ⊎ ((t.receiver v).bound ≡ Some x → ⊥)
          by_bound None e = inr (λ q. none-some x (sym e ∙ q))
          by_bound (Some y) e = elim (cases_eq y x) [
            | inl same ↦ inl (bound_puts x v real there some (e ∙ ap Some same) before)
            | inr other ↦ inr (λ q. other (same_Some y x (sym e ∙ q)))
          ]

      queue_put : (x : ℕ) → x < net.ways → 0 < (t.sender x).credit → Found ⊎ ((n i : ℕ) → net.near x ≡ AtNode n i → (t.nodes.ways x).queue ≡ [])
      queue_put x real some = by_port (net.near x) refl
        where
          by_queue : (n i : ℕ) → net.near x ≡ AtNode n i → (ps : List Packet) → (t.nodes.ways x).queue ≡ ps → Found ⊎ ((n i : ℕ) → net.near x ≡ AtNode n i → (t.nodes.ways x).queue ≡ [])
          by_queue n i near [] e = inr (λ m j at. e)
          by_queue n i near (p ∷ rest) e = (let k = g.puts.node x n i p rest real near e some in inl (moved (Put x) k.0 tt k.1))

          by_port : (p : Port) → net.near x ≡ p → Found ⊎ ((n i : ℕ) → net.near x ≡ AtNode n i → (t.nodes.ways x).queue ≡ [])
          by_port (AtNode n i) near = by_queue n i near (t.nodes.ways x).queue refl
          by_port (AtSwitch n i) near = inr (λ m j at. absurd (not_both m j n i (sym at ∙ near)))

      is_unused : (x : ℕ) → ((v : ℕ) → v < net.ways → (t.receiver v).bound ≡ Some x → ⊥) → ((n i : ℕ) → net.near x ≡ AtNode n i → (t.nodes.ways x).queue ≡ []) → IsUnused net t x
      is_unused x nobody queue = record {
        nobody = nobody;
        queue = queue;
        sent = elim (g.ahead.each x) [
          | inl none ↦ none
          | inr s ↦ elim s.comes_from [
            | queued n i p rest near front is ↦ absurd (let e : p ∷ rest ≡ [] = sym front ∙ queue n i near in cc)
            | bound n v link b there far is whole leaves ↦ absurd (nobody v there is)
          ]
        ];
      }

      one_unused : (k x : ℕ) → x < net.ways → ((y : ℕ) → y < net.ways → UnusedBelow k y) → Found ⊎ UnusedBelow (suc k) x
      one_unused k x real before = elim (cases_lt (ranks.rank x) (suc k)) [
        | inr more ↦ inr (λ low some. absurd (omega arith))
        | inl low ↦ elim (cases_lt 0 (t.sender x).credit) [
          | inr none ↦ inr (λ low some. absurd (omega arith))
          | inl some ↦ chain (each net.ways (nobody_bound x real some (λ y there less more. before y there (omega arith) more)))
              (λ nobody. chain (queue_put x real some) (λ queue. inr (λ low more. is_unused x nobody queue)))
        ]
      ]

      unused_below : (k : ℕ) → Found ⊎ ((y : ℕ) → y < net.ways → UnusedBelow k y)
      unused_below zero = inr (λ y there low some. absurd (let f : ranks.rank y < 0 = low in omega arith))
      unused_below (suc k) = chain (unused_below k) (λ before. each net.ways (λ x real. one_unused k x real before))

      abbrev top : ℕ
      top = (bounded ranks.rank net.ways).0

      at_most_top : (w : ℕ) → w < net.ways → ranks.rank w ≤ top
      at_most_top w real = (bounded ranks.rank net.ways).1 w real

      -- ---- routes, where ways with credit are unused: from the greater ranks down

      module _ (unused : (y : ℕ) → y < net.ways → UnusedBelow (suc top) y) where
        free_way : (y : ℕ) → y < net.ways → IsSettled t y → IsUnused net t y
        free_way y real s = unused y real (let h = at_most_top y real in omega arith) (credit y real s.buffer)

        -- a whole packet can go on where each way on which its own depends is settled
        whole_routes : (w n i : ℕ) (m : Mark) → w < net.ways → net.far w ≡ AtSwitch n i → (t.receiver w).mark ≡ Some m → ((y : ℕ) → y < net.ways → Depends net w y → IsSettled t y) → Found
        whole_routes w n i m real far e after =
            let v = g.view.ways w in
            let full = (inside_marked net (net.far w) (t.receiver w).got (t.receiver w).mark (t.receiver w).bound v.passed (g.state.ways w).input m e v.inside).1 in
            let c = g.fit.inputs w (record { body = (t.receiver w).got; mark = m }) (t.receiver w).bound real full in
            by_bound c (λ y there d. free_way y there (after y there d)) (t.receiver w).bound refl
          where
            by_bound : (c : CameFitting net (FitsWay net most) w (record { body = (t.receiver w).got; mark = m })) → ((y : ℕ) → y < net.ways → Depends net w y → IsUnused net t y) →
                (b : Option ℕ) → (t.receiver w).bound ≡ b → Found
            by_bound c free (Some out) b =
                let h = g.bindings.group w out b in
                let leaves : BodyLeaves net c.switch (spelled (behind c.drawn []) ++ c.body) out h.body =
                subst (λ k. BodyLeaves net k (spelled (behind c.drawn []) ++ c.body) out h.body) (same_switch h.switch h.link c.switch c.link (sym h.far ∙ c.far))
                (subst (λ k. BodyLeaves net h.switch k out h.body) c.is h.group) in
                let there : out < net.ways = (let l = h.group.leaves in l.real) in
                absurd ((free out there (depends net most w c.switch c.link out c.drawn c.body h.body c.fits c.far c.draw leaves)).nobody w real b)
            by_bound c free None b =
                let f = c.fits in
                let o = onward net f.fuel w f.stack f.to c.switch c.link c.drawn c.far c.draw f.delivers in
                let group : BodyLeaves net c.switch (t.receiver w).got o.way (spelled o.stack ++ f.load) =
                record { stack = behind c.drawn f.stack; after = o.stack; rest = f.load; before_is = c.is ∙ spelled_behind c.drawn f.stack f.load c.body f.body; leaves = o.leaves; after_is = refl } in
                let there : o.way < net.ways = (let l = o.leaves in l.real) in
                let d : Depends net w o.way = record { headers = f.stack; drawn = c.drawn; switch = c.switch; link = c.link; after = o.stack; stands = f.stands; far = c.far; draw = c.draw; leaves = o.leaves } in
                moved (Route w o.way) _ tt
                (record {
                  body = spelled o.stack ++ f.load;
                  switch = c.switch;
                  link = c.link;
                  real = real;
                  far = c.far;
                  unbound = b;
                  group = group;
                  may_go = subst (MayGo waiting) (sym e) (may_go waiting m);
                  free = (free o.way there d).nobody;
                  after = refl;
                })

        -- a way is settled where each way on which it depends is
        settles : (w : ℕ) → w < net.ways → ((y : ℕ) → y < net.ways → Depends net w y → IsSettled t y) → Found ⊎ IsSettled t w
        settles w real after = by_port (net.far w) refl
          where
            by_mark : (n i : ℕ) → net.far w ≡ AtSwitch n i → (m : Option Mark) → (t.receiver w).mark ≡ m → Found ⊎ IsSettled t w
            by_mark n i far None e = inr (record { buffer = (passes w real).switch n i far e; mark = e })
            by_mark n i far (Some m) e = inl (whole_routes w n i m real far e after)

            by_port : (p : Port) → net.far w ≡ p → Found ⊎ IsSettled t w
            by_port (AtNode n i) far =
                let v = g.view.ways w in
                let at = inside_node net (net.far w) n i (t.receiver w).got (t.receiver w).mark (t.receiver w).bound v.passed (g.state.ways w).input far v.inside in
                inr (record { buffer = (passes w real).node n i far; mark = at.0 })
            by_port (AtSwitch n i) far = by_mark n i far (t.receiver w).mark refl

        -- the ways of greater rank are settled
        abbrev SettledAbove : ℕ → ℕ → Type 0
        SettledAbove k w = top < ranks.rank w + k → IsSettled t w

        settled_above : (k : ℕ) → Found ⊎ ((w : ℕ) → w < net.ways → SettledAbove k w)
        settled_above zero = inr (λ w real high. absurd (let b = at_most_top w real in let f : top < ranks.rank w + 0 = high in omega arith))
        settled_above (suc k) = chain (settled_above k) (λ after. each net.ways (λ w real. one_settled after w real))
          where
            one_settled : ((w : ℕ) → w < net.ways → SettledAbove k w) → (w : ℕ) → w < net.ways → Found ⊎ SettledAbove (suc k) w
            one_settled after w real = elim (cases_lt top (ranks.rank w + suc k)) [
              | inl high ↦ chain (settles w real (λ y there d. after y there (let less = ranks.rises w y d in omega arith))) (λ s. inr (λ h. s))
              | inr low ↦ inr (λ h. absurd (omega arith))
            ]

        -- ---- nothing is under way where all are settled

        module _ (settled : (w : ℕ) → w < net.ways → SettledAbove (suc top) w) where
          clear : (w : ℕ) → w < net.ways → IsClear net t w
          clear w real =
              let s = settled w real (omega arith) in
              let some = credit w real s.buffer in
              let u = free_way w real s in
              let v = g.view.ways w in
              let at = inside_unmarked net (net.far w) (t.receiver w).got (t.receiver w).mark (t.receiver w).bound v.passed (g.state.ways w).input s.mark v.inside in
              let passed : v.passed ≡ [] = alone v.passed (g.state.ways w).line (t.sender w).sent (sym (append-nil (bytes v.passed)) ∙ line w [] real s.buffer) ∙ u.sent in
              record {
                queue = u.queue;
                sent = u.sent;
                credit = some;
                wire = wires w real;
                buffer = s.buffer;
                got = elim at.0 [ nothing got all ↦ got | begun drawn may more is ↦ absurd (more passed) ];
                mark = s.mark;
                bound = by_bound (t.receiver w).bound refl;
              }
            where
              by_bound : (b : Option ℕ) → (t.receiver w).bound ≡ b → (t.receiver w).bound ≡ None
              by_bound None e = e
              by_bound (Some x) e =
                  let h = g.bindings.group w x e in
                  let there : x < net.ways = (let l = h.group.leaves in l.real) in
                  absurd ((free_way x there (settled x there (omega arith))).nobody w real e)

          no_put : (w : ℕ) (u : Tokens) → w < net.ways → tok.Puts net waiting t w u → ⊥
          no_put w u real (tok.node_byte n i p rest b more near front is after) = let e : p ∷ rest ≡ [] = sym front ∙ (clear w real).queue n i near in cc
          no_put w u real (tok.node_mark n i p rest near front is after) = let e : p ∷ rest ≡ [] = sym front ∙ (clear w real).queue n i near in cc
          no_put w u real (tok.switch_byte n v d b more h is after) = none-some w (sym (clear v h.real).bound ∙ h.bound)
          no_put w u real (tok.switch_mark n v d m h mark is after) = none-some w (sym (clear v h.real).bound ∙ h.bound)

          no_pass : (w : ℕ) (u : Tokens) → w < net.ways → tok.Passes net t w u → ⊥
          no_pass w u real (tok.node_byte n i b rest far front after) = let e : Byte b ∷ rest ≡ [] = sym front ∙ (clear w real).buffer in cc
          no_pass w u real (tok.node_mark n i m rest v far front reach after) = let e : EndMark m ∷ rest ≡ [] = sym front ∙ (clear w real).buffer in cc
          no_pass w u real (tok.switch_byte n i b rest far none front after) = let e : Byte b ∷ rest ≡ [] = sym front ∙ (clear w real).buffer in cc
          no_pass w u real (tok.switch_mark n i m rest far none front closes) = let e : EndMark m ∷ rest ≡ [] = sym front ∙ (clear w real).buffer in cc

          still : IsStill net back waiting t
          still (Proc e) u own h = own
          still (Take w word) u own h = let e : h.token ∷ h.rest ≡ [] = sym h.front ∙ wires w h.real in cc
          still (Pass w) u own h = no_pass w u h.0 h.1
          still (Put w) u own h = no_put w u h.0 h.2
          still (PutFct w) u own h = let few = grants w h.real in let room = h.room in omega arith
          still (Route w out) u own h = no_group net h.switch out h.body (subst (λ b. BodyLeaves net h.switch b out h.body) (clear w h.real).got h.group)

  -- a token can move, or none can, and nothing is under way
  pub goes_on : Found ⊎ IsAtRest net back waiting t
  goes_on = chain (each net.ways taken_from) (λ wires. chain (each net.ways (passed_from wires)) (λ passes. chain (each net.ways granted)
      (λ grants. chain (unused_below wires passes grants (suc (top wires passes grants)))
      (λ unused. chain (settled_above wires passes grants unused (suc (top wires passes grants))) (λ settled. inr (record {
        still = still wires passes grants unused settled;
        clear = clear wires passes grants unused settled;
      }))))))
