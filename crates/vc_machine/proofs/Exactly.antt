-- While an output is unfinished exactly one packet in the network belongs to its channel, and otherwise none.
use Rattle.std.proofs.Common.{◌≡◌, ℕ, zero, suc, ◌+◌, ◌<◌, ◌≤◌, inl, inr, List, [], ◌∷◌, ◌++◌, length, refl, sym, ap, subst, ◌∙◌, arith, Option, Some, None, le_refl, length-append, zero-add}
use Rattle.std.specs.List.{AllZip}
use Rattle.std.proofs.lemmas.Bool.{cases_eq}
use Rattle.vc_packets.specs.declared.packet.Packet.{Packet}
use Rattle.vc_machine.specs.Paths.{Carries, AtSwitch, Channel, Net, IsAccepted}
use Rattle.vc_switch.specs.Forward.{Interval, IsDrawn}
use Rattle.vc_machine.specs.Machine.{State, WayState, ChanState, Input, Empty, Full}
use Rattle.vc_machine.specs.Places.{Queue, OnWire, Inside, Held, of_input, of_held, at_place, in_ways, in_halves, everywhere, IsOf, BelongsTo, Number}
use Rattle.vc_machine.proofs.Labels.{Phase, Calm, Coming, Waiting, Returning, Label, Labels, number, in_way, tally, On, InputFits, WayFits, LeftAfter, PhaseFits, Inv, in_way_le_tally}
use Rattle.vc_machine.proofs.Ways.{number_here, number_other}
use Rattle.vc_machine.proofs.Counts.{number_plus, Going, going, is_of_own, is_of_one}

abbrev pub AreGoing : Net → (ℕ → Phase) → (ℕ → ChanState) → (ℕ → ℕ) → Type 0
AreGoing net ph chans n = (d : ℕ) → Carries net d → (n d ≡ 0 → ⊥) → Going (chans d) (ph d)

queue_number : (net : Net) (ph : ℕ → Phase) (chans : ℕ → ChanState) (w c : ℕ) (ls : List Label) (ps : List Packet) → IsAccepted net → Carries net c →
    AreGoing net ph chans (λ d. number d ls) → AllZip (On net ph chans w None) ls ps → Number (BelongsTo net c) (at_place (Queue w) ps) (number c ls)
queue_number net ph chans w c [] [] acc real g z = refl
queue_number net ph chans w c [] (p ∷ ps) acc real g z = absurd z
queue_number net ph chans w c (l ∷ ls) [] acc real g z = absurd z
queue_number net ph chans w c (l ∷ ls) (p ∷ ps) acc real g z =
    let here = number_here l ls in
    let goes = g l.chan z.0.real (λ e. omega arith) in
    let rest = queue_number net ph chans w c ls ps acc real (λ d r more. g d r (λ e. more (omega arith))) z.1 in
    elim (cases_eq l.chan c) [
      | inl e ↦ inl (subst (λ k. IsOf net w None p k) e (is_of_own net ph chans w None l p z.0 goes), (number c ls, subst (λ k. number k (l ∷ ls) ≡ suc (number k ls)) e here, rest))
      | inr ne ↦ inr (
        (λ b. ne (is_of_one net ph chans w None None l p c acc real ((λ k. k), (λ k. k)) z.0 goes b)),
        subst (Number (BelongsTo net c) (at_place (Queue w) ps)) (sym (number_other c l ls ne)) rest,
      )
    ]

wire_number : (net : Net) (ph : ℕ → Phase) (chans : ℕ → ChanState) (w c : ℕ) (ls : List Label) (ps : List Packet) → IsAccepted net → Carries net c →
    AreGoing net ph chans (λ d. number d ls) → AllZip (On net ph chans w None) ls ps → Number (BelongsTo net c) (at_place (OnWire w) ps) (number c ls)
wire_number net ph chans w c [] [] acc real g z = refl
wire_number net ph chans w c [] (p ∷ ps) acc real g z = absurd z
wire_number net ph chans w c (l ∷ ls) [] acc real g z = absurd z
wire_number net ph chans w c (l ∷ ls) (p ∷ ps) acc real g z =
    let here = number_here l ls in
    let goes = g l.chan z.0.real (λ e. omega arith) in
    let rest = wire_number net ph chans w c ls ps acc real (λ d r more. g d r (λ e. more (omega arith))) z.1 in
    elim (cases_eq l.chan c) [
      | inl e ↦ inl (subst (λ k. IsOf net w None p k) e (is_of_own net ph chans w None l p z.0 goes), (number c ls, subst (λ k. number k (l ∷ ls) ≡ suc (number k ls)) e here, rest))
      | inr ne ↦ inr (
        (λ b. ne (is_of_one net ph chans w None None l p c acc real ((λ k. k), (λ k. k)) z.0 goes b)),
        subst (Number (BelongsTo net c) (at_place (OnWire w) ps)) (sym (number_other c l ls ne)) rest,
      )
    ]

pub drawn_both : (r : Option Interval) (v u : Option ℕ) → IsDrawn r v → IsDrawn r u → (v ≡ None → u ≡ None) × (u ≡ None → v ≡ None)
drawn_both None None None a b = ((λ k. k), (λ k. k))
drawn_both None None (Some y) a b = absurd b
drawn_both None (Some x) u a b = absurd a
drawn_both (Some r) None u a b = absurd a
drawn_both (Some r) (Some x) None a b = absurd b
drawn_both (Some r) (Some x) (Some y) a b = ((λ k. absurd (cc)), (λ k. absurd (cc)))

pub same_port : (net : Net) (n i m j : ℕ) (v : Option ℕ) → AtSwitch n i ≡ AtSwitch m j → IsDrawn ((net.switch m).random j) v → IsDrawn ((net.switch n).random i) v
same_port net n i m j v e d =
    let a : m ≡ n = cc in
    let b : j ≡ i = cc in
    subst (λ k. IsDrawn ((net.switch n).random k) v) b (subst (λ k. IsDrawn ((net.switch k).random j) v) a d)

input_number : (net : Net) (ph : ℕ → Phase) (chans : ℕ → ChanState) (w c : ℕ) (i : Input) (ls : List Label) → IsAccepted net → Carries net c →
    AreGoing net ph chans (λ d. number d ls) → InputFits net ph chans w i ls → Number (BelongsTo net c) (at_place (Inside w) (of_input i)) (number c ls)
input_number net ph chans w c Empty ls acc real g z = ap (number c) z
input_number net ph chans w c (Full p bound) ls acc real g z =
    let l = z.0 in
    let h = z.2 in
    let here = number_here l [] in
    let count = ap (number l.chan) z.1 in
    let goes = g l.chan h.on.real (λ e. omega arith) in
    subst (Number (BelongsTo net c) (at_place (Inside w) (p ∷ []))) (ap (number c) (sym z.1))
    (elim (cases_eq l.chan c) [
      | inl e ↦ inl (
        subst (λ k. BelongsTo net k (Inside w, p)) e (h.switch, h.link, h.drawn, h.far, h.draw, is_of_own net ph chans w h.drawn l p h.on goes),
        (0, subst (λ k. number k (l ∷ []) ≡ suc 0) e here, refl),
      )
      | inr ne ↦ inr (
        (λ b. ne (is_of_one net ph chans w h.drawn b.2 l p c acc real
            (drawn_both ((net.switch h.switch).random h.link) h.drawn b.2 h.draw (same_port net h.switch h.link b.0 b.1 b.2 (sym h.far ∙ b.3) b.4)) h.on goes b.5)),
        number_other c l [] ne,
      )
    ])

way_number : (net : Net) (ph : ℕ → Phase) (chans : ℕ → ChanState) (w c : ℕ) (a : WayState) (b : Labels) → IsAccepted net → Carries net c →
    AreGoing net ph chans (λ d. in_way d b) → WayFits net ph chans w a b →
    Number (BelongsTo net c) ((at_place (Queue w) a.queue ++ at_place (OnWire w) a.line) ++ at_place (Inside w) (of_input a.input)) (in_way c b)
way_number net ph chans w c a b acc real g fit =
    number_plus (BelongsTo net c) (at_place (Queue w) a.queue ++ at_place (OnWire w) a.line) (at_place (Inside w) (of_input a.input)) (number c b.queue + number c b.line) (number c b.input)
    (number_plus (BelongsTo net c) (at_place (Queue w) a.queue) (at_place (OnWire w) a.line) (number c b.queue) (number c b.line)
    (queue_number net ph chans w c b.queue a.queue acc real (λ d r more. g d r (λ e. more (omega arith))) fit.queue)
    (wire_number net ph chans w c b.line a.line acc real (λ d r more. g d r (λ e. more (omega arith))) fit.line))
    (input_number net ph chans w c a.input b.input acc real (λ d r more. g d r (λ e. more (omega arith))) fit.input)

ways_number : (net : Net) (s : State) (i : Inv net s) (c n : ℕ) → n ≤ net.ways → IsAccepted net → Carries net c → Number (BelongsTo net c) (in_ways s n) (tally c n i.labels)
ways_number net s i c zero h acc real = refl
ways_number net s i c (suc w) h acc real =
    let a = s.ways w in
    let less : w < net.ways = omega arith in
    number_plus (BelongsTo net c) ((at_place (Queue w) a.queue ++ at_place (OnWire w) a.line) ++ at_place (Inside w) (of_input a.input)) (in_ways s w) (in_way c (i.labels w)) (tally c w i.labels)
    (way_number net i.phases s.chans w c a (i.labels w) acc real
    (λ d r more. going (net.chan d) (i.phases d) (s.chans d) (tally d net.ways i.labels) (i.chans d r).phase
    (λ e. more (let le = in_way_le_tally d w net.ways i.labels less in omega arith)))
    (i.ways w less))
    (ways_number net s i c w (omega arith) acc real)

of_other : (net : Net) (c d : ℕ) (o : Option Packet) → (c ≡ d → ⊥) → Number (BelongsTo net c) (at_place (Held d) (of_held o)) 0
of_other net c d None ne = refl
of_other net c d (Some p) ne = inr (ne, refl)

of_own : (net : Net) (c d : ℕ) (o : Option Packet) → c ≡ d → Number (BelongsTo net c) (at_place (Held d) (of_held o)) (length (of_held o))
of_own net c d None e = refl
of_own net c d (Some p) e = inl (e, (0, refl, refl))

halves_past : (net : Net) (s : State) (c n : ℕ) → n ≤ c → Number (BelongsTo net c) (in_halves s n) 0
halves_past net s c zero h = refl
halves_past net s c (suc d) h =
    number_plus (BelongsTo net c) (at_place (Held d) (of_held (s.chans d).held)) (in_halves s d) 0 0 (of_other net c d (s.chans d).held (λ e. omega arith)) (halves_past net s c d (omega arith))

halves_number : (net : Net) (s : State) (c n : ℕ) → c < n → Number (BelongsTo net c) (in_halves s n) (length (of_held (s.chans c).held))
halves_number net s c zero h = absurd (omega arith)
halves_number net s c (suc d) h =
    elim (cases_eq c d) [
      | inl e ↦ subst (Number (BelongsTo net c) (in_halves s (suc d)))
          (let q = ap (λ k. length (of_held (s.chans k).held)) e in omega arith)
          (number_plus (BelongsTo net c) (at_place (Held d) (of_held (s.chans d).held)) (in_halves s d) (length (of_held (s.chans d).held)) 0 (of_own net c d (s.chans d).held e) (halves_past net s c d (omega arith)))
      | inr ne ↦ subst (Number (BelongsTo net c) (in_halves s (suc d))) (zero-add (length (of_held (s.chans c).held)))
          (number_plus (BelongsTo net c) (at_place (Held d) (of_held (s.chans d).held)) (in_halves s d) 0 (length (of_held (s.chans c).held))
          (of_other net c d (s.chans d).held ne) (halves_number net s c d (omega arith)))
    ]

left_sum : (x : ChanState) (later : List (List ℕ)) → LeftAfter x later → 1 + x.finished ≡ length x.offered
left_sum x [] h = let a = h.2 in let b = ap length h.1 in omega arith
left_sum x (d ∷ ds) h = let a = h.4 in let b = ap length h.3 in let k = length-append x.taken (h.0 ∷ []) in omega arith

sum_is : (ch : Channel) (f : Phase) (x : ChanState) (n : ℕ) → PhaseFits ch f x n → n + length (of_held x.held) + x.finished ≡ length x.offered
sum_is ch Calm x n h = let a = h.0 in let b = ap (λ k. length (of_held k)) h.1 in let e = ap length h.2.same in let q = h.2.count in omega arith
sum_is ch Coming x n h =
    let a = h.0 in let b = ap (λ k. length (of_held k)) h.1 in let e = ap length h.2.offered in let q = h.2.count in let k = length-append x.taken (h.2.message ∷ []) in omega arith
sum_is ch Waiting x n h =
    let a = h.0 in let b = ap (λ k. length (of_held k)) h.1 in let e = ap length h.3.offered in let q = h.3.count in let k = length-append x.taken (h.3.message ∷ []) in omega arith
sum_is ch Returning x n h = let a = h.0 in let b = ap (λ k. length (of_held k)) h.1 in let e = left_sum x h.2.later h.2.left in omega arith

pub exactly : (net : Net) (s : State) (c m : ℕ) → IsAccepted net → Inv net s → Carries net c → length (s.chans c).offered ≡ m + (s.chans c).finished →
    Number (BelongsTo net c) (everywhere net s) m
exactly net s c m acc i real count =
    let sum = sum_is (net.chan c) (i.phases c) (s.chans c) (tally c net.ways i.labels) (i.chans c real).phase in
    subst (Number (BelongsTo net c) (everywhere net s)) (omega arith)
    (number_plus (BelongsTo net c) (in_ways s net.ways) (in_halves s net.chans) (tally c net.ways i.labels) (length (of_held (s.chans c).held))
    (ways_number net s i c net.ways (le_refl net.ways) acc real) (halves_number net s c net.chans real.0))

pub offered_at_most : (net : Net) (s : State) (c : ℕ) → Inv net s → Carries net c → ((s.chans c).finished ≤ length (s.chans c).offered) × (length (s.chans c).offered ≤ 1 + (s.chans c).finished)
offered_at_most net s c i real = bounds (net.chan c) (i.phases c) (s.chans c) (tally c net.ways i.labels) (i.chans c real).phase
  where
    bounds : (ch : Channel) (f : Phase) (x : ChanState) (n : ℕ) → PhaseFits ch f x n → (x.finished ≤ length x.offered) × (length x.offered ≤ 1 + x.finished)
    bounds ch Calm x n h = let k = sum_is ch Calm x n h in let a = h.0 in let b = ap (λ k. length (of_held k)) h.1 in (omega arith, omega arith)
    bounds ch Coming x n h = let k = sum_is ch Coming x n h in let a = h.0 in let b = ap (λ k. length (of_held k)) h.1 in (omega arith, omega arith)
    bounds ch Waiting x n h = let k = sum_is ch Waiting x n h in let a = h.0 in let b = ap (λ k. length (of_held k)) h.1 in (omega arith, omega arith)
    bounds ch Returning x n h = let k = sum_is ch Returning x n h in let a = h.0 in let b = ap (λ k. length (of_held k)) h.1 in (omega arith, omega arith)
