-- Each packet on the ways belongs to one channel, and comes to its end.
use Rattle.std.proofs.Common.{◌≡◌, ℕ, zero, suc, ◌<◌, ◌≤◌, inl, inr, List, [], ◌∷◌, ◌++◌, sym, ap, ◌∙◌, arith, Option, None, le_refl}
use Rattle.std.specs.List.{AllZip, AllByRecursion, Contains}
use Rattle.std.proofs.lemmas.List.Elements.{All-from_recursion, All-contains}
use Rattle.vc_packets.specs.declared.packet.Packet.{Packet}
use Rattle.vc_packets.specs.Headers.{spelled}
use Rattle.vc_packets.specs.Kind.{kind}
use Rattle.vc_switch.specs.Forward.{IsDrawn, behind}
use Rattle.vc_machine.specs.Paths.{AtSwitch, End, Net, Carries, Delivers, IsAccepted}
use Rattle.vc_machine.specs.Machine.{State, WayState, ChanState, Input, Empty, Full, BodyLeaves, start}
use Rattle.vc_machine.specs.Places.{Place, Queue, OnWire, Inside, Held, of_input, at_place, in_ways, IsOf}
use Rattle.vc_machine.specs.Owners.{HasOwner, EachHasOwner, OwnersAreOne, Path, ends, hops, ReachesEnd, PathsReachEnds}
use Rattle.vc_machine.proofs.Labels.{Phase, Label, Labels, number, in_way, tally, On, InputFits, WayFits, Inv, in_way_le_tally}
use Rattle.vc_machine.proofs.Ways.{number_here}
use Rattle.vc_machine.proofs.Counts.{going, is_of_own, front_same, piece_ack}
use Rattle.vc_machine.proofs.Exactly.{drawn_both, same_port, AreGoing}
use Rattle.vc_machine.proofs.Cover.{spelled_behind, follows, onward, at_node}
use Rattle.vc_machine.proofs.Unique.{same_end}
use Rattle.vc_machine.proofs.Runs.{at_start, ran}

pub all_both : {X : Type 0} (B : X → Type 0) (xs ys : List X) → AllByRecursion B xs → AllByRecursion B ys → AllByRecursion B (xs ++ ys)
all_both B [] ys a b = b
all_both B (x ∷ xs) ys a b = (a.0, all_both B xs ys a.1 b)

queue_owned : (net : Net) (ph : ℕ → Phase) (chans : ℕ → ChanState) (w : ℕ) (ls : List Label) (ps : List Packet) → AreGoing net ph chans (λ d. number d ls) → AllZip (On net ph chans w None) ls ps →
    AllByRecursion (HasOwner net) (at_place (Queue w) ps)
queue_owned net ph chans w [] [] g z = tt
queue_owned net ph chans w [] (p ∷ ps) g z = absurd z
queue_owned net ph chans w (l ∷ ls) [] g z = absurd z
queue_owned net ph chans w (l ∷ ls) (p ∷ ps) g z =
    let here = number_here l ls in
    let goes = g l.chan z.0.real (λ e. omega arith) in
    (record { chan = l.chan; real = z.0.real; its = is_of_own net ph chans w None l p z.0 goes }, queue_owned net ph chans w ls ps (λ d r more. g d r (λ e. more (omega arith))) z.1)

wire_owned : (net : Net) (ph : ℕ → Phase) (chans : ℕ → ChanState) (w : ℕ) (ls : List Label) (ps : List Packet) → AreGoing net ph chans (λ d. number d ls) → AllZip (On net ph chans w None) ls ps →
    AllByRecursion (HasOwner net) (at_place (OnWire w) ps)
wire_owned net ph chans w [] [] g z = tt
wire_owned net ph chans w [] (p ∷ ps) g z = absurd z
wire_owned net ph chans w (l ∷ ls) [] g z = absurd z
wire_owned net ph chans w (l ∷ ls) (p ∷ ps) g z =
    let here = number_here l ls in
    let goes = g l.chan z.0.real (λ e. omega arith) in
    (record { chan = l.chan; real = z.0.real; its = is_of_own net ph chans w None l p z.0 goes }, wire_owned net ph chans w ls ps (λ d r more. g d r (λ e. more (omega arith))) z.1)

input_owned : (net : Net) (ph : ℕ → Phase) (chans : ℕ → ChanState) (w : ℕ) (i : Input) (ls : List Label) → AreGoing net ph chans (λ d. number d ls) → InputFits net ph chans w i ls →
    AllByRecursion (HasOwner net) (at_place (Inside w) (of_input i))
input_owned net ph chans w Empty ls g z = tt
input_owned net ph chans w (Full p bound) ls g z =
    let l = z.0 in
    let h = z.2 in
    let here = number_here l [] in
    let count = ap (number l.chan) z.1 in
    let goes = g l.chan h.on.real (λ e. omega arith) in
    (record { chan = l.chan; real = h.on.real; its = (h.switch, h.link, h.drawn, h.far, h.draw, is_of_own net ph chans w h.drawn l p h.on goes) }, tt)

way_owned : (net : Net) (ph : ℕ → Phase) (chans : ℕ → ChanState) (w : ℕ) (a : WayState) (b : Labels) → AreGoing net ph chans (λ d. in_way d b) → WayFits net ph chans w a b →
    AllByRecursion (HasOwner net) ((at_place (Queue w) a.queue ++ at_place (OnWire w) a.line) ++ at_place (Inside w) (of_input a.input))
way_owned net ph chans w a b g fit =
    all_both (HasOwner net) (at_place (Queue w) a.queue ++ at_place (OnWire w) a.line) (at_place (Inside w) (of_input a.input))
    (all_both (HasOwner net) (at_place (Queue w) a.queue) (at_place (OnWire w) a.line) (queue_owned net ph chans w b.queue a.queue (λ d r more. g d r (λ e. more (omega arith))) fit.queue)
    (wire_owned net ph chans w b.line a.line (λ d r more. g d r (λ e. more (omega arith))) fit.line)) (input_owned net ph chans w a.input b.input (λ d r more. g d r (λ e. more (omega arith))) fit.input)

pub ways_owned : (net : Net) (s : State) (i : Inv net s) (n : ℕ) → n ≤ net.ways → AllByRecursion (HasOwner net) (in_ways s n)
ways_owned net s i zero h = tt
ways_owned net s i (suc w) h =
    let a = s.ways w in
    let less : w < net.ways = omega arith in
    all_both (HasOwner net) ((at_place (Queue w) a.queue ++ at_place (OnWire w) a.line) ++ at_place (Inside w) (of_input a.input)) (in_ways s w)
    (way_owned net i.phases s.chans w a (i.labels w)
    (λ d r more. going (net.chan d) (i.phases d) (s.chans d) (tally d net.ways i.labels) (i.chans d r).phase
    (λ e. more (let le = in_way_le_tally d w net.ways i.labels less in omega arith)))
    (i.ways w less))
    (ways_owned net s i w (omega arith))

pub owned : (net : Net) (s : State) → Inv net s → (x : Place × Packet) → Contains (in_ways s net.ways) x → HasOwner net x
owned net s i x h = All-contains (HasOwner net) (in_ways s net.ways) x (All-from_recursion (HasOwner net) (in_ways s net.ways) (ways_owned net s i net.ways (le_refl net.ways))) h

pub each_owned : (net : Net) → EachHasOwner net
each_owned net es s acc run x h = owned net s (ran net es start s acc (at_start net) run) x h

-- a packet leads to one end
one_of : (net : Net) (acc : IsAccepted net) (c d w : ℕ) (v u : Option ℕ) (p : Packet) → Carries net c → Carries net d → (v ≡ None → u ≡ None) × (u ≡ None → v ≡ None) → IsOf net w v p c → IsOf net w u p d → c ≡ d
one_of net acc c d w v u p rc rd both (inl (r, last, a, k)) (inl (q, final, b, j)) =
    let e = front_same None v u a.stack b.stack r q (sym a.body ∙ b.body) both in
    let same = same_end net acc 33 32 32 w a.stack b.stack r q (net.chan c).to (net.chan d).to (omega arith) a.delivers b.delivers e in
    acc.one_in c d rc rd (same.0, same.1)
one_of net acc c d w v u p rc rd both (inr (r, a, k)) (inr (q, b, j)) =
    let e = front_same None v u a.stack b.stack r q (sym a.body ∙ b.body) both in
    let same = same_end net acc 33 32 32 w a.stack b.stack r q (net.chan c).from (net.chan d).from (omega arith) a.delivers b.delivers e in
    acc.one_out c d rc rd (same.0, same.1)
one_of net acc c d w v u p rc rd both (inl (r, last, a, k)) (inr (q, b, j)) =
    let e = front_same None v u a.stack b.stack r q (sym a.body ∙ b.body) both in
    let same = same_end net acc 33 32 32 w a.stack b.stack r q (net.chan c).to (net.chan d).from (omega arith) a.delivers b.delivers e in
    absurd (piece_ack q p.mark last (ap (λ z. kind z p.mark) (sym same.2) ∙ k) j)
one_of net acc c d w v u p rc rd both (inr (r, a, k)) (inl (q, last, b, j)) =
    let e = front_same None v u a.stack b.stack r q (sym a.body ∙ b.body) both in
    let same = same_end net acc 33 32 32 w a.stack b.stack r q (net.chan c).from (net.chan d).to (omega arith) a.delivers b.delivers e in
    absurd (piece_ack q p.mark last j (ap (λ z. kind z p.mark) (sym same.2) ∙ k))

pub owners_one : (net : Net) → OwnersAreOne net
owners_one net c d (Queue w, p) acc rc rd a b = one_of net acc c d w None None p rc rd ((λ k. k), (λ k. k)) a b
owners_one net c d (OnWire w, p) acc rc rd a b = one_of net acc c d w None None p rc rd ((λ k. k), (λ k. k)) a b
owners_one net c d (Inside w, p) acc rc rd (n, i, v, far, draw, a) (m, j, u, there, drew, b) =
    one_of net acc c d w v u p rc rd (drawn_both ((net.switch n).random i) v u draw (same_port net n i m j u (sym far ∙ there) drew)) a b
owners_one net c d (Held k, p) acc rc rd a b = a ∙ sym b

-- headers that deliver a packet in a switch deliver what leaves
left_on : (net : Net) (fuel w k link out : ℕ) (v : Option ℕ) (s load body left : List ℕ) (e : End) → net.far w ≡ AtSwitch k link → IsDrawn ((net.switch k).random link) v → Delivers net fuel w s e →
    body ≡ spelled (behind v s) ++ load → BodyLeaves net k body out left → (less : ℕ) × (after : List ℕ) × Delivers net less out after e × (left ≡ spelled after ++ load)
left_on net fuel w k link out v s load body left e far draw d is leaves =
    let on = onward net fuel w s e k link v far draw d in
    let f = follows net k (behind v s) load body on.way on.stack out left on.leaves is leaves in
    let next = on.each out f.after f.leaves in
    (next.0, f.after, next.2, f.body)

-- a path of a packet whose headers deliver it comes to their end
path_end : (net : Net) (fuel w n : ℕ) (s load body rest : List ℕ) (e : End) → Delivers net fuel w s e → body ≡ spelled s ++ load → Path net w body n rest → (n ≡ e.node) × (rest ≡ spelled (e.block ∷ []) ++ load)
path_end net fuel w n s load body rest e d is (ends link far) =
    let at = at_node net fuel w s e n link far d in
    (at.0, is ∙ ap (λ z. spelled z ++ load) at.1)
path_end net fuel w n s load body rest e d is (hops k link out v left far draw leaves more) =
    let l = left_on net fuel w k link out v s load (spelled (behind v []) ++ body) left e far draw d (spelled_behind v s load body is) leaves in
    path_end net l.0 out n l.1 load left rest e l.2 l.3 more

way_reaches : (net : Net) (w c n : ℕ) (p : Packet) (rest : List ℕ) → IsOf net w None p c → Path net w p.body n rest → ReachesEnd net c p n rest
way_reaches net w c n p rest (inl (load, last, leads, k)) path =
    let r = path_end net 32 w n leads.stack load p.body rest (net.chan c).to leads.delivers leads.body path in
    inl (load, last, r.0, r.1, k)
way_reaches net w c n p rest (inr (load, leads, k)) path =
    let r = path_end net 32 w n leads.stack load p.body rest (net.chan c).from leads.delivers leads.body path in
    inr (load, r.0, r.1, k)

-- and so does one of a packet in a switch, which has what was put in front
inside_reaches : (net : Net) (w c n k link out : ℕ) (v : Option ℕ) (p : Packet) (left rest : List ℕ) → net.far w ≡ AtSwitch k link → IsDrawn ((net.switch k).random link) v → IsOf net w v p c →
    BodyLeaves net k p.body out left → Path net out left n rest → ReachesEnd net c p n rest
inside_reaches net w c n k link out v p left rest far draw (inl (load, last, leads, kind)) leaves path =
    let l = left_on net 32 w k link out v leads.stack load p.body left (net.chan c).to far draw leads.delivers leads.body leaves in
    let r = path_end net l.0 out n l.1 load left rest (net.chan c).to l.2 l.3 path in
    inl (load, last, r.0, r.1, kind)
inside_reaches net w c n k link out v p left rest far draw (inr (load, leads, kind)) leaves path =
    let l = left_on net 32 w k link out v leads.stack load p.body left (net.chan c).from far draw leads.delivers leads.body leaves in
    let r = path_end net l.0 out n l.1 load left rest (net.chan c).from l.2 l.3 path in
    inr (load, r.0, r.1, kind)

pub paths_reach : (net : Net) → PathsReachEnds net
paths_reach net c n (Queue w, p) rest its path = way_reaches net w c n p rest its path
paths_reach net c n (OnWire w, p) rest its path = way_reaches net w c n p rest its path
paths_reach net c n (Inside w, p) rest (k, i, v, far, draw, its) (j, link, out, left, there, leaves, path) =
    inside_reaches net w c n j link out v p left rest there (same_port net j link k i v (sym there ∙ far) draw) its leaves path
paths_reach net c n (Held d, p) rest its path = absurd path
