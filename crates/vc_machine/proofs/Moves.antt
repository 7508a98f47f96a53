-- The steps that only move packets keep the invariant.
use Rattle.std.proofs.Common.{◌≡◌, ℕ, ◌+◌, ◌<◌, List, [], ◌∷◌, ◌++◌, refl, sym, ap, subst, ◌∙◌, arith, Option, Some, None}
use Rattle.vc_packets.specs.declared.packet.Packet.{Packet}
use Rattle.vc_packets.specs.Headers.{spelled}
use Rattle.vc_machine.specs.Paths.{AtSwitch, Net, Leaves}
use Rattle.vc_switch.specs.Forward.{behind, IsDrawn}
use Rattle.vc_machine.specs.Machine.{State, WayState, ChanState, Empty, Full, set_way, BodyLeaves, Sends, fills, lost, Enters, Routes, Departs}
use Rattle.vc_packets.specs.Functions.{put}
use Rattle.vc_machine.proofs.Labels.{Phase, Label, Labels, number, in_way, tally, On, InputFits, WayFits, ChanFits, Inv, number-append, tally_put, goal_end}
use Rattle.vc_machine.proofs.Ways.{set_fits, zip_push, front_of, push_line}
use Rattle.vc_machine.proofs.Cover.{load_of, body_is, restacked, spelled_behind, follows, onward}
use Rattle.vc_machine.proofs.Heads.{group_of}

pub moved : (net : Net) (s : State) (i : Inv net s) (w : ℕ) → w < net.ways → (a : WayState) (b : Labels) → WayFits net i.phases s.chans w a b →
    ((c : ℕ) → in_way c b ≡ in_way c (i.labels w)) → Inv net (set_way s w a)
moved net s i w real a b fit count =
    record {
      labels = put i.labels w b;
      phases = i.phases;
      ways = set_fits net i.phases s.chans s.ways i.labels w a b i.ways fit;
      chans = λ c h. subst (λ n. ChanFits (net.chan c) (i.phases c) (s.chans c) n) (let e = tally_put c w net.ways i.labels b real in let k = count c in omega arith) (i.chans c h);
      strays = i.strays;
      lost = i.lost;
    }

pub sent : (net : Net) (s t : State) (w : ℕ) → Inv net s → Sends net s w t → Inv net t
sent net s t w i h =
    let fit = i.ways w h.real in
    let b = i.labels w in
    let f = front_of net i.phases s.chans w b.queue (s.ways w).queue h.packet h.rest fit.queue h.front in
    subst (Inv net) (sym h.after)
    (moved net s i w h.real
    (record (s.ways w) { queue = h.rest; line = (s.ways w).line ++ h.packet ∷ [] })
    (record b { queue = f.rest; line = b.line ++ f.label ∷ [] })
    (record { queue = f.others; line = zip_push (On net i.phases s.chans w None) b.line (s.ways w).line f.label h.packet fit.line f.on; input = fit.input })
    (λ c. let e = ap (number c) f.is in let k = number-append c b.line (f.label ∷ []) in omega arith))

pub tally_line : (c w n : ℕ) (L : ℕ → Labels) (l : Label) → w < n → tally c n (put L w (record (L w) { line = (L w).line ++ l ∷ [] })) ≡ tally c n L + number c (l ∷ [])
tally_line c w n L l h =
    let e = tally_put c w n L (record (L w) { line = (L w).line ++ l ∷ [] }) h in
    let k = number-append c (L w).line (l ∷ []) in
    omega arith

pub tally_queue : (c w n : ℕ) (L : ℕ → Labels) (l : Label) → w < n → tally c n (put L w (record (L w) { queue = (L w).queue ++ l ∷ [] })) ≡ tally c n L + number c (l ∷ [])
tally_queue c w n L l h =
    let e = tally_put c w n L (record (L w) { queue = (L w).queue ++ l ∷ [] }) h in
    let k = number-append c (L w).queue (l ∷ []) in
    omega arith

-- behind the header that a switch puts in front
pub drawn_on : (net : Net) (ph : ℕ → Phase) (chans : ℕ → ChanState) (w : ℕ) (v : Option ℕ) (l : Label) (p : Packet) →
    On net ph chans w None l p → On net ph chans w v l (record p { body = spelled (behind v []) ++ p.body })
drawn_on net ph chans w v l p on =
    let f = ph l.chan in
    let cs = (chans l.chan).unacked in
    record {
      real = on.real;
      fuel = on.fuel;
      small = on.small;
      delivers = on.delivers;
      is = restacked f cs l.stack (behind v l.stack) p (spelled (behind v []) ++ p.body) on.is
          (spelled_behind v l.stack (load_of f cs) p.body (body_is f cs l.stack p on.is));
    }

-- a packet in a switch has a way on
pub has_way : (net : Net) (ph : ℕ → Phase) (chans : ℕ → ChanState) (w : ℕ) (v : Option ℕ) (l : Label) (p : Packet) (n i : ℕ) →
    net.far w ≡ AtSwitch n i → IsDrawn ((net.switch n).random i) v → On net ph chans w v l p → (out : ℕ) × (d : List ℕ) × BodyLeaves net n p.body out d
has_way net ph chans w v l p n i far draw on =
    let f = ph l.chan in
    let cs = (chans l.chan).unacked in
    let o = onward net on.fuel w l.stack (goal_end f (net.chan l.chan)) n i v far draw on.delivers in (
      o.way,
      spelled o.stack ++ load_of f cs,
      record {
        stack = behind v l.stack;
        after = o.stack;
        rest = load_of f cs;
        before_is = body_is f cs (behind v l.stack) p on.is;
        leaves = o.leaves;
        after_is = refl;
      },
    )

pub entered : (net : Net) (s t : State) (w : ℕ) (v : Option ℕ) → Inv net s → Enters net s w v t → Inv net t
entered net s t w v i h =
    let fit = i.ways w h.real in
    let b = i.labels w in
    let f = front_of net i.phases s.chans w b.line (s.ways w).line h.packet h.rest fit.line h.front in
    let p = record h.packet { body = spelled (behind v []) ++ h.packet.body } in
    let on = drawn_on net i.phases s.chans w v f.label h.packet f.on in
    let none : b.input ≡ [] = subst (λ k. InputFits net i.phases s.chans w k b.input) h.free fit.input in
    elim h.after [
      | fills group after ↦
          subst (Inv net) (sym after)
          (moved net s i w h.real
          (record (s.ways w) { line = h.rest; input = Full p None })
          (record b { line = f.rest; input = f.label ∷ [] })
          (record { queue = fit.queue; line = f.others; input = (f.label, refl, record { switch = h.switch; link = h.link; drawn = v; far = h.far; draw = h.draw; on = on }) })
          (λ c. let e = ap (number c) f.is in let k = ap (number c) none in omega arith))
      | lost stuck after ↦
          let way = has_way net i.phases s.chans w v f.label p h.switch h.link h.far h.draw on in
          absurd (stuck (group_of net h.switch p.body way.0 way.1 way.2))
    ]

pub routed : (net : Net) (s t : State) (w out : ℕ) → Inv net s → Routes net s w out t → Inv net t
routed net s t w out i h =
    let fit = i.ways w h.real in
    subst (Inv net) (sym h.after)
    (moved net s i w h.real
    (record (s.ways w) { input = Full h.packet (Some out) })
    (i.labels w)
    (record { queue = fit.queue; line = fit.line; input = subst (λ k. InputFits net i.phases s.chans w k (i.labels w).input) h.full fit.input })
    (λ c. refl))

pub departed : (net : Net) (s t : State) (w : ℕ) → Inv net s → Departs net s w t → Inv net t
departed net s t w i h =
    let fit = i.ways w h.real in
    let b = i.labels w in
    let inside = subst (λ k. InputFits net i.phases s.chans w k b.input) h.full fit.input in
    let l = inside.0 in
    let here = inside.2 in
    let on = here.on in
    let f = i.phases l.chan in
    let cs = (s.chans l.chan).unacked in
    let o = onward net on.fuel w l.stack (goal_end f (net.chan l.chan)) here.switch here.link here.drawn here.far here.draw on.delivers in
    let same : here.switch ≡ h.switch = (let e = sym here.far ∙ h.far in cc) in
    let leaves = subst (λ k. Leaves net k (behind here.drawn l.stack) o.way o.stack) same o.leaves in
    let g = follows net h.switch (behind here.drawn l.stack) (load_of f cs) h.packet.body o.way o.stack h.out h.body leaves
    (body_is f cs (behind here.drawn l.stack) h.packet on.is) h.leaves in
    let next = o.each h.out g.after (subst (λ k. Leaves net k (behind here.drawn l.stack) h.out g.after) (sym same) g.leaves) in
    let m : Label = record l { stack = g.after } in
    let p : Packet = record h.packet { body = h.body } in
    let on2 : On net i.phases s.chans h.out None m p = record {
      real = on.real;
      fuel = next.0;
      small = (let a = next.1 in let z = on.small in omega arith);
      delivers = next.2;
      is = restacked f cs (behind here.drawn l.stack) g.after h.packet h.body on.is g.body;
    } in
    let A = put s.ways w (record (s.ways w) { input = Empty }) in
    let b1 : Labels = record b { input = [] } in
    let L = put i.labels w b1 in
    let fits = set_fits net i.phases s.chans s.ways i.labels w (record (s.ways w) { input = Empty }) b1 i.ways (record { queue = fit.queue; line = fit.line; input = refl }) in
    subst (Inv net) (sym h.after)
    (record {
      labels = put L h.out (record (L h.out) { line = (L h.out).line ++ m ∷ [] });
      phases = i.phases;
      ways = set_fits net i.phases s.chans A L h.out (record (A h.out) { line = (A h.out).line ++ p ∷ [] }) (record (L h.out) { line = (L h.out).line ++ m ∷ [] }) fits
          (push_line net i.phases s.chans h.out (A h.out) (L h.out) m p (fits h.out g.leaves.real) on2);
      chans = λ c r. subst (λ n. ChanFits (net.chan c) (i.phases c) (s.chans c) n)
          (let e1 = tally_line c h.out net.ways L m g.leaves.real in
          let e2 = tally_put c w net.ways i.labels b1 h.real in
          let e3 = ap (number c) inside.1 in
          omega arith)
          (i.chans c r);
      strays = i.strays;
      lost = i.lost;
    })
