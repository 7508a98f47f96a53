-- Tokens stand for one state of the packet machine only.
use Rattle.std.proofs.Common.{◌≡◌, ℕ, List, [], ◌∷◌, ◌++◌, refl, sym, ap, subst, ◌∙◌, Option, Some, None, append_assoc}
use Rattle.vc_packets.specs.declared.mark.Mark.{Mark}
use Rattle.vc_packets.specs.declared.packet.Packet.{Packet}
use Rattle.vc_packets.specs.Headers.{spelled}
use Rattle.vc_machine.specs.Paths.{Port, AtNode, AtSwitch, Net}
use Rattle.vc_switch.specs.Forward.{Interval, IsDrawn, behind}
use Rattle.vc_machine.specs.Machine.{State, Input}
use Rattle.vc_tokens.specs.Tokens.{Token, EndMark, bytes, spelling, spellings, Spells}
use Rattle.vc_machine.specs.Links.{Tokens}
use Rattle.vc_machine.specs.View.{Got, nothing, begun, Inside, without_mark, with_mark, stream, TokenView}
use Rattle.vc_tokens.proofs.Spellings.{first_packet}
use Rattle.vc_machine.proofs.Heads.{node_got, inside_unmarked, inside_marked, no_header}

pub spells_one : (ts : List Token) (ps qs : List Packet) (rest : List ℕ) → Spells ts ps rest → Spells ts qs rest → ps ≡ qs
spells_one ts [] [] rest h k = refl
spells_one ts [] (q ∷ qs) rest h k =
    let e : bytes q.body ++ EndMark q.mark ∷ (spellings qs ++ bytes rest) ≡ bytes rest =
    sym (append_assoc (spelling q) (spellings qs) (bytes rest) ∙ append_assoc (bytes q.body) (EndMark q.mark ∷ []) (spellings qs ++ bytes rest)) ∙ sym k ∙ h in
    let f = first_packet q.body q.mark (spellings qs ++ bytes rest) [] rest e in
    absurd (empty_cons f.is)
  where
    empty_cons : {p : Packet} {ps : List Packet} → [] ≡ p ∷ ps → ⊥
    empty_cons e = cc
spells_one ts (p ∷ ps) qs rest h k =
    let e : bytes p.body ++ EndMark p.mark ∷ (spellings ps ++ bytes rest) ≡ spellings qs ++ bytes rest =
    sym (append_assoc (spelling p) (spellings ps) (bytes rest) ∙ append_assoc (bytes p.body) (EndMark p.mark ∷ []) (spellings ps ++ bytes rest)) ∙ sym h ∙ k in
    let f = first_packet p.body p.mark (spellings ps ++ bytes rest) qs rest e in
    ap (λ x. p ∷ x) (spells_one (spellings ps ++ bytes rest) ps f.others rest refl f.spells) ∙ sym f.is

behind_one : (r : Option Interval) (d e : Option ℕ) (a b : List ℕ) → IsDrawn r d → IsDrawn r e → spelled (behind d []) ++ a ≡ spelled (behind e []) ++ b → a ≡ b
behind_one None None None a b h k same = same
behind_one None None (Some v) a b h k same = absurd k
behind_one None (Some v) e a b h k same = absurd h
behind_one (Some i) (Some v) (Some x) a b h k same = cc
behind_one (Some i) (Some v) None a b h k same = absurd k
behind_one (Some i) None e a b h k same = absurd h

got_one : (net : Net) (p : Port) (got a b : List ℕ) → Got net p got a → Got net p got b → a ≡ b
got_one net (AtNode n i) got a b h k = sym (node_got net (AtNode n i) n i got a refl h) ∙ node_got net (AtNode n i) n i got b refl k
got_one net (AtSwitch n i) got a b (nothing none none2) (nothing none3 none4) = none2 ∙ sym none4
got_one net (AtSwitch n i) got a b (nothing none none2) (begun d may some e) = none2 ∙ sym (no_header d b (sym none ∙ e))
got_one net (AtSwitch n i) got a b (begun d may some e) (nothing none none2) = no_header d a (sym none ∙ e) ∙ sym none2
got_one net (AtSwitch n i) got a b (begun d may some e) (begun d2 may2 some2 e2) = behind_one ((net.switch n).random i) d d2 a b may may2 (sym e ∙ e2)

abbrev SameInside : List ℕ → List ℕ → Input → Input → Type 0
SameInside a b x y = (a ≡ b) × (x ≡ y)

inside_one : (net : Net) (p : Port) (got : List ℕ) (mark : Option Mark) (bound : Option ℕ) (a b : List ℕ) (x y : Input) →
    Inside net p got mark bound a x → Inside net p got mark bound b y → SameInside a b x y
inside_one net p got mark bound a b x y (without_mark none g empty) k =
    let h = inside_unmarked net p got mark bound b y none k in
    (got_one net p got a b g h.0, empty ∙ sym h.1)
inside_one net p got mark bound a b x y (with_mark n i m far is none full) k =
    let h = inside_marked net p got mark bound b y m is k in
    (none ∙ sym h.0, full ∙ sym h.1)

way_one : (net : Net) (t : Tokens) (s v : State) → TokenView net t s → TokenView net t v → (w : ℕ) → s.ways w ≡ v.ways w
way_one net t s v h k w =
    let a = h.ways w in
    let b = k.ways w in
    let r = t.receiver w in
    let i = inside_one net (net.far w) r.got r.mark r.bound a.passed b.passed (s.ways w).input (v.ways w).input a.inside b.inside in
    let line = spells_one (stream a.passed r.buffer (t.wire w)) (s.ways w).line (v.ways w).line (t.sender w).sent a.line
    (subst (λ x. Spells (stream x r.buffer (t.wire w)) (v.ways w).line (t.sender w).sent) (sym i.0) b.line) in
    λ j. record { queue = (a.same_queue ∙ sym b.same_queue) j; line = line j; input = i.1 j }

pub view_one : (net : Net) (t : Tokens) (s v : State) → TokenView net t s → TokenView net t v → s ≡ v
view_one net t s v h k =
    λ j. record { ways = λ w. way_one net t s v h k w j; chans = (h.chans ∙ sym k.chans) j; strays = (h.strays ∙ sym k.strays) j; lost = (h.lost ∙ sym k.lost) j }
