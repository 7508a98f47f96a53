-- What a switch does looks only at the headers in front.
use Rattle.std.proofs.Common.{◌≡◌, ℕ, zero, suc, ◌/◌, ◌%◌, ◌<◌, Bool, true, false, List, [], ◌∷◌, ◌++◌, refl, sym, ap, subst, ◌∙◌, arith, if◌then◌else◌, Option, Some, None, append-nil}
use Rattle.vc_packets.specs.declared.packet.Packet.{Packet}
use Rattle.vc_packets.specs.declared.mark.Mark.{Mark}
use Rattle.vc_packets.specs.declared.mark.Mark.TheVariants.{Eop, Eom}
use Rattle.vc_packets.specs.Headers.{spelled}
use Rattle.vc_packets.specs.Spellings.{mark_before}
use Rattle.vc_machine.specs.Paths.{AtNode, AtSwitch, End, Net, Leaves, IsWellAt, Delivers}
use Rattle.vc_labels.specs.declared.action.Action.{Action}
use Rattle.vc_labels.specs.declared.action.Action.TheVariants.{Out, Portal}
use Rattle.vc_labels.specs.declared.row.Row.{Row}
use Rattle.vc_labels.specs.Interval.{action_for}
use Rattle.vc_switch.specs.Forward.{past_portal, without_portals, IsDrawn, behind, HasRoom}
use Rattle.vc_machine.specs.Machine.{BodyLeaves}
use Rattle.vc_machine.proofs.Basics.{head_same, tail_same, header_same, header_rest_same}
use Rattle.vc_machine.proofs.Labels.{Phase, Calm, Coming, Waiting, Returning, carried}
use Rattle.vc_machine.proofs.Ports.{switch_same}

-- the data of a packet, and its mark
abbrev pub load_of : Phase → List (List ℕ) → List ℕ
load_of Returning cs = []
load_of Calm (c ∷ cs) = c
load_of Coming (c ∷ cs) = c
load_of Waiting (c ∷ cs) = c
load_of q [] = []

abbrev pub tag_of : Phase → List (List ℕ) → Mark
tag_of Returning cs = Eop
tag_of Calm (c ∷ cs) = mark_before cs
tag_of Coming (c ∷ cs) = mark_before cs
tag_of Waiting (c ∷ cs) = mark_before cs
tag_of q [] = Eom

abbrev pub packet_of : List ℕ → Mark → Packet
packet_of b m = record { body = b; mark = m }

pub bare : (s : List ℕ) (m : Mark) → packet_of (spelled s) m ≡ packet_of (spelled s ++ []) m
bare s m = ap (λ b. packet_of b m) (sym (append-nil (spelled s)))

pub carried_is : (f : Phase) (cs : List (List ℕ)) (s : List ℕ) → carried f cs s ≡ packet_of (spelled s ++ load_of f cs) (tag_of f cs)
carried_is Returning cs s = bare s Eop
carried_is Calm (c ∷ cs) s = refl
carried_is Coming (c ∷ cs) s = refl
carried_is Waiting (c ∷ cs) s = refl
carried_is q [] s = bare s Eom

pub body_is : (f : Phase) (cs : List (List ℕ)) (s : List ℕ) (p : Packet) → p ≡ carried f cs s → p.body ≡ spelled s ++ load_of f cs
body_is f cs s p e = ap (λ q. q.body) (e ∙ carried_is f cs s)

pub mark_is : (f : Phase) (cs : List (List ℕ)) (s : List ℕ) (p : Packet) → p ≡ carried f cs s → p.mark ≡ tag_of f cs
mark_is f cs s p e = ap (λ q. q.mark) (e ∙ carried_is f cs s)

-- with another stack
pub restacked : (f : Phase) (cs : List (List ℕ)) (s t : List ℕ) (p : Packet) (b : List ℕ) → p ≡ carried f cs s → b ≡ spelled t ++ load_of f cs → record p { body = b } ≡ carried f cs t
restacked f cs s t p b e h =
    (λ i. packet_of (h i) (mark_is f cs s p e i)) ∙ sym (carried_is f cs t)

pub spelled_behind : (v : Option ℕ) (s : List ℕ) (r b : List ℕ) → b ≡ spelled s ++ r → spelled (behind v []) ++ b ≡ spelled (behind v s) ++ r
spelled_behind None s r b e = e
spelled_behind (Some v) s r b e = ap (λ k. v / 256 ∷ v % 256 ∷ k) e

abbrev pub SameFront : List ℕ → List ℕ → ℕ → List ℕ → ℕ → List ℕ → Type 0
SameFront ra rb h1 r1 h2 r2 = (h1 ≡ h2) × (spelled r1 ++ ra ≡ spelled r2 ++ rb)

cover_step : (act : Option Action) (x : ℕ) (A B ra rb sa sb : List ℕ) (h1 : ℕ) (r1 : List ℕ) (h2 : ℕ) (r2 : List ℕ) →
    spelled A ++ ra ≡ spelled B ++ rb → (sa ≡ h1 ∷ r1 → sb ≡ h2 ∷ r2 → SameFront ra rb h1 r1 h2 r2) →
    past_portal act sa (x ∷ A) ≡ h1 ∷ r1 → past_portal act sb (x ∷ B) ≡ h2 ∷ r2 → SameFront ra rb h1 r1 h2 r2
cover_step None x A B ra rb sa sb h1 r1 h2 r2 e ih p q =
    (sym (head_same x h1 A r1 p) ∙ head_same x h2 B r2 q, ap (λ k. spelled k ++ ra) (sym (tail_same x h1 A r1 p)) ∙ e ∙ ap (λ k. spelled k ++ rb) (tail_same x h2 B r2 q))
cover_step (Some Portal) x A B ra rb sa sb h1 r1 h2 r2 e ih p q = ih p q
cover_step (Some (Out f l)) x A B ra rb sa sb h1 r1 h2 r2 e ih p q =
    (sym (head_same x h1 A r1 p) ∙ head_same x h2 B r2 q, ap (λ k. spelled k ++ ra) (sym (tail_same x h1 A r1 p)) ∙ e ∙ ap (λ k. spelled k ++ rb) (tail_same x h2 B r2 q))

pub cover : (table : List Row) (A B ra rb : List ℕ) (h1 : ℕ) (r1 : List ℕ) (h2 : ℕ) (r2 : List ℕ) → spelled A ++ ra ≡ spelled B ++ rb →
    without_portals table A ≡ h1 ∷ r1 → without_portals table B ≡ h2 ∷ r2 → SameFront ra rb h1 r1 h2 r2
cover table [] B ra rb h1 r1 h2 r2 e p q = absurd (cc)
cover table (a ∷ A) [] ra rb h1 r1 h2 r2 e p q = absurd (cc)
cover table (a ∷ A) (b ∷ B) ra rb h1 r1 h2 r2 e p q =
    let ab : a ≡ b = header_same a b (spelled A ++ ra) (spelled B ++ rb) e in
    let e2 : spelled A ++ ra ≡ spelled B ++ rb = header_rest_same a b (spelled A ++ ra) (spelled B ++ rb) e in
    cover_step (action_for table a) a A B ra rb (without_portals table A) (without_portals table B) h1 r1 h2 r2 e2
    (cover table A B ra rb h1 r1 h2 r2 e2)
    p
    (subst (λ k. past_portal (action_for table k) (without_portals table B) (k ∷ B) ≡ h2 ∷ r2) (sym ab) q)

pub left_same : (b : Bool) (ra rb : List ℕ) (h1 : ℕ) (r1 : List ℕ) (h2 : ℕ) (r2 : List ℕ) → SameFront ra rb h1 r1 h2 r2 →
    spelled (if b then r1 else h1 ∷ r1) ++ ra ≡ spelled (if b then r2 else h2 ∷ r2) ++ rb
left_same true ra rb h1 r1 h2 r2 s = s.1
left_same false ra rb h1 r1 h2 r2 s = ap (λ h. h / 256 ∷ h % 256 ∷ (spelled r1 ++ ra)) s.0 ∙ ap (λ k. h2 / 256 ∷ h2 % 256 ∷ k) s.1

-- a body leaves by one way in one form
pub body_same : (net : Net) (n : ℕ) (b : List ℕ) (out : ℕ) (d e : List ℕ) → BodyLeaves net n b out d → BodyLeaves net n b out e → d ≡ e
body_same net n b out d e k l =
    let p = k.leaves in
    let q = l.leaves in
    let same = cover (net.switch n).table k.stack l.stack k.rest l.rest p.header p.rest q.header q.rest (sym k.before_is ∙ l.before_is) p.front q.front in
    let link : p.link ≡ q.link = (switch_same n n p.link q.link (sym p.near ∙ q.near)).1 in
    k.after_is ∙ ap (λ z. spelled z ++ k.rest) (p.left ∙ ap (λ z. if (net.switch n).deletes z then p.rest else p.header ∷ p.rest) link)
    ∙ left_same ((net.switch n).deletes q.link) k.rest l.rest p.header p.rest q.header q.rest same
    ∙ sym (l.after_is ∙ ap (λ z. spelled z ++ l.rest) q.left)

-- a stack that begins a body and leaves a switch by some way leaves by each way by which the body may leave, with the same bytes behind
pub record Follows (net : Net) (n : ℕ) (s load : List ℕ) (out : ℕ) (d : List ℕ) : Type 0 where
  pub after : List ℕ
  pub leaves : Leaves net n s out after
  pub body : d ≡ spelled after ++ load

pub leaves_follow : (net : Net) (n : ℕ) (s load : List ℕ) (w : ℕ) (t : List ℕ) (u rest : List ℕ) (out : ℕ) (y : List ℕ) →
    Leaves net n s w t → Leaves net n u out y → spelled s ++ load ≡ spelled u ++ rest → Follows net n s load out (spelled y ++ rest)
leaves_follow net n s load w t u rest out y a b e =
    let same = cover (net.switch n).table s u load rest a.header a.rest b.header b.rest e a.front b.front in
    record {
      after = if (net.switch n).deletes b.link then a.rest else a.header ∷ a.rest;
      leaves = record {
        header = a.header;
        rest = a.rest;
        first = b.first;
        last = b.last;
        link = b.link;
        front = a.front;
        group = ap (action_for (net.switch n).table) same.0 ∙ b.group;
        low = b.low;
        high = b.high;
        real = b.real;
        near = b.near;
        left = refl;
      };
      body = ap (λ k. spelled k ++ rest) b.left ∙ sym (left_same ((net.switch n).deletes b.link) load rest a.header a.rest b.header b.rest same);
    }

pub follows : (net : Net) (n : ℕ) (s load b : List ℕ) (w : ℕ) (t : List ℕ) (out : ℕ) (d : List ℕ) →
    Leaves net n s w t → b ≡ spelled s ++ load → BodyLeaves net n b out d → Follows net n s load out d
follows net n s load b w t out d a e l =
    subst (λ k. Follows net n s load out k) (sym l.after_is) (leaves_follow net n s load w t l.stack l.rest out l.after a l.leaves (sym e ∙ l.before_is))

-- where delivery holds at a switch
pub record Onward (net : Net) (n : ℕ) (v : Option ℕ) (s : List ℕ) (fuel : ℕ) (e : End) : Type 0 where
  pub room : HasRoom v s
  pub way : ℕ
  pub stack : List ℕ
  pub leaves : Leaves net n (behind v s) way stack
  pub each : (w : ℕ) (t : List ℕ) → Leaves net n (behind v s) w t → (k : ℕ) × (k < fuel) × Delivers net k w t e

pub onward : (net : Net) (fuel w : ℕ) (s : List ℕ) (e : End) (n i : ℕ) (v : Option ℕ) → net.far w ≡ AtSwitch n i → IsDrawn ((net.switch n).random i) v →
    Delivers net fuel w s e → Onward net n v s fuel e
onward net zero w s e n i v far draw d =
    let g = (subst (λ q. IsWellAt net (λ w2 s2. ⊥) q s e) far d) v draw in
    record { room = g.0; way = g.1.0.0; stack = g.1.0.1; leaves = g.1.0.2; each = λ w2 t l. absurd (g.1.1 w2 t l) }
onward net (suc fuel) w s e n i v far draw d =
    let g = (subst (λ q. IsWellAt net (λ w2 s2. Delivers net fuel w2 s2 e) q s e) far d) v draw in
    record { room = g.0; way = g.1.0.0; stack = g.1.0.1; leaves = g.1.0.2; each = λ w2 t l. (fuel, omega arith, g.1.1 w2 t l) }

pub at_node : (net : Net) (fuel w : ℕ) (s : List ℕ) (e : End) (n i : ℕ) → net.far w ≡ AtNode n i → Delivers net fuel w s e → (n ≡ e.node) × (s ≡ e.block ∷ [])
at_node net zero w s e n i far d = subst (λ q. IsWellAt net (λ w2 s2. ⊥) q s e) far d
at_node net (suc fuel) w s e n i far d = subst (λ q. IsWellAt net (λ w2 s2. Delivers net fuel w2 s2 e) q s e) far d
