-- The header that a switch puts in front of a packet with its first token.
use Rattle.std.proofs.Common.{◌≡◌, ℕ, ◌+◌, ◌-◌, ◌%◌, ◌<◌, ◌≤◌, List, [], ◌∷◌, ◌++◌, refl, sym, ap, subst, ◌∙◌, arith, Option, Some, None, append-nil, append_assoc}
use Rattle.vc_packets.specs.declared.mark.Mark.{Mark}
use Rattle.vc_packets.specs.Headers.{spelled}
use Rattle.vc_machine.specs.Paths.{Port, AtNode, AtSwitch, Net}
use Rattle.vc_switch.specs.Forward.{Interval, IsDrawn, behind, without_portals}
use Rattle.vc_labels.specs.declared.row.Row.{Row}
use Rattle.vc_machine.specs.Machine.{HasGroup, BodyLeaves, Input, Empty, Full}
use Rattle.vc_machine.specs.Links.{Receiver}
use Rattle.vc_switch.specs.Switch as switch
use Rattle.vc_switch.specs.Switch.{headed}
use Rattle.vc_machine.specs.TokenMachine.{with_header}
use Rattle.vc_machine.specs.Laws.{Ranges}
use Rattle.vc_machine.specs.View.{MayDraw, Got, nothing, begun, Inside, without_mark, with_mark, BoundGroup}

in_range : (low high word v : ℕ) → low ≤ v → v < high → (low ≤ low + word % (high - low)) × (low + word % (high - low) < high)
in_range low high word v a b = (omega arith, omega arith)

may_draw : (r : Option Interval) (word : ℕ) (v : Option ℕ) → IsDrawn r v → IsDrawn r (switch.drawn r word)
may_draw None word v h = tt
may_draw (Some i) word None h = absurd h
may_draw (Some i) word (Some v) h = in_range i.lower i.limit word v h.0 h.1

-- what is got with the first token's header is what was passed, behind a header
pub record Headed (net : Net) (n i : ℕ) (got passed : List ℕ) : Type 0 where
  pub drawn : Option ℕ
  pub may : IsDrawn ((net.switch n).random i) drawn
  pub is : got ≡ spelled (behind drawn []) ++ passed

pub no_header : (drawn : Option ℕ) (passed : List ℕ) → [] ≡ spelled (behind drawn []) ++ passed → passed ≡ []
no_header None passed e = sym e
no_header (Some v) passed e = absurd (cc)

first_header : (net : Net) (n i word : ℕ) (passed : List ℕ) → Ranges net → passed ≡ [] → Headed net n i (headed (switch.drawn ((net.switch n).random i) word) []) passed
first_header net n i word passed ranges e =
    record {
      drawn = switch.drawn ((net.switch n).random i) word;
      may = may_draw ((net.switch n).random i) word (ranges n i).0 (ranges n i).1;
      is = sym (append-nil _) ∙ ap (λ k. spelled (behind (switch.drawn ((net.switch n).random i) word) []) ++ k) (sym e);
    }

with_first : (net : Net) (p : Port) (n i word : ℕ) (got passed : List ℕ) → Ranges net → p ≡ AtSwitch n i → Got net p got passed →
    Headed net n i (headed (switch.drawn ((net.switch n).random i) word) got) passed
with_first net p n i word [] passed ranges far (nothing none none2) = first_header net n i word passed ranges none2
with_first net p n i word [] passed ranges far (begun drawn may some e) = absurd (some (no_header drawn passed e))
with_first net p n i word (b ∷ bs) passed ranges far (nothing none none2) = absurd (cc)
with_first net p n i word (b ∷ bs) passed ranges far (begun drawn may some e) = record { drawn = drawn; may = subst (λ k. MayDraw net k drawn) far may; is = e }

pub headed_is : (net : Net) (p : Port) (n i : ℕ) (r : Receiver) (passed : List ℕ) → Ranges net → p ≡ AtSwitch n i → Got net p r.got passed →
    Headed net n i (with_header net n i r) passed
headed_is net p n i r passed ranges far g = with_first net p n i r.word r.got passed ranges far g

pub not_empty : (xs : List ℕ) (b : ℕ) → xs ++ b ∷ [] ≡ [] → ⊥
not_empty [] b e = cc
not_empty (x ∷ xs) b e = cc

-- a byte more
pub got_headed : (net : Net) (p : Port) (n i : ℕ) (got passed : List ℕ) (b : ℕ) → p ≡ AtSwitch n i → Headed net n i got passed → Got net p (got ++ b ∷ []) (passed ++ b ∷ [])
got_headed net p n i got passed b far h =
    begun h.drawn (subst (λ k. MayDraw net k h.drawn) (sym far) h.may) (not_empty passed b) (ap (λ k. k ++ b ∷ []) h.is ∙ append_assoc (spelled (behind h.drawn [])) passed (b ∷ []))

pub node_got : (net : Net) (p : Port) (n i : ℕ) (got passed : List ℕ) → p ≡ AtNode n i → Got net p got passed → got ≡ passed
node_got net p n i got passed far (nothing none none2) = none ∙ sym none2
node_got net p n i got passed far (begun None may some e) = e
node_got net p n i got passed far (begun (Some v) may some e) =
    let no : Some v ≡ None = subst (λ k. MayDraw net k (Some v)) far may in absurd (cc)

pub got_at_node : (net : Net) (p : Port) (n i : ℕ) (got : List ℕ) (b : ℕ) → p ≡ AtNode n i → Got net p (got ++ b ∷ []) (got ++ b ∷ [])
got_at_node net p n i got b far = begun None (subst (λ k. MayDraw net k None) (sym far) refl) (not_empty got b) refl

-- what stands inside, where the port and the mark are known
pub inside_node : (net : Net) (p : Port) (n i : ℕ) (got : List ℕ) (mark : Option Mark) (bound : Option ℕ) (passed : List ℕ) (input : Input) → p ≡ AtNode n i →
    Inside net p got mark bound passed input → (mark ≡ None) × (got ≡ passed) × (input ≡ Empty)
inside_node net p n i got mark bound passed input far (without_mark none g empty) = (none, node_got net p n i got passed far g, empty)
inside_node net p n i got mark bound passed input far (with_mark n2 i2 m far2 is none full) = absurd (cc)

pub inside_unmarked : (net : Net) (p : Port) (got : List ℕ) (mark : Option Mark) (bound : Option ℕ) (passed : List ℕ) (input : Input) → mark ≡ None →
    Inside net p got mark bound passed input → Got net p got passed × (input ≡ Empty)
inside_unmarked net p got mark bound passed input e (without_mark none g empty) = (g, empty)
inside_unmarked net p got mark bound passed input e (with_mark n i m far is none full) = absurd (let f : None ≡ Some m = sym e ∙ is in cc)

pub inside_marked : (net : Net) (p : Port) (got : List ℕ) (mark : Option Mark) (bound : Option ℕ) (passed : List ℕ) (input : Input) (m : Mark) → mark ≡ Some m →
    Inside net p got mark bound passed input → (passed ≡ []) × (input ≡ Full (record { body = got; mark = m }) bound)
inside_marked net p got mark bound passed input m e (without_mark none g empty) = absurd (let f : None ≡ Some m = sym none ∙ e in cc)
inside_marked net p got mark bound passed input m e (with_mark n i m2 far is none full) =
    let same : m2 ≡ m = (let f : Some m2 ≡ Some m = sym is ∙ e in cc) in
    (none, full ∙ ap (λ k. Full (record { body = got; mark = k }) bound) same)

-- an input that is seen as bound is bound
pub seen_bound : (net : Net) (p : Port) (got : List ℕ) (mark : Option Mark) (bound : Option ℕ) (passed : List ℕ) (input : Input) (q : _) (out : ℕ) →
    Inside net p got mark bound passed input → input ≡ Full q (Some out) → bound ≡ Some out
seen_bound net p got mark bound passed input q out (without_mark none g empty) e = absurd (let f : Empty ≡ Full q (Some out) = sym empty ∙ e in cc)
seen_bound net p got mark bound passed input q out (with_mark n i m far is none full) e =
    let f : Full (record { body = got; mark = m }) bound ≡ Full q (Some out) = sym full ∙ e in cc

-- a group stays the packet's as more bytes come
pub longer : (net : Net) (n : ℕ) (b more : List ℕ) (w : ℕ) (d : List ℕ) → BodyLeaves net n b w d → BodyLeaves net n (b ++ more) w (d ++ more)
longer net n b more w d l =
    record {
      stack = l.stack;
      after = l.after;
      rest = l.rest ++ more;
      before_is = ap (λ k. k ++ more) l.before_is ∙ append_assoc (spelled l.stack) l.rest more;
      leaves = l.leaves;
      after_is = ap (λ k. k ++ more) l.after_is ∙ append_assoc (spelled l.after) l.rest more;
    }

front_there : (table : List Row) (s : List ℕ) (h : ℕ) (rest r : List ℕ) → without_portals table s ≡ h ∷ rest → [] ≡ spelled s ++ r → ⊥
front_there table [] h rest r e f = cc
front_there table (x ∷ s) h rest r e f = cc

pub no_group : (net : Net) (n w : ℕ) (d : List ℕ) → BodyLeaves net n [] w d → ⊥
no_group net n w d l = front_there (net.switch n).table l.stack l.leaves.header l.leaves.rest l.rest l.leaves.front l.before_is

headed_same : (net : Net) (n w : ℕ) (d : List ℕ) (drawn : Option ℕ) (got : List ℕ) → BodyLeaves net n got w d → headed drawn got ≡ got
headed_same net n w d drawn [] l = absurd (no_group net n w d l)
headed_same net n w d drawn (b ∷ bs) l = refl

pub group_headed : (net : Net) (n w : ℕ) (d : List ℕ) (drawn : Option ℕ) (got : List ℕ) → BodyLeaves net n got w d → BodyLeaves net n (headed drawn got) w d
group_headed net n w d drawn got l = subst (λ k. BodyLeaves net n k w d) (sym (headed_same net n w d drawn got l)) l

pub group_more : (net : Net) (p : Port) (got more : List ℕ) (out : ℕ) → BoundGroup net p got out → BoundGroup net p (got ++ more) out
group_more net p got more out g = record { switch = g.switch; link = g.link; body = g.body ++ more; far = g.far; group = longer net g.switch got more out g.body g.group }

pub group_with_header : (net : Net) (p : Port) (drawn : Option ℕ) (got : List ℕ) (out : ℕ) → BoundGroup net p got out → BoundGroup net p (headed drawn got) out
group_with_header net p drawn got out g = record { switch = g.switch; link = g.link; body = g.body; far = g.far; group = group_headed net g.switch out g.body drawn got g.group }

pub same_switch : (n i k j : ℕ) → AtSwitch n i ≡ AtSwitch k j → n ≡ k
same_switch n i k j e = cc

-- what leaves by a way has a group
pub group_of : (net : Net) (n : ℕ) (b : List ℕ) (w : ℕ) (d : List ℕ) → BodyLeaves net n b w d → HasGroup net n b
group_of net n b w d l =
    let k = l.leaves in
    record { stack = l.stack; rest = l.rest; header = k.header; behind_it = k.rest; first = k.first; last = k.last; is = l.before_is; front = k.front; group = k.group }
