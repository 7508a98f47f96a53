-- Where a body's front header stands, is where it leaves from.
use Rattle.std.proofs.Common.{◌≡◌, ◌≢◌, ℕ, zero, suc, ◌+◌, ◌*◌, ◌/◌, ◌%◌, ◌<◌, ◌≤◌, Bool, true, false, ◌-◌, List, [], ◌∷◌, ◌++◌, drop, take, length, get_or, refl, sym, ap, ◌∙◌, subst, arith, append_assoc, if◌then◌else◌, Option, Some, None, ◌⊎◌, inl, inr}
use Rattle.std.proofs.lemmas.Bool.{cases_lt}
use Rattle.std.proofs.lemmas.List.{take_all}
use Rattle.vc_labels.specs.declared.row.Row.{Row}
use Rattle.vc_labels.specs.declared.action.Action.{Action}
use Rattle.vc_labels.specs.declared.action.Action.TheVariants.{Out, Portal}
use Rattle.vc_labels.specs.Interval.{action_for}
use Rattle.vc_packets.specs.Headers.{spelled}
use Rattle.vc_switch.specs.Forward.{SwitchPlan, without_portals, past_portal}
use Rattle.vc_switch.specs.Switch.{BodyLeaves, HasGroup}
use Rattle.vc_switch.specs.State.{MayBeBound}
use Rattle.vc_switch.specs.declared.link_in.Bound.{Bound}
use Rattle.vc_switch.specs.declared.front.Front.{Front}
use Rattle.vc_switch.specs.Front.{front_of, front_by, behind_portal}
use Rattle.vc_switch.specs.Private.Front.{start_of, HasFront}

two_bytes : (h : ℕ) → 256 * (h / 256) + h % 256 ≡ h
two_bytes h = omega arith

high_byte : (hi lo : ℕ) → lo < 256 → (256 * hi + lo) / 256 ≡ hi
high_byte hi lo h = omega arith

low_byte : (hi lo : ℕ) → lo < 256 → (256 * hi + lo) % 256 ≡ lo
low_byte hi lo h = omega arith

spelled_pair : (hi lo : ℕ) (hs rest : List ℕ) → lo < 256 → hi ∷ lo ∷ (spelled hs ++ rest) ≡ spelled ((256 * hi + lo) ∷ hs) ++ rest
spelled_pair hi lo hs rest h = λ i. sym (high_byte hi lo h) i ∷ sym (low_byte hi lo h) i ∷ (spelled hs ++ rest)

drop_two : (n x y : ℕ) (xs : List ℕ) → drop (n + 2) (x ∷ y ∷ xs) ≡ drop n xs
drop_two n x y xs = let k : n + 2 ≡ suc (suc n) = omega arith in ap (λ m. drop m (x ∷ y ∷ xs)) k

drop_more : (n : ℕ) (xs : List ℕ) → drop (n + 2) xs ≡ drop 2 (drop n xs)
drop_more zero xs = refl
drop_more (suc n) [] = let k : suc n + 2 ≡ suc (n + 2) = omega arith in ap (λ m. drop m []) k
drop_more (suc n) (x ∷ xs) = let k : suc n + 2 ≡ suc (n + 2) = omega arith in ap (λ m. drop m (x ∷ xs)) k ∙ drop_more n xs

-- A front of what is left behind so many bytes of portals, as it stands in the whole.

abbrev pub moved : ℕ → Option Front → Option Front
moved n None = None
moved n (Some f) = Some (record f { at = n + f.at })

pub moved_none : (o : Option Front) → o ≡ moved 0 o
moved_none None = refl
moved_none (Some f) = let k : f.at ≡ 0 + f.at = omega arith in ap (λ m. Some (record f { at = m })) k

pub moved_behind : (n : ℕ) (o : Option Front) → moved n (behind_portal o) ≡ moved (n + 2) o
moved_behind n None = refl
moved_behind n (Some f) = let k : n + (f.at + 2) ≡ n + 2 + f.at = omega arith in ap (λ m. Some (record f { at = m })) k

moved_by : (at : ℕ) (whole later : Option Front) (o : Option Action) → whole ≡ moved at (front_by o later) → o ≡ Some Portal → whole ≡ moved (at + 2) later
moved_by at whole later o is portal = is ∙ ap (λ z. moved at (front_by z later)) portal ∙ moved_behind at later

-- a portal's header was passed
pub moved_past : (table : List Row) (body rest : List ℕ) (at : ℕ) → (front_of table body ≡ moved at (front_of table rest)) × (at + length rest ≡ length body) → 2 ≤ length rest →
    action_for table (256 * get_or rest 0 0 + get_or rest 1 0) ≡ Some Portal →
    (front_of table body ≡ moved (at + 2) (front_of table (take (length rest - 2) (drop 2 rest)))) × (at + 2 + length (take (length rest - 2) (drop 2 rest)) ≡ length body)
moved_past table body [] at is long portal = absurd (omega arith)
moved_past table body (hi ∷ []) at is long portal = absurd (omega arith)
moved_past table body (hi ∷ lo ∷ rest) at is long portal =
    let one : length (hi ∷ lo ∷ rest) - 2 ≡ length rest = omega arith in
    let all : take (length (hi ∷ lo ∷ rest) - 2) rest ≡ rest = ap (λ n. take n rest) one ∙ take_all (length rest) rest (omega arith) in
    let size : at + length (hi ∷ lo ∷ rest) ≡ length body = is.1 in
    let ends : at + 2 + length rest ≡ length body = omega (arith, size) in (
      moved_by at (front_of table body) (front_of table rest) (action_for table (256 * hi + lo)) is.0 portal ∙ ap (λ b. moved (at + 2) (front_of table b)) (sym all),
      ap (λ b. at + 2 + length b) all ∙ ends,
    )

-- A body that leaves, by where its front stands.

record Found (table : List Row) (b tail : List ℕ) (first last : ℕ) : Type 0 where
  at : ℕ
  is : front_of table b ≡ Some (record { at = at; first = first; last = last })
  left : drop at b ≡ tail

found_by : (table : List Row) (h : ℕ) (hs rest : List ℕ) (header : ℕ) (more : List ℕ) (first last : ℕ) (o : Option Action) → action_for table h ≡ o →
    past_portal o (without_portals table hs) (h ∷ hs) ≡ header ∷ more → action_for table header ≡ Some (Out first last) →
    (without_portals table hs ≡ header ∷ more → Found table (spelled hs ++ rest) (spelled (header ∷ more) ++ rest) first last) →
    Found table (spelled (h ∷ hs) ++ rest) (spelled (header ∷ more) ++ rest) first last
found_by table h hs rest header more first last (Some Portal) is front group next =
    let n = next front in
    let portal : action_for table (256 * (h / 256) + h % 256) ≡ Some Portal = ap (action_for table) (two_bytes h) ∙ is in
    record {
      at = n.at + 2;
      is = (λ i. front_by (portal i) (n.is i));
      left = drop_two n.at (h / 256) (h % 256) (spelled hs ++ rest) ∙ n.left;
    }
found_by table h hs rest header more first last (Some (Out a b)) is front group next =
    let same : h ≡ header = cc in
    let out : action_for table (256 * (h / 256) + h % 256) ≡ Some (Out first last) = ap (action_for table) (two_bytes h ∙ same) ∙ group in
    record {
      at = 0;
      is = ap (λ o. front_by o (front_of table (spelled hs ++ rest))) out;
      left = ap (λ s. spelled s ++ rest) front;
    }
found_by table h hs rest header more first last None is front group next =
    let same : h ≡ header = cc in
    let q : None ≡ Some (Out first last) = sym is ∙ ap (action_for table) same ∙ group in
    absurd (cc)

found : (table : List Row) (stack rest : List ℕ) (header : ℕ) (more : List ℕ) (first last : ℕ) → without_portals table stack ≡ header ∷ more → action_for table header ≡ Some (Out first last) →
    Found table (spelled stack ++ rest) (spelled (header ∷ more) ++ rest) first last
found table [] rest header more first last front group = absurd (cc)
found table (h ∷ hs) rest header more first last front group =
    found_by table h hs rest header more first last (action_for table h) refl front group (λ f. found table hs rest header more first last f group)

pub record Gone (plan : SwitchPlan) (b : List ℕ) (out : ℕ) (d : List ℕ) : Type 0 where
  pub front : Front
  pub is : front_of plan.table b ≡ Some front
  pub low : front.first ≤ out
  pub high : out ≤ front.last
  pub left : d ≡ drop (start_of (plan.deletes out) front) b

left_by : (deletes : Bool) (at first last header : ℕ) (b more rest after : List ℕ) → drop at b ≡ spelled (header ∷ more) ++ rest → after ≡ (if deletes then more else header ∷ more) →
    spelled after ++ rest ≡ drop (start_of deletes (record { at = at; first = first; last = last })) b
left_by true at first last header b more rest after left is =
    ap (λ s. spelled s ++ rest) is ∙ sym (ap (drop 2) left) ∙ sym (drop_more at b)
left_by false at first last header b more rest after left is = ap (λ s. spelled s ++ rest) is ∙ sym left

-- what leaves a body is told by its front
pub gone : (plan : SwitchPlan) (b : List ℕ) (out : ℕ) (d : List ℕ) → BodyLeaves plan b out d → Gone plan b out d
gone plan b out d h =
    let l = h.leaves in
    let f = found plan.table h.stack h.rest l.header l.rest l.first l.last l.front l.group in
    record {
      front = record { at = f.at; first = l.first; last = l.last };
      is = ap (front_of plan.table) h.before_is ∙ f.is;
      low = l.low;
      high = l.high;
      left = h.after_is ∙ left_by (plan.deletes out) f.at l.first l.last l.header b l.rest h.rest h.after (ap (drop f.at) h.before_is ∙ f.left) l.left;
    }

pub grouped : (plan : SwitchPlan) (b : List ℕ) → HasGroup plan b → front_of plan.table b ≡ None → ⊥
grouped plan b h none =
    let f = found plan.table h.stack h.rest h.header h.behind_it h.first h.last h.front h.group in
    let front : Front = record { at = f.at; first = h.first; last = h.last } in
    let q : None ≡ Some front = sym none ∙ ap (front_of plan.table) h.is ∙ f.is in
    absurd (cc)

-- A body with a front, by its headers.

headed_out : (table : List Row) (hi lo : ℕ) (rest : List ℕ) (first last : ℕ) → lo < 256 → action_for table (256 * hi + lo) ≡ Some (Out first last) → HasFront table (hi ∷ lo ∷ rest) (record { at = 0; first = first; last = last })
headed_out table hi lo rest first last byte is = record {
  stack = (256 * hi + lo) ∷ [];
  header = 256 * hi + lo;
  rest = rest;
  is = spelled_pair hi lo [] rest byte;
  front = ap (λ o. past_portal o [] ((256 * hi + lo) ∷ [])) is;
  group = is;
  left = spelled_pair hi lo [] rest byte;
}

headed_portal : (table : List Row) (hi lo : ℕ) (rest : List ℕ) (f : Front) → lo < 256 → action_for table (256 * hi + lo) ≡ Some Portal → HasFront table rest f → HasFront table (hi ∷ lo ∷ rest) (record f { at = f.at + 2 })
headed_portal table hi lo rest f byte is h = record {
  stack = (256 * hi + lo) ∷ h.stack;
  header = h.header;
  rest = h.rest;
  is = ap (λ b. hi ∷ lo ∷ b) h.is ∙ spelled_pair hi lo h.stack h.rest byte;
  front = ap (λ o. past_portal o (without_portals table h.stack) ((256 * hi + lo) ∷ h.stack)) is ∙ h.front;
  group = h.group;
  left = drop_two f.at hi lo rest ∙ h.left;
}

behind_by : (table : List Row) (hi lo : ℕ) (rest : List ℕ) (f : Front) (o : Option Front) → lo < 256 → action_for table (256 * hi + lo) ≡ Some Portal → behind_portal o ≡ Some f → ((g : Front) → o ≡ Some g → HasFront table rest g) → HasFront table (hi ∷ lo ∷ rest) f
behind_by table hi lo rest f None byte is e next = absurd (cc)
behind_by table hi lo rest f (Some g) byte is e next =
    let q : record g { at = g.at + 2 } ≡ f = cc in
    subst (HasFront table (hi ∷ lo ∷ rest)) q (headed_portal table hi lo rest g byte is (next g refl))

headed_by : (table : List Row) (hi lo : ℕ) (rest : List ℕ) (f : Front) (o : Option Action) → lo < 256 → action_for table (256 * hi + lo) ≡ o → front_by o (front_of table rest) ≡ Some f → ((g : Front) → front_of table rest ≡ Some g → HasFront table rest g) → HasFront table (hi ∷ lo ∷ rest) f
headed_by table hi lo rest f None byte is e next = absurd (cc)
headed_by table hi lo rest f (Some Portal) byte is e next = behind_by table hi lo rest f (front_of table rest) byte is e next
headed_by table hi lo rest f (Some (Out first last)) byte is e next =
    let q : record { at = 0; first = first; last = last } ≡ f = cc in
    subst (HasFront table (hi ∷ lo ∷ rest)) q (headed_out table hi lo rest first last byte is)

pub headed : (table : List Row) (b : List ℕ) (f : Front) → ((k : ℕ) → get_or b k 0 < 256) → front_of table b ≡ Some f → HasFront table b f
headed table [] f bytes e = absurd (cc)
headed table (hi ∷ []) f bytes e = absurd (cc)
headed table (hi ∷ lo ∷ rest) f bytes e =
    headed_by table hi lo rest f (action_for table (256 * hi + lo)) (bytes 1) refl e (λ g q. headed table rest g (λ k. bytes (suc (suc k))) q)

pub group_of : (plan : SwitchPlan) (b : List ℕ) (f : Front) → HasFront plan.table b f → HasGroup plan b
group_of plan b f h = record { stack = h.stack; rest = h.rest; header = h.header; behind_it = []; first = f.first; last = f.last; is = h.is; front = h.front; group = h.group }

left_with : (deletes : Bool) (f : Front) (header : ℕ) (b rest : List ℕ) → drop f.at b ≡ spelled (header ∷ []) ++ rest → drop (start_of deletes f) b ≡ spelled (if deletes then [] else header ∷ []) ++ rest
left_with true f header b rest left = drop_more f.at b ∙ ap (drop 2) left
left_with false f header b rest left = left

pub leaves_by : (plan : SwitchPlan) (b : List ℕ) (f : Front) (out : ℕ) → HasFront plan.table b f → f.first ≤ out → out ≤ f.last → BodyLeaves plan b out (drop (start_of (plan.deletes out) f) b)
leaves_by plan b f out h low high = record {
  stack = h.stack;
  after = (if plan.deletes out then [] else h.header ∷ []);
  rest = h.rest;
  before_is = h.is;
  leaves = record { header = h.header; rest = []; first = f.first; last = f.last; front = h.front; group = h.group; low = low; high = high; left = refl };
  after_is = left_with (plan.deletes out) f h.header b h.rest h.left;
}

-- more bytes come
pub leaves_more : (plan : SwitchPlan) (b : List ℕ) (out : ℕ) (d more : List ℕ) → BodyLeaves plan b out d → BodyLeaves plan (b ++ more) out (d ++ more)
leaves_more plan b out d more h = record {
  stack = h.stack;
  after = h.after;
  rest = h.rest ++ more;
  before_is = ap (λ z. z ++ more) h.before_is ∙ append_assoc (spelled h.stack) h.rest more;
  leaves = h.leaves;
  after_is = ap (λ z. z ++ more) h.after_is ∙ append_assoc (spelled h.after) h.rest more;
}

-- what a body's front header is told by does not change as the body grows

front_by_more : (o : Option Action) (later longer : Option Front) (f : Front) → ((g : Front) → later ≡ Some g → longer ≡ Some g) → front_by o later ≡ Some f → front_by o longer ≡ Some f
front_by_more None later longer f more is = absurd (cc)
front_by_more (Some (Out first last)) later longer f more is = is
front_by_more (Some Portal) None longer f more is = absurd (cc)
front_by_more (Some Portal) (Some g) longer f more is = ap behind_portal (more g refl) ∙ is

pub front_more : (table : List Row) (b more : List ℕ) (f : Front) → front_of table b ≡ Some f → front_of table (b ++ more) ≡ Some f
front_more table [] more f is = absurd (cc)
front_more table (x ∷ []) more f is = absurd (cc)
front_more table (hi ∷ lo ∷ rest) more f is = front_by_more (action_for table (256 * hi + lo)) (front_of table rest) (front_of table (rest ++ more)) f (λ g e. front_more table rest more g e) is

-- a body that leaves has a group
pub leaves_group : (plan : SwitchPlan) (b : List ℕ) (out : ℕ) (d : List ℕ) → BodyLeaves plan b out d → HasGroup plan b
leaves_group plan b out d h =
    let l = h.leaves in
    record { stack = h.stack; rest = h.rest; header = l.header; behind_it = l.rest; first = l.first; last = l.last; is = h.before_is; front = l.front; group = l.group }

-- where a body leaves by one link, it leaves by each by which it leaves with more bytes
pub leaves_before : (plan : SwitchPlan) (b more : List ℕ) (one other : ℕ) (d e : List ℕ) → BodyLeaves plan b one d → BodyLeaves plan (b ++ more) other e → (left : List ℕ) × BodyLeaves plan b other left
leaves_before plan b more one other d e h longer =
    let l = h.leaves in
    let f = found plan.table h.stack h.rest l.header l.rest l.first l.last l.front l.group in
    let front : Front = record { at = f.at; first = l.first; last = l.last } in
    let g = gone plan (b ++ more) other e longer in
    let q : Some front ≡ Some g.front = sym (front_more plan.table b more front (ap (front_of plan.table) h.before_is ∙ f.is)) ∙ g.is in
    let same : g.front ≡ front = cc in
    let left = (if plan.deletes other then l.rest else l.header ∷ l.rest) in (
      spelled left ++ h.rest,
      record {
        stack = h.stack;
        after = left;
        rest = h.rest;
        before_is = h.before_is;
        leaves = record { header = l.header; rest = l.rest; first = l.first; last = l.last; front = l.front; group = l.group; low = subst (λ z. z.first ≤ other) same g.low; high = subst (λ z. other ≤ z.last) same g.high; left = refl };
        after_is = refl;
      },
    )

-- A body has a group, or it has none.

group_behind : (plan : SwitchPlan) (hi lo : ℕ) (rest : List ℕ) → action_for plan.table (256 * hi + lo) ≡ Some Portal → HasGroup plan (hi ∷ lo ∷ rest) → HasGroup plan rest
group_behind plan hi lo rest portal h = go h.stack h.is h.front
  where
    go : (stack : List ℕ) → hi ∷ lo ∷ rest ≡ spelled stack ++ h.rest → without_portals plan.table stack ≡ h.header ∷ h.behind_it → HasGroup plan rest
    go [] is front = absurd (cc)
    go (s ∷ ss) is front =
        let a : hi ≡ s / 256 = cc in
        let b : lo ≡ s % 256 = cc in
        let behind : rest ≡ spelled ss ++ h.rest = cc in
        let same : 256 * hi + lo ≡ s = (λ i. 256 * a i + b i) ∙ two_bytes s in
        record {
          stack = ss;
          rest = h.rest;
          header = h.header;
          behind_it = h.behind_it;
          first = h.first;
          last = h.last;
          is = behind;
          front = sym (ap (λ o. past_portal o (without_portals plan.table ss) (s ∷ ss)) (sym (ap (action_for plan.table) same) ∙ portal)) ∙ front;
          group = h.group;
        }

low_is_byte : (plan : SwitchPlan) (hi lo : ℕ) (rest : List ℕ) → HasGroup plan (hi ∷ lo ∷ rest) → lo < 256
low_is_byte plan hi lo rest h = go h.stack h.is h.front
  where
    go : (stack : List ℕ) → hi ∷ lo ∷ rest ≡ spelled stack ++ h.rest → without_portals plan.table stack ≡ h.header ∷ h.behind_it → lo < 256
    go [] is front = absurd (cc)
    go (s ∷ ss) is front = let b : lo ≡ s % 256 = cc in omega (arith, b)

abbrev SomeFront : SwitchPlan → List ℕ → Type 0
SomeFront plan b = (f : Front) × HasFront plan.table b f

decided_by : (plan : SwitchPlan) (hi lo : ℕ) (rest : List ℕ) (o : Option Action) → lo < 256 → action_for plan.table (256 * hi + lo) ≡ o → (SomeFront plan rest ⊎ (HasGroup plan rest → ⊥)) → SomeFront plan (hi ∷ lo ∷ rest) ⊎ (HasGroup plan (hi ∷ lo ∷ rest) → ⊥)
decided_by plan hi lo rest None byte is later = inr (λ h. grouped plan (hi ∷ lo ∷ rest) h (ap (λ o. front_by o (front_of plan.table rest)) is))
decided_by plan hi lo rest (Some (Out first last)) byte is later = inl (record { at = 0; first = first; last = last }, headed_out plan.table hi lo rest first last byte is)
decided_by plan hi lo rest (Some Portal) byte is (inl some) = inl (record some.0 { at = some.0.at + 2 }, headed_portal plan.table hi lo rest some.0 byte is some.1)
decided_by plan hi lo rest (Some Portal) byte is (inr none) = inr (λ h. none (group_behind plan hi lo rest is h))

decided : (plan : SwitchPlan) (b : List ℕ) → SomeFront plan b ⊎ (HasGroup plan b → ⊥)
decided plan [] = inr (λ h. grouped plan [] h refl)
decided plan (hi ∷ []) = inr (λ h. grouped plan (hi ∷ []) h refl)
decided plan (hi ∷ lo ∷ rest) = elim (cases_lt lo 256) [
  | inl byte ↦ decided_by plan hi lo rest (action_for plan.table (256 * hi + lo)) byte refl (decided plan rest)
  | inr big ↦ inr (λ h. (let small = low_is_byte plan hi lo rest h in absurd (omega (arith, small, big))))
]

-- a body that leaves has a front
pub leaves_front : (plan : SwitchPlan) (b : List ℕ) (out : ℕ) (d : List ℕ) → BodyLeaves plan b out d → (f : Front) × HasFront plan.table b f
leaves_front plan b out d h = elim (decided plan b) [
  | inl some ↦ some
  | inr none ↦ absurd (none (leaves_group plan b out d h))
]

-- a packet that is bound has a front
pub bound_front : (plan : SwitchPlan) (b : List ℕ) (o : Option Bound) → MayBeBound plan b o → o ≢ None → (f : Front) × HasFront plan.table b f
bound_front plan b None may some = absurd (some refl)
bound_front plan b (Some bound) may some = leaves_front plan b bound.output (drop bound.from b) may.leaves

pub either_group : (plan : SwitchPlan) (b : List ℕ) → HasGroup plan b ⊎ (HasGroup plan b → ⊥)
either_group plan b = elim (decided plan b) [
  | inl some ↦ inl (group_of plan b some.0 some.1)
  | inr none ↦ inr none
]
