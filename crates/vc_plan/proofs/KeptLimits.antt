-- Each limit by its test, and in words.
use Rattle.std.proofs.Common.{◌≡◌, ◌≢◌, ◌⊎◌, ℕ, zero, suc, ◌+◌, ◌≤◌, ◌<◌, Bool, true, false, ◌&&◌, ◌||◌, ◌==◌, not, nat_le, nat_lt, List, [], ◌∷◌, length, Some, None, refl, sym, ap, ap₂, ◌∙◌, inl, inr, arith}
use Rattle.std.proofs.lemmas.Bool.{eqb-true}
use Rattle.std.proofs.lemmas.Bool.Decides.{nat_tests}
use Rattle.std.proofs.lemmas.Option.{slice_get-get_or}
use Rattle.std.specs.Prelude.{slice_get, slice_index_or}
use Rattle.std.specs.List.{All, list_all, list_any}
use Rattle.vc_labels.specs.declared.row.Row.{Row}
use Rattle.vc_labels.specs.declared.action.Action.{Action}
use Rattle.vc_labels.specs.declared.action.Action.TheVariants.{Out, Portal}
use Rattle.vc_process.specs.InOrder.{number}
use Rattle.vc_process.specs.Numbering.{written}
use Rattle.vc_process.specs.ProcessLimits.{depth_within, exps_within}
use Rattle.vc_plan.specs.declared.channel.Channel.{Channel}
use Rattle.vc_plan.specs.declared.channel.Home.{Home}
use Rattle.vc_plan.specs.declared.channel.Home.TheVariants.{Way, Inside}
use Rattle.vc_plan.specs.declared.node_plan.NodePlan.{NodePlan}
use Rattle.vc_plan.specs.declared.node_plan.Variable.{Variable}
use Rattle.vc_plan.specs.declared.plan.Plan.{Plan}
use Rattle.vc_plan.specs.declared.port.Spot.{Spot}
use Rattle.vc_plan.specs.declared.port.Spot.TheVariants.{Node, Switch}
use Rattle.vc_plan.specs.declared.port.Wire.{Wire}
use Rattle.vc_plan.specs.declared.switch_plan.RandomInput.{RandomInput}
use Rattle.vc_plan.specs.declared.switch_plan.SwitchPlan.{SwitchPlan}
use Rattle.vc_plan.specs.declared.vlink.End.{End}
use Rattle.vc_plan.specs.declared.vlink.Vlink.{Vlink}
use Rattle.vc_plan.specs.Accepted.{IsAccepted}
use Rattle.vc_plan.specs.KeptLimits.{IsOfVersionOne, IsLinkOf, IsWireInLimits, IsEndInLimits, IsVlinkInLimits, IsRangeInLimits, IsSwitchInLimits, IsNodeInLimits, IsHomeOf, IsChannelInLimits, IsName, KeepsLimits}
use Rattle.vc_plan.specs.Limits.{is_empty, is_portal, switch_in_version_one, version_ok, vars_ok, rows_ok, route_ok, routes_ok, link_ok, port_ok, wire_ok, ends_ok, switch_links_ok, range_ok, links_differ, random_ok, depth_ok, parts_ok, message_ok, spot_there, wire_there, ends_there, home_there, process_names, is_name, node_names_ok, limit_broken}
use Rattle.vc_plan.proofs.Limits.{both, passes, unbroken, Keeps}

both_true : {a b : Bool} → a ≡ true → b ≡ true → (a && b) ≡ true
both_true e f = ap₂ (λ x y. x && y) e f

le_is : (a b : ℕ) → nat_le a b ≡ true → a ≤ b
le_is a b h = grind (arith, nat_tests)

is_le : (a b : ℕ) → a ≤ b → nat_le a b ≡ true
is_le a b h = grind (arith, nat_tests)

lt_is : (a b : ℕ) → nat_lt a b ≡ true → a < b
lt_is a b h = grind (arith, nat_tests)

is_lt : (a b : ℕ) → a < b → nat_lt a b ≡ true
is_lt a b h = grind (arith, nat_tests)

is_eq : (a b : ℕ) → a ≡ b → (a == b) ≡ true
is_eq a b h = grind (arith, nat_tests)

-- of each item of a list
at : {X : Type 0} (test : X → Bool) (xs : List X) (k : ℕ) (d : X) → k < length xs → list_all test xs ≡ true → test (slice_index_or xs k d) ≡ true
at test xs k d l h = passes test xs k (slice_index_or xs k d) h (slice_get-get_or xs k d l)

all_is : {X : Type 0} (test : X → Bool) (P : X → Type 0) → ((x : X) → test x ≡ true → P x) → (xs : List X) → list_all test xs ≡ true → All P xs
all_is test P f xs h = λ k d l. f (slice_index_or xs k d) (at test xs k d l h)

is_all : {X : Type 0} (test : X → Bool) (P : X → Type 0) → ((x : X) → P x → test x ≡ true) → (xs : List X) → All P xs → list_all test xs ≡ true
is_all test P f [] h = refl
is_all test P f (x ∷ xs) h = both_true (f x (h 0 x (omega arith))) (is_all test P f xs (λ k d l. h (suc k) d (omega (arith, l))))

-- the version
empty_is : {X : Type 0} (xs : List X) → is_empty xs ≡ true → xs ≡ []
empty_is [] h = refl
empty_is (x ∷ xs) h = absurd cc

no_portal : (a : Action) → not (is_portal a) ≡ true → a ≢ Portal
no_portal (Out first last) h = λ e. cc
no_portal Portal h = absurd cc

portal_none : (a : Action) → a ≢ Portal → not (is_portal a) ≡ true
portal_none (Out first last) h = refl
portal_none Portal h = absurd (h refl)

version_one : (s : SwitchPlan) → switch_in_version_one s ≡ true → IsOfVersionOne s
version_one s h =
    let t = both (is_empty s.random) (list_all (λ (row : Row). not (is_portal row.action)) s.rows) h in
    record { random = empty_is s.random t.0; portals = all_is _ (λ (row : Row). row.action ≢ Portal) (λ row. no_portal row.action) s.rows t.1 }

one_version : (s : SwitchPlan) → IsOfVersionOne s → switch_in_version_one s ≡ true
one_version s v = both_true (ap is_empty v.random) (is_all _ (λ (row : Row). row.action ≢ Portal) (λ row. portal_none row.action) s.rows v.portals)

version_is : (p : Plan) → version_ok p ≡ true → (p.version ≡ 2) ⊎ ((p.version ≡ 1) × All IsOfVersionOne p.switches)
version_is p h = by (p.version == 2) refl h
  where
    by : (b : Bool) → (p.version == 2) ≡ b → (b || (p.version == 1 && list_all switch_in_version_one p.switches)) ≡ true → (p.version ≡ 2) ⊎ ((p.version ≡ 1) × All IsOfVersionOne p.switches)
    by true e g = inl (eqb-true p.version 2 e)
    by false e g =
        let t = both (p.version == 1) (list_all switch_in_version_one p.switches) g in
        inr (eqb-true p.version 1 t.0, all_is switch_in_version_one IsOfVersionOne version_one p.switches t.1)

or_right : (a b : Bool) → b ≡ true → (a || b) ≡ true
or_right true b h = refl
or_right false b h = h

is_version : (p : Plan) → (p.version ≡ 2) ⊎ ((p.version ≡ 1) × All IsOfVersionOne p.switches) → version_ok p ≡ true
is_version p (inl e) = ap (λ b. b || (p.version == 1 && list_all switch_in_version_one p.switches)) (is_eq p.version 2 e)
is_version p (inr (e, all)) =
    or_right (p.version == 2) (p.version == 1 && list_all switch_in_version_one p.switches)
    (both_true (is_eq p.version 1 e) (is_all switch_in_version_one IsOfVersionOne one_version p.switches all))

-- ports, and the ends of virtual links
link_is : (p : Plan) (s : Spot) (link : ℕ) → spot_there p s ≡ true → link_ok s link ≡ true → IsLinkOf p s link
link_is p (Node n) link there ok = (lt_is n (length p.nodes) there, le_is link 3 ok)
link_is p (Switch n) link there ok = (lt_is n (length p.switches) there, le_is link 31 ok)

is_there : (p : Plan) (s : Spot) (link : ℕ) → IsLinkOf p s link → spot_there p s ≡ true
is_there p (Node n) link h = is_lt n (length p.nodes) h.0
is_there p (Switch n) link h = is_lt n (length p.switches) h.0

is_link : (p : Plan) (s : Spot) (link : ℕ) → IsLinkOf p s link → link_ok s link ≡ true
is_link p (Node n) link h = is_le link 3 h.1
is_link p (Switch n) link h = is_le link 31 h.1

wire_is : (p : Plan) (w : Wire) → wire_there p w ≡ true → wire_ok w ≡ true → IsWireInLimits p w
wire_is p w there ok =
    let t = both (spot_there p w.one.spot) (spot_there p w.two.spot) there in
    let o = both (port_ok w.one) (port_ok w.two) ok in
    (link_is p w.one.spot w.one.link t.0 o.0, link_is p w.two.spot w.two.link t.1 o.1)

is_route : (p : Plan) (e : End) → IsEndInLimits p e → route_ok e ≡ true
is_route p e h = both_true (is_le 1 (length e.route) h.some_headers) (is_le (length e.route) 4 h.few_headers)

vlink_is : (p : Plan) (v : Vlink) → ends_there p v ≡ true → ends_ok v ≡ true → routes_ok v ≡ true → is_name v.name ≡ true → IsVlinkInLimits p v
vlink_is p v there ok routes name =
    let t = both (nat_lt v.a.node (length p.nodes)) (nat_lt v.b.node (length p.nodes)) there in
    let o = both (nat_le v.a.link 3) (nat_le v.b.link 3) ok in
    let r = both (route_ok v.a) (route_ok v.b) routes in
    let a = both (nat_le 1 (length v.a.route)) (nat_le (length v.a.route) 4) r.0 in
    let b = both (nat_le 1 (length v.b.route)) (nat_le (length v.b.route) 4) r.1 in
    record {
      name = name;
      a = record { link = (lt_is v.a.node (length p.nodes) t.0, le_is v.a.link 3 o.0); some_headers = le_is 1 (length v.a.route) a.0; few_headers = le_is (length v.a.route) 4 a.1 };
      b = record { link = (lt_is v.b.node (length p.nodes) t.1, le_is v.b.link 3 o.1); some_headers = le_is 1 (length v.b.route) b.0; few_headers = le_is (length v.b.route) 4 b.1 };
    }

-- one range for each link
unlike : (link : ℕ) (rs : List RandomInput) → list_any (λ (s : RandomInput). s.link == link) rs ≡ false → (j : ℕ) (t : RandomInput) → slice_get rs j ≡ Some t → link ≡ t.link → ⊥
unlike link [] h j t e same = absurd cc
unlike link (r ∷ rs) h j t e same = by (r.link == link) refl h (unlike link rs) j e
  where
    by : (b : Bool) → (r.link == link) ≡ b → (b || list_any (λ (s : RandomInput). s.link == link) rs) ≡ false → (list_any (λ (s : RandomInput). s.link == link) rs ≡ false → (j : ℕ) (t : RandomInput) → slice_get rs j ≡ Some t → link ≡ t.link → ⊥) →
        (j : ℕ) → slice_get (r ∷ rs) j ≡ Some t → ⊥
    by true is g rest j f = absurd cc
    by false is g rest zero f =
        let at : r ≡ t = cc in
        let yes : (r.link == link) ≡ true = is_eq r.link link (ap (λ (s : RandomInput). s.link) at ∙ sym same) in
        absurd (let c : false ≡ true = sym is ∙ yes in cc)
    by false is g rest (suc j) f = rest g j t f same

not_is : (b : Bool) → not b ≡ true → b ≡ false
not_is true h = absurd cc
not_is false h = refl

one_range_is : (rs : List RandomInput) → links_differ rs ≡ true → (i j : ℕ) (r t : RandomInput) → slice_get rs i ≡ Some r → slice_get rs j ≡ Some t → r.link ≡ t.link → i ≡ j
one_range_is [] h i j r t e f same = absurd cc
one_range_is (s ∷ ss) h zero zero r t e f same = refl
one_range_is (s ∷ ss) h zero (suc j) r t e f same =
    let d = both (not (list_any (λ (x : RandomInput). x.link == s.link) ss)) (links_differ ss) h in
    let at : s ≡ r = cc in
    absurd (unlike s.link ss (not_is _ d.0) j t f (ap (λ (x : RandomInput). x.link) at ∙ same))
one_range_is (s ∷ ss) h (suc i) zero r t e f same =
    let d = both (not (list_any (λ (x : RandomInput). x.link == s.link) ss)) (links_differ ss) h in
    let at : s ≡ t = cc in
    absurd (unlike s.link ss (not_is _ d.0) i r e (ap (λ (x : RandomInput). x.link) at ∙ sym same))
one_range_is (s ∷ ss) h (suc i) (suc j) r t e f same =
    let d = both (not (list_any (λ (x : RandomInput). x.link == s.link) ss)) (links_differ ss) h in
    ap suc (one_range_is ss d.1 i j r t e f same)

none_like : (link : ℕ) (rs : List RandomInput) → ((j : ℕ) (t : RandomInput) → slice_get rs j ≡ Some t → link ≡ t.link → ⊥) → list_any (λ (s : RandomInput). s.link == link) rs ≡ false
none_like link [] h = refl
none_like link (r ∷ rs) h = by (r.link == link) refl (none_like link rs (λ j t e same. h (suc j) t e same))
  where
    by : (b : Bool) → (r.link == link) ≡ b → list_any (λ (s : RandomInput). s.link == link) rs ≡ false → (r.link == link || list_any (λ (s : RandomInput). s.link == link) rs) ≡ false
    by true is rest = absurd (h 0 r refl (sym (eqb-true r.link link is)))
    by false is rest = ap (λ b. b || list_any (λ (s : RandomInput). s.link == link) rs) is ∙ rest

is_one_range : (rs : List RandomInput) → ((i j : ℕ) (r t : RandomInput) → slice_get rs i ≡ Some r → slice_get rs j ≡ Some t → r.link ≡ t.link → i ≡ j) → links_differ rs ≡ true
is_one_range [] h = refl
is_one_range (r ∷ rs) h =
    both_true (ap not (none_like r.link rs (λ j t e same. (let x : 0 ≡ suc j = h 0 (suc j) r t refl e same in omega (arith, x)))))
    (is_one_range rs (λ i j s t e f same. (let x : suc i ≡ suc j = h (suc i) (suc j) s t e f same in omega (arith, x))))

range_is : (r : RandomInput) → nat_le r.link 31 ≡ true → range_ok r ≡ true → IsRangeInLimits r
range_is r l h =
    let a = both (nat_lt r.lower r.limit && nat_le r.limit (r.lower + 64)) (nat_le r.limit 65536) h in
    let b = both (nat_lt r.lower r.limit) (nat_le r.limit (r.lower + 64)) a.0 in
    record { link = le_is r.link 31 l; some = lt_is r.lower r.limit b.0; few = le_is r.limit (r.lower + 64) b.1; small = le_is r.limit 65536 a.1 }

is_range : (r : RandomInput) → IsRangeInLimits r → range_ok r ≡ true
is_range r h = both_true (both_true (is_lt r.lower r.limit h.some) (is_le r.limit (r.lower + 64) h.few)) (is_le r.limit 65536 h.small)

ranges_are : (rs : List RandomInput) → list_all (λ (r : RandomInput). nat_le r.link 31) rs ≡ true → list_all range_ok rs ≡ true → All IsRangeInLimits rs
ranges_are rs l h = λ k d less. range_is (slice_index_or rs k d) (at (λ (r : RandomInput). nat_le r.link 31) rs k d less l) (at range_ok rs k d less h)

switch_is : (s : SwitchPlan) → rows_ok s ≡ true → switch_links_ok s ≡ true → random_ok s ≡ true → is_name s.name ≡ true → IsSwitchInLimits s
switch_is s rows links random name =
    let l = both (list_all (λ l. nat_le l 31) s.delete) (list_all (λ (r : RandomInput). nat_le r.link 31) s.random) links in
    let r = both (list_all range_ok s.random) (links_differ s.random) random in
    record {
      name = name;
      rows = le_is (length s.rows) 64 rows;
      delete = all_is (λ l. nat_le l 31) (λ l. l ≤ 31) (λ l. le_is l 31) s.delete l.0;
      ranges = ranges_are s.random l.1 r.0;
      one_range = one_range_is s.random r.1;
    }

node_is : (p : Plan) (n : NodePlan) → vars_ok n ≡ true → depth_ok n ≡ true → parts_ok n ≡ true → message_ok n ≡ true → process_names p n ≡ true → node_names_ok n ≡ true → IsNodeInLimits p n
node_is p n vars depth parts message names words =
    let d = both (depth_within (written n.process) 32) (exps_within (written n.process) 8) depth in
    let w = both (is_name n.name) (list_all (λ (v : Variable). is_name v.name) n.vars) words in
    record {
      name = w.0;
      var_names = all_is (λ (v : Variable). is_name v.name) (λ (v : Variable). IsName v.name) (λ v h. h) n.vars w.1;
      vars = le_is (length n.vars) 64 vars;
      depth = d.0;
      expressions = d.1;
      parts = le_is (number n.process).sites 4096 parts;
      message = message;
      number = names;
    }

home_is : (p : Plan) (h : Home) → home_there p h ≡ true → IsHomeOf p h
home_is p (Way v f) t = lt_is v (length p.vlinks) t
home_is p (Inside n) t = lt_is n (length p.nodes) t

is_home : (p : Plan) (h : Home) → IsHomeOf p h → home_there p h ≡ true
is_home p (Way v f) t = is_lt v (length p.vlinks) t
is_home p (Inside n) t = is_lt n (length p.nodes) t

-- what passes each test keeps each limit
pub tests_are : (p : Plan) → Keeps p → KeepsLimits p
tests_are p k =
    let wires = both (list_all (wire_there p) p.wires) _ k.number in
    let ends = both (list_all (ends_there p) p.vlinks) _ wires.1 in
    let homes = both (list_all (λ (c : Channel). home_there p c.home) p.channels) (list_all (process_names p) p.nodes) ends.1 in
    let words = both (list_all node_names_ok p.nodes) _ k.names in
    let of_switches = both (list_all (λ (s : SwitchPlan). is_name s.name) p.switches) _ words.1 in
    let of_vlinks = both (list_all (λ (v : Vlink). is_name v.name) p.vlinks) (list_all (λ (c : Channel). is_name c.name) p.channels) of_switches.1 in
    let links = both (list_all wire_ok p.wires) _ k.links in
    let more = both (list_all ends_ok p.vlinks) (list_all switch_links_ok p.switches) links.1 in
    record {
      version = version_is p k.version;
      few_nodes = le_is (length p.nodes) 32 k.nodes;
      few_switches = le_is (length p.switches) 32 k.switches;
      few_wires = le_is (length p.wires) 256 k.wires;
      few_vlinks = le_is (length p.vlinks) 256 k.vlinks;
      few_channels = le_is (length p.channels) 512 k.channels;
      nodes = λ i d l. node_is p (slice_index_or p.nodes i d) (at vars_ok p.nodes i d l k.vars) (at depth_ok p.nodes i d l k.depth) (at parts_ok p.nodes i d l k.parts) (at message_ok p.nodes i d l k.message)
          (at (process_names p) p.nodes i d l homes.1) (at node_names_ok p.nodes i d l words.0);
      switches = λ i d l. switch_is (slice_index_or p.switches i d) (at rows_ok p.switches i d l k.rows) (at switch_links_ok p.switches i d l more.1) (at random_ok p.switches i d l k.random)
          (at (λ (s : SwitchPlan). is_name s.name) p.switches i d l of_switches.0);
      wires = λ i d l. wire_is p (slice_index_or p.wires i d) (at (wire_there p) p.wires i d l wires.0) (at wire_ok p.wires i d l links.0);
      vlinks = λ i d l. vlink_is p (slice_index_or p.vlinks i d) (at (ends_there p) p.vlinks i d l ends.0) (at ends_ok p.vlinks i d l more.0) (at routes_ok p.vlinks i d l k.routes)
          (at (λ (v : Vlink). is_name v.name) p.vlinks i d l of_vlinks.0);
      channels = λ i d l. (let c = slice_index_or p.channels i d in record { name = at (λ (x : Channel). is_name x.name) p.channels i d l of_vlinks.1; home = home_is p c.home (at (λ (x : Channel). home_there p x.home) p.channels i d l homes.0) });
    }

-- and what keeps each limit passes each test
pub are_tests : (p : Plan) → KeepsLimits p → Keeps p
are_tests p k = record {
  version = is_version p k.version;
  nodes = is_le (length p.nodes) 32 k.few_nodes;
  switches = is_le (length p.switches) 32 k.few_switches;
  wires = is_le (length p.wires) 256 k.few_wires;
  vlinks = is_le (length p.vlinks) 256 k.few_vlinks;
  channels = is_le (length p.channels) 512 k.few_channels;
  vars = is_all vars_ok (IsNodeInLimits p) (λ n h. is_le (length n.vars) 64 h.vars) p.nodes k.nodes;
  rows = is_all rows_ok IsSwitchInLimits (λ s h. is_le (length s.rows) 64 h.rows) p.switches k.switches;
  routes = is_all routes_ok (IsVlinkInLimits p) (λ v h. both_true (is_route p v.a h.a) (is_route p v.b h.b)) p.vlinks k.vlinks;
  links = both_true (is_all wire_ok (IsWireInLimits p) (λ w h. both_true (is_link p w.one.spot w.one.link h.0) (is_link p w.two.spot w.two.link h.1)) p.wires k.wires)
      (both_true (is_all ends_ok (IsVlinkInLimits p) (λ v h. both_true (is_le v.a.link 3 h.a.link.1) (is_le v.b.link 3 h.b.link.1)) p.vlinks k.vlinks)
      (is_all switch_links_ok IsSwitchInLimits (λ s h.
      both_true (is_all (λ l. nat_le l 31) (λ l. l ≤ 31) (λ l. is_le l 31) s.delete h.delete) (is_all (λ (r : RandomInput). nat_le r.link 31) IsRangeInLimits (λ r g. is_le r.link 31 g.link) s.random h.ranges)) p.switches k.switches));
  random = is_all random_ok IsSwitchInLimits (λ s h. both_true (is_all range_ok IsRangeInLimits is_range s.random h.ranges) (is_one_range s.random h.one_range)) p.switches k.switches;
  depth = is_all depth_ok (IsNodeInLimits p) (λ n h. both_true h.depth h.expressions) p.nodes k.nodes;
  parts = is_all parts_ok (IsNodeInLimits p) (λ n h. is_le (number n.process).sites 4096 h.parts) p.nodes k.nodes;
  message = is_all message_ok (IsNodeInLimits p) (λ n h. h.message) p.nodes k.nodes;
  number = both_true (is_all (wire_there p) (IsWireInLimits p) (λ w h. both_true (is_there p w.one.spot w.one.link h.0) (is_there p w.two.spot w.two.link h.1)) p.wires k.wires)
      (both_true (is_all (ends_there p) (IsVlinkInLimits p) (λ v h. both_true (is_lt v.a.node (length p.nodes) h.a.link.0) (is_lt v.b.node (length p.nodes) h.b.link.0)) p.vlinks k.vlinks)
      (both_true (is_all (λ (c : Channel). home_there p c.home) (IsChannelInLimits p) (λ c h. is_home p c.home h.home) p.channels k.channels)
      (is_all (process_names p) (IsNodeInLimits p) (λ n h. h.number) p.nodes k.nodes)));
  names = both_true (is_all node_names_ok (IsNodeInLimits p) (λ n h. both_true h.name (is_all (λ (v : Variable). is_name v.name) (λ (v : Variable). IsName v.name) (λ v g. g) n.vars h.var_names)) p.nodes k.nodes)
      (both_true (is_all (λ (s : SwitchPlan). is_name s.name) IsSwitchInLimits (λ s h. h.name) p.switches k.switches)
      (both_true (is_all (λ (v : Vlink). is_name v.name) (IsVlinkInLimits p) (λ v h. h.name) p.vlinks k.vlinks)
      (is_all (λ (c : Channel). is_name c.name) (IsChannelInLimits p) (λ c h. h.name) p.channels k.channels)));
}

pub limits_of : (p : Plan) → IsAccepted p → limit_broken p ≡ None
limits_of p acc = unbroken p (are_tests p acc.limits)
