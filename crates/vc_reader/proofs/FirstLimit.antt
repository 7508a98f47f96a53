-- The first limit that a plan breaks that was read is none of its version, its messages, its numbers and its names.
use Rattle.std.proofs.Common.{◌≡◌, ◌∙◌, ℕ, zero, suc, ◌≤◌, List, [], ◌∷◌, ◌++◌, length, refl, sym, ap, subst, arith, Bool, true, false, ◌&&◌, ◌||◌, ◌==◌, if◌then◌else◌, nat_le, nat_lt, slice_get, Option, Some, None, Ok}
use Rattle.std.specs.Prelude.{min, option_map}
use Rattle.std.specs.List.{list_all}
use Rattle.std.specs.Option.{option_or}
use Rattle.std.proofs.lemmas.Bool.Decides.{nat_tests}
use Rattle.std.proofs.lemmas.Option.{slice_get_within}
use Rattle.std.proofs.lemmas.Bool.{and_parts}
use Rattle.serde_json.specs.Data.{Data}
use Rattle.vc_process.specs.declared.process.Process.{Process}
use Rattle.vc_process.specs.Numbering.{written}
use Rattle.vc_process.specs.ProcessLimits.{in_length, names_fit}
use Rattle.vc_plan.specs.declared.channel.Channel.{Channel}
use Rattle.vc_plan.specs.declared.channel.Home.{Home}
use Rattle.vc_plan.specs.declared.channel.Home.TheVariants.{Way, Inside}
use Rattle.vc_plan.specs.declared.limit_word.LimitWord.{LimitWord}
use Rattle.vc_plan.specs.declared.limit_word.LimitWord.TheVariants as limit
use Rattle.vc_plan.specs.declared.node_plan.NodePlan.{NodePlan}
use Rattle.vc_plan.specs.declared.node_plan.Variable.{Variable}
use Rattle.vc_plan.specs.declared.plan.Plan.{Plan}
use Rattle.vc_plan.specs.declared.port.Spot.{Spot}
use Rattle.vc_plan.specs.declared.port.Spot.TheVariants.{Node, Switch}
use Rattle.vc_plan.specs.declared.port.Wire.{Wire}
use Rattle.vc_plan.specs.declared.switch_plan.SwitchPlan.{SwitchPlan}
use Rattle.vc_plan.specs.declared.vlink.End.{End}
use Rattle.vc_plan.specs.declared.vlink.Vlink.{Vlink}
use Rattle.vc_plan.specs.Limits.{is_name, kinds_of, limit_broken, message_ok, names_ok, node_names_ok, number_ok, process_names, spot_there, wire_there, ends_there, home_there, switch_in_version_one, unless_ok, vars_ok, version_ok, rows_ok, routes_ok, links_ok, random_ok, depth_ok, parts_ok}
use Rattle.vc_reader.specs.declared.node.Head.{Head}
use Rattle.vc_reader.specs.declared.word.Word.TheVariants as word
use Rattle.vc_reader.specs.Laws.{refuses_no_file}
use Rattle.vc_reader.specs.Names.{new_name, has_name, found_of, known_or_not, one_of}
use Rattle.vc_reader.specs.Network.{read_head, read_var, read_node, read_switch, is_place, place_named, read_place, read_link, read_wire, read_end, read_vlink, vlink_number, node_home, way_home, read_way, read_home, read_channel, read_header}
use Rattle.vc_reader.specs.NetworkText.{node_plans, node_process, read_plan, vars_of}
use Rattle.vc_reader.specs.Processes.{whole_process}
use Rattle.vc_reader.specs.Reading.{cell, field, has_field, read_list, row, read_text}
use Rattle.vc_reader.proofs.Scope.{one_is, found_is, known_is, cut_below, names_are_there}
use Rattle.vc_reader.proofs.Lengths.{messages_short}
use Rattle.vc_reader.proofs.Names.{new_is_new}
use Rattle.vc_reader.proofs.Read.{Parts, parts, as_many, ok_is, then_ok, field_ok, cell_ok, field_keeps, list_field_keeps, head_parts, variable_parts, switch_parts, vlink_parts, channel_parts}
use Rattle.vc_reader.proofs.Versions.{all_more, both_true}

-- ---- names

variable_named : (before : List Variable) (d : Data) (x : Variable) → read_var before d ≡ Ok x → is_name x.name ≡ true
variable_named before d x e =
    let n = cell_ok 0 (new_name (has_name (λ (v : Variable). v.name) before)) d x.name (variable_parts before d x e).named in
    (new_is_new (has_name (λ (v : Variable). v.name) before) n.0 x.name n.2).lawful

abbrev head_named : Head → Bool
head_named h = is_name h.name && list_all (λ (v : Variable). is_name v.name) h.vars

head_is_named : (before : List Head) (d : Data) (x : Head) → read_head before d ≡ Ok x → head_named x ≡ true
head_is_named before d x e =
    let q = head_parts before d x e in
    let n = field_ok word.Name (new_name (has_name (λ (h : Head). h.name) before)) d x.name q.named in
    both_true (is_name x.name) (list_all (λ (v : Variable). is_name v.name) x.vars) (new_is_new (has_name (λ (h : Head). h.name) before) n.0 x.name n.2).lawful
    (list_field_keeps (λ vs. list_all (λ (v : Variable). is_name v.name) vs ≡ true) read_var (λ front c y h r. all_more (λ (v : Variable). is_name v.name) front y h (variable_named front c y r)) word.Vars d x.vars refl q.has_vars)

nodes_named : (hs : List Head) (ps : List Process) → list_all head_named hs ≡ true → list_all node_names_ok (node_plans hs ps) ≡ true
nodes_named [] ps e = refl
nodes_named (h ∷ hs) [] e = refl
nodes_named (h ∷ hs) (p ∷ ps) e =
    let r = and_parts (head_named h) (list_all head_named hs) e in
    both_true (head_named h) (list_all node_names_ok (node_plans hs ps)) r.0 (nodes_named hs ps r.1)

-- ---- numbers

node_there : (heads : List Head) (d : Data) (n : ℕ) → read_node heads d ≡ Ok n → nat_lt n (length heads) ≡ true
node_there heads d n e =
    let f = then_ok (one_of (λ (h : Head). h.name) heads d) (λ x. Ok (min x.0 255)) n e in
    let lt = slice_get_within heads f.0.0 f.0.1 (one_is (λ (h : Head). h.name) heads d f.0 f.1) in
    subst (λ m. nat_lt m (length heads) ≡ true) (ok_is (min f.0.0 255) n f.2) (cut_below f.0.0 255 (length heads) lt)

abbrev is_there : ℕ → ℕ → Spot → Bool
is_there nodes switches (Node n) = nat_lt n nodes
is_there nodes switches (Switch n) = nat_lt n switches

place_there : (heads : List Head) (switches : List SwitchPlan) (d : Data) (s : Spot) → read_place heads switches d ≡ Ok s → is_there (length heads) (length switches) s ≡ true
place_there heads switches d s e =
    let t = then_ok (read_text d) (λ x. known_or_not (place_named heads switches x)) s e in
    go t.0 (found_of (λ (h : Head). h.name) heads t.0) (found_of (λ (w : SwitchPlan). w.name) switches t.0) refl refl (known_is (place_named heads switches t.0) s t.2)
  where
    go : (name : List ℕ) (a : Option (ℕ × Head)) (b : Option (ℕ × SwitchPlan)) → found_of (λ (h : Head). h.name) heads name ≡ a → found_of (λ (w : SwitchPlan). w.name) switches name ≡ b →
        option_or (option_map (λ (f : ℕ × Head). Node (min f.0 255)) a) (option_map (λ (f : ℕ × SwitchPlan). Switch (min f.0 255)) b) ≡ Some s → is_there (length heads) (length switches) s ≡ true
    go name (Some f) b p q r =
        let lt = slice_get_within heads f.0 f.1 (found_is (λ (h : Head). h.name) heads name f p) in
        let same : Node (min f.0 255) ≡ s = let c : Some (Node (min f.0 255)) ≡ Some s = r in cc in
        subst (λ x. is_there (length heads) (length switches) x ≡ true) same (cut_below f.0 255 (length heads) lt)
    go name None (Some f) p q r =
        let lt = slice_get_within switches f.0 f.1 (found_is (λ (w : SwitchPlan). w.name) switches name f q) in
        let same : Switch (min f.0 255) ≡ s = let c : Some (Switch (min f.0 255)) ≡ Some s = r in cc in
        subst (λ x. is_there (length heads) (length switches) x ≡ true) same (cut_below f.0 255 (length switches) lt)
    go name None None p q r = absurd (let c : None ≡ Some s = r in cc)

abbrev wire_is_there : ℕ → ℕ → Wire → Bool
wire_is_there nodes switches w = is_there nodes switches w.one.spot && is_there nodes switches w.two.spot

abbrev wire : Spot → ℕ → Spot → ℕ → Wire
wire a m b n = record { one = record { spot = a; link = m }; two = record { spot = b; link = n } }

wire_reads : (heads : List Head) (switches : List SwitchPlan) (d : Data) (w : Wire) → read_wire heads switches d ≡ Ok w → wire_is_there (length heads) (length switches) w ≡ true
wire_reads heads switches d w e =
    let r = then_ok (row 4 d) _ w e in
    let a = then_ok (cell 0 (read_place heads switches) d) _ w r.2 in
    let m = then_ok (cell 1 read_link d) _ w a.2 in
    let b = then_ok (cell 2 (read_place heads switches) d) _ w m.2 in
    let n = then_ok (cell 3 read_link d) _ w b.2 in
    let ad = cell_ok 0 (read_place heads switches) d a.0 a.1 in
    let bd = cell_ok 2 (read_place heads switches) d b.0 b.1 in
    subst (λ x. wire_is_there (length heads) (length switches) x ≡ true) (ok_is (wire a.0 m.0 b.0 n.0) w n.2)
    (both_true (is_there (length heads) (length switches) a.0) (is_there (length heads) (length switches) b.0) (place_there heads switches ad.0 a.0 ad.2) (place_there heads switches bd.0 b.0 bd.2))

abbrev an_end : ℕ → ℕ → ℕ → List ℕ → End
an_end node link block route = record { node = node; link = link; block = block; route = route }

end_there : (heads : List Head) (d : Data) (x : End) → read_end heads d ≡ Ok x → nat_lt x.node (length heads) ≡ true
end_there heads d x e =
    let r = then_ok (row 4 d) _ x e in
    let n = then_ok (cell 0 (read_node heads) d) _ x r.2 in
    let l = then_ok (cell 1 read_link d) _ x n.2 in
    let b = then_ok (cell 2 read_header d) _ x l.2 in
    let t = then_ok (cell 3 (read_list (λ _. read_header)) d) _ x b.2 in
    let nd = cell_ok 0 (read_node heads) d n.0 n.1 in
    subst (λ (y : End). nat_lt y.node (length heads) ≡ true) (ok_is (an_end n.0 l.0 b.0 t.0) x t.2) (node_there heads nd.0 n.0 nd.2)

abbrev vlink_is_there : ℕ → Vlink → Bool
vlink_is_there nodes v = nat_lt v.a.node nodes && nat_lt v.b.node nodes

vlink_reads : (heads : List Head) (before : List Vlink) (d : Data) (x : Vlink) → read_vlink heads before d ≡ Ok x → vlink_is_there (length heads) x ≡ true
vlink_reads heads before d x e =
    let q = vlink_parts heads before d x e in
    let a = field_ok word.A (read_end heads) d x.a q.one in
    let b = field_ok word.B (read_end heads) d x.b q.other in
    both_true (nat_lt x.a.node (length heads)) (nat_lt x.b.node (length heads)) (end_there heads a.0 x.a a.2) (end_there heads b.0 x.b b.2)

abbrev home_is_there : ℕ → ℕ → Home → Bool
home_is_there nodes vlinks (Way v from_a) = nat_lt v vlinks
home_is_there nodes vlinks (Inside n) = nat_lt n nodes

vlink_there : (vlinks : List Vlink) (d : Data) (n : ℕ) → vlink_number vlinks d ≡ Ok n → nat_lt n (length vlinks) ≡ true
vlink_there vlinks d n e =
    let f = then_ok (one_of (λ (v : Vlink). v.name) vlinks d) (λ x. Ok (min x.0 65535)) n e in
    let lt = slice_get_within vlinks f.0.0 f.0.1 (one_is (λ (v : Vlink). v.name) vlinks d f.0 f.1) in
    subst (λ m. nat_lt m (length vlinks) ≡ true) (ok_is (min f.0.0 65535) n f.2) (cut_below f.0.0 65535 (length vlinks) lt)

home_reads : (heads : List Head) (vlinks : List Vlink) (d : Data) (h : Home) → read_home heads vlinks d ≡ Ok h → home_is_there (length heads) (length vlinks) h ≡ true
home_reads heads vlinks d h e = go (has_field word.Node d) e
  where
    inside : node_home heads d ≡ Ok h → home_is_there (length heads) (length vlinks) h ≡ true
    inside e =
        let n = then_ok (field word.Node (read_node heads) d) (λ x. Ok (Inside x)) h e in
        let nd = field_ok word.Node (read_node heads) d n.0 n.1 in
        subst (λ x. home_is_there (length heads) (length vlinks) x ≡ true) (ok_is (Inside n.0) h n.2) (node_there heads nd.0 n.0 nd.2)

    way : way_home vlinks d ≡ Ok h → home_is_there (length heads) (length vlinks) h ≡ true
    way e =
        let v = then_ok (field word.Vlink (vlink_number vlinks) d) _ h e in
        let w = then_ok (field word.Way read_way d) _ h v.2 in
        let vd = field_ok word.Vlink (vlink_number vlinks) d v.0 v.1 in
        subst (λ x. home_is_there (length heads) (length vlinks) x ≡ true) (ok_is (Way v.0 w.0) h w.2) (vlink_there vlinks vd.0 v.0 vd.2)

    go : (b : Bool) → (if b then node_home heads d else way_home vlinks d) ≡ Ok h → home_is_there (length heads) (length vlinks) h ≡ true
    go true e = inside e
    go false e = way e

-- ---- processes: each is read over the variables of the head of its number

get_push : {A : Type 0} (xs : List A) (x y : A) (k : ℕ) → slice_get (xs ++ x ∷ []) k ≡ Some y → (P : ℕ → A → Type 0) → ((j : ℕ) (z : A) → slice_get xs j ≡ Some z → P j z) → P (length xs) x → P k y
get_push [] x y zero e P old new = subst (P 0) (let c : Some x ≡ Some y = e in cc) new
get_push [] x y (suc k) e P old new = absurd (let c : None ≡ Some y = e in cc)
get_push (z ∷ zs) x y zero e P old new = old 0 y e
get_push (z ∷ zs) x y (suc k) e P old new = get_push zs x y k e (λ j w. P (suc j) w) (λ j w is. old (suc j) w is) new

module _ (heads : List Head) (channels : List Channel) where
  abbrev Over : ℕ → Process → Type 0
  Over k p = (in_length (written p) ≡ true) × (nat_le (length (vars_of (slice_get heads k))) 64 ≡ true → names_fit (written p) (kinds_of (vars_of (slice_get heads k))) (length channels) ≡ true)

  abbrev AllOver : List Process → Type 0
  AllOver ps = (k : ℕ) (p : Process) → slice_get ps k ≡ Some p → Over k p

  over_more : (before : List Process) (d : Data) (x : Process) → AllOver before → node_process heads channels before d ≡ Ok x → AllOver (before ++ x ∷ [])
  over_more before d x h e k p is =
      let vars = vars_of (slice_get heads (length before)) in
      let r = field_ok word.Process (whole_process vars channels) d x e in
      get_push before x p k is Over h (
        messages_short vars channels r.0 x r.2,
        λ few. names_are_there vars (few_is (length vars) few) channels r.0 x r.2,
      )
    where
      few_is : (n : ℕ) → nat_le n 64 ≡ true → n ≤ 64
      few_is n few = grind (arith, nat_tests)

  none_over : AllOver []
  none_over k p e = absurd (let c : None ≡ Some p = e in cc)

messages : (hs : List Head) (ps : List Process) → ((k : ℕ) (p : Process) → slice_get ps k ≡ Some p → in_length (written p) ≡ true) → list_all message_ok (node_plans hs ps) ≡ true
messages [] ps all = refl
messages (h ∷ hs) [] all = refl
messages (h ∷ hs) (p ∷ ps) all = both_true (in_length (written p)) (list_all message_ok (node_plans hs ps)) (all 0 p refl) (messages hs ps (λ k q is. all (suc k) q is))

names_there : (n : ℕ) (hs : List Head) (ps : List Process) →
    ((k : ℕ) (p : Process) → slice_get ps k ≡ Some p → nat_le (length (vars_of (slice_get hs k))) 64 ≡ true → names_fit (written p) (kinds_of (vars_of (slice_get hs k))) n ≡ true) →
    list_all vars_ok (node_plans hs ps) ≡ true → list_all (λ (x : NodePlan). names_fit (written x.process) (kinds_of x.vars) n) (node_plans hs ps) ≡ true
names_there n [] ps all few = refl
names_there n (h ∷ hs) [] all few = refl
names_there n (h ∷ hs) (p ∷ ps) all few =
    let f = and_parts (nat_le (length h.vars) 64) (list_all vars_ok (node_plans hs ps)) few in
    both_true (names_fit (written p) (kinds_of h.vars) n) (list_all (λ (x : NodePlan). names_fit (written x.process) (kinds_of x.vars) n) (node_plans hs ps)) (all 0 p refl f.0)
    (names_there n hs ps (λ k q is. all (suc k) q is) f.1)

plans_length : (hs : List Head) (ps : List Process) → length hs ≡ length ps → length (node_plans hs ps) ≡ length hs
plans_length [] ps e = refl
plans_length (h ∷ hs) [] e = absurd (omega arith)
plans_length (h ∷ hs) (p ∷ ps) e = let r = plans_length hs ps (omega arith) in omega (arith, r)

-- ---- the plan

module _ (d : Data) (p : Plan) (q : Parts d p) where
  many : length q.heads ≡ length p.nodes
  many = sym (plans_length q.heads q.processes (as_many d p q)) ∙ ap (λ (ns : List NodePlan). length ns) q.are_nodes

  version : version_ok p ≡ true
  version = ap (λ n. n == 2 || (n == 1 && list_all switch_in_version_one p.switches)) (sym q.is_two)

  over : AllOver q.heads p.channels q.processes
  over = field_keeps (AllOver q.heads p.channels) (node_process q.heads p.channels) (over_more q.heads p.channels) word.Nodes d q.processes (none_over q.heads p.channels) q.are_processes

  message : list_all message_ok p.nodes ≡ true
  message = subst (λ ns. list_all message_ok ns ≡ true) q.are_nodes (messages q.heads q.processes (λ k x is. (over k x is).0))

  names : names_ok p ≡ true
  names =
      let nodes = subst (λ ns. list_all node_names_ok ns ≡ true) q.are_nodes (nodes_named q.heads q.processes
      (field_keeps (λ hs. list_all head_named hs ≡ true) read_head (λ front c x h r. all_more head_named front x h (head_is_named front c x r)) word.Nodes d q.heads refl q.are_heads)) in
      let switches = list_field_keeps (λ xs. list_all (λ (s : SwitchPlan). is_name s.name) xs ≡ true) (read_switch q.version q.heads) (λ front c x h r. all_more (λ (s : SwitchPlan). is_name s.name) front x h (switch_named front c x r)) word.Switches d p.switches refl q.are_switches in
      let vlinks = list_field_keeps (λ xs. list_all (λ (v : Vlink). is_name v.name) xs ≡ true) (read_vlink q.heads) (λ front c x h r. all_more (λ (v : Vlink). is_name v.name) front x h (vlink_named front c x r)) word.Vlinks d p.vlinks refl q.are_vlinks in
      let channels = list_field_keeps (λ xs. list_all (λ (c : Channel). is_name c.name) xs ≡ true) (read_channel q.heads p.vlinks) (λ front c x h r. all_more (λ (y : Channel). is_name y.name) front x h (channel_named front c x r)) word.Channels d p.channels refl q.are_channels in
      both_true (list_all node_names_ok p.nodes) _ nodes (both_true (list_all (λ (s : SwitchPlan). is_name s.name) p.switches) _ switches (both_true (list_all (λ (v : Vlink). is_name v.name) p.vlinks) (list_all (λ (c : Channel). is_name c.name) p.channels) vlinks channels))
    where
      switch_named : (before : List SwitchPlan) (c : Data) (x : SwitchPlan) → read_switch q.version q.heads before c ≡ Ok x → is_name x.name ≡ true
      switch_named before c x e = let n = field_ok word.Name (new_name (is_place q.heads before)) c x.name (switch_parts q.version q.heads before c x e).named in (new_is_new (is_place q.heads before) n.0 x.name n.2).lawful

      vlink_named : (before : List Vlink) (c : Data) (x : Vlink) → read_vlink q.heads before c ≡ Ok x → is_name x.name ≡ true
      vlink_named before c x e = let n = field_ok word.Name (new_name (has_name (λ (v : Vlink). v.name) before)) c x.name (vlink_parts q.heads before c x e).named in (new_is_new (has_name (λ (v : Vlink). v.name) before) n.0 x.name n.2).lawful

      channel_named : (before : List Channel) (c : Data) (x : Channel) → read_channel q.heads p.vlinks before c ≡ Ok x → is_name x.name ≡ true
      channel_named before c x e =
          let n = field_ok word.Name (new_name (has_name (λ (y : Channel). y.name) before)) c x.name (channel_parts q.heads p.vlinks before c x e).named in
          (new_is_new (has_name (λ (y : Channel). y.name) before) n.0 x.name n.2).lawful

  wires : list_all (wire_is_there (length q.heads) (length p.switches)) p.wires ≡ true
  wires = list_field_keeps (λ ws. list_all (wire_is_there (length q.heads) (length p.switches)) ws ≡ true) (λ _. read_wire q.heads p.switches)
      (λ front c x h r. all_more (wire_is_there (length q.heads) (length p.switches)) front x h (wire_reads q.heads p.switches c x r)) word.Wires d p.wires refl q.are_wires

  ends : list_all (vlink_is_there (length q.heads)) p.vlinks ≡ true
  ends = list_field_keeps (λ vs. list_all (vlink_is_there (length q.heads)) vs ≡ true) (read_vlink q.heads)
      (λ front c x h r. all_more (vlink_is_there (length q.heads)) front x h (vlink_reads q.heads front c x r)) word.Vlinks d p.vlinks refl q.are_vlinks

  homes : list_all (λ (c : Channel). home_is_there (length q.heads) (length p.vlinks) c.home) p.channels ≡ true
  homes = list_field_keeps (λ cs. list_all (λ (c : Channel). home_is_there (length q.heads) (length p.vlinks) c.home) cs ≡ true) (read_channel q.heads p.vlinks)
      (λ front c x h r. all_more (λ (y : Channel). home_is_there (length q.heads) (length p.vlinks) y.home) front x h (home_reads q.heads p.vlinks c x.home (channel_parts q.heads p.vlinks front c x r).at_home)) word.Channels d p.channels refl q.are_channels

  -- the tests of a plan are those of its lists' lengths
  spot_same : (s : Spot) → is_there (length p.nodes) (length p.switches) s ≡ spot_there p s
  spot_same (Node n) = refl
  spot_same (Switch n) = refl

  home_same : (h : Home) → home_is_there (length p.nodes) (length p.vlinks) h ≡ home_there p h
  home_same (Way v from_a) = refl
  home_same (Inside n) = refl

  all_same : {A : Type 0} (f g : A → Bool) (xs : List A) → ((x : A) → f x ≡ g x) → list_all f xs ≡ list_all g xs
  all_same f g [] h = refl
  all_same f g (x ∷ xs) h = ap (λ b. b && list_all f xs) (h x) ∙ ap (λ b. g x && b) (all_same f g xs h)

  number : list_all vars_ok p.nodes ≡ true → number_ok p ≡ true
  number few =
      let w = sym (all_same (wire_is_there (length p.nodes) (length p.switches)) (wire_there p) p.wires (λ x. ap (λ b. b && is_there (length p.nodes) (length p.switches) x.two.spot) (spot_same x.one.spot) ∙ ap (λ b. spot_there p x.one.spot && b) (spot_same x.two.spot)))
      ∙ subst (λ n. list_all (wire_is_there n (length p.switches)) p.wires ≡ true) many wires in
      let e = subst (λ n. list_all (vlink_is_there n) p.vlinks ≡ true) many ends in
      let h = sym (all_same (λ (c : Channel). home_is_there (length p.nodes) (length p.vlinks) c.home) (λ (c : Channel). home_there p c.home) p.channels (λ c. home_same c.home))
      ∙ subst (λ n. list_all (λ (c : Channel). home_is_there n (length p.vlinks) c.home) p.channels ≡ true) many homes in
      let n = subst (λ ns. list_all (process_names p) ns ≡ true) q.are_nodes
      (names_there (length p.channels) q.heads q.processes (λ k x is. (over k x is).1) (subst (λ ns. list_all vars_ok ns ≡ true) (sym q.are_nodes) few)) in
      both_true (list_all (wire_there p) p.wires) _ w (both_true (list_all (ends_there p) p.vlinks) _ e (both_true (list_all (λ (c : Channel). home_there p c.home) p.channels) (list_all (process_names p) p.nodes) h n))

-- ---- the first limit that is broken

-- it is this one, which files may break, or one of those behind it
may : (b : Bool) (x w : LimitWord) (next : Option LimitWord) → refuses_no_file x ≡ false → (b ≡ true → next ≡ Some w → refuses_no_file w ≡ false) → unless_ok b x next ≡ Some w → refuses_no_file w ≡ false
may true x w next free rest e = rest refl e
may false x w next free rest e = subst (λ y. refuses_no_file y ≡ false) (let c : Some x ≡ Some w = e in cc) free

-- it is none that is kept
kept : (b : Bool) (x w : LimitWord) (next : Option LimitWord) → b ≡ true → (next ≡ Some w → refuses_no_file w ≡ false) → unless_ok b x next ≡ Some w → refuses_no_file w ≡ false
kept true x w next is rest e = rest e
kept false x w next is rest e = absurd (let c : false ≡ true = is in cc)

pub limits_kept : (d : Data) (p : Plan) (w : LimitWord) → read_plan d ≡ Ok p → limit_broken p ≡ Some w → refuses_no_file w ≡ false
limits_kept d p w e broken =
    let q = parts d p e in
    kept (version_ok p) limit.Version w _ (version d p q)
    (may (nat_le (length p.nodes) 32) limit.Nodes w _ refl (λ _. may (nat_le (length p.switches) 32) limit.Switches w _ refl
    (λ _. may (nat_le (length p.wires) 256) limit.Wires w _ refl (λ _. may (nat_le (length p.vlinks) 256) limit.Vlinks w _ refl
    (λ _. may (nat_le (length p.channels) 512) limit.Channels w _ refl
    (λ _. may (list_all vars_ok p.nodes) limit.Vars w _ refl
    (λ few. may (list_all rows_ok p.switches) limit.Rows w _ refl
    (λ _. may (list_all routes_ok p.vlinks) limit.Route w _ refl
    (λ _. may (links_ok p) limit.Link w _ refl
    (λ _. may (list_all random_ok p.switches) limit.Random w _ refl
    (λ _. may (list_all depth_ok p.nodes) limit.Depth w _ refl
    (λ _. may (list_all parts_ok p.nodes) limit.Parts w _ refl
    (λ _. kept (list_all message_ok p.nodes) limit.Message w _ (message d p q)
    (kept (number_ok p) limit.Number w _ (number d p q few)
    (kept (names_ok p) limit.Name w _ (names d p q) (λ n. absurd (let c : None ≡ Some w = n in cc)))))))))))))))))
    broken
