-- What is known of a value, and of its parts, where it was read without a fault.
use Rattle.std.proofs.Common.{◌≡◌, ◌∙◌, ℕ, ◌+◌, length, List, [], ◌∷◌, ◌++◌, refl, sym, ap, subst, arith, Option, Some, None, Result, Ok, Err}
use Rattle.serde_json.specs.Data.{Data, array, Items, no_items, item}
use Rattle.serde_json.specs.Find.{get, at}
use Rattle.vc_plan.specs.declared.plan.Plan.{Plan}
use Rattle.vc_labels.specs.declared.row.Row.{Row}
use Rattle.vc_plan.specs.declared.channel.Channel.{Channel}
use Rattle.vc_plan.specs.declared.channel.Home.{Home}
use Rattle.vc_plan.specs.declared.node_plan.NodePlan.{NodePlan}
use Rattle.vc_plan.specs.declared.node_plan.Variable.{Variable}
use Rattle.vc_plan.specs.declared.port.Wire.{Wire}
use Rattle.vc_plan.specs.declared.switch_plan.RandomInput.{RandomInput}
use Rattle.vc_plan.specs.declared.switch_plan.SwitchPlan.{SwitchPlan}
use Rattle.vc_plan.specs.declared.vlink.End.{End}
use Rattle.vc_plan.specs.declared.vlink.Vlink.{Vlink}
use Rattle.vc_process.specs.declared.process.Process.{Process}
use Rattle.vc_process.specs.declared.value_kind.ValueKind.{ValueKind}
use Rattle.vc_reader.specs.declared.fault.Fault.{Fault}
use Rattle.vc_reader.specs.declared.node.Head.{Head}
use Rattle.vc_reader.specs.declared.path.Step.{Step}
use Rattle.vc_reader.specs.declared.path.Step.TheVariants.{Field, Index}
use Rattle.vc_reader.specs.declared.word.Word.{Word}
use Rattle.vc_reader.specs.declared.word.Word.TheVariants as word
use Rattle.vc_reader.specs.Words.{word_text}
use Rattle.vc_reader.specs.Reading.{◌>>=◌, under, present, field, cell, each, read_list, absent_or_list, list_field, count, items_in, row, read_object, read_number}
use Rattle.vc_reader.specs.Names.{new_name, has_name}
use Rattle.vc_reader.specs.Network.{read_head, read_var, read_kind, read_switch, switch_words, is_place, table_row, read_link, read_random, read_wire, read_vlink, read_end, read_channel, channel_words, read_home}
use Rattle.vc_reader.specs.NetworkText.{network_words, node_process, node_plans, read_nodes, read_plan}

pub ok_is : {A : Type 0} (x y : A) → ◌≡◌ {A = Result A Fault} (Ok x) (Ok y) → x ≡ y
ok_is x y e = cc

-- what is read first, and then
pub then_ok : {A B : Type 0} (r : Result A Fault) (f : A → Result B Fault) (y : B) → (r >>= f) ≡ Ok y → (x : A) × (r ≡ Ok x) × (f x ≡ Ok y)
then_ok (Ok x) f y e = (x, refl, e)
then_ok (Err v) f y e = absurd cc

pub under_ok : {A : Type 0} (s : Step) (r : Result A Fault) (x : A) → under s r ≡ Ok x → r ≡ Ok x
under_ok s (Ok y) x e = e
under_ok s (Err v) x e = absurd cc

present_ok : {A : Type 0} (read : Data → Result A Fault) (o : Option Data) (x : A) → present read o ≡ Ok x → (v : Data) × (o ≡ Some v) × (read v ≡ Ok x)
present_ok read None x e = absurd cc
present_ok read (Some v) x e = (v, refl, e)

pub field_ok : {A : Type 0} (w : Word) (read : Data → Result A Fault) (d : Data) (x : A) → field w read d ≡ Ok x → (v : Data) × (get (word_text w) d ≡ Some v) × (read v ≡ Ok x)
field_ok w read d x e = present_ok read (get (word_text w) d) x (under_ok (Field w) (present read (get (word_text w) d)) x e)

pub cell_ok : {A : Type 0} (n : ℕ) (read : Data → Result A Fault) (d : Data) (x : A) → cell n read d ≡ Ok x → (v : Data) × (at n d ≡ Some v) × (read v ≡ Ok x)
cell_ok n read d x e = present_ok read (at n d) x (under_ok (Index n) (present read (at n d)) x e)

-- what each item keeps, the whole list has
module _ {A : Type 0} (Has : List A → Type 0) (read : List A → Data → Result A Fault) (keeps : (before : List A) (d : Data) (x : A) → Has before → read before d ≡ Ok x → Has (before ++ x ∷ [])) where
  each_keeps : (before : List A) (ds : Items) (xs : List A) → Has before → each read before ds ≡ Ok xs → Has xs
  each_keeps before no_items xs h e = subst Has (ok_is before xs e) h
  each_keeps before (item d ds) xs h e =
      let r = then_ok (under (Index (length before)) (read before d)) (λ x. each read (before ++ x ∷ []) ds) xs e in
      each_keeps (before ++ r.0 ∷ []) ds xs (keeps before d r.0 h (under_ok (Index (length before)) (read before d) r.0 r.1)) r.2

  pub list_keeps : (d : Data) (xs : List A) → Has [] → read_list read d ≡ Ok xs → Has xs
  list_keeps (array ds) xs h e = each_keeps [] ds xs h e
  list_keeps v xs h e = absurd cc

  absent_keeps : (o : Option Data) (xs : List A) → Has [] → absent_or_list read o ≡ Ok xs → Has xs
  absent_keeps None xs h e = subst Has (ok_is [] xs e) h
  absent_keeps (Some d) xs h e = list_keeps d xs h e

  pub list_field_keeps : (w : Word) (d : Data) (xs : List A) → Has [] → list_field w read d ≡ Ok xs → Has xs
  list_field_keeps w d xs h e = absent_keeps (get (word_text w) d) xs h (under_ok (Field w) (absent_or_list read (get (word_text w) d)) xs e)

  pub field_keeps : (w : Word) (d : Data) (xs : List A) → Has [] → field w (read_list read) d ≡ Ok xs → Has xs
  field_keeps w d xs h e = let r = field_ok w (read_list read) d xs e in list_keeps r.0 xs h r.2

-- a list has as many items as were read
append_length : {A : Type 0} (xs : List A) (x : A) → length (xs ++ x ∷ []) ≡ length xs + 1
append_length [] x = refl
append_length (y ∷ ys) x = let r = append_length ys x in omega arith

each_length : {A : Type 0} (read : List A → Data → Result A Fault) (before : List A) (ds : Items) (xs : List A) → each read before ds ≡ Ok xs → length xs ≡ length before + count ds
each_length read before no_items xs e = let s : length before ≡ length xs = ap (λ l. length l) (ok_is before xs e) in omega (arith, s)
each_length read before (item d ds) xs e =
    let r = then_ok (under (Index (length before)) (read before d)) (λ x. each read (before ++ x ∷ []) ds) xs e in
    let rest = each_length read (before ++ r.0 ∷ []) ds xs r.2 in
    let more = append_length before r.0 in
    omega (arith, rest, more)

pub list_length : {A : Type 0} (read : List A → Data → Result A Fault) (d : Data) (xs : List A) → read_list read d ≡ Ok xs → length xs ≡ items_in d
list_length read (array ds) xs e = let r = each_length read [] ds xs e in omega (arith, r)
list_length read v xs e = absurd cc

-- the parts of a value that means a plan
pub record Parts (d : Data) (p : Plan) : Type 0 where
  pub version : ℕ
  pub heads : List Head
  pub processes : List Process
  pub is_version : field word.Version (read_number 1 2) d ≡ Ok version
  pub are_heads : field word.Nodes (read_list read_head) d ≡ Ok heads
  pub are_switches : list_field word.Switches (read_switch version heads) d ≡ Ok p.switches
  pub are_wires : list_field word.Wires (λ _. read_wire heads p.switches) d ≡ Ok p.wires
  pub are_vlinks : list_field word.Vlinks (read_vlink heads) d ≡ Ok p.vlinks
  pub are_channels : list_field word.Channels (read_channel heads p.vlinks) d ≡ Ok p.channels
  pub are_processes : field word.Nodes (read_list (node_process heads p.channels)) d ≡ Ok processes
  pub are_nodes : node_plans heads processes ≡ p.nodes
  pub is_two : 2 ≡ p.version

abbrev whole : List SwitchPlan → List Wire → List Vlink → List Channel → List NodePlan → Plan
whole switches wires vlinks channels nodes = record { version = 2; nodes = nodes; switches = switches; wires = wires; vlinks = vlinks; channels = channels }

made : (d : Data) (p q : Plan) (version : ℕ) (heads : List Head) (processes : List Process) → field word.Version (read_number 1 2) d ≡ Ok version → field word.Nodes (read_list read_head) d ≡ Ok heads →
    list_field word.Switches (read_switch version heads) d ≡ Ok q.switches → list_field word.Wires (λ _. read_wire heads q.switches) d ≡ Ok q.wires → list_field word.Vlinks (read_vlink heads) d ≡ Ok q.vlinks →
    list_field word.Channels (read_channel heads q.vlinks) d ≡ Ok q.channels → field word.Nodes (read_list (node_process heads q.channels)) d ≡ Ok processes → node_plans heads processes ≡ q.nodes → 2 ≡ q.version → q ≡ p → Parts d p
made d p q version heads processes v h s w l c r n two same =
    subst (Parts d) same
    (record { version = version; heads = heads; processes = processes; is_version = v; are_heads = h; are_switches = s; are_wires = w; are_vlinks = l; are_channels = c; are_processes = r; are_nodes = n; is_two = two })

pub parts : (d : Data) (p : Plan) → read_plan d ≡ Ok p → Parts d p
parts d p e =
    let o = then_ok (read_object network_words d) _ p e in
    let v = then_ok (field word.Version (read_number 1 2) d) _ p o.2 in
    let h = then_ok (field word.Nodes (read_list read_head) d) _ p v.2 in
    let s = then_ok (list_field word.Switches (read_switch v.0 h.0) d) _ p h.2 in
    let w = then_ok (list_field word.Wires (λ _. read_wire h.0 s.0) d) _ p s.2 in
    let l = then_ok (list_field word.Vlinks (read_vlink h.0) d) _ p w.2 in
    let c = then_ok (list_field word.Channels (read_channel h.0 l.0) d) _ p l.2 in
    let n = then_ok (read_nodes h.0 c.0 d) _ p c.2 in
    let r = then_ok (field word.Nodes (read_list (node_process h.0 c.0)) d) _ n.0 n.1 in
    made d p (whole s.0 w.0 l.0 c.0 n.0) v.0 h.0 r.0 v.1 h.1 s.1 w.1 l.1 c.1 r.1 (ok_is (node_plans h.0 r.0) n.0 r.2) refl (ok_is (whole s.0 w.0 l.0 c.0 n.0) p n.2)

-- the parts of what was read of a node, a variable, a switch, a virtual link and a channel
abbrev head : List ℕ → List Variable → Head
head name vars = record { name = name; vars = vars }

pub record HeadParts (before : List Head) (d : Data) (x : Head) : Type 0 where
  pub named : field word.Name (new_name (has_name (λ (h : Head). h.name) before)) d ≡ Ok x.name
  pub has_vars : list_field word.Vars read_var d ≡ Ok x.vars

pub head_parts : (before : List Head) (d : Data) (x : Head) → read_head before d ≡ Ok x → HeadParts before d x
head_parts before d x e =
    let o = then_ok (read_object (word.Name ∷ word.Vars ∷ word.Process ∷ []) d) _ x e in
    let n = then_ok (field word.Name (new_name (has_name (λ (h : Head). h.name) before)) d) _ x o.2 in
    let v = then_ok (list_field word.Vars read_var d) _ x n.2 in
    subst (HeadParts before d) (ok_is (head n.0 v.0) x v.2) (record { named = n.1; has_vars = v.1 })

abbrev variable : List ℕ → ValueKind → Variable
variable name kind = record { name = name; kind = kind }

pub record VariableParts (before : List Variable) (d : Data) (x : Variable) : Type 0 where
  pub named : cell 0 (new_name (has_name (λ (v : Variable). v.name) before)) d ≡ Ok x.name

pub variable_parts : (before : List Variable) (d : Data) (x : Variable) → read_var before d ≡ Ok x → VariableParts before d x
variable_parts before d x e =
    let r = then_ok (row 2 d) _ x e in
    let n = then_ok (cell 0 (new_name (has_name (λ (v : Variable). v.name) before)) d) _ x r.2 in
    let k = then_ok (cell 1 read_kind d) _ x n.2 in
    subst (VariableParts before d) (ok_is (variable n.0 k.0) x k.2) (record { named = n.1 })

abbrev switch : List ℕ → List Row → List ℕ → List RandomInput → SwitchPlan
switch name rows delete random = record { name = name; rows = rows; delete = delete; random = random }

pub record SwitchParts (version : ℕ) (heads : List Head) (before : List SwitchPlan) (d : Data) (x : SwitchPlan) : Type 0 where
  pub no_others : read_object (switch_words version) d ≡ Ok tt
  pub named : field word.Name (new_name (is_place heads before)) d ≡ Ok x.name
  pub has_rows : field word.Table (read_list (λ _. table_row version)) d ≡ Ok x.rows
  pub deletes : list_field word.Delete (λ _. read_link) d ≡ Ok x.delete
  pub draws : list_field word.Random (λ _. read_random) d ≡ Ok x.random

pub switch_parts : (version : ℕ) (heads : List Head) (before : List SwitchPlan) (d : Data) (x : SwitchPlan) → read_switch version heads before d ≡ Ok x → SwitchParts version heads before d x
switch_parts version heads before d x e =
    let o = then_ok (read_object (switch_words version) d) _ x e in
    let n = then_ok (field word.Name (new_name (is_place heads before)) d) _ x o.2 in
    let r = then_ok (field word.Table (read_list (λ _. table_row version)) d) _ x n.2 in
    let l = then_ok (list_field word.Delete (λ _. read_link) d) _ x r.2 in
    let i = then_ok (list_field word.Random (λ _. read_random) d) _ x l.2 in
    subst (SwitchParts version heads before d) (ok_is (switch n.0 r.0 l.0 i.0) x i.2) (record { no_others = o.1; named = n.1; has_rows = r.1; deletes = l.1; draws = i.1 })

abbrev vlink : List ℕ → End → End → Vlink
vlink name a b = record { name = name; a = a; b = b }

pub record VlinkParts (heads : List Head) (before : List Vlink) (d : Data) (x : Vlink) : Type 0 where
  pub named : field word.Name (new_name (has_name (λ (v : Vlink). v.name) before)) d ≡ Ok x.name
  pub one : field word.A (read_end heads) d ≡ Ok x.a
  pub other : field word.B (read_end heads) d ≡ Ok x.b

pub vlink_parts : (heads : List Head) (before : List Vlink) (d : Data) (x : Vlink) → read_vlink heads before d ≡ Ok x → VlinkParts heads before d x
vlink_parts heads before d x e =
    let o = then_ok (read_object (word.Name ∷ word.A ∷ word.B ∷ []) d) _ x e in
    let n = then_ok (field word.Name (new_name (has_name (λ (v : Vlink). v.name) before)) d) _ x o.2 in
    let a = then_ok (field word.A (read_end heads) d) _ x n.2 in
    let b = then_ok (field word.B (read_end heads) d) _ x a.2 in
    subst (VlinkParts heads before d) (ok_is (vlink n.0 a.0 b.0) x b.2) (record { named = n.1; one = a.1; other = b.1 })

abbrev channel : List ℕ → ValueKind → Home → Channel
channel name kind home = record { name = name; kind = kind; home = home }

pub record ChannelParts (heads : List Head) (vlinks : List Vlink) (before : List Channel) (d : Data) (x : Channel) : Type 0 where
  pub named : field word.Name (new_name (has_name (λ (c : Channel). c.name) before)) d ≡ Ok x.name
  pub at_home : read_home heads vlinks d ≡ Ok x.home

pub channel_parts : (heads : List Head) (vlinks : List Vlink) (before : List Channel) (d : Data) (x : Channel) → read_channel heads vlinks before d ≡ Ok x → ChannelParts heads vlinks before d x
channel_parts heads vlinks before d x e =
    let o = then_ok (read_object (channel_words d) d) _ x e in
    let n = then_ok (field word.Name (new_name (has_name (λ (c : Channel). c.name) before)) d) _ x o.2 in
    let k = then_ok (field word.Kind read_kind d) _ x n.2 in
    let h = then_ok (read_home heads vlinks d) _ x k.2 in
    subst (ChannelParts heads vlinks before d) (ok_is (channel n.0 k.0 h.0) x h.2) (record { named = n.1; at_home = h.1 })

-- as many nodes as heads
pub as_many : (d : Data) (p : Plan) (q : Parts d p) → length q.heads ≡ length q.processes
as_many d p q =
    let h = field_ok word.Nodes (read_list read_head) d q.heads q.are_heads in
    let r = field_ok word.Nodes (read_list (node_process q.heads p.channels)) d q.processes q.are_processes in
    let same : h.0 ≡ r.0 = let s : Some h.0 ≡ Some r.0 = sym h.1 ∙ r.1 in cc in
    list_length read_head h.0 q.heads h.2 ∙ ap items_in same ∙ sym (list_length (node_process q.heads p.channels) r.0 q.processes r.2)
