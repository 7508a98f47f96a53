-- No name is given twice in a plan that was read.
use Rattle.std.proofs.Common.{◌≡◌, ◌∙◌, ℕ, length, List, [], ◌∷◌, ◌++◌, map, refl, sym, ap, subst, arith, append-nil, Bool, true, false, ◌||◌, Ok}
use Rattle.std.specs.Str.{bytes_eq}
use Rattle.std.specs.List.{IsDistinct, AllByRecursion}
use Rattle.serde_json.specs.Data.{Data}
use Rattle.vc_process.specs.declared.process.Process.{Process}
use Rattle.vc_plan.specs.declared.channel.Channel.{Channel}
use Rattle.vc_plan.specs.declared.node_plan.NodePlan.{NodePlan}
use Rattle.vc_plan.specs.declared.node_plan.Variable.{Variable}
use Rattle.vc_plan.specs.declared.plan.Plan.{Plan}
use Rattle.vc_plan.specs.declared.switch_plan.SwitchPlan.{SwitchPlan}
use Rattle.vc_plan.specs.declared.vlink.Vlink.{Vlink}
use Rattle.vc_reader.specs.Laws.{HasDistinctNames}
use Rattle.vc_reader.specs.NetworkText.{node_plans, read_plan}
use Rattle.vc_reader.specs.declared.node.Head.{Head}
use Rattle.vc_reader.specs.declared.word.Word.TheVariants as word
use Rattle.vc_reader.specs.Names.{new_name, has_name}
use Rattle.vc_reader.specs.Network.{read_head, read_var, read_switch, is_place, read_vlink, read_channel}
use Rattle.vc_reader.proofs.Read.{Parts, parts, as_many, head_parts, variable_parts, switch_parts, vlink_parts, channel_parts, field_ok, cell_ok, field_keeps, list_field_keeps}
use Rattle.vc_reader.proofs.Names.{distinct_more, has_any, new_is_new}

-- no names
none : IsDistinct bytes_eq []
unfolding IsDistinct
none = tt

or_false : (a b : Bool) → (a || b) ≡ false → (a ≡ false) × (b ≡ false)
or_false true b e = absurd cc
or_false false b e = (refl, e)

-- the names of the variables of one node
variables_differ : (before : List Head) (d : Data) (x : Head) → read_head before d ≡ Ok x → IsDistinct bytes_eq (map (λ (v : Variable). v.name) x.vars)
variables_differ before d x e =
    list_field_keeps (λ xs. IsDistinct bytes_eq (map (λ (v : Variable). v.name) xs)) read_var more word.Vars d x.vars none (head_parts before d x e).has_vars
  where
    more : (front : List Variable) (c : Data) (y : Variable) → IsDistinct bytes_eq (map (λ (v : Variable). v.name) front) → read_var front c ≡ Ok y → IsDistinct bytes_eq (map (λ (v : Variable). v.name) (front ++ y ∷ []))
    more front c y h r =
        let n = cell_ok 0 (new_name (has_name (λ (v : Variable). v.name) front)) c y.name (variable_parts front c y r).named in
        distinct_more (λ (v : Variable). v.name) [] front y h refl (new_is_new (has_name (λ (v : Variable). v.name) front) n.0 y.name n.2).new

-- the heads of the nodes
abbrev HasNames : List Head → Type 0
HasNames heads = IsDistinct bytes_eq (map (λ (h : Head). h.name) heads) × AllByRecursion (λ (h : Head). IsDistinct bytes_eq (map (λ (v : Variable). v.name) h.vars)) heads

all_more : {A : Type 0} (P : A → Type 0) (xs : List A) (x : A) → AllByRecursion P xs → P x → AllByRecursion P (xs ++ x ∷ [])
all_more P [] x all is = (is, tt)
all_more P (y ∷ ys) x all is = (all.0, all_more P ys x all.1 is)

head_more : (before : List Head) (d : Data) (x : Head) → HasNames before → read_head before d ≡ Ok x → HasNames (before ++ x ∷ [])
head_more before d x h e =
    let n = field_ok word.Name (new_name (has_name (λ (y : Head). y.name) before)) d x.name (head_parts before d x e).named in (
      distinct_more (λ (y : Head). y.name) [] before x h.0 refl (new_is_new (has_name (λ (y : Head). y.name) before) n.0 x.name n.2).new,
      all_more (λ (y : Head). IsDistinct bytes_eq (map (λ (v : Variable). v.name) y.vars)) before x h.1 (variables_differ before d x e),
    )

-- the nodes have the names of their heads, and their variables
node_names : (hs : List Head) (ps : List Process) → length hs ≡ length ps → map (λ (h : Head). h.name) hs ≡ map (λ (n : NodePlan). n.name) (node_plans hs ps)
node_names [] ps e = refl
node_names (h ∷ hs) [] e = absurd (omega arith)
node_names (h ∷ hs) (p ∷ ps) e = ap (λ l. h.name ∷ l) (node_names hs ps (omega arith))

node_variables : (hs : List Head) (ps : List Process) → AllByRecursion (λ (h : Head). IsDistinct bytes_eq (map (λ (v : Variable). v.name) h.vars)) hs →
    AllByRecursion (λ (n : NodePlan). IsDistinct bytes_eq (map (λ (v : Variable). v.name) n.vars)) (node_plans hs ps)
node_variables [] ps all = tt
node_variables (h ∷ hs) [] all = tt
node_variables (h ∷ hs) (p ∷ ps) all = (all.0, node_variables hs ps all.1)

module _ (d : Data) (p : Plan) (q : Parts d p) where
  heads_differ : HasNames q.heads
  heads_differ = field_keeps HasNames read_head head_more word.Nodes d q.heads (none, tt) q.are_heads

  abbrev head_names : List (List ℕ)
  head_names = map (λ (h : Head). h.name) q.heads

  switch_more : (before : List SwitchPlan) (c : Data) (x : SwitchPlan) → IsDistinct bytes_eq (head_names ++ map (λ (s : SwitchPlan). s.name) before) → read_switch q.version q.heads before c ≡ Ok x →
      IsDistinct bytes_eq (head_names ++ map (λ (s : SwitchPlan). s.name) (before ++ x ∷ []))
  switch_more before c x h e =
      let n = field_ok word.Name (new_name (is_place q.heads before)) c x.name (switch_parts q.version q.heads before c x e).named in
      let new = or_false (has_name (λ (y : Head). y.name) q.heads x.name) (has_name (λ (s : SwitchPlan). s.name) before x.name) (new_is_new (is_place q.heads before) n.0 x.name n.2).new in
      distinct_more (λ (s : SwitchPlan). s.name) head_names before x h (sym (has_any (λ (y : Head). y.name) q.heads x.name) ∙ new.0) new.1

  vlink_more : (before : List Vlink) (c : Data) (x : Vlink) → IsDistinct bytes_eq (map (λ (v : Vlink). v.name) before) → read_vlink q.heads before c ≡ Ok x → IsDistinct bytes_eq (map (λ (v : Vlink). v.name) (before ++ x ∷ []))
  vlink_more before c x h e =
      let n = field_ok word.Name (new_name (has_name (λ (v : Vlink). v.name) before)) c x.name (vlink_parts q.heads before c x e).named in
      distinct_more (λ (v : Vlink). v.name) [] before x h refl (new_is_new (has_name (λ (v : Vlink). v.name) before) n.0 x.name n.2).new

  channel_more : (before : List Channel) (c : Data) (x : Channel) → IsDistinct bytes_eq (map (λ (y : Channel). y.name) before) → read_channel q.heads p.vlinks before c ≡ Ok x → IsDistinct bytes_eq (map (λ (y : Channel). y.name) (before ++ x ∷ []))
  channel_more before c x h e =
      let n = field_ok word.Name (new_name (has_name (λ (y : Channel). y.name) before)) c x.name (channel_parts q.heads p.vlinks before c x e).named in
      distinct_more (λ (y : Channel). y.name) [] before x h refl (new_is_new (has_name (λ (y : Channel). y.name) before) n.0 x.name n.2).new

  front_only : IsDistinct bytes_eq (head_names ++ [])
  front_only = subst (IsDistinct bytes_eq) (sym (append-nil head_names)) heads_differ.0

  all_differ : HasDistinctNames p
  all_differ = record {
    places =
        subst (λ l. IsDistinct bytes_eq (l ++ map (λ (s : SwitchPlan). s.name) p.switches)) (node_names q.heads q.processes (as_many d p q) ∙ ap (λ ns. map (λ (n : NodePlan). n.name) ns) q.are_nodes)
        (list_field_keeps (λ xs. IsDistinct bytes_eq (head_names ++ map (λ (s : SwitchPlan). s.name) xs)) (read_switch q.version q.heads) switch_more word.Switches d p.switches front_only q.are_switches);
    vlinks = list_field_keeps (λ xs. IsDistinct bytes_eq (map (λ (v : Vlink). v.name) xs)) (read_vlink q.heads) vlink_more word.Vlinks d p.vlinks none q.are_vlinks;
    channels = list_field_keeps (λ xs. IsDistinct bytes_eq (map (λ (c : Channel). c.name) xs)) (read_channel q.heads p.vlinks) channel_more word.Channels d p.channels none q.are_channels;
    variables =
        subst (AllByRecursion (λ (n : NodePlan). IsDistinct bytes_eq (map (λ (v : Variable). v.name) n.vars))) q.are_nodes
        (node_variables q.heads q.processes heads_differ.1);
  }

pub names_differ : (d : Data) (p : Plan) → read_plan d ≡ Ok p → HasDistinctNames p
names_differ d p e = all_differ d p (parts d p e)
