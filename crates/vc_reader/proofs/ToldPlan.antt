-- The first fault of a network file leads to what is wrong.
use Rattle.std.proofs.Common.{◌≡◌, ◌∙◌, ℕ, suc, ◌+◌, List, [], ◌∷◌, ◌++◌, length, refl, sym, ap, subst, arith, slice_get, Ok, Err}
use Rattle.serde_json.specs.Data.{Data, array, object, Items, no_items, item, Members}
use Rattle.serde_json.specs.Find.{get_item}
use Rattle.vc_process.specs.declared.process.Process.{Process}
use Rattle.vc_plan.specs.declared.channel.Channel.{Channel}
use Rattle.vc_plan.specs.declared.node_plan.NodePlan.{NodePlan}
use Rattle.vc_plan.specs.declared.plan.Plan.{Plan}
use Rattle.vc_plan.specs.declared.port.Wire.{Wire}
use Rattle.vc_plan.specs.declared.switch_plan.SwitchPlan.{SwitchPlan}
use Rattle.vc_plan.specs.declared.vlink.Vlink.{Vlink}
use Rattle.vc_reader.specs.Faulty.{LeadsToFault, whole}
use Rattle.vc_reader.specs.Faulty as wants
use Rattle.vc_reader.specs.Network.{read_head, read_switch, read_wire, read_vlink, read_channel}
use Rattle.vc_reader.specs.NetworkText.{vars_of, node_process, node_plans, network_words, read_nodes, plan_with_wires, plan_with_nodes, read_plan}
use Rattle.vc_reader.specs.Processes.{whole_process}
use Rattle.vc_reader.specs.Reading.{◌>>=◌, under, present, field, each, read_list, list_field, read_number}
use Rattle.vc_reader.specs.declared.fault.Fault.{Fault}
use Rattle.vc_reader.specs.declared.node.Head.{Head}
use Rattle.vc_reader.specs.declared.path.Step.TheVariants.{Field, Index}
use Rattle.vc_reader.specs.declared.word.Word.TheVariants as word
use Rattle.vc_reader.proofs.FaultPaths.{IsTold, past, ok_told, then_told, under_told, field_told, list_told, object_told, number_told}
use Rattle.vc_reader.proofs.Read.{then_ok, under_ok, field_ok}
use Rattle.vc_reader.proofs.Told.{field_then, list_then, head_told, switch_told, wire_told, vlink_told, channel_told}
use Rattle.vc_reader.proofs.ToldProcesses.{whole_process_told}

-- the items from which heads were read are objects
abbrev AreObjects : Items → Type 0
AreObjects no_items = Unit {0}
AreObjects (item d ds) = ((ms : Members) × (d ≡ object ms)) × AreObjects ds

is_object : (before : List Head) (d : Data) (x : Head) → read_head before d ≡ Ok x → (ms : Members) × (d ≡ object ms)
is_object before (object ms) x e = (ms, refl)
is_object before v x e = absurd cc

are_objects : (before : List Head) (ds : Items) (hs : List Head) → each read_head before ds ≡ Ok hs → AreObjects ds
are_objects before no_items hs e = tt
are_objects before (item d ds) hs e =
    let r = then_ok (under (Index (length before)) (read_head before d)) (λ x. each read_head (before ++ x ∷ []) ds) hs e in
    (is_object before d r.0 (under_ok (Index (length before)) (read_head before d) r.0 r.1), are_objects (before ++ r.0 ∷ []) ds hs r.2)

module _ (heads : List Head) (channels : List Channel) where
  node_told : (before : List Process) (ms : Members) → IsTold (Field word.Nodes ∷ Index (length before) ∷ []) (object ms) (node_process heads channels before (object ms))
  node_told before ms = field_told word.Process (whole_process (vars_of (slice_get heads (length before))) channels) ms (whole_process_told (vars_of (slice_get heads (length before))) channels (whole (length before)))

  each_told : (all : Items) (before : List Process) (ds : Items) → AreObjects ds → ((k : ℕ) → get_item (length before + k) all ≡ get_item k ds) →
      IsTold (Field word.Nodes ∷ []) (array all) (each (node_process heads channels) before ds)
  each_told all before no_items are at = ok_told (array all) before
  each_told all before (item d ds) are at =
      then_told (array all) (under (Index (length before)) (node_process heads channels before d)) (λ x. each (node_process heads channels) (before ++ x ∷ []) ds)
      (under_told (Index (length before)) (array all) d (node_process heads channels before d) (ap (λ n. get_item n all) (omega arith) ∙ at 0)
      (subst (λ v. IsTold (Field word.Nodes ∷ Index (length before) ∷ []) v (node_process heads channels before v)) (sym are.0.1) (node_told before are.0.0)))
      (λ x e. each_told all (before ++ x ∷ []) ds are.1 (λ k. ap (λ n. get_item n all) (past before x k) ∙ at (suc k)))

  list_of_told : (d : Data) (hs : List Head) → read_list read_head d ≡ Ok hs → IsTold (Field word.Nodes ∷ []) d (read_list (node_process heads channels) d)
  list_of_told (array ds) hs e = each_told ds [] ds (are_objects [] ds hs e) (λ k. ap (λ n. get_item n ds) (omega arith))
  list_of_told v hs e = absurd cc

  nodes_told : (ms : Members) → field word.Nodes (read_list read_head) (object ms) ≡ Ok heads → IsTold [] (object ms) (read_nodes heads channels (object ms))
  nodes_told ms e =
      let v = field_ok word.Nodes (read_list read_head) (object ms) heads e in
      then_told (object ms) (field word.Nodes (read_list (node_process heads channels)) (object ms)) (λ ps. Ok (node_plans heads ps))
      (subst (λ o. IsTold [] (object ms) (under (Field word.Nodes) (present (read_list (node_process heads channels)) o))) (sym v.1)
      (under_told (Field word.Nodes) (object ms) v.0 (read_list (node_process heads channels) v.0) v.1 (list_of_told v.0 heads v.2)))
      (λ ps _. ok_told (object ms) (node_plans heads ps))

abbrev a_plan : List SwitchPlan → List Wire → List Vlink → List Channel → List NodePlan → Plan
a_plan switches wires vlinks channels nodes = record { version = 2; nodes = nodes; switches = switches; wires = wires; vlinks = vlinks; channels = channels }

with_wires_told : (heads : List Head) (switches : List SwitchPlan) (wires : List Wire) (ms : Members) → field word.Nodes (read_list read_head) (object ms) ≡ Ok heads → IsTold [] (object ms) (plan_with_wires heads switches wires (object ms))
with_wires_told heads switches wires ms e =
    list_then word.Vlinks (read_vlink heads) ms (λ vlinks. list_field word.Channels (read_channel heads vlinks) (object ms) >>= λ channels. read_nodes heads channels (object ms) >>= λ nodes. Ok (a_plan switches wires vlinks channels nodes)) (vlink_told heads) (λ vlinks.
    list_then word.Channels (read_channel heads vlinks) ms (λ channels. read_nodes heads channels (object ms) >>= λ nodes. Ok (a_plan switches wires vlinks channels nodes)) (channel_told heads vlinks) (λ channels.
    then_told (object ms) (read_nodes heads channels (object ms)) (λ nodes. Ok (a_plan switches wires vlinks channels nodes)) (nodes_told heads channels ms e) (λ nodes _. ok_told (object ms) (a_plan switches wires vlinks channels nodes))))

with_nodes_told : (version : ℕ) (heads : List Head) (ms : Members) → field word.Nodes (read_list read_head) (object ms) ≡ Ok heads → IsTold [] (object ms) (plan_with_nodes version heads (object ms))
with_nodes_told version heads ms e =
    list_then word.Switches (read_switch version heads) ms (λ switches. list_field word.Wires (λ _. read_wire heads switches) (object ms) >>= λ wires. plan_with_wires heads switches wires (object ms)) (switch_told version heads) (λ switches.
    list_then word.Wires (λ _. read_wire heads switches) ms (λ wires. plan_with_wires heads switches wires (object ms)) (λ others. wire_told heads switches (length others)) (λ wires. with_wires_told heads switches wires ms e))

plan_told : (d : Data) → IsTold [] d (read_plan d)
plan_told = object_told (λ _. network_words) (λ d. field word.Version (read_number 1 2) d >>= λ version. field word.Nodes (read_list read_head) d >>= λ heads. plan_with_nodes version heads d) (λ _. wants.file) (λ ms.
    field_then word.Version (read_number 1 2) ms (λ version. field word.Nodes (read_list read_head) (object ms) >>= λ heads. plan_with_nodes version heads (object ms)) (number_told 1 2 wants.version) (λ version.
    then_told (object ms) (field word.Nodes (read_list read_head) (object ms)) (λ heads. plan_with_nodes version heads (object ms)) (field_told word.Nodes (read_list read_head) ms (list_told read_head head_told)) (λ heads e. with_nodes_told version heads ms e)))

pub faults_lead : (d : Data) (f : Fault) → read_plan d ≡ Err f → LeadsToFault [] f.path f.why d
faults_lead d f e = plan_told d f e
