-- The line of a fault.
use Rattle.std.specs.Prelude.{ℕ, List, [], ◌∷◌, ◌++◌, Bool, if◌then◌else◌, codes, decimal, Option, Some, None}
use Rattle.std.specs.List.{flat_map}
use Rattle.vc_label_text.specs.CauseText.{cause_text}
use Rattle.vc_labels.specs.declared.fault.TableFault.{TableFault}
use Rattle.vc_labels.specs.declared.fault.TableFault.TheVariants.{NotRising, Gap, BadLink}
use Rattle.vc_plan.specs.Names.{channel_name, node_name, spot_name, switch_name, vlink_name}
use Rattle.vc_plan.specs.declared.plan.Plan.{Plan}
use Rattle.vc_plan.specs.declared.path_fault.Hop.{Hop}
use Rattle.vc_plan.specs.declared.path_fault.PathFault.{PathFault}
use Rattle.vc_plan.specs.declared.limit_word.LimitWord.{LimitWord}
use Rattle.vc_plan.specs.declared.limit_word.LimitWord.TheVariants as limit
use Rattle.vc_plan.specs.declared.check_refused.CheckRefused.{CheckRefused}
use Rattle.vc_plan.specs.declared.check_refused.CheckRefused.TheVariants as check
use Rattle.vc_reader.specs.declared.path.Step.{Step}
use Rattle.vc_reader.specs.declared.path.Step.TheVariants.{Field, Index}
use Rattle.vc_reader.specs.declared.refused.ReadRefused.{ReadRefused}
use Rattle.vc_reader.specs.declared.refused.ReadRefused.TheVariants as read
use Rattle.vc_reader.specs.Words.{word_text}
use Rattle.vc_threads.specs.declared.spawn.ThreadFault.{ThreadFault}
use Rattle.vc_threads.specs.declared.spawn.ThreadFault.TheVariants as thread
use Rattle.vc_text.specs.declared.fault.RunFault.{RunFault}
use Rattle.vc_text.specs.declared.fault.RunFault.TheVariants as fault
use Rattle.vc_waits.specs.Ports.{port_text}
use Rattle.vc_waits.specs.Waits.{newline}

-- ---- the network file

abbrev pub step_text : Step → List ℕ
step_text (Field w) = codes "/" ++ word_text w
step_text (Index n) = codes "/" ++ decimal n

-- a step for each field and index from the top; the top itself is /
abbrev pub steps_text : List Step → List ℕ
steps_text [] = codes "/"
steps_text (s ∷ path) = flat_map step_text (s ∷ path)

abbrev pub read_line : ReadRefused → List ℕ
read_line read.Json = codes "refused 20 Json"
read_line (read.Missing path) = codes "refused 21 Missing " ++ steps_text path
read_line (read.Kind path) = codes "refused 22 Kind " ++ steps_text path
read_line (read.Range path) = codes "refused 23 Range " ++ steps_text path
read_line (read.Unknown path) = codes "refused 24 Unknown " ++ steps_text path
read_line read.Memory = codes "fault memory"

-- ---- the plan

-- the random header that was put in front, where one was
abbrev pub value_text : Option ℕ → List ℕ
value_text None = []
value_text (Some v) = codes "+" ++ decimal v

abbrev pub hop_text : Plan → Hop → List ℕ
hop_text plan h = codes " " ++ switch_name plan h.switch ++ value_text h.value ++ codes "." ++ decimal h.link

abbrev pub way_text : Bool → List ℕ
way_text from_a = if from_a then codes "ab" else codes "ba"

-- the virtual link, the way and the sending port
abbrev pub start_text : Plan → PathFault → List ℕ
start_text plan f = vlink_name plan f.vlink ++ codes " " ++ way_text f.from_a ++ codes " " ++ port_text plan f.start

-- the place where the fault shows
abbrev pub last_text : Plan → PathFault → List ℕ
last_text plan f = codes " " ++ spot_name plan f.last ++ value_text f.value

-- from the sending port by the port by which each switch was left
abbrev pub path_text : Plan → PathFault → List ℕ
path_text plan f = start_text plan f ++ flat_map (hop_text plan) f.hops ++ last_text plan f

abbrev pub limit_text : LimitWord → List ℕ
limit_text limit.Version = codes "version"
limit_text limit.Nodes = codes "nodes"
limit_text limit.Switches = codes "switches"
limit_text limit.Wires = codes "wires"
limit_text limit.Vlinks = codes "vlinks"
limit_text limit.Channels = codes "channels"
limit_text limit.Vars = codes "vars"
limit_text limit.Rows = codes "rows"
limit_text limit.Route = codes "route"
limit_text limit.Link = codes "link"
limit_text limit.Random = codes "random"
limit_text limit.Depth = codes "depth"
limit_text limit.Parts = codes "parts"
limit_text limit.Message = codes "message"
limit_text limit.Number = codes "number"
limit_text limit.Name = codes "name"

abbrev pub table_text : TableFault → List ℕ
table_text NotRising = codes "NotRising"
table_text Gap = codes "Gap"
table_text BadLink = codes "BadLink"

-- the number and the name of a refusal
abbrev pub check_head : CheckRefused → List ℕ
check_head (check.Limit word) = codes "refused 1 Limit "
check_head (check.PortTwice port) = codes "refused 2 PortTwice "
check_head (check.PortMissing port) = codes "refused 3 PortMissing "
check_head (check.BlockTwice node block) = codes "refused 4 BlockTwice "
check_head (check.Table switch fault) = codes "refused 5 Table "
check_head (check.NoInterval path) = codes "refused 6 NoInterval "
check_head (check.WrongEnd path) = codes "refused 7 WrongEnd "
check_head (check.StackEmpty path) = codes "refused 8 StackEmpty "
check_head (check.StackFull path) = codes "refused 9 StackFull "
check_head (check.Hops path) = codes "refused 10 Hops "
check_head (check.SameNode vlink) = codes "refused 11 SameNode "
check_head (check.Channel chan) = codes "refused 12 Channel "
check_head (check.Usage node name) = codes "refused 13 Usage "
check_head check.Memory = codes "fault memory"

abbrev pub block_text : Plan → ℕ → ℕ → List ℕ
block_text plan node block = node_name plan node ++ codes " " ++ decimal block

abbrev pub switch_fault_text : Plan → ℕ → TableFault → List ℕ
switch_fault_text plan switch fault = switch_name plan switch ++ codes " " ++ table_text fault

abbrev pub usage_text : Plan → ℕ → List ℕ → List ℕ
usage_text plan node name = node_name plan node ++ codes " " ++ name

-- its first offender
abbrev pub offender_text : Plan → CheckRefused → List ℕ
offender_text plan (check.Limit word) = limit_text word
offender_text plan (check.PortTwice port) = port_text plan port
offender_text plan (check.PortMissing port) = port_text plan port
offender_text plan (check.BlockTwice node block) = block_text plan node block
offender_text plan (check.Table switch fault) = switch_fault_text plan switch fault
offender_text plan (check.NoInterval path) = path_text plan path
offender_text plan (check.WrongEnd path) = path_text plan path
offender_text plan (check.StackEmpty path) = path_text plan path
offender_text plan (check.StackFull path) = path_text plan path
offender_text plan (check.Hops path) = path_text plan path
offender_text plan (check.SameNode vlink) = vlink_name plan vlink
offender_text plan (check.Channel chan) = channel_name plan chan
offender_text plan (check.Usage node name) = usage_text plan node name
offender_text plan check.Memory = []

abbrev pub check_line : Plan → CheckRefused → List ℕ
check_line plan why = check_head why ++ offender_text plan why

-- ---- the threads

abbrev pub thread_line : ThreadFault → List ℕ
thread_line thread.Memory = codes "fault memory"
thread_line thread.Start = codes "fault thread"
thread_line thread.Gate = codes "fault thread"

-- ---- the whole

-- after a fault of the writer nothing more is written
abbrev pub fault_text : RunFault → List ℕ
fault_text fault.Read = codes "fault read" ++ newline
fault_text fault.Write = []
fault_text (fault.Text refused) = read_line refused ++ newline
fault_text (fault.Network cause) = cause_text cause
fault_text (fault.Plan refusal) = check_line refusal.plan refusal.why ++ newline
fault_text (fault.Threads why) = thread_line why ++ newline
fault_text fault.Memory = codes "fault memory" ++ newline
