-- What a process means.
use Rattle.std.specs.Prelude.{ℕ, zero, suc, min, List, if◌then◌else◌, codes, Result, Ok}
use Rattle.std.specs.Str.{bytes_eq}
use Rattle.serde_json.specs.Data.{Data, string}
use Rattle.vc_process.specs.declared.value_kind.ValueKind.{ValueKind}
use Rattle.vc_process.specs.declared.value_kind.ValueKind.TheVariants as kind
use Rattle.vc_process.specs.declared.value.Value.{Value}
use Rattle.vc_process.specs.declared.value.Value.TheVariants.{Int, Bytes}
use Rattle.vc_process.specs.declared.process.Process.{Process}
use Rattle.vc_process.specs.declared.process.Process.TheVariants.{Skip, Stop, Set, Send, Receive, Stopch, Seq, Par, If, While, Count, Alt}
use Rattle.vc_process.specs.declared.process.Branch.{Branch}
use Rattle.vc_process.specs.declared.process.Guard.{Guard}
use Rattle.vc_plan.specs.declared.channel.Channel.{Channel}
use Rattle.vc_plan.specs.declared.node_plan.Variable.{Variable}
use Rattle.vc_reader.specs.declared.process.ProcessWord.{ProcessWord}
use Rattle.vc_reader.specs.declared.process.ProcessWord.TheVariants as head
use Rattle.vc_reader.specs.declared.path.Step.TheVariants.{Field}
use Rattle.vc_reader.specs.declared.word.Word.{Word}
use Rattle.vc_reader.specs.declared.word.Word.TheVariants as word
use Rattle.vc_reader.specs.declared.fault.Why.TheVariants as why
use Rattle.vc_reader.specs.declared.fault.Fault.{Fault}
use Rattle.vc_reader.specs.Reading.{◌>>=◌, wrong, under, cell, read_list, row, read_text, only, by_only}
use Rattle.vc_reader.specs.Names.{one_of}
use Rattle.vc_reader.specs.Bytes.{read_variable, read_bytes}
use Rattle.vc_reader.specs.Expressions.{whole_expr}
use Rattle.vc_reader.specs.Conditions.{whole_cond}

-- a channel, and a variable, by its number, with its kind; a number past its type's greatest stands as that greatest
abbrev pub channel_named : List Channel → Data → Result (ℕ × ValueKind) Fault
channel_named channels d = one_of (λ c. c.name) channels d >>= λ found. Ok (min found.0 65535, (found.1).kind)

abbrev pub variable_named : List Variable → Data → Result (ℕ × ValueKind) Fault
variable_named vars d = one_of (λ v. v.name) vars d >>= λ found. Ok (min found.0 255, (found.1).kind)

-- what a variable or a channel of that kind takes
abbrev pub read_value : ValueKind → List Variable → Data → Result Value Fault
read_value kind.Int vars d = whole_expr vars d >>= λ e. Ok (Int e)
read_value kind.Bytes vars d = read_bytes vars d >>= λ b. Ok (Bytes b)

-- ---- processes without parts

abbrev pub read_set : List Variable → Data → Result Process Fault
read_set vars d = do
  _ ← row 2 d
  var ← cell 0 (variable_named vars) d
  value ← cell 1 (read_value var.1 vars) d
  Ok (Set var.0 value)

abbrev pub read_send : List Variable → List Channel → Data → Result Process Fault
read_send vars channels d = do
  _ ← row 2 d
  chan ← cell 0 (channel_named channels) d
  value ← cell 1 (read_value chan.1 vars) d
  Ok (Send chan.0 value)

abbrev pub read_receive : List Variable → List Channel → Data → Result Process Fault
read_receive vars channels d = do
  _ ← row 2 d
  chan ← cell 0 (channel_named channels) d
  var ← cell 1 (read_variable chan.1 vars) d
  Ok (Receive chan.0 var)

abbrev pub read_stopch : List Channel → Data → Result Process Fault
read_stopch channels d = channel_named channels d >>= λ chan. Ok (Stopch chan.0)

abbrev pub read_plain : List ℕ → Result Process Fault
read_plain s = if bytes_eq s (codes "skip") then Ok Skip else (if bytes_eq s (codes "stop") then Ok Stop else wrong why.Kind)

-- ---- processes with parts, by the reader of a part

-- a branch: a condition and a process
abbrev pub read_branch : (Data → Result Process Fault) → List Variable → Data → Result Branch Fault
read_branch part vars d = do
  _ ← row 2 d
  cond ← cell 0 (whole_cond vars) d
  body ← cell 1 part d
  Ok (record { cond = cond; body = body })

abbrev pub read_while : (Data → Result Process Fault) → List Variable → Data → Result Process Fault
read_while part vars d = do
  _ ← row 2 d
  cond ← cell 0 (whole_cond vars) d
  body ← cell 1 part d
  Ok (While cond body)

abbrev pub read_count : (Data → Result Process Fault) → List Variable → Data → Result Process Fault
read_count part vars d = do
  _ ← row 4 d
  var ← cell 0 (read_variable kind.Int vars) d
  base ← cell 1 (whole_expr vars) d
  count ← cell 2 (whole_expr vars) d
  body ← cell 3 part d
  Ok (Count var base count body)

abbrev pub read_guard : (Data → Result Process Fault) → List Variable → List Channel → Data → Result Guard Fault
read_guard part vars channels d = do
  _ ← row 4 d
  cond ← cell 0 (whole_cond vars) d
  chan ← cell 1 (channel_named channels) d
  var ← cell 2 (read_variable chan.1 vars) d
  body ← cell 3 part d
  Ok (record { cond = cond; chan = chan.0; var = var; body = body })

-- ---- words

abbrev pub process_word : List ℕ → Result ProcessWord Fault
process_word s =
    if bytes_eq s (codes "set") then Ok head.Set else
    (if bytes_eq s (codes "out") then Ok head.Send else
    (if bytes_eq s (codes "in") then Ok head.Receive else
    (if bytes_eq s (codes "stopch") then Ok head.Stopch else
    (if bytes_eq s (codes "seq") then Ok head.Seq else
    (if bytes_eq s (codes "par") then Ok head.Par else
    (if bytes_eq s (codes "if") then Ok head.If else
    (if bytes_eq s (codes "while") then Ok head.While else
    (if bytes_eq s (codes "for") then Ok head.Count else
    (if bytes_eq s (codes "alt") then Ok head.Alt else wrong why.Unknown)))))))))

abbrev pub field_word : ProcessWord → Word
field_word head.Set = word.Set
field_word head.Send = word.Out
field_word head.Receive = word.In
field_word head.Stopch = word.Stopch
field_word head.Seq = word.Seq
field_word head.Par = word.Par
field_word head.If = word.If
field_word head.While = word.While
field_word head.Count = word.For
field_word head.Alt = word.Alt

-- a process of that word
abbrev pub worded_process : (Data → Result Process Fault) → List Variable → List Channel → ProcessWord → Data → Result Process Fault
worded_process part vars channels head.Set d = read_set vars d
worded_process part vars channels head.Send d = read_send vars channels d
worded_process part vars channels head.Receive d = read_receive vars channels d
worded_process part vars channels head.Stopch d = read_stopch channels d
worded_process part vars channels head.Seq d = read_list (λ _. part) d >>= λ parts. Ok (Seq parts)
worded_process part vars channels head.Par d = read_list (λ _. part) d >>= λ parts. Ok (Par parts)
worded_process part vars channels head.If d = read_list (λ _. read_branch part vars) d >>= λ branches. Ok (If branches)
worded_process part vars channels head.While d = read_while part vars d
worded_process part vars channels head.Count d = read_count part vars d
worded_process part vars channels head.Alt d = read_list (λ _. read_guard part vars channels) d >>= λ guards. Ok (Alt guards)

abbrev pub named_process : (Data → Result Process Fault) → List Variable → List Channel → List ℕ → Data → Result Process Fault
named_process part vars channels s d = process_word s >>= λ w. under (Field (field_word w)) (worded_process part vars channels w d)

-- a text is a process without parts, and an object of one field a process of that word
abbrev pub process_step : (Data → Result Process Fault) → List Variable → List Channel → Data → Result Process Fault
process_step part vars channels (string s) = read_plain s
process_step part vars channels d = by_only (named_process part vars channels) (only d)

-- a process that nests no deeper than so many parts in one another
abbrev pub read_process : ℕ → List Variable → List Channel → Data → Result Process Fault
read_process zero vars channels d = read_text d >>= read_plain
read_process (suc depth) vars channels d = process_step (read_process depth vars channels) vars channels d

-- JSON nests no deeper than 127
abbrev pub whole_process : List Variable → List Channel → Data → Result Process Fault
whole_process vars channels d = read_process 127 vars channels d
