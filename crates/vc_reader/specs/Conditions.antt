-- What a condition means.
use Rattle.std.specs.Prelude.{ℕ, zero, suc, List, if◌then◌else◌, codes, Result, Ok}
use Rattle.std.specs.Str.{bytes_eq}
use Rattle.serde_json.specs.Data.{Data, boolean, array}
use Rattle.vc_process.specs.declared.relation.Rel.{Rel}
use Rattle.vc_process.specs.declared.relation.Rel.TheVariants.{Eq, Ne, Lt, Gt, Le, Ge}
use Rattle.vc_process.specs.declared.condition.Cond.{Cond}
use Rattle.vc_process.specs.declared.condition.Cond.TheVariants.{Always, Cmp, And, Or, Not}
use Rattle.vc_plan.specs.declared.node_plan.Variable.{Variable}
use Rattle.vc_reader.specs.declared.condition.CondWord.{CondWord}
use Rattle.vc_reader.specs.declared.condition.CondWord.TheVariants as word
use Rattle.vc_reader.specs.declared.fault.Why.TheVariants as why
use Rattle.vc_reader.specs.declared.fault.Fault.{Fault}
use Rattle.vc_reader.specs.Reading.{◌>>=◌, wrong, cell, row, read_text}
use Rattle.vc_reader.specs.Expressions.{head, whole_expr}

-- the word at the head of a list, which says what the list is
abbrev pub cond_word : Data → Result CondWord Fault
cond_word d = read_text d >>= λ s.
    if bytes_eq s (codes "=") then Ok (word.Compare Eq) else
    (if bytes_eq s (codes "<>") then Ok (word.Compare Ne) else
    (if bytes_eq s (codes "<") then Ok (word.Compare Lt) else
    (if bytes_eq s (codes ">") then Ok (word.Compare Gt) else
    (if bytes_eq s (codes "<=") then Ok (word.Compare Le) else
    (if bytes_eq s (codes ">=") then Ok (word.Compare Ge) else
    (if bytes_eq s (codes "and") then Ok word.Both else
    (if bytes_eq s (codes "or") then Ok word.Either else
    (if bytes_eq s (codes "not") then Ok word.Neither else wrong why.Kind))))))))

-- TRUE or FALSE
abbrev pub plain_cond : Data → Result Cond Fault
plain_cond (boolean b) = Ok (Always b)
plain_cond d = wrong why.Kind

abbrev pub read_comparison : List Variable → Rel → Data → Result Cond Fault
read_comparison vars rel d = do
  _ ← row 3 d
  left ← cell 1 (whole_expr vars) d
  right ← cell 2 (whole_expr vars) d
  Ok (Cmp rel left right)

abbrev pub read_both : (Data → Result Cond Fault) → Data → Result Cond Fault
read_both part d = do
  _ ← row 3 d
  left ← cell 1 part d
  right ← cell 2 part d
  Ok (And left right)

abbrev pub read_either : (Data → Result Cond Fault) → Data → Result Cond Fault
read_either part d = do
  _ ← row 3 d
  left ← cell 1 part d
  right ← cell 2 part d
  Ok (Or left right)

abbrev pub read_not : (Data → Result Cond Fault) → Data → Result Cond Fault
read_not part d = do
  _ ← row 2 d
  cond ← cell 1 part d
  Ok (Not cond)

abbrev pub worded_cond : (Data → Result Cond Fault) → List Variable → CondWord → Data → Result Cond Fault
worded_cond part vars (word.Compare rel) d = read_comparison vars rel d
worded_cond part vars word.Both d = read_both part d
worded_cond part vars word.Either d = read_either part d
worded_cond part vars word.Neither d = read_not part d

abbrev pub cond_step : (Data → Result Cond Fault) → List Variable → Data → Result Cond Fault
cond_step part vars (array ds) = head cond_word (array ds) >>= λ w. worded_cond part vars w (array ds)
cond_step part vars d = plain_cond d

-- a condition that nests no deeper than so many parts in one another
abbrev pub read_cond : ℕ → List Variable → Data → Result Cond Fault
read_cond zero vars d = plain_cond d
read_cond (suc depth) vars d = cond_step (read_cond depth vars) vars d

-- JSON nests no deeper than 127
abbrev pub whole_cond : List Variable → Data → Result Cond Fault
whole_cond vars d = read_cond 127 vars d
