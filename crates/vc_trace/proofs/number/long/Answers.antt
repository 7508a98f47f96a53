use Rattle.std.proofs.Common.{◌^◌, ◌<◌, ℕ, ap, ◌∙◌, sym, subst, decimal, arith}
use Rattle.std.specs.Result.{result_ok}
use Rattle.std.specs.Str.{IsUtf8}
use Rattle.std.proofs.lemmas.Fmt.{IsAscii-decimal, parse-decimal}
use Rattle.std.proofs.lemmas.Str.{IsUtf8-from_ascii}
use Rattle.vc_trace.proofs.number.long.Goals as goal

utf8 : (n : ℕ) → n < 2 ^ 32 → IsUtf8 (decimal n)
utf8 n less = IsUtf8-from_ascii _ (IsAscii-decimal n (omega arith))

pub returns-in_default : goal.returns-in_default
returns-in_default c = λ n less is. absurd (c.in_default.ensures.cases.0 (subst IsUtf8 (sym is) (utf8 n less)))

pub returns : goal.returns
returns c = λ n less is.
    c.ok.ensures.value ∙ ap result_ok (parse-decimal 32 n c.in-Ok.text.now c.parse.result less (omega arith) (c.in-Ok.ensures.cases.0 ∙ is) c.parse.ensures.value.0)
