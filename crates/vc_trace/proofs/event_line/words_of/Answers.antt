use Rattle.std.proofs.Common.{List, ℕ, ◌++◌, ◌∙◌, codes}
use Rattle.std.specs.Borrow.{Bor}
use Rattle.vc_trace.proofs.LineWords.{at_end, before_end, behind_front}
use Rattle.vc_trace.proofs.event_line.words_of.Goals as goal

pub returns-in_err-strip_suffix : goal.returns-in_err-strip_suffix
returns-in_err-strip_suffix c = λ words whole.
    absurd (at_end (codes "event" ++ words) c.args.line.now c.as_slice.result.now whole c.as_slice.ensures c.in_err-strip_suffix.ensures.cases)

pub returns : goal.returns
returns c = λ words whole.
    let line = c.in_ok-strip_suffix.field-0.now in
    let here = c.in_ok-strip_suffix.ensures.cases.1 ∙ before_end (codes "event" ++ words) c.args.line.now c.as_slice.result.now whole c.as_slice.ensures in
    behind_front (λ (found : Bor (List ℕ)). found.now) c.strip_prefix.result (codes "event") words line c.as_slice-2.result.now here c.as_slice-2.ensures c.strip_prefix.ensures.cases
