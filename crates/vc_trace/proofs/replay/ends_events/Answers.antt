use Rattle.std.proofs.Common.{◌≡◌, ◌∙◌, codes, inl, inr, sym, true, false}
use Rattle.vc_trace.specs.Replay.{EndsEvents}
use Rattle.vc_trace.proofs.EventTexts.{empty_is, word_is}
use Rattle.vc_trace.proofs.replay.ends_events.Goals.{then-is_empty, else-is_empty}
use Rattle.vc_trace.proofs.replay.ends_events.Goals as goal

pub returns-then-starts_with : goal.returns-then-starts_with
returns-then-starts_with c = (
  λ h. elim c.if-is_empty.branch [
    | then-is_empty w ↦ inl ((empty_is c.args.line.now c.is_empty.result c.is_empty.ensures).0 w.if-is_empty.true)
    | else-is_empty w ↦
        inr (inl ((word_is c.args.line.now w.as_slice.result.now (codes "channel ") w.starts_with.result w.as_slice.ensures w.starts_with.ensures.value).0 (sym w.value-is ∙ c.if-starts_with.true)))
  ],
  λ h. c.if-starts_with.true,
)

pub returns-else-starts_with : goal.returns-else-starts_with
returns-else-starts_with c =
    let line = c.args.line.now in
    let r = c.starts_with-else-starts_with.result in
    let here = word_is line c.as_slice-else-starts_with.result.now (codes "end ") r c.as_slice-else-starts_with.ensures c.starts_with-else-starts_with.ensures.value in (
      λ h. inr (inr (here.0 h)),
      λ (h : EndsEvents line). elim c.if-is_empty.branch [
        | then-is_empty w ↦ (let e : true ≡ false = sym w.if-is_empty.true ∙ sym w.value-is ∙ c.if-starts_with.false in absurd (cc))
        | else-is_empty w ↦ elim h [
          | inl none ↦ (let e : true ≡ false = sym ((empty_is line c.is_empty.result c.is_empty.ensures).1 none) ∙ w.if-is_empty.false in absurd (cc))
          | inr (inl channel) ↦
              (let e : true ≡ false = sym ((word_is line w.as_slice.result.now (codes "channel ") w.starts_with.result w.as_slice.ensures w.starts_with.ensures.value).1 channel) ∙ sym w.value-is ∙ c.if-starts_with.false in absurd (cc))
          | inr (inr end) ↦ here.1 end
        ]
      ],
    )
