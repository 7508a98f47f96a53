use Rattle.std.proofs.Common.{◌≡◌, ◌++◌, ◌∷◌, [], sym, ap, ◌∙◌, true, not, if◌then◌else◌}
use Rattle.vc_blocks.proofs.Logs.{rise-joined, cut-joined, on_went}
use Rattle.std.specs.Result.{is_ok}
use Rattle.vc_blocks.proofs.message_log.MessageLog.push_joined.Goals as goal

-- the second part went too, and the end
second : (c : goal.Else-is_err-2) → c.extend_from_slice-2.new.self.items ≡ c.extend_from_slice.new.self.items ++ c.args.back.now
second c =
    let went : is_ok c.extend_from_slice-2.result ≡ true = c.is_err.ensures.negation ∙ ap not c.if-is_err.false in
    c.extend_from_slice-2.ensures.items ∙ ap (λ b. if b then c.extend_from_slice.new.self.items ++ c.args.back.now else c.extend_from_slice.new.self.items) went

more : (c : goal.Else-is_err-2) → c.push.new.self ≡ c.self.inside.ends ++ c.len.result ∷ []
more c = on_went c.push.result (sym c.if-is_err-2.false ∙ c.is_err-else-is_err.ensures.value) c.push.ensures.ok

pub invariant_of-self-else-is_err-2 : goal.invariant_of-self-else-is_err-2
invariant_of-self-else-is_err-2 c =
    let x = c.self.inside in
    let two = c.extend_from_slice-2.new.self in
    rise-joined x.bytes.items c.extend_from_slice.new.self.items two.items c.args.front.now c.args.back.now x.ends c.push.new.self c.len.result c.self.invariant c.in_ok-extend_from_slice.ensures.items (second c) (c.len.ensures ∙ two.ok.0) (more c)

pub returns-clause-ok : goal.returns-clause-ok
returns-clause-ok c =
    let x = c.self.inside in
    let two = c.extend_from_slice-2.new.self in
    cut-joined x.bytes.items c.extend_from_slice.new.self.items two.items c.args.front.now c.args.back.now x.ends c.push.new.self c.args.self.now c.len.result c.self.invariant c.in_ok-extend_from_slice.ensures.items (second c) (c.len.ensures ∙ two.ok.0) (more c) c.self.view_is
