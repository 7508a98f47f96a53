use Rattle.std.proofs.Common.{◌++◌, [], ◌∷◌, sym, subst, append-nil}
use Rattle.vc_machine.specs.PacketsOfTokens.{read}
use Rattle.vc_tokens.specs.CodeTokens.{token}
use Rattle.vc_core.specs.Private.Targets.{HasRead, left}
use Rattle.vc_core.specs.declared.reader.Reader.{Reader}
use Rattle.vc_core.proofs.reader.Reader.with.Goals as goal

pub returns-in-Byte : goal.returns-in-Byte
returns-in-Byte c = λ p c' w ps got is h.
    let r : Reader = record { way = c.args.self.way; ends = c.args.self.ends; prefix = c.with.result; found = c.args.self.found } in
    subst (λ t. HasRead p c' w (ps ++ read got (token t ∷ [])) (left got (token t ∷ [])) r) (sym c.in-Byte.is)
    (subst (λ qs. HasRead p c' w qs (got ++ c.in-Byte.byte ∷ []) r) (sym (append-nil ps)) (record { way = h.way; real = h.real; ends = h.ends; prefix = c.with.ensures got h.prefix; found = h.found }))

pub returns-in-Eop : goal.returns-in-Eop
returns-in-Eop c = λ p c' w ps got is h.
    subst (λ t. HasRead p c' w (ps ++ read got (token t ∷ [])) (left got (token t ∷ [])) c.ended.result) (sym c.in-Eop.is) (c.ended.ensures p c' w ps got is h)

pub returns-in-Eom : goal.returns-in-Eom
returns-in-Eom c = λ p c' w ps got is h.
    subst (λ t. HasRead p c' w (ps ++ read got (token t ∷ [])) (left got (token t ∷ [])) c.ended-in-Eom.result) (sym c.in-Eom.is) (c.ended-in-Eom.ensures p c' w ps got is h)

pub returns-in-Fct : goal.returns-in-Fct
returns-in-Fct c = λ p c' w ps got is h.
    subst (λ t. HasRead p c' w (ps ++ read got (token t ∷ [])) (left got (token t ∷ [])) c.args.self) (sym c.in-Fct.is) (subst (λ qs. HasRead p c' w qs got c.args.self) (sym (append-nil ps)) h)
