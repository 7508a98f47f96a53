use Rattle.std.proofs.Common.{◌≡◌, ◌+◌, ◌++◌, [], ◌∷◌, take, get_or, sym, ap, ◌∙◌, subst, arith, add-one}
use Rattle.std.proofs.lemmas.List.{map-append}
use Rattle.std.proofs.lemmas.Option.{slice_get-get_or}
use Rattle.vc_machine.specs.PacketsOfTokens.{read}
use Rattle.vc_tokens.specs.CodeTokens.{token, tokens}
use Rattle.vc_tokens.specs.declared.token.Token.{Token}
use Rattle.vc_tokens.specs.declared.token.Token.TheVariants.{Byte}
use Rattle.vc_core.specs.Private.Targets.{HasRead, left}
use Rattle.vc_core.proofs.Membership.{through_more}
use Rattle.vc_core.proofs.ReplayRuns.{take_more, all_taken}
use Rattle.vc_core.proofs.reader.Reader.through.Goals as goal

pub loop-token-preserved : goal.loop-token-preserved
loop-token-preserved c = λ p c' w ps got is h.
    let xs = c.args.tokens.now in
    let k = c.loop-token.token-index in
    let t : Token = get_or xs k (Byte 0) in
    let there = slice_get-get_or xs k (Byte 0) c.loop-token-test.true in
    let more : tokens (take k xs) ++ token t ∷ [] ≡ tokens (take (k + 1) xs) = sym (ap tokens (ap (λ n. take n xs) (add-one k) ∙ take_more xs k t there) ∙ map-append token (take k xs) (t ∷ [])) in
    let r = c.with-reader.result in
    subst (λ ts. HasRead p c' w (ps ++ read got ts) (left got ts) r) more
    (through_more p c' w ps got (tokens (take k xs)) (token t ∷ []) r (c.with-reader.ensures p c' w (ps ++ read got (tokens (take k xs))) (left got (tokens (take k xs))) is (c.loop-token.invariant p c' w ps got is h)))

pub returns : goal.returns
returns c = λ p c' w ps got is h.
    let past = c.loop-token-test.false in
    subst (λ ts. HasRead p c' w (ps ++ read got (tokens ts)) (left got (tokens ts)) c.loop-token.reader) (all_taken c.args.tokens.now c.loop-token.token-index (omega arith)) (c.loop-token.invariant p c' w ps got is h)
