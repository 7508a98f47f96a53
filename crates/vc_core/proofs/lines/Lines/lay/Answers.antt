use Rattle.std.proofs.Common.{take, ap, ◌++◌, ◌∙◌, get_or}
use Rattle.std.proofs.lemmas.Option.{slice_get-get_or}
use Rattle.vc_tokens.specs.CodeTokens.{tokens as all_spelt}
use Rattle.vc_tokens.specs.declared.token.Token.{Token}
use Rattle.vc_tokens.specs.declared.token.Token.TheVariants.{Byte}
use Rattle.vc_core.specs.Private.Lines.{with_way}
use Rattle.vc_core.proofs.TokensOnWays.{none_laid, one_laid, stand_now, there_still}
use Rattle.vc_core.proofs.ReplayRuns.{all_taken}
use Rattle.vc_core.proofs.lines.Lines.lay.Goals as goal
use Rattle.vc_switch.proofs.ListWrites.{some_at}

pub loop-token-init : goal.loop-token-init
loop-token-init c = record { within = c.requires; laid = none_laid c.args.self.now c.args.way }

pub loop-token-preserved : goal.loop-token-preserved
loop-token-preserved c =
    let old = c.args.self.now in
    let x = c.loop-token.self in
    let way = c.args.way in
    let i = c.loop-token.token-index in
    let line = c.args.tokens.now in
    let t : Token = get_or line i (Byte 0) in
    let here = some_at x.ways way c.loop-token.invariant.within in
    let ok = c.in_ok-push.ensures.ok in
    record {
      within = there_still x c.push.new.self way way _ c.loop-token.invariant.within (ok here.0 here.1);
      laid = λ ts stand.
          let is = c.loop-token.invariant.laid ts stand in
          let stands = stand_now old x way (ts ++ all_spelt (take i line)) c.requires is in
          one_laid old x c.push.new.self way i ts line t (slice_get-get_or line i (Byte 0) c.loop-token-test.true) is (ok (ts ++ all_spelt (take i line)) stands);
    }

pub returns : goal.returns
returns c = λ ts stand.
    c.loop-token.invariant.laid ts stand ∙ ap (λ line. with_way c.args.self.now c.args.way (ts ++ all_spelt line)) (all_taken c.args.tokens.now c.loop-token.token-index c.loop-token-test.false)
