use Rattle.std.proofs.Common.{◌≡◌, ◌∙◌, ◌++◌, ap, length, sym}
use Rattle.vc_occam.specs.First.{joined, own}
use Rattle.vc_occam.specs.Frames.{view}
use Rattle.vc_occam.specs.Private.Frames.{shown}
use Rattle.vc_process.specs.Terms.{store}
use Rattle.vc_process.specs.Usage.{among}
use Rattle.vc_occam.proofs.Alone.{met_after, met_of_turned, two_own}
use Rattle.vc_occam.proofs.frame_moves.Par+Frame.only_meeting.Goals as goal

pub returns-in-Some : goal.returns-in-Some
returns-in-Some c =
    let ts = c.args.self.now.tasks in
    let e = store c.args.vars.now in
    let two : length ts.items ≡ 2 = sym ts.ok.0 ∙ sym c.len.ensures ∙ c.if-len-ne2.false in
    let both = two_own ts.items c.index.result.now c.index-2.result.now e two c.index.ensures c.index-2.ensures in
    let first = (view c.in_ok-first.first.now).rest in
    let same = both ∙ ap (λ ms. ms ++ own (shown c.index-2.result.now).rest e) (c.in_ok-first.ensures e) ∙ ap (λ ms. own first e ++ ms) (c.in_ok-second.ensures e) in
    ap (λ ms. joined (among c.args.inside.now) ms ms) same ∙ met_after (among c.args.inside.now) _ _ c.in-Some.met c.in-Some.ensures

pub returns-in-None : goal.returns-in-None
returns-in-None c =
    let ts = c.args.self.now.tasks in
    let e = store c.args.vars.now in
    let two : length ts.items ≡ 2 = sym ts.ok.0 ∙ sym c.len.ensures ∙ c.if-len-ne2.false in
    let both = two_own ts.items c.index.result.now c.index-2.result.now e two c.index.ensures c.index-2.ensures in
    let first = (view c.in_ok-first.first.now).rest in
    let same = both ∙ ap (λ ms. ms ++ own (shown c.index-2.result.now).rest e) (c.in_ok-first.ensures e) ∙ ap (λ ms. own first e ++ ms) (c.in_ok-second.ensures e) in
    met_of_turned c.meeting_with-in-None.result (among c.args.inside.now) _ _ _ same c.meeting_with-in-None.ensures
