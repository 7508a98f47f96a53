use Rattle.std.proofs.Common.{◌≡◌, ◌∙◌, ◌++◌, ap, sym, List, ℕ}
use Rattle.vc_process.specs.declared.datum.Datum.{Datum}
use Rattle.vc_occam.specs.declared.moves.Move.{Move}
use Rattle.vc_occam.specs.First.{joined, own}
use Rattle.vc_occam.specs.Frames.{remains}
use Rattle.vc_occam.specs.Runnings.{state, inner_channels, moves}
use Rattle.vc_process.specs.Terms.{store}
use Rattle.vc_process.specs.Usage.{among}
use Rattle.vc_occam.proofs.NoInnerChannels.{all_listed, unjoined}
use Rattle.vc_occam.proofs.running.Running.push_actions.Goals as goal

pub returns-then-is_empty : goal.returns-then-is_empty
unfolding state inner_channels
returns-then-is_empty c =
    let self = c.args.self.now in
    let r = remains self.task in
    let ms = own r (store self.vars.items) in
    let none = c.is_empty.ensures.0 c.if-is_empty.true in
    let alone : joined (among self.inside) ms ms ≡ ms = ap (λ (xs : List ℕ). joined (among xs) ms ms) none ∙ unjoined ms ms in
    let same = ap (λ (xs : List Datum). own r (store xs)) c.deref.ensures.value in
    all_listed c.push_moves.result c.args.found.now c.push_moves.new.found (own r (store c.deref.result.now)) (moves self) (ap (λ (xs : List Move). xs ++ own r (store c.deref.result.now)) c.requires ∙ same ∙ sym alone) c.push_moves.ensures
