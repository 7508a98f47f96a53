use Rattle.std.proofs.Common.{◌≡◌, ◌∙◌, ap, sym, List, Option, Some, None, ℕ, true, false}
use Rattle.std.specs.List.{Contains}
use Rattle.std.specs.Prelude.{IfSome}
use Rattle.vc_process.specs.declared.datum.Datum.{Datum}
use Rattle.vc_occam.specs.declared.moves.Move.{Move}
use Rattle.vc_occam.specs.First.{joined, own}
use Rattle.vc_occam.specs.Frames.{remains}
use Rattle.vc_occam.specs.MoveSites.{from_site}
use Rattle.vc_occam.specs.Runnings.{state, inner_channels}
use Rattle.vc_process.specs.Terms.{store}
use Rattle.vc_process.specs.Usage.{among}
use Rattle.vc_occam.proofs.Sought.{from_listed, none_inside}
use Rattle.vc_occam.proofs.NoInnerChannels.{unjoined}
use Rattle.vc_occam.proofs.running.Running.first_from.Goals as goal

pub returns-then-not-is_empty-clause-first : goal.returns-then-not-is_empty-clause-first
unfolding state inner_channels
returns-then-not-is_empty-clause-first c = λ none.
    let z : true ≡ false = sym (c.is_empty.ensures.1 (none_inside c.args.self.now.inside none)) ∙ c.if-not-is_empty.true in
    absurd cc

pub returns-clause-first : goal.returns-clause-first
unfolding state inner_channels
returns-clause-first c = λ none.
    let self = c.args.self.now in
    let ms = own (remains self.task) (store self.vars.items) in
    let alone : joined (among self.inside) ms ms ≡ ms = ap (λ (xs : List ℕ). joined (among xs) ms ms) (none_inside self.inside none) ∙ unjoined ms ms in
    c.first_from.ensures ∙ ap (λ (xs : List Datum). from_site c.args.site (own (remains self.task) (store xs))) c.deref.ensures.value ∙ ap (from_site c.args.site) (sym alone)

some_listed : (i : ℕ) (ms : List Move) (o : Option Move) → o ≡ from_site i ms → IfSome o (λ m. Contains ms m)
some_listed i ms None h = tt
some_listed i ms (Some m) h = from_listed i ms m (sym h)

pub returns-clause-listed : goal.returns-clause-listed
unfolding state inner_channels
returns-clause-listed c =
    let self = c.args.self.now in
    let ms = own (remains self.task) (store self.vars.items) in
    let none = c.is_empty.ensures.0 c.if-not-is_empty.false in
    let alone : joined (among self.inside) ms ms ≡ ms = ap (λ (xs : List ℕ). joined (among xs) ms ms) none ∙ unjoined ms ms in
    some_listed c.args.site _ c.first_from.result (c.first_from.ensures ∙ ap (λ (xs : List Datum). from_site c.args.site (own (remains self.task) (store xs))) c.deref.ensures.value ∙ ap (from_site c.args.site) (sym alone))
