use Rattle.std.proofs.Common.{◌≡◌, sym, true, false}
use Rattle.vc_process.specs.Terms.{store}
use Rattle.vc_occam.proofs.find.Task+Frame.begins_with.Goals as goal

pub returns-in-Some : goal.returns-in-Some
returns-in-Some c =
    let both = c.in-Some.ensures.moves (store c.args.vars.now) c.args.made.now (sym c.site_of.ensures) in
    (λ q. both.1 (c.has_move.ensures.0 q), λ q. c.has_move.ensures.1 (both.0 q))

pub returns-in-None : goal.returns-in-None
returns-in-None c = (λ q. let z : false ≡ true = q in cc, λ q. absurd (c.in-None.ensures.moves (store c.args.vars.now) c.args.made.now (sym c.site_of.ensures) q))
