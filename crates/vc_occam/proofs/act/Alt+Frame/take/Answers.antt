use Rattle.std.proofs.Common.{◌≡◌, ◌<◌, ℕ, arith, length, map, subst, sym, List}
use Rattle.std.specs.Prelude.{slice_get}
use Rattle.std.proofs.lemmas.List.{length-map, map-set}
use Rattle.std.proofs.lemmas.Option.{slice_get_within}
use Rattle.vc_process.specs.Messages.{received}
use Rattle.vc_process.specs.Terms.{store}
use Rattle.vc_occam.specs.Traces.{set as set_to}
use Rattle.vc_occam.specs.declared.frame.Choice.TheVariants.{Within}
use Rattle.vc_occam.specs.declared.frame.Frame.{Frame}
use Rattle.vc_occam.specs.declared.frame.Guard.{Guard}
use Rattle.vc_occam.specs.Frames.{View, guarded, guarding, view}
use Rattle.vc_occam.specs.Private.Frames.{HasGot, HasGuard, seen_guard, seen_guards}
use Rattle.vc_occam.proofs.Bodies.{guard_body}
use Rattle.vc_occam.proofs.GuardChoice.{bodies_sound, guard_got, the_guard}
use Rattle.vc_occam.proofs.PartSteps.{part_is_sound}
use Rattle.vc_occam.proofs.Views.{map_get}
use Rattle.vc_occam.proofs.act.Alt+Frame.take.Goals as goal

-- the place is one of a guard
among : (gs : List (Guard Frame)) (k n : ℕ) → HasGuard (map seen_guard gs) k n → k < length gs
among gs k n (g, is, l) = let z = slice_get_within (map seen_guard gs) k g is in let m = length-map gs seen_guard in omega arith

pub start-requires : goal.start-requires
start-requires c =
    let s = c.args.self.now in
    let k = c.args.place in
    let f = c.index_mut.result.now in
    let l = among s.guards.items k (length c.args.vars.now.items) c.requires.there in
    let is = map_get seen_guard s.guards.items k f l c.index_mut.ensures.value in
    record { sound = part_is_sound (guarded (seen_guards s)) k (view f.body) (guard_body (seen_guards s) k (seen_guard f) is) (bodies_sound 0 (seen_guards s) s.choice k (seen_guard f) c.requires.sound is) }

pub returns-clause-got : goal.returns-clause-got
returns-clause-got c =
    let s = c.args.self.now in
    let k = c.args.place in
    let gs = seen_guards s in
    let e = store c.args.vars.now.items in
    let f = c.index_mut.result.now in
    let l = among s.guards.items k (length c.args.vars.now.items) c.requires.there in
    let is = map_get seen_guard s.guards.items k f l c.index_mut.ensures.value in
    let same = the_guard (slice_get gs k) (seen_guard c.index.result.now) (seen_guard f) (map_get seen_guard s.guards.items k c.index.result.now l c.index.ensures) is in
    let value = subst (λ (g : Guard View). store c.put.new.vars.items ≡ set_to e g.var (received (e g.var) c.args.message)) same c.put.ensures.value in
    let new : Guard Frame = record { cond = f.cond; chan = f.chan; var = f.var; body = c.start.new.self } in
    subst (λ cs. HasGot k c.args.message gs e c.start.result (guarding cs (Within k)) (store c.put.new.vars.items)) (sym (map-set seen_guard s.guards.items k new))
    (guard_got 0 gs s.choice k (seen_guard f) c.requires.sound is (view c.start.new.self) c.start.result c.args.message e (store c.put.new.vars.items) c.start.ensures.begun c.start.ensures.outcome value)
