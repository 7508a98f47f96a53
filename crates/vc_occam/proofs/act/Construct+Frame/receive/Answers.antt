use Rattle.std.proofs.Common.{subst, sym}
use Rattle.vc_occam.specs.declared.frame.Construct.TheVariants as run
use Rattle.vc_occam.specs.declared.outcome.Outcome.{Outcome}
use Rattle.vc_occam.specs.Private.Frames.{Went, alt_shape, input_shape, seen_guards, unstopped}
use Rattle.vc_occam.specs.Private.SiteSteps.{message_at}
use Rattle.vc_process.specs.Terms.{store}
use Rattle.vc_occam.proofs.SiteActs.{can_as, went_as}
use Rattle.vc_occam.proofs.GuardChoice.{message_got, message_has}
use Rattle.vc_occam.proofs.OwnSite.{no_message}
use Rattle.vc_occam.proofs.ProcessStep.{input_got, received_there}
use Rattle.vc_occam.proofs.act.Construct+Frame.receive.Goals as goal

pub take-requires : goal.take-requires
take-requires c =
    let i = c.requires.can.0 in
    let n = c.in-Receive.input in
    let vars = c.args.vars.now.items in
    let step = message_at i c.args.message in
    record { variable = received_there step i n.chan n.var n.begun vars (can_as step i c.args.self.now (run.Receive n) vars c.in-Receive.is c.requires.can.1) }

pub take-requires-in-Taken-clause-there : goal.take-requires-in-Taken-clause-there
take-requires-in-Taken-clause-there c =
    let i = c.requires.can.0 in
    let a = c.in-Alt.alt in
    let vars = c.args.vars.now.items in
    message_has i c.args.message i (seen_guards a) a.choice c.in-Taken.place vars c.in-Taken.is (can_as (message_at i c.args.message) i c.args.self.now (run.Alt a) vars c.in-Alt.is c.requires.can.1)

pub returns-in-Receive-clause-received : goal.returns-in-Receive-clause-received
returns-in-Receive-clause-received c = λ i can.
    let n = c.in-Receive.input in
    let vars = c.args.vars.now.items in
    let k = c.args.self.now in
    let m = c.args.message in
    let step = message_at i m in
    let w = unstopped i (input_shape n) in
    let f = store c.take.new.vars.items in
    let can_do = can_as step i k (run.Receive n) vars c.in-Receive.is can in
    went_as step i k (run.Receive n) (store vars) c.take.result w f c.in-Receive.is
    (subst (λ (o : Outcome). Went step w (store vars) o w f) (sym c.take.ensures.ended) (input_got i i n.chan n.var n.begun vars m f can_do c.take.ensures.value))

pub returns-in-Taken-clause-received : goal.returns-in-Taken-clause-received
returns-in-Taken-clause-received c = λ i can.
    let a = c.in-Alt.alt in
    let vars = c.args.vars.now.items in
    let k = c.args.self.now in
    let m = c.args.message in
    let t = c.take-in-Taken in
    let step = message_at i m in
    let can_do = can_as step i k (run.Alt a) vars c.in-Alt.is can in
    went_as step i k (run.Alt a) (store vars) t.result (unstopped i (alt_shape t.new.self)) (store t.new.vars.items) c.in-Alt.is
    (message_got i m i (seen_guards a) a.choice c.in-Taken.place vars t.result (alt_shape t.new.self) (store t.new.vars.items) c.in-Taken.is can_do t.ensures.got)

pub returns-in_default : goal.returns-in_default
returns-in_default c =
    let i = c.requires.can.0 in
    absurd (no_message i c.args.self.now (store c.args.vars.now.items) i c.args.message c.requires.itself c.requires.can.1.able c.in_default.not-Receive c.in_default.not-Alt)
