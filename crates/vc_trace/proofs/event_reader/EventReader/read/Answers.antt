use Rattle.std.proofs.Common.{◌≡◌, ◌∙◌, Some, refl, subst, sym}
use Rattle.std.proofs.lemmas.Slice.Eq.{bytes_eq-Decides}
use Rattle.vc_plan.specs.declared.plan.Plan.{Plan}
use Rattle.vc_trace.specs.EventText.{event_line}
use Rattle.vc_trace.proofs.event_reader.EventReader.read.Goals as goal
use Rattle.vc_core.proofs.Turns.{same_some}

pub returns-then-branch-clause-reads : goal.returns-then-branch-clause-reads
returns-then-branch-clause-reads c = λ p reader.
    let e = c.in-Some.event in
    let same = (bytes_eq-Decides _ _).0 (sym c.in_ok-is_line_of.ensures ∙ c.if-branch.true) in (
      subst (λ (q : Plan). event_line q e ≡ c.args.line.now) reader.plan same,
      λ named f is line. same_some (Some e) e f refl (c.in-Some.ensures p (reader.names named) f is line),
    )
