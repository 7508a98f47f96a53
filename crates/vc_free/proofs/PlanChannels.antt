-- What a program comes to outputs on channels of its plan.
use Rattle.std.proofs.Common.{◌≡◌, ℕ, ◌<◌, true, List, length, subst}
use Rattle.std.proofs.lemmas.Option.{slice_get-get_or, slice_get_within}
use Rattle.vc_accepted.specs.Begin.{node_plan, no_node}
use Rattle.vc_machine.proofs.Basics.{every_put}
use Rattle.vc_occam.proofs.UseBounds.{step_in, begin_in}
use Rattle.vc_occam.specs.InUse.{outputs_rest}
use Rattle.vc_occam.specs.SiteActions.{SiteAction}
use Rattle.vc_occam.specs.States.{State, StepsTo}
use Rattle.vc_occam.specs.Traces.{Comm}
use Rattle.vc_packets.specs.Functions.{put}
use Rattle.vc_placement.proofs.Ends.{output_use}
use Rattle.vc_plan.specs.Accepted.{IsAccepted}
use Rattle.vc_plan.specs.Limits.{kinds_of}
use Rattle.vc_plan.specs.declared.plan.Plan.{Plan}
use Rattle.vc_process.specs.Lawful.{outputs}
use Rattle.vc_process.specs.Numbering.{written}
use Rattle.vc_process.specs.Syntax.{Proc}
use Rattle.vc_program.specs.Program.{Program, Move, Makes, goes, stops, passes, MakesAll, no_more, one_more, Reaches}

module _ (p : Plan) where
  abbrev process_of : ℕ → Proc
  process_of n = written (node_plan p n).process

  -- each part outputs only on channels on which its process does as it is written
  abbrev Within : (ℕ → State) → Type 0
  Within part = (n c : ℕ) → outputs_rest (part n).rest c ≡ true → outputs (process_of n) c ≡ true

  within_put : (part : ℕ → State) {n i : ℕ} {d : SiteAction} {ks : List Comm} {t : State} → Within part → StepsTo (part n) i d ks t → Within (put part n t)
  within_put part {n} {t = t} h st = every_put (λ j (z : State). (c : ℕ) → outputs_rest z.rest c ≡ true → outputs (process_of j) c ≡ true) part n t (λ c o. h n c ((step_in st).output c o)) (λ j ne. h j)

  within_move : {s t : Program} {m : Move} → Within s.part → Makes p s m t → Within t.part
  within_move {s} h (goes n i t few st) = within_put s.part h st
  within_move {s} h (stops n i c t few st) = within_put s.part h st
  within_move {s} h (passes c n i m j k x y a b d few few2 free one two three) = within_put (put (put s.part n a) m b) (within_put (put s.part n a) (within_put s.part h one) two) three

  within_moves : {s t : Program} {ms : List Move} → Within s.part → MakesAll p s ms t → Within t.part
  within_moves h no_more = h
  within_moves h (one_more st rest) = within_moves (within_move h st) rest

  pub is_declared : (ms : List Move) (s : Program) → IsAccepted p → Reaches p ms s → (n c : ℕ) → n < length p.nodes → outputs_rest (s.part n).rest c ≡ true → c < length p.channels
  is_declared ms s acc h n c few o =
      let (k, u, there, chan, is) = output_use (kinds_of (node_plan p n).vars) c (process_of n) (within_moves (λ j d g. (begin_in (process_of j)).output d g) h n c o) in
      let r = acc.uses n k (node_plan p n) u (slice_get-get_or p.nodes n no_node few) there in
      subst (λ z. z < length p.channels) chan (slice_get_within p.channels u.chan r.channel r.there)
