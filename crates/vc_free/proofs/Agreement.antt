-- A program is never stuck by lists of communications exactly if it is by its moves: where no move can be made, nothing goes on.
use Rattle.std.proofs.Common.{◌≡◌, ◌≢◌, ◌⊎◌, inl, inr, ℕ, zero, suc, ◌≤◌, ◌<◌, Bool, true, false, List, [], ◌∷◌, length, Option, Some, None, refl, sym, ap, subst, ◌∙◌, arith}
use Rattle.std.proofs.lemmas.Bool.{cases_eq}
use Rattle.std.specs.List.{Contains}
use Rattle.vc_accepted.specs.Alone.{GoesAlone}
use Rattle.vc_free.proofs.ByMoves.{schedules_are_lists}
use Rattle.vc_free.proofs.Begun.{Offering}
use Rattle.vc_free.proofs.Schedules.{never_by_lists}
use Rattle.vc_free.specs.NeverStuck.{NeverStuck, ProgramAndListsAgree, shown_by}
use Rattle.vc_free.specs.Rest.{NothingGoesOn, TakesFrom}
use Rattle.vc_machine.proofs.Basics.{put-same, put-other}
use Rattle.vc_occam.proofs.GoingOn.{finishes}
use Rattle.vc_occam.proofs.Insertion.{is_inserted}
use Rattle.vc_occam.proofs.Made.{able, began, IsTaking}
use Rattle.vc_occam.proofs.MoveActs.{says}
use Rattle.vc_occam.proofs.StepWaits.{step_waits}
use Rattle.vc_occam.specs.First.{own}
use Rattle.vc_occam.specs.Private.MoveSites.{partner}
use Rattle.vc_occam.specs.Remains.{Rest, Done, Stopped, Fresh, Finishing, Getting, Then, Turns, Beside, Step}
use Rattle.vc_occam.specs.SiteActions as action
use Rattle.vc_occam.specs.States.{State, StepsTo, meeting, waiting, output}
use Rattle.vc_occam.specs.Traces.{Out, Fin, In, Stp}
use Rattle.vc_occam.specs.declared.answer.Answer.TheVariants.{Nothing, Got}
use Rattle.vc_occam.specs.declared.moves.Move.{Move}
use Rattle.vc_occam.specs.declared.moves.Move.TheVariants as move
use Rattle.vc_packets.specs.Functions.{put}
use Rattle.vc_plan.specs.Accepted.{IsAccepted}
use Rattle.vc_plan.specs.declared.plan.Plan.{Plan}
use Rattle.vc_process.specs.Messages.{message}
use Rattle.vc_process.specs.Values.{Store}
use Rattle.vc_process.specs.declared.datum.Datum.{Datum}
use Rattle.vc_program.specs.Program as program
use Rattle.vc_program.specs.Program.{Program, Goes, Stops, Passes, goes, stops, passes, Reaches, IsQuiet, HasEnded}

abbrev state : Rest → Store → State
state r e = record { rest = r; store = e }

-- what is listed can be made
quiet_step : (s : State) (i : ℕ) → Contains (own s.rest s.store) (move.Quiet i) → (t : State) × StepsTo s i action.Quiet [] t
quiet_step s i k = let x = able s.rest s.store (move.Quiet i) Nothing k in (state x.1 x.2, subst (λ z. Step s.rest s.store i action.Quiet z x.1 x.2) (says x.3) x.3)

stop_step : (s : State) (i c : ℕ) → Contains (own s.rest s.store) (move.Stopch i c) → (t : State) × StepsTo s i (action.StopChannel c) (Stp c ∷ []) t
stop_step s i c k = let x = able s.rest s.store (move.Stopch i c) Nothing k in (state x.1 x.2, subst (λ z. Step s.rest s.store i (action.StopChannel c) z x.1 x.2) (says x.3) x.3)

offer_step : (s : State) (i c : ℕ) → Contains (own s.rest s.store) (move.Offer i c) → (x : Datum) × (t : State) × Offering s i c x t
offer_step s i c k =
    let x = able s.rest s.store (move.Offer i c) Nothing k in
    let w = says x.3 in
    (w.0, state x.1 x.2, subst (λ z. Step s.rest s.store i (action.Offer c) z x.1 x.2) w.1 x.3)

take_step : (k : Option ℕ) (s : State) (j c : ℕ) (l : List ℕ) → Contains (own s.rest s.store) (partner j k c) → (y : Datum) × (t : State) × StepsTo s j (meeting k c l) (In c y ∷ []) t
take_step None s j c l h =
    let x = able s.rest s.store (move.Want j c) (Got l) h in
    let w = says x.3 in
    (w.0, state x.1 x.2, subst (λ z. Step s.rest s.store j (action.Want c (Some l)) z x.1 x.2) w.1 x.3)
take_step (Some g) s j c l h =
    let x = able s.rest s.store (move.Choose j g c) (Got l) h in
    let w = says x.3 in
    (w.0, state x.1 x.2, subst (λ z. Step s.rest s.store j (action.Choose g c (Some l)) z x.1 x.2) w.1 x.3)

partner_of : (c : ℕ) (m : Move) → TakesFrom c m → (j : ℕ) × (k : Option ℕ) × (m ≡ partner j k c)
partner_of c (move.Want j d) e = (j, None, ap (move.Want j) e)
partner_of c (move.Choose j g d) e = (j, Some g, ap (move.Choose j g) e)
partner_of c m e = absurd e

is_taking : (j : ℕ) (k : Option ℕ) (c : ℕ) → IsTaking (partner j k c)
is_taking j None c = tt
is_taking j (Some g) c = tt

took_waits : (k : Option ℕ) (l : List ℕ) {s t : State} {j c : ℕ} {y : Datum} → StepsTo s j (meeting k c l) (In c y ∷ []) t → waiting t.rest ≡ waiting s.rest
took_waits None l st = step_waits st
took_waits (Some g) l st = step_waits st

module _ (p : Plan) (s : Program) (quiet : IsQuiet p s) where
  -- an output and an input on a channel that is not stopped would be a move
  no_passing : (n m i j c : ℕ) (k : Option ℕ) → n < length p.nodes → m < length p.nodes → s.stopped c ≡ false → Contains (own (s.part n).rest (s.part n).store) (move.Offer i c) → Contains (own (s.part m).rest (s.part m).store) (partner j k c) → ⊥
  no_passing n m i j c k few few2 free offers takes =
      let o = offer_step (s.part n) i c offers in
      let a = o.1 in
      let still : Contains (own (put s.part n a m).rest (put s.part n a m).store) (partner j k c) = elim (cases_eq m n) [
        | inl e ↦ subst (λ (z : State). Contains (own z.rest z.store) (partner j k c)) (sym (ap (put s.part n a) e ∙ put-same s.part n a))
            (let b = began o.2 in subst (λ f. Contains (own a.rest f) (partner j k c)) (sym b.store) (b.taking (partner j k c) (is_taking j k c) (subst (λ z. Contains (own (s.part z).rest (s.part z).store) (partner j k c)) e takes)))
        | inr ne ↦ subst (λ (z : State). Contains (own z.rest z.store) (partner j k c)) (sym (put-other s.part n a m ne)) takes
      ] in
      let t = take_step k (put s.part n a m) j c (message o.0) still in
      let b = t.1 in
      let waits : Contains (waiting (put (put s.part n a) m b n).rest) (output i c) = elim (cases_eq n m) [
        | inl e ↦ subst (λ (z : State). Contains (waiting z.rest) (output i c)) (sym (ap (put (put s.part n a) m b) e ∙ put-same (put s.part n a) m b))
            (subst (λ ws. Contains ws (output i c)) (sym (took_waits k (message o.0) t.2)) (subst (λ (z : State). Contains (waiting z.rest) (output i c)) (sym (ap (put s.part n a) (sym e) ∙ put-same s.part n a)) (is_inserted (step_waits o.2))))
        | inr ne ↦ subst (λ (z : State). Contains (waiting z.rest) (output i c)) (sym (put-other (put s.part n a) m b n ne ∙ put-same s.part n a)) (is_inserted (step_waits o.2))
      ] in
      let z = put (put s.part n a) m b n in
      let f = finishes z.rest z.store i c waits in
      quiet (Passes c n i m j k) _ (passes c n i m j k o.0 t.0 a b (state f.0 f.1) few few2 free o.2 t.2 f.2)

  alone : (n : ℕ) (m : Move) → n < length p.nodes → Contains (own (s.part n).rest (s.part n).store) m → GoesAlone m → ⊥
  alone n (move.Quiet i) few k g = let t = quiet_step (s.part n) i k in quiet (Goes n i) _ (goes n i t.0 few t.1)
  alone n (move.Stopch i c) few k g = let t = stop_step (s.part n) i c k in quiet (Stops n i c) _ (stops n i c t.0 few t.1)
  alone n m few k g = g

  met : (n k i c : ℕ) (m : Move) → n < length p.nodes → k < length p.nodes → Contains (own (s.part n).rest (s.part n).store) (move.Offer i c) → Contains (own (s.part k).rest (s.part k).store) m → TakesFrom c m → s.stopped c ≡ true
  met n k i c m few few2 offers takes from = by_stopped (s.stopped c) refl
    where
      by_stopped : (b : Bool) → s.stopped c ≡ b → s.stopped c ≡ true
      by_stopped true e = e
      by_stopped false e =
          let q = partner_of c m from in
          absurd (no_passing n k i q.0 c q.1 few few2 e offers (subst (Contains (own (s.part k).rest (s.part k).store)) q.2 takes))

  pub nothing_goes_on : NothingGoesOn (length p.nodes) s.part s.stopped
  nothing_goes_on = record { alone = alone; met = met }

-- a process has ended or not
is_done : (r : Rest) → (r ≡ Done) ⊎ (r ≢ Done)
is_done Done = inl refl
is_done (Stopped i) = inr (λ h. cc)
is_done (Fresh p) = inr (λ h. cc)
is_done (Finishing i c) = inr (λ h. cc)
is_done (Getting i c v) = inr (λ h. cc)
is_done (Then r ps) = inr (λ h. cc)
is_done (Turns r v b n p) = inr (λ h. cc)
is_done (Beside mine r q) = inr (λ h. cc)

-- all of the first so many have ended, or one has not
all_or_one : (part : ℕ → State) (k : ℕ) → ((n : ℕ) → n < k → (part n).rest ≡ Done) ⊎ ((n : ℕ) × (n < k) × ((part n).rest ≢ Done))
all_or_one part zero = inl (λ n l. absurd (omega arith))
all_or_one part (suc k) = elim (is_done (part k).rest) [
  | inr ne ↦ inr (k, omega arith, ne)
  | inl done ↦ elim (all_or_one part k) [
    | inl all ↦ inl (λ n l. elim (cases_eq n k) [ inl e ↦ subst (λ z. (part z).rest ≡ Done) (sym e) done | inr ne ↦ all n (omega (arith, ne)) ])
    | inr one ↦ inr (one.0, (let l = one.1 in omega arith), one.2)
  ]
]

by_moves : (p : Plan) → IsAccepted p → NeverStuck p → program.NeverStuck p
by_moves p acc never ms s reaches stuck =
    let l = schedules_are_lists p ms s acc reaches in elim (all_or_one s.part (length p.nodes)) [
      | inl all ↦ stuck.1 all
      | inr one ↦ never l.0 (record { stands = s.part; shown = shown_by s; comes = l.1; rest = nothing_goes_on p s stuck.0; waits = one })
    ]

pub program_and_lists_agree : ProgramAndListsAgree
program_and_lists_agree p acc = (by_moves p acc, never_by_lists p acc)
