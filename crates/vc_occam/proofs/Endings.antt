-- What a process comes to, and what remains of it.
use Rattle.std.proofs.Common.{◌≡◌, ℕ, Bool, true, false, refl, sym, ◌∙◌, ap}
use Rattle.vc_occam.specs.declared.outcome.Outcome.{Outcome}
use Rattle.vc_occam.specs.declared.outcome.Outcome.TheVariants as outcome
use Rattle.vc_process.specs.Syntax.{Proc, Assign, Whole, SEQ, PAR, Procs, no_parts, part}
use Rattle.vc_occam.specs.Remains.{Rest, Done, Fresh, Then, Turns, and_then, begin, begin_seq, begin_par}
use Rattle.vc_occam.specs.Frames.{fresh_outcome, left_by, outcome_of, unless_ended}
use Rattle.vc_occam.specs.Private.Frames.{has_ended}

-- where nothing has ended, all remains
pub left_goes : (o : Outcome) (r : Rest) → has_ended o ≡ false → left_by o r ≡ r
left_goes outcome.Ended r h = absurd (let z : true ≡ false = h in cc)
left_goes o r h = refl

pub left_ended : (o : Outcome) (r : Rest) → has_ended o ≡ true → left_by o r ≡ Done
left_ended outcome.Ended r h = refl
left_ended o r h = absurd (let z : false ≡ true = h in cc)

pub unless_goes : (o : Outcome) → has_ended o ≡ false → unless_ended o ≡ o
unless_goes outcome.Ended h = absurd (let z : true ≡ false = h in cc)
unless_goes o h = refl

pub unless_still : (o : Outcome) → has_ended (unless_ended o) ≡ false
unless_still outcome.Ended = refl
unless_still o = refl

-- a process that hasn't begun, has not ended
pub fresh_goes : (p : Proc) → has_ended (fresh_outcome p) ≡ false
fresh_goes (Assign i v (Whole a)) = refl
fresh_goes (SEQ i no_parts) = refl
fresh_goes (PAR i no_parts) = refl
fresh_goes p = refl

-- only where nothing remains it has ended
pub ended_done : (r : Rest) → has_ended (outcome_of r) ≡ true → r ≡ Done
ended_done Done h = refl
ended_done (Fresh p) h = absurd (let z : false ≡ true = sym (fresh_goes p) ∙ h in cc)
ended_done (Then r ps) h = absurd (let z : false ≡ true = sym (unless_still (outcome_of r)) ∙ h in cc)
ended_done (Turns r v b n p) h = absurd (let z : false ≡ true = sym (unless_still (outcome_of r)) ∙ h in cc)
ended_done r h = absurd (let z : false ≡ true = h in cc)

-- what has not ended goes on
pub goes_on : {r : Rest} → has_ended (outcome_of r) ≡ false → r ≡ Done → ⊥
goes_on h e = let z : true ≡ false = ap (λ x. has_ended (outcome_of x)) (sym e) ∙ h in cc

pub left_again : (o : Outcome) (r : Rest) → left_by o (left_by o r) ≡ left_by o r
left_again outcome.Ended r = refl
left_again o r = refl

pub left_same : (r : Rest) → left_by (outcome_of r) r ≡ r
left_same r = by (has_ended (outcome_of r)) refl
  where
    by : (b : Bool) → has_ended (outcome_of r) ≡ b → left_by (outcome_of r) r ≡ r
    by true h = left_ended (outcome_of r) r h ∙ sym (ended_done r h)
    by false h = left_goes (outcome_of r) r h

-- a process that begins has not ended
pub and_then_goes : (r : Rest) (ps : Procs) → has_ended (outcome_of r) ≡ false → has_ended (outcome_of (and_then r ps)) ≡ false
and_then_goes r no_parts h = h
and_then_goes r (part p ps) h = unless_still (outcome_of r)

pub and_then_outcome : (r : Rest) (ps : Procs) → has_ended (outcome_of r) ≡ false → outcome_of (and_then r ps) ≡ outcome_of r
and_then_outcome r no_parts h = refl
and_then_outcome r (part p ps) h = unless_goes (outcome_of r) h

mutual
  pub begin_goes : (p : Proc) → has_ended (outcome_of (begin p)) ≡ false
  begin_goes (Assign i v a) = fresh_goes (Assign i v a)
  begin_goes (SEQ i ps) = begin_seq_goes i ps
  begin_goes (PAR i ps) = begin_par_goes i ps
  begin_goes p = refl

  begin_seq_goes : (i : ℕ) (ps : Procs) → has_ended (outcome_of (begin_seq i ps)) ≡ false
  begin_seq_goes i no_parts = refl
  begin_seq_goes i (part p ps) = and_then_goes (begin p) ps (begin_goes p)

  begin_par_goes : (i : ℕ) (ps : Procs) → has_ended (outcome_of (begin_par i ps)) ≡ false
  begin_par_goes i no_parts = refl
  begin_par_goes i (part p ps) = refl
