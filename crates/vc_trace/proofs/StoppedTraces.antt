-- The text of a run that ended early.
use Rattle.std.proofs.Common.{◌≡◌, ◌⊎◌, ◌∙◌, ℕ, Bool, true, false, List, [], ◌∷◌, ◌++◌, Option, Result, Err, ap, append-nil, inl, inr, refl, subst, sym}
use Rattle.std.proofs.lemmas.List.Concat.{flat_map-append}
use Rattle.std.specs.Io.KnownBytes.{Appends}
use Rattle.vc_core.specs.PossibleEvents.{NetworkState}
use Rattle.vc_core.specs.State.{shown}
use Rattle.vc_core.specs.declared.close.Close.{Close}
use Rattle.vc_core.specs.declared.event.Event.{Event}
use Rattle.vc_plan.specs.Accepted.{IsAccepted}
use Rattle.vc_plan.specs.declared.plan.Plan.{Plan}
use Rattle.vc_text.specs.Pieces.{Passes}
use Rattle.vc_text.specs.RunText.{HasStopped, IsRunSoFar, IsRunWithin}
use Rattle.vc_text.specs.Streams.{AppendsFront}
use Rattle.vc_text.specs.declared.fault.RunFault.{RunFault}
use Rattle.vc_text.specs.declared.fault.RunFault.TheVariants.{Write, Memory}
use Rattle.vc_text.specs.declared.schedule.Schedule.{Schedule}
use Rattle.vc_text.proofs.RunsSoFar.{none_yet}
use Rattle.vc_text.proofs.TextWrites.{passes_all, passes_front, passes_held, passes_last, passes_none, passes_two}
use Rattle.vc_trace.specs.EventText.{event_line, events_text}
use Rattle.vc_trace.specs.Private.TraceSink.{EndsEarly, HasFailed, HasPassed}
use Rattle.vc_trace.specs.TraceText.{IsTracedText, WritesTrace}
use Rattle.vc_trace.specs.declared.trace_sink.TraceSink.{TraceSink}

-- the lines of one event more
one_more : (p : Plan) (es : List Event) (e : Event) → events_text p (es ++ e ∷ []) ≡ events_text p es ++ event_line p e
one_more p es e = flat_map-append (event_line p) es (e ∷ []) ∙ ap (λ t. events_text p es ++ t) (append-nil (event_line p e))

-- no event was passed yet
pub none_passed : {W : Type 0} (contents : W → Option (List ℕ)) (sink : TraceSink W) (p : Plan) → sink.plan.now ≡ p → sink.has_failed ≡ false → HasPassed contents sink sink p []
none_passed contents sink p is works = record {
  same_writer = refl;
  is_of = is;
  passed = passes_none (contents sink.writer.now) sink.piece.items;
  works = works;
}

-- one more is
pub passed_more : {W : Type 0} (contents : W → Option (List ℕ)) (from old new : TraceSink W) (p : Plan) (es : List Event) (e : Event) → HasPassed contents from old p es →
    new.writer.ghost_name ≡ old.writer.ghost_name → new.plan.now ≡ old.plan.now → new.has_failed ≡ old.has_failed →
    Passes (contents old.writer.now) old.piece.items (contents new.writer.now) new.piece.items (event_line old.plan.now e) → HasPassed contents from new p (es ++ e ∷ [])
passed_more contents from old new p es e has same plan works passes = record {
  same_writer = same ∙ has.same_writer;
  is_of = plan ∙ has.is_of;
  passed = subst (Passes (contents from.writer.now) from.piece.items (contents new.writer.now) new.piece.items) (sym (one_more p es e))
      (passes_two (contents from.writer.now) (contents old.writer.now) (contents new.writer.now) from.piece.items old.piece.items new.piece.items (events_text p es) (event_line p e) has.passed
      (subst (λ (q : Plan). Passes (contents old.writer.now) old.piece.items (contents new.writer.now) new.piece.items (event_line q e)) has.is_of passes));
  works = works ∙ has.works;
}

-- or the writer fails there
pub failed_more : {W : Type 0} (contents : W → Option (List ℕ)) (from old new : TraceSink W) (p : Plan) (es : List Event) (e : Event) → HasPassed contents from old p es →
    new.writer.ghost_name ≡ old.writer.ghost_name → new.has_failed ≡ true →
    AppendsFront (contents old.writer.now) (contents new.writer.now) (old.piece.items ++ event_line old.plan.now e) → HasFailed contents from new p (es ++ e ∷ [])
failed_more contents from old new p es e has same fails got = record {
  same_writer = same ∙ has.same_writer;
  got = subst (λ t. AppendsFront (contents from.writer.now) (contents new.writer.now) (from.piece.items ++ t)) (sym (one_more p es e))
      (passes_front (contents from.writer.now) (contents old.writer.now) (contents new.writer.now) from.piece.items old.piece.items (events_text p es) (event_line p e) has.passed
      (subst (λ (q : Plan). AppendsFront (contents old.writer.now) (contents new.writer.now) (old.piece.items ++ event_line q e)) has.is_of got));
  fails = fails;
}

-- what the buffer has goes out
goes_out : (old mid new : Option (List ℕ)) (held text : List ℕ) (fault : RunFault) → Passes old [] mid held text → EndsEarly mid new held fault → EndsEarly old new text fault
goes_out old mid new held text Memory passed ends = passes_all old mid new [] held text passed ends
goes_out old mid new held text Write passed ends = passes_held old mid new [] held text passed ends
goes_out old mid new held text y passed ends = absurd ends

-- what a sink has told of a run that ended early, and how its text ends
pub ends_early : {W : Type 0} (contents : W → Option (List ℕ)) (from now : TraceSink W) (p : Plan) (es : List Event) (last : W) (fault : RunFault) → from.piece.items ≡ [] →
    HasPassed contents from now p es ⊎ HasFailed contents from now p es → (now.has_failed ≡ false → EndsEarly (contents now.writer.now) (contents last) now.piece.items fault) →
    (now.has_failed ≡ true → fault ≡ Write) → (now.has_failed ≡ true → last ≡ now.writer.now) → EndsEarly (contents from.writer.now) (contents last) (events_text p es) fault
ends_early contents from now p es last fault empty told works fails same = elim told [
  | inl has ↦ goes_out (contents from.writer.now) (contents now.writer.now) (contents last) now.piece.items (events_text p es) fault
      (subst (λ held. Passes (contents from.writer.now) held (contents now.writer.now) now.piece.items (events_text p es)) empty has.passed) (works has.works)
  | inr has ↦ subst (EndsEarly (contents from.writer.now) (contents last) (events_text p es)) (sym (fails has.fails))
      (subst (λ z. AppendsFront (contents from.writer.now) (contents z) (events_text p es)) (sym (same has.fails))
      (subst (λ held. AppendsFront (contents from.writer.now) (contents now.writer.now) (held ++ events_text p es)) empty has.got))
]

-- so the trace of a run ends early
pub stops_trace : (why : Bool) (p : Plan) (old new : Option (List ℕ)) (schedule : Schedule) (limit : ℕ) (es : List Event) (x : NetworkState) (fault : RunFault) → IsRunSoFar p schedule limit es x →
    EndsEarly old new (events_text p es) fault → WritesTrace why p old new schedule limit (Err fault)
stops_trace why p old new schedule limit es x Memory ran ends = (es, x, ran, ends)
stops_trace why p old new schedule limit es x Write ran ends = inl (es, x, ran, ends)
stops_trace why p old new schedule limit es x y ran ends = absurd ends

-- what was told of a run that ended early, from its beginning to where the writer is let go
pub stopped : {W : Type 0} (contents : W → Option (List ℕ)) (why : Bool) (p : Plan) (from now : TraceSink W) (schedule : Schedule) (limit name : ℕ) (old out last : W) (fault : RunFault) →
    from.writer.ghost_name ≡ name → from.writer.now ≡ old → from.plan.now ≡ p → from.piece.items ≡ [] → from.has_failed ≡ false → IsAccepted p →
    (now ≡ from) ⊎ HasStopped (λ sink q es s. HasPassed contents from sink q es) (HasFailed contents from) now p schedule limit → (now.has_failed ≡ false → EndsEarly (contents now.writer.now) (contents out) now.piece.items fault) →
    (now.has_failed ≡ true → fault ≡ Write) → (now.has_failed ≡ true → out ≡ now.writer.now) → (now.writer.ghost_name ≡ name → last ≡ out) → WritesTrace why p (contents old) (contents last) schedule limit (Err fault)
stopped {W} contents why p from now schedule limit name old out last fault begins begun is empty well acc told works fails same let_go = elim told [
  | inl unchanged ↦
      let (x, ran) = none_yet p schedule limit acc in
      finish [] x ran (inl (subst (λ (sink : TraceSink W). HasPassed contents from sink p []) (sym unchanged) (none_passed contents from p is well)))
  | inr (es, s, ran, which) ↦ finish es (shown s) ran which
]
  where
    kept : (es : List Event) → HasPassed contents from now p es ⊎ HasFailed contents from now p es → now.writer.ghost_name ≡ from.writer.ghost_name
    kept es which = elim which [ inl has ↦ has.same_writer | inr has ↦ has.same_writer ]

    finish : (es : List Event) (x : NetworkState) → IsRunSoFar p schedule limit es x → HasPassed contents from now p es ⊎ HasFailed contents from now p es → WritesTrace why p (contents old) (contents last) schedule limit (Err fault)
    finish es x ran which = stops_trace why p (contents old) (contents last) schedule limit es x fault ran
        (subst (λ w. EndsEarly (contents w) (contents last) (events_text p es) fault) begun
        (subst (λ w. EndsEarly (contents from.writer.now) (contents w) (events_text p es) fault) (sym (let_go (kept es which ∙ begins)))
        (ends_early contents from now p es out fault empty which works fails same)))

-- the rest follows what was passed
pub ended : {W : Type 0} (contents : W → Option (List ℕ)) (from now : TraceSink W) (p : Plan) (es : List Event) (tail : List ℕ) (name : ℕ) (old out last : W) →
    from.writer.ghost_name ≡ name → from.writer.now ≡ old → from.piece.items ≡ [] → HasPassed contents from now p es → Appends (contents now.writer.now) (contents out) (now.piece.items ++ tail) →
    (now.writer.ghost_name ≡ name → last ≡ out) → Appends (contents old) (contents last) (events_text p es ++ tail)
ended contents from now p es tail name old out last begins begun empty has all let_go =
    subst (λ w. Appends (contents w) (contents last) (events_text p es ++ tail)) begun
    (subst (λ w. Appends (contents from.writer.now) (contents w) (events_text p es ++ tail)) (sym (let_go (has.same_writer ∙ begins)))
    (passes_last (contents from.writer.now) (contents now.writer.now) (contents out) [] now.piece.items (events_text p es) tail
    (subst (λ held. Passes (contents from.writer.now) held (contents now.writer.now) now.piece.items (events_text p es)) empty has.passed) all))

pub fails_ending : {W : Type 0} (contents : W → Option (List ℕ)) (from now : TraceSink W) (p : Plan) (es : List Event) (tail : List ℕ) (name : ℕ) (old out last : W) →
    from.writer.ghost_name ≡ name → from.writer.now ≡ old → from.piece.items ≡ [] → HasPassed contents from now p es → AppendsFront (contents now.writer.now) (contents out) (now.piece.items ++ tail) →
    (now.writer.ghost_name ≡ name → last ≡ out) → AppendsFront (contents old) (contents last) (events_text p es ++ tail)
fails_ending contents from now p es tail name old out last begins begun empty has front let_go =
    subst (λ w. AppendsFront (contents w) (contents last) (events_text p es ++ tail)) begun
    (subst (λ w. AppendsFront (contents from.writer.now) (contents w) (events_text p es ++ tail)) (sym (let_go (has.same_writer ∙ begins)))
    (passes_front (contents from.writer.now) (contents now.writer.now) (contents out) [] now.piece.items (events_text p es) tail
    (subst (λ held. Passes (contents from.writer.now) held (contents now.writer.now) now.piece.items (events_text p es)) empty has.passed) front))

-- a prefix of the text of a whole run
pub fails_writing : (why : Bool) (p : Plan) (old new : Option (List ℕ)) (schedule : Schedule) (limit : ℕ) (result : Result Close RunFault) (fault : RunFault) (es : List Event) (x : NetworkState) (close : Close) (text : List ℕ) →
    result ≡ Err fault → fault ≡ Write → IsRunWithin p schedule limit es x close → IsTracedText why p es x close text → AppendsFront old new text → WritesTrace why p old new schedule limit result
fails_writing why p old new schedule limit result fault es x close text handed is ran its front =
    subst (WritesTrace why p old new schedule limit) (sym (handed ∙ ap Err is)) (inr (es, x, close, ran, (text, its, front)))
