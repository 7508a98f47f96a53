use Rattle.std.proofs.Common.{◌≡◌, ◌∷◌, List, ◌⊎◌, inl, inr, Result, Err, ap}
use Rattle.vc_reader.specs.Private.Reading.{Fails}
use Rattle.vc_reader.specs.Reading.{under}
use Rattle.vc_reader.specs.declared.fault.Fault.{Fault}
use Rattle.vc_reader.specs.declared.fault.Stop.{Stop}
use Rattle.vc_reader.specs.declared.fault.Stop.TheVariants as stop
use Rattle.vc_reader.specs.declared.fault.Why.{Why}
use Rattle.vc_reader.specs.declared.path.Step.{Step}
use Rattle.vc_reader.proofs.reader.under.Goals as goal

further-up : {T : Type 0} (step : Step) (meant : Result T Fault) (why : Why) (path : List Step) (at : Stop) → meant ≡ Err (record { why = why; path = path }) →
    (at ≡ stop.Memory) ⊎ (at ≡ stop.Fault (record { why = why; path = step ∷ path })) → Fails at (under step meant)
further-up step meant why path at h (inl e) = rw e tt
further-up step meant why path at h (inr e) = rw e (ap (λ m. under step m) h)

pub returns-in-Err-Fault : goal.returns-in-Err-Fault
returns-in-Err-Fault g c = λ meant gives.
    further-up c.args.step meant c.in-Err-Fault.fault.why c.in-Err-Fault.fault.path c.fault_at.result (rw (c.in-Err-Fault.is, c.in-Err-Fault.field-0-is) at gives)
    (c.fault_at.ensures (c.args.step ∷ c.in-Err-Fault.fault.path) (assumption c))
