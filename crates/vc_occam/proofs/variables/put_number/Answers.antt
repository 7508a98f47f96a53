use Rattle.std.proofs.Common.{◌≡◌, ◌∙◌, ap, refl, subst, sym, ℕ, get_or, length, pos}
use Rattle.std.proofs.lemmas.Int.{to_z-of_z}
use Rattle.std.proofs.lemmas.List.{get_or_read_under}
use Rattle.std.specs.Int.{w64}
use Rattle.vc_process.specs.Terms.{store}
use Rattle.vc_process.specs.declared.datum.Datum.{Datum}
use Rattle.vc_process.specs.declared.datum.Datum.TheVariants as datum
use Rattle.vc_occam.specs.Traces.{set}
use Rattle.vc_occam.proofs.Receipt.{number_received}
use Rattle.vc_occam.proofs.variables.put_number.Goals as goal

pub returns-in-Int-clause-value : goal.returns-in-Int-clause-value
returns-in-Int-clause-value c =
    let vars = c.args.vars.now.items in
    let v = c.args.var in
    let e = store vars in
    let read = subst (λ (k : ℕ). c.index.result.now ≡ get_or vars k c.index.result.now) c.from.ensures c.index.ensures in
    let held = sym (get_or_read_under vars v (length vars) c.index.result.now (datum.Int (pos 0)) read c.requires refl) ∙ c.in-Int.is in
    let z = c.args.number in
    let fits = c.ranges.number.sfits in
    c.set_variable.ensures.value ∙ ap (λ (d : Datum). set e v d) (ap datum.Int (to_z-of_z w64 z (record { sfits = fits })) ∙ sym (number_received (e v) c.in-Int.field-0 z held fits))
