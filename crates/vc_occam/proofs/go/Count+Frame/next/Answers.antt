use Rattle.std.proofs.Common.{◌≡◌, ◌∙◌, ℤ, pos, ◌+ℤ◌, Option, Some, true, w64, refl, ap, subst, sym, rules, arith}
use Rattle.std.specs.Prelude.{IfSome, int_lt}
use Rattle.std.proofs.lemmas.Int.{ints, to_z-of_z}
use mir.Val.{SFits, of_z, to_z}
use Rattle.vc_process.specs.declared.datum.Datum.TheVariants as datum
use Rattle.vc_process.specs.Terms.{exp, store}
use Rattle.vc_occam.specs.Traces.{set as set_to}
use Rattle.vc_occam.specs.declared.frame.Frame.{Frame}
use Rattle.vc_occam.specs.declared.frame.Turn.{Turn}
use Rattle.vc_occam.specs.Frames.{begun, counting, outcome_of, view}
use Rattle.vc_occam.specs.Private.Frames.{HasTurned}
use Rattle.vc_occam.specs.Remains.{begin}
use Rattle.vc_occam.proofs.PartChoice.{count_next}
use Rattle.vc_occam.proofs.go.Count+Frame.next.Goals as goal

-- the index that the code works out
abbrev index_of : ℤ → ℤ
index_of i = to_z w64 (of_z w64 (to_z w64 (of_z w64 i) +ℤ pos 1))

-- a number that fits is read back as it was written
read_back : (i l : ℤ) → SFits w64 i → SFits w64 l → SFits w64 (i +ℤ pos 1) → (index_of i ≡ i +ℤ pos 1) × (to_z w64 (of_z w64 l) ≡ l)
read_back i l x y z = (ap (λ k. to_z w64 (of_z w64 (k +ℤ pos 1))) (to_z-of_z w64 i x) ∙ to_z-of_z w64 (i +ℤ pos 1) z, to_z-of_z w64 l y)

pub returns-clause-turned : goal.returns-clause-turned
returns-clause-turned c =
    let s = c.args.self.now in
    let t = c.in-Some.turn in
    let e = store c.args.vars.now.items in
    let f = store c.set_variable.new.vars.items in
    let x : SFits w64 t.index = search rules in
    let y : SFits w64 t.last = search rules in
    let more : int_lt t.index t.last ≡ true = grind (arith, ints) in
    let z : SFits w64 (t.index +ℤ pos 1) = grind (arith, ints) in
    let back = read_back t.index t.last x y z in
    let turn : Turn = record { index = index_of t.index; last = to_z w64 (of_z w64 t.last) } in
    let is : turn ≡ record { index = t.index +ℤ pos 1; last = t.last } = rw back.0 (rw back.1 refl) in
    let same = ap (λ (f : Frame). (view f).plan) c.deref_mut.ensures.value in
    subst (λ (u : Option Turn). IfSome u (λ t. HasTurned t (counting s.var (exp s.base) (exp s.count) (view s.body.value) u) e c.start.result (counting s.var (exp s.base) (exp s.count) (view c.start.new.self) (Some turn)) f)) (sym c.in-Some.is)
    (count_next s.var (exp s.base) (exp s.count) (view s.body.value) (view c.start.new.self) t turn (Some t) c.start.result e f more
    is (c.start.ensures.begun ∙ ap begun same) (c.start.ensures.outcome ∙ ap (λ p. outcome_of (begin p)) same)
    (c.set_variable.ensures.value ∙ ap (λ k. set_to e s.var (datum.Int k)) back.0))
