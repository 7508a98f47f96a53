-- A change of one output or one input keeps what a node's processor keeps.
use Rattle.std.proofs.Common.{◌≡◌, ℕ, zero, suc, true, List, [], ◌∷◌, refl, sym, ap, ◌∙◌, subst, slice_get, slice_set, Some, inl, inr}
use Rattle.std.proofs.lemmas.Bool.{cases_eq}
use Rattle.std.proofs.lemmas.List.{length-set}
use Rattle.std.proofs.lemmas.Option.{slice_get_within}
use Rattle.std.specs.List.{AllByRecursion}
use Rattle.vc_blocks.specs.Halves.{Incoming}
use Rattle.vc_vcp.specs.declared.output.Output.{Output}
use Rattle.vc_vcp.specs.declared.input.Input.{Input}
use Rattle.vc_vcp.specs.Names.{NamesDiffer}
use Rattle.vc_vcp.specs.LinkOut.{Sending}
use Rattle.vc_vcp.specs.State.{State, HaveOwnNames, IsWired, IsOutput, IsInput}
use Rattle.vc_vcp.specs.Private.Queues.{StaysOutput, StaysInput}
use Rattle.vc_vcp.proofs.ListWrites.{place-set_same, place-set_other}

record Before {X : Type 0} (name : X → ℕ) (xs : List X) (j : ℕ) (a : X) : Type 0 where
  was : X
  there : slice_get xs j ≡ Some was
  same : name was ≡ name a

before : {X : Type 0} (name : X → ℕ) (xs : List X) (i : ℕ) (x y : X) → slice_get xs i ≡ Some x → name y ≡ name x → (j : ℕ) (a : X) → slice_get (slice_set xs i y) j ≡ Some a → Before name xs j a
before name xs i x y here keeps j a e = elim (cases_eq j i) [
  | inl q ↦ (let z : Some y ≡ Some a = sym (place-set_same xs i y (slice_get_within xs i x here)) ∙ sym (ap (slice_get (slice_set xs i y)) q) ∙ e in
      let w : y ≡ a = cc in
      record { was = x; there = ap (slice_get xs) q ∙ here; same = sym keeps ∙ ap name w })
  | inr ne ↦ record { was = a; there = sym (place-set_other xs i j y ne) ∙ e; same = refl }
]

pub differ-set : {X : Type 0} (name : X → ℕ) (xs : List X) (i : ℕ) (x y : X) → slice_get xs i ≡ Some x → name y ≡ name x → NamesDiffer name xs → NamesDiffer name (slice_set xs i y)
differ-set name xs i x y here keeps h j k a b ea eb e =
    let p = before name xs i x y here keeps j a ea in
    let q = before name xs i x y here keeps k b eb in
    h j k p.was q.was p.there q.there (p.same ∙ e ∙ sym q.same)

pub all-set : {X : Type 0} (P : X → Type 0) (xs : List X) (i : ℕ) (y : X) → AllByRecursion P xs → P y → AllByRecursion P (slice_set xs i y)
all-set P [] i y h p = h
all-set P (x ∷ xs) zero y h p = (p, h.1)
all-set P (x ∷ xs) (suc i) y h p = (h.0, all-set P xs i y h.1 p)

pub all-at : {X : Type 0} (P : X → Type 0) (xs : List X) (i : ℕ) (x : X) → AllByRecursion P xs → slice_get xs i ≡ Some x → P x
all-at P [] i x h e = absurd (cc)
all-at P (y ∷ xs) zero x h e = let q : y ≡ x = cc in subst P q h.0
all-at P (y ∷ xs) (suc i) x h e = all-at P xs i x h.1 e

pub own-output : (os : List Output) (is : List Input) (i : ℕ) (x y : Output) → HaveOwnNames os is → slice_get os i ≡ Some x → StaysOutput x y → HaveOwnNames (slice_set os i y) is
own-output os is i x y w here stays = record {
  out_chans = differ-set (λ x. x.chan) os i x y here stays.chan w.out_chans;
  in_chans = w.in_chans;
  out_blocks = differ-set (λ x. x.block) os i x y here stays.block w.out_blocks;
  in_blocks = w.in_blocks;
}

pub own-input : (os : List Output) (is : List Input) (i : ℕ) (x y : Input) → HaveOwnNames os is → slice_get is i ≡ Some x → StaysInput x y → HaveOwnNames os (slice_set is i y)
own-input os is i x y w here stays = record {
  out_chans = w.out_chans;
  in_chans = differ-set (λ x. x.chan) is i x y here stays.chan w.in_chans;
  out_blocks = w.out_blocks;
  in_blocks = differ-set (λ x. x.block) is i x y here stays.block w.in_blocks;
}

pub wired-output : (s : State) (i l : ℕ) (x y : Output) (q : Sending) → IsWired s → slice_get s.outputs i ≡ Some x → StaysOutput x y → IsOutput y → IsWired (record s { outputs = slice_set s.outputs i y; outs = slice_set s.outs l q })
wired-output s i l x y q w here stays is = record {
  four_out = length-set s.outs l q ∙ w.four_out;
  four_in = w.four_in;
  outputs = all-set IsOutput s.outputs i y w.outputs is;
  inputs = w.inputs;
  ins = w.ins;
  names = own-output s.outputs s.inputs i x y w.names here stays;
}

pub wired-input : (s : State) (i : ℕ) (x y : Input) → IsWired s → slice_get s.inputs i ≡ Some x → StaysInput x y → IsInput y → IsWired (record s { inputs = slice_set s.inputs i y })
wired-input s i x y w here stays is = record {
  four_out = w.four_out;
  four_in = w.four_in;
  outputs = w.outputs;
  inputs = all-set IsInput s.inputs i y w.inputs is;
  ins = w.ins;
  names = own-input s.outputs s.inputs i x y w.names here stays;
}

pub wired-outs : (s : State) (l : ℕ) (q : Sending) → IsWired s → IsWired (record s { outs = slice_set s.outs l q })
wired-outs s l q w = record {
  four_out = length-set s.outs l q ∙ w.four_out;
  four_in = w.four_in;
  outputs = w.outputs;
  inputs = w.inputs;
  ins = w.ins;
  names = w.names;
}

pub stopped_input : (x : Input) (h : Incoming) → h ≡ record x.half { stopped = true } → IsInput x → IsInput (record x { half = h })
stopped_input x h e is =
    subst (λ z. IsInput (record x { half = z })) (sym e) (record { link = is.link; held = is.held; empty = is.empty })
