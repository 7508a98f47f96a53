-- No packet grows past the limit, and what is to be put can be put.
use Rattle.std.proofs.Common.{◌≡◌, ℕ, ◌<◌, ◌≤◌, ◌⊎◌, inl, inr, List, [], ◌∷◌, ◌++◌, length, refl, sym, ap, ap₂, subst, ◌∙◌, arith, Option, Some, append-nil, append_assoc, length-append}
use Rattle.std.specs.List.{AllByRecursion}
use Rattle.vc_packets.specs.declared.mark.Mark.{Mark}
use Rattle.vc_packets.specs.declared.packet.Packet.{Packet}
use Rattle.vc_packets.specs.Headers.{spelled}
use Rattle.vc_machine.specs.Paths.{Port, AtNode, AtSwitch, Net}
use Rattle.vc_switch.specs.Forward.{behind}
use Rattle.vc_machine.specs.Machine.{State, Event, Run, start}
use Rattle.vc_tokens.specs.Tokens.{Token, EndMark, bytes, spelling, spellings, Spells}
use Rattle.vc_machine.specs.Links.{Tokens, no_tokens}
use Rattle.vc_switch.specs.Waiting.{Waiting}
use Rattle.vc_machine.specs.TokenMachine.{TokenEvent, Put, TokenStep, TokenRun, node_byte, node_mark, switch_byte, switch_mark, IsBoundTo}
use Rattle.vc_machine.specs.View.{MayDraw, nothing, begun, Inside, without_mark, with_mark, StandsFor, TokenView, Bindings}
use Rattle.vc_machine.specs.Laws.{Ranges, WithinLimit, PutsGoOn, IsSound}
use Rattle.vc_machine.specs.Private.Laws.{IsLimit, AllFit}
use Rattle.vc_machine.proofs.Ahead.{Sending, Ahead, within_body, within_bytes, no_bytes}
use Rattle.vc_machine.proofs.PacketStarts.{start_switch, node_next, switch_next, switch_last}
use Rattle.vc_machine.proofs.AheadSteps.{step_ahead, nothing_ahead}
use Rattle.vc_machine.proofs.StepRefinement.{as_run, run_joined}
use Rattle.vc_machine.proofs.Bindings.{step_bindings, no_bindings}
use Rattle.vc_machine.proofs.Refinement.{step_view, no_view}

part_short : (a b c : List ℕ) (limit : ℕ) → c ≡ a ++ b → length c ≤ limit → length a ≤ limit
part_short a b c limit e h = let l = length-append a b in let k = ap length e in omega arith

bodies_short : (net : Net) (Fits : ℕ → List ℕ → Type 0) (limit w : ℕ) (ps : List Packet) → IsLimit net Fits limit → AllByRecursion (λ p. Fits w p.body) ps → AllByRecursion (λ p. length p.body ≤ limit) ps
bodies_short net Fits limit w [] limits h = tt
bodies_short net Fits limit w (p ∷ ps) limits h = (limits.short w p.body h.0, bodies_short net Fits limit w ps limits h.1)

rest_short : (net : Net) (Fits : ℕ → List ℕ → Type 0) (limit : ℕ) (t : Tokens) (full : ℕ → List ℕ) (w : ℕ) → IsLimit net Fits limit → ((t.sender w).sent ≡ []) ⊎ Sending net Fits t full w → length (t.sender w).sent ≤ limit
rest_short net Fits limit t full w limits (inl none) = let l = ap length none in omega arith
rest_short net Fits limit t full w limits (inr s) = part_short (t.sender w).sent s.more (full w) limit s.is (limits.short w (full w) s.fits)

headed_fits : (net : Net) (Fits : ℕ → List ℕ → Type 0) (limit : ℕ) (w : ℕ) (p : Port) (drawn : Option ℕ) (b : List ℕ) → IsLimit net Fits limit → net.far w ≡ p → MayDraw net p drawn → Fits w b →
    length (spelled (behind drawn []) ++ b) ≤ limit
headed_fits net Fits limit w (AtSwitch n i) drawn b limits far may fits = limits.headed w n i drawn b far may fits
headed_fits net Fits limit w (AtNode n i) drawn b limits far may fits = subst (λ k. length (spelled (behind k []) ++ b) ≤ limit) (sym may) (limits.short w b fits)

begun_short : (net : Net) (Fits : ℕ → List ℕ → Type 0) (limit : ℕ) (t : Tokens) (full : ℕ → List ℕ) (w : ℕ) (drawn : Option ℕ) (passed : List ℕ) (xs : List Token) (line : List Packet) →
    IsLimit net Fits limit → MayDraw net (net.far w) drawn → (passed ≡ [] → ⊥) → Spells (bytes passed ++ xs) line (t.sender w).sent → AllByRecursion (λ p. Fits w p.body) line →
    ((t.sender w).sent ≡ []) ⊎ Sending net Fits t full w → length (spelled (behind drawn []) ++ passed) ≤ limit
begun_short net Fits limit t full w drawn passed xs [] limits may some line fit (inl none) = absurd (some (no_bytes passed xs (line ∙ ap bytes none)))
begun_short net Fits limit t full w drawn passed xs [] limits may some line fit (inr s) =
    let x = within_bytes passed xs (t.sender w).sent line in
    let h = spelled (behind drawn []) in
    part_short (h ++ passed) (x.0 ++ s.more) (h ++ full w) limit
    (ap (λ k. h ++ k) (s.is ∙ ap (λ k. k ++ s.more) x.1 ∙ append_assoc passed x.0 s.more) ∙ sym (append_assoc h passed (x.0 ++ s.more)))
    (headed_fits net Fits limit w (net.far w) drawn (full w) limits refl may s.fits)
begun_short net Fits limit t full w drawn passed xs (p ∷ ps) limits may some line fit sends =
    let again = line ∙ append_assoc (spelling p) (spellings ps) (bytes (t.sender w).sent) ∙ append_assoc (bytes p.body) (EndMark p.mark ∷ []) (spellings ps ++ bytes (t.sender w).sent) in
    let x = within_body passed xs p.body p.mark _ again in
    let h = spelled (behind drawn []) in
    part_short (h ++ passed) x.0 (h ++ p.body) limit (ap (λ k. h ++ k) x.1 ∙ sym (append_assoc h passed x.0))
    (headed_fits net Fits limit w (net.far w) drawn p.body limits refl may fit.0)

got_short : (net : Net) (Fits : ℕ → List ℕ → Type 0) (limit : ℕ) (t : Tokens) (s : State) (full : ℕ → List ℕ) (w : ℕ) → IsLimit net Fits limit → AllFit net Fits s → w < net.ways →
    (x : StandsFor net (net.far w) (t.nodes.ways w).queue (t.sender w) (t.wire w) (t.receiver w) (s.ways w)) →
    Inside net (net.far w) (t.receiver w).got (t.receiver w).mark (t.receiver w).bound x.passed (s.ways w).input →
    ((t.sender w).sent ≡ []) ⊎ Sending net Fits t full w → length (t.receiver w).got ≤ limit
got_short net Fits limit t s full w limits fit real x (without_mark none (nothing empty empty2) input) sends = let l = ap length empty in omega arith
got_short net Fits limit t s full w limits fit real x (without_mark none (begun drawn may some is) input) sends =
    subst (λ k. length k ≤ limit) (sym is) (begun_short net Fits limit t full w drawn x.passed _ (s.ways w).line limits may some x.line (fit.lines w real) sends)
got_short net Fits limit t s full w limits fit real x (with_mark n i m far is empty input) sends =
    let c = fit.inputs w (record { body = (t.receiver w).got; mark = m }) (t.receiver w).bound real input in
    subst (λ k. length k ≤ limit) (sym c.is) (limits.headed w c.switch c.link c.drawn c.body c.far c.draw c.fits)

within_limit : (net : Net) (Fits : ℕ → List ℕ → Type 0) (limit : ℕ) (t : Tokens) (s : State) → IsLimit net Fits limit → AllFit net Fits s → TokenView net t s → Ahead net Fits t → WithinLimit net limit t s
within_limit net Fits limit t s limits fit seen a =
    record {
      streams = λ view w real. record {
        spells = (view.ways w).line;
        bodies = bodies_short net Fits limit w (s.ways w).line limits (fit.lines w real);
        rest_fits = rest_short net Fits limit t a.full w limits (a.each w);
      };
      inputs = λ w real. got_short net Fits limit t s a.full w limits fit real (seen.ways w) (seen.ways w).inside (a.each w);
    }

-- Put

node_put : (net : Net) (back : ℕ → ℕ) (waiting : Waiting) (t : Tokens) (w n i : ℕ) (p : Packet) (rest : List Packet) (more : List ℕ) → w < net.ways → net.near w ≡ AtNode n i →
    (t.nodes.ways w).queue ≡ p ∷ rest → 0 < (t.sender w).credit → p.body ≡ (t.sender w).sent ++ more → (u : Tokens) × TokenStep net back waiting t (Put w) u
node_put net back waiting t w n i p rest [] real near front some is = (_, (real, some, node_mark n i p rest near front (is ∙ append-nil (t.sender w).sent) refl))
node_put net back waiting t w n i p rest (c ∷ more) real near front some is = (_, (real, some, node_byte n i p rest c more near front is refl))

node_begins : (net : Net) (Fits : ℕ → List ℕ → Type 0) (t : Tokens) (full : ℕ → List ℕ) (w n i : ℕ) (p : Packet) (rest : List Packet) → net.near w ≡ AtNode n i → (t.nodes.ways w).queue ≡ p ∷ rest →
    ((t.sender w).sent ≡ []) ⊎ Sending net Fits t full w → (more : List ℕ) × (p.body ≡ (t.sender w).sent ++ more)
node_begins net Fits t full w n i p rest near front (inl none) = (p.body, ap (λ k. k ++ p.body) (sym none))
node_begins net Fits t full w n i p rest near front (inr s) = (s.more, node_next net t full w n i p rest near front s.comes_from ∙ s.is)

both_begin : (xs a ys b : List ℕ) → xs ++ a ≡ ys ++ b → length xs < length ys → (c : ℕ) × (more : List ℕ) × (ys ≡ xs ++ c ∷ more)
both_begin xs a [] b e h = absurd (omega arith)
both_begin [] a (y ∷ ys) b e h = (y, ys, refl)
both_begin (x ∷ xs) a (y ∷ ys) b e h =
    let xy : y ≡ x = cc in
    let t : xs ++ a ≡ ys ++ b = cc in
    let k = both_begin xs a ys b t (omega arith) in
    (k.0, k.1, ap₂ (λ u v. u ∷ v) xy k.2)

pub puts_go_on : (net : Net) (back : ℕ → ℕ) (waiting : Waiting) (Fits : ℕ → List ℕ → Type 0) (limit : ℕ) (t : Tokens) (s : State) → IsLimit net Fits limit → AllFit net Fits s → TokenView net t s → Bindings net t →
    Ahead net Fits t → PutsGoOn net back waiting t
puts_go_on net back waiting Fits limit t s limits fit view bindings a =
    record {
      node = λ w n i p rest real near front some.
          let b = node_begins net Fits t a.full w n i p rest near front (a.each w) in
          node_put net back waiting t w n i p rest b.0 real near front some b.1;
      marked = λ n v w d m real h some mark.
          let x = start_switch net Fits limit waiting t s n v w d limits fit view a h in
          let y : x.ahead.full w ≡ d = switch_last net Fits waiting t n v w d m x.ahead bindings h mark x.sending.comes_from in
          marked_put net back waiting t n v w d m x.sending.more real h some mark (sym y ∙ x.sending.is);
      unmarked = λ n v w d real h some fewer.
          let x = start_switch net Fits limit waiting t s n v w d limits fit view a h in
          let y = switch_next net Fits waiting t n v w d x.ahead bindings h x.sending.comes_from in
          let k = both_begin (t.sender w).sent x.sending.more d y.0 (sym x.sending.is ∙ y.1) fewer in
          (_, (real, some, switch_byte n v d k.0 k.1 h k.2 refl));
    }
  where
    marked_put : (net : Net) (back : ℕ → ℕ) (waiting : Waiting) (t : Tokens) (n v w : ℕ) (d : List ℕ) (m : Mark) (more : List ℕ) → w < net.ways → IsBoundTo net waiting t n v w d → 0 < (t.sender w).credit →
        (t.receiver v).mark ≡ Some m → d ≡ (t.sender w).sent ++ more → (u : Tokens) × TokenStep net back waiting t (Put w) u
    marked_put net back waiting t n v w d m [] real h some mark is = (_, (real, some, switch_mark n v d m h mark (is ∙ append-nil (t.sender w).sent) refl))
    marked_put net back waiting t n v w d m (c ∷ more) real h some mark is = (_, (real, some, switch_byte n v d c more h is refl))

-- the runs

pub record Reached (net : Net) (Fits : ℕ → List ℕ → Type 0) (u : Tokens) : Type 0 where
  pub events : List Event
  pub after : State
  pub run : Run net start events after
  pub view : TokenView net u after
  pub bindings : Bindings net u
  pub ahead : Ahead net Fits u

pub run_reached : (net : Net) (back : ℕ → ℕ) (waiting : Waiting) (Fits : ℕ → List ℕ → Type 0) (limit : ℕ) → Ranges net → IsLimit net Fits limit →
    ((es : List Event) (s : State) → Run net start es s → AllFit net Fits s) → (es : List TokenEvent) (t u : Tokens) → Reached net Fits t → TokenRun net back waiting t es u → Reached net Fits u
run_reached net back waiting Fits limit ranges limits all [] t u r h = subst (Reached net Fits) (sym h) r
run_reached net back waiting Fits limit ranges limits all (e ∷ es) t u r h =
    let b = step_bindings net back waiting t e h.0 r.bindings h.1 in
    let x = as_run net r.after h.0 (step_view net back waiting ranges t r.after e h.0 r.bindings r.view h.1) in
    let a = step_ahead net back waiting Fits limit t r.after e h.0 limits (all r.events r.after r.run) r.view r.bindings r.ahead h.1 in
    run_reached net back waiting Fits limit ranges limits all es h.0 u
    (record { events = r.events ++ x.events; after = x.after; run = run_joined net start r.after x.after r.events x.events r.run x.run; view = x.view; bindings = b; ahead = a }) h.2

-- where all packets of the packet machine fit, the token machine stays within the limit
pub sound : (net : Net) (back : ℕ → ℕ) (waiting : Waiting) (Fits : ℕ → List ℕ → Type 0) (limit : ℕ) → Ranges net → IsLimit net Fits limit →
    ((es : List Event) (s : State) → Run net start es s → AllFit net Fits s) → (es : List TokenEvent) (u : Tokens) → TokenRun net back waiting no_tokens es u → IsSound net back waiting limit u
sound net back waiting Fits limit ranges limits all es u h =
    let r = run_reached net back waiting Fits limit ranges limits all es no_tokens u
    (record { events = []; after = start; run = refl; view = no_view net; bindings = no_bindings net; ahead = nothing_ahead net Fits }) h in
    let fit = all r.events r.after r.run in
    record {
      events = r.events;
      after = r.after;
      run = r.run;
      view = r.view;
      within = within_limit net Fits limit u r.after limits fit r.view r.ahead;
      puts = puts_go_on net back waiting Fits limit u r.after limits fit r.view r.bindings r.ahead;
    }
