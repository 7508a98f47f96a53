-- The packet that is put on a way begins what a way before, or a queue, still holds.
use Rattle.std.proofs.Common.{◌≡◌, ℕ, ◌<◌, ◌⊎◌, inl, inr, List, [], ◌∷◌, ◌++◌, refl, sym, ap, subst, ◌∙◌, Option, Some, None, append_assoc}
use Rattle.std.specs.List.{AllByRecursion}
use Rattle.std.proofs.lemmas.Bool.{cases_eq}
use Rattle.vc_packets.specs.declared.mark.Mark.{Mark}
use Rattle.vc_packets.specs.declared.packet.Packet.{Packet}
use Rattle.vc_packets.specs.Headers.{spelled}
use Rattle.vc_machine.specs.Paths.{Port, AtNode, AtSwitch, Net}
use Rattle.vc_switch.specs.Forward.{behind}
use Rattle.vc_machine.specs.Machine.{State, BodyLeaves}
use Rattle.vc_packets.specs.Functions.{put}
use Rattle.vc_tokens.specs.Tokens.{Token, EndMark, bytes, spelling, spellings, Spells, without_fcts}
use Rattle.vc_machine.specs.Links.{Tokens}
use Rattle.vc_switch.specs.Waiting.{Waiting}
use Rattle.vc_machine.specs.TokenMachine.{IsBoundTo}
use Rattle.vc_machine.specs.View.{MayDraw, nothing, begun, Inside, without_mark, with_mark, StandsFor, TokenView, Bindings}
use Rattle.vc_machine.specs.Private.Laws.{IsLimit, AllFit}
use Rattle.vc_machine.proofs.Update.{changed, kept}
use Rattle.vc_machine.proofs.Heads.{no_group, longer, same_switch}
use Rattle.vc_machine.proofs.Cover.{body_same}
use Rattle.vc_machine.proofs.Ahead.{all_there, in_part, WholeGot, marked, coming, WholeAt, From, queued, bound, Sending, Ahead, KeepsBound, bound_at, each_kept, got_begins, within_body, within_bytes, no_bytes}
use Rattle.vc_machine.proofs.Basics.{put-same, put-other}

pub record Starts (net : Net) (Fits : ℕ → List ℕ → Type 0) (t : Tokens) (w : ℕ) : Type 0 where
  pub ahead : Ahead net Fits t
  pub sending : Sending net Fits t ahead.full w

refull : (net : Net) (p : Port) (sent : List ℕ) (xs : List Token) (got : List ℕ) (mark : Option Mark) (full full2 b : List ℕ) → sent ≡ [] →
    WholeGot net p sent xs got mark full b → WholeGot net p sent xs got mark full2 b
refull net p sent xs got mark full full2 b none (marked m is e) = marked m is e
refull net p sent xs got mark full full2 b none (coming drawn passed body open_is may some e f (all_there m ys k)) = coming drawn passed body open_is may some e f (all_there m ys k)
refull net p sent xs got mark full full2 b none (coming drawn passed body open_is may some e f (in_part k some2 is)) = absurd (some2 none)

-- nothing is put yet: the packet is any that is ready
start_new : (net : Net) (Fits : ℕ → List ℕ → Type 0) (t : Tokens) (w : ℕ) (x : List ℕ) → (a : Ahead net Fits t) → (t.sender w).sent ≡ [] → Fits w x →
    ((g : ℕ → List ℕ) → g w ≡ x → KeepsBound net t a.full t g w → From net t g w) → Starts net Fits t w
start_new net Fits t w x a none fits from =
    let g = put a.full w x in
    let keeps : (j : ℕ) → KeepsBound net t a.full t g j =
    λ j. bound_at net t t a.full g j w (t.sender w) (t.wire w) (t.receiver w) x (kept w t.sender) (kept w t.wire) (kept w t.receiver) (changed w a.full x)
    (λ b is whole. (is, refull net (net.far w) (t.sender w).sent ((t.receiver w).buffer ++ without_fcts (t.wire w)) (t.receiver w).got (t.receiver w).mark (a.full w) x b none whole)) in
    record {
      ahead = record {
        full = g;
        each = λ j. elim (cases_eq j w) [
          | inl e ↦ inl (ap (λ k. (t.sender k).sent) e ∙ none)
          | inr ne ↦ each_kept net Fits t t a.full g j (a.each j) refl (put-other a.full w x j ne) (λ p rest h. (rest, h)) (keeps j)
        ];
      };
      sending = record {
        more = x;
        is = put-same a.full w x ∙ ap (λ k. k ++ x) (sym none);
        fits = subst (Fits w) (sym (put-same a.full w x)) fits;
        comes_from = from g (put-same a.full w x) (keeps w);
      };
    }

pub start_node : (net : Net) (Fits : ℕ → List ℕ → Type 0) (t : Tokens) (w n i : ℕ) (p : Packet) (rest : List Packet) → Ahead net Fits t → net.near w ≡ AtNode n i →
    (t.nodes.ways w).queue ≡ p ∷ rest → Fits w p.body → Starts net Fits t w
start_node net Fits t w n i p rest a near front fits =
    elim (a.each w) [
      | inl none ↦ start_new net Fits t w p.body a none fits (λ g e keeps. queued n i p rest near front (sym e))
      | inr s ↦ record { ahead = a; sending = s }
    ]

-- the packet that is being put is the queue's first
pub node_next : (net : Net) (t : Tokens) (full : ℕ → List ℕ) (w n i : ℕ) (p : Packet) (rest : List Packet) → net.near w ≡ AtNode n i → (t.nodes.ways w).queue ≡ p ∷ rest →
    From net t full w → p.body ≡ full w
node_next net t full w n i p rest near front (queued n2 i2 p2 rest2 near2 front2 is) =
    let same : p ≡ p2 = (let e : p ∷ rest ≡ p2 ∷ rest2 = sym front ∙ front2 in cc) in
    ap (λ (k : Packet). k.body) same ∙ is
node_next net t full w n i p rest near front (bound n2 v link b real far is whole leaves) =
    absurd (let l = leaves.leaves in let e : AtNode n i ≡ AtSwitch n2 l.link = sym near ∙ l.near in cc)

-- what an input has got and is to get, as its way stands
pub record Found (net : Net) (Fits : ℕ → List ℕ → Type 0) (t : Tokens) (full : ℕ → List ℕ) (v w n : ℕ) : Type 0 where
  pub whole : List ℕ
  pub out_body : List ℕ
  pub is : WholeAt net t full v whole
  pub leaves : BodyLeaves net n whole w out_body
  pub fits : Fits w out_body

found_line : (net : Net) (Fits : ℕ → List ℕ → Type 0) (limit : ℕ) (t : Tokens) (full : ℕ → List ℕ) (v w n i : ℕ) (d : List ℕ) (drawn : Option ℕ) (passed : List ℕ) (line : List Packet) →
    IsLimit net Fits limit → net.far v ≡ AtSwitch n i → MayDraw net (net.far v) drawn → BodyLeaves net n (t.receiver v).got w d →
    (t.receiver v).mark ≡ None → (passed ≡ [] → ⊥) → (t.receiver v).got ≡ spelled (behind drawn []) ++ passed →
    Spells (bytes passed ++ ((t.receiver v).buffer ++ without_fcts (t.wire v))) line (t.sender v).sent → AllByRecursion (λ p. Fits v p.body) line →
    ((t.sender v).sent ≡ []) ⊎ Sending net Fits t full v → Found net Fits t full v w n
found_line net Fits limit t full v w n i d drawn passed [] limits far may group none some got_is line fit (inl empty) =
    absurd (some (no_bytes passed _ (line ∙ ap bytes empty)))
found_line net Fits limit t full v w n i d drawn passed [] limits far may group none some got_is line fit (inr s) =
    let x = within_bytes passed _ (t.sender v).sent line in
    let nonempty : (t.sender v).sent ≡ [] → ⊥ = λ e. some (no_bytes passed _ (line ∙ ap bytes e)) in
    let h = spelled (behind drawn []) in
    let same : (t.receiver v).got ++ (x.0 ++ s.more) ≡ h ++ full v =
    ap (λ k. k ++ (x.0 ++ s.more)) got_is ∙ append_assoc h passed (x.0 ++ s.more)
    ∙ ap (λ k. h ++ k) (sym (append_assoc passed x.0 s.more) ∙ ap (λ k. k ++ s.more) (sym x.1) ∙ sym s.is) in
    let l : BodyLeaves net n (h ++ full v) w (d ++ (x.0 ++ s.more)) = subst (λ k. BodyLeaves net n k w (d ++ (x.0 ++ s.more))) same (longer net n (t.receiver v).got (x.0 ++ s.more) w d group) in
    record {
      whole = h ++ full v;
      out_body = d ++ (x.0 ++ s.more);
      is = coming drawn passed (full v) none may some got_is refl (in_part line nonempty refl);
      leaves = l;
      fits = limits.hop v n i drawn (full v) w _ far (subst (λ k. MayDraw net k drawn) far may) s.fits l;
    }
found_line net Fits limit t full v w n i d drawn passed (p ∷ ps) limits far may group none some got_is line fit sends =
    let again = line ∙ append_assoc (spelling p) (spellings ps) (bytes (t.sender v).sent) ∙ append_assoc (bytes p.body) (EndMark p.mark ∷ []) (spellings ps ++ bytes (t.sender v).sent) in
    let x = within_body passed _ p.body p.mark _ again in
    let h = spelled (behind drawn []) in
    let same : (t.receiver v).got ++ x.0 ≡ h ++ p.body = ap (λ k. k ++ x.0) got_is ∙ append_assoc h passed x.0 ∙ ap (λ k. h ++ k) (sym x.1) in
    let l : BodyLeaves net n (h ++ p.body) w (d ++ x.0) = subst (λ k. BodyLeaves net n k w (d ++ x.0)) same (longer net n (t.receiver v).got x.0 w d group) in
    record {
      whole = h ++ p.body;
      out_body = d ++ x.0;
      is = coming drawn passed p.body none may some got_is refl (all_there p.mark _ again);
      leaves = l;
      fits = limits.hop v n i drawn p.body w _ far (subst (λ k. MayDraw net k drawn) far may) fit.0 l;
    }

found_inside : (net : Net) (Fits : ℕ → List ℕ → Type 0) (limit : ℕ) (t : Tokens) (s : State) (full : ℕ → List ℕ) (v w n i : ℕ) (d : List ℕ) → IsLimit net Fits limit → AllFit net Fits s →
    v < net.ways → net.far v ≡ AtSwitch n i → BodyLeaves net n (t.receiver v).got w d → (x : StandsFor net (net.far v) (t.nodes.ways v).queue (t.sender v) (t.wire v) (t.receiver v) (s.ways v)) →
    Inside net (net.far v) (t.receiver v).got (t.receiver v).mark (t.receiver v).bound x.passed (s.ways v).input →
    ((t.sender v).sent ≡ []) ⊎ Sending net Fits t full v → Found net Fits t full v w n
found_inside net Fits limit t s full v w n i d limits fit real far group x (without_mark none (nothing empty empty2) input) sends =
    absurd (no_group net n w d (subst (λ k. BodyLeaves net n k w d) empty group))
found_inside net Fits limit t s full v w n i d limits fit real far group x (without_mark none (begun drawn may some is) input) sends =
    found_line net Fits limit t full v w n i d drawn x.passed (s.ways v).line limits far may group none some is x.line (fit.lines v real) sends
found_inside net Fits limit t s full v w n i d limits fit real far group x (with_mark n2 i2 m far2 is empty input) sends =
    let c = fit.inputs v (record { body = (t.receiver v).got; mark = m }) (t.receiver v).bound real input in
    record {
      whole = (t.receiver v).got;
      out_body = d;
      is = marked m is refl;
      leaves = group;
      fits = limits.hop v c.switch c.link c.drawn c.body w d c.far c.draw c.fits
          (subst (λ k. BodyLeaves net k (spelled (behind c.drawn []) ++ c.body) w d) (same_switch n i c.switch c.link (sym far ∙ c.far)) (subst (λ k. BodyLeaves net n k w d) c.is group));
    }

pub start_switch : (net : Net) (Fits : ℕ → List ℕ → Type 0) (limit : ℕ) (waiting : Waiting) (t : Tokens) (s : State) (n v w : ℕ) (d : List ℕ) → IsLimit net Fits limit → AllFit net Fits s →
    TokenView net t s → Ahead net Fits t → IsBoundTo net waiting t n v w d → Starts net Fits t w
start_switch net Fits limit waiting t s n v w d limits fit view a h =
    let f = found_inside net Fits limit t s a.full v w n h.link d limits fit h.real h.far h.leaves (view.ways v) (view.ways v).inside (a.each v) in
    elim (a.each w) [
      | inl none ↦ start_new net Fits t w f.out_body a none f.fits
          (λ g e keeps. let k = keeps v f.whole h.bound f.is in bound n v h.link f.whole h.real h.far k.0 k.1 (subst (BodyLeaves net n f.whole w) (sym e) f.leaves))
      | inr x ↦ record { ahead = a; sending = x }
    ]

begins : (net : Net) (Fits : ℕ → List ℕ → Type 0) (t : Tokens) (a : Ahead net Fits t) (v : ℕ) → ((t.sender v).sent ≡ [] → ⊥) → (more : List ℕ) × (a.full v ≡ (t.sender v).sent ++ more)
begins net Fits t a v some = elim (a.each v) [ inl none ↦ absurd (some none) | inr s ↦ (s.more, s.is) ]

-- the packet that is being put goes on as the bound input's does
pub switch_next : (net : Net) (Fits : ℕ → List ℕ → Type 0) (waiting : Waiting) (t : Tokens) (n v w : ℕ) (d : List ℕ) → (a : Ahead net Fits t) → Bindings net t → IsBoundTo net waiting t n v w d →
    From net t a.full w → (x : List ℕ) × (a.full w ≡ d ++ x)
switch_next net Fits waiting t n v w d a bindings h (queued n2 i p rest near front is) =
    absurd (let l = h.leaves in let k = l.leaves in let e : AtNode n2 i ≡ AtSwitch n k.link = sym near ∙ k.near in cc)
switch_next net Fits waiting t n v w d a bindings h (bound n2 v2 link b real far is whole leaves) =
    let same : v2 ≡ v = bindings.one v2 v w real h.real is h.bound in
    let whole2 : WholeAt net t a.full v b = subst (λ k. WholeAt net t a.full k b) same whole in
    let x = got_begins net (net.far v) (t.sender v).sent ((t.receiver v).buffer ++ without_fcts (t.wire v)) (t.receiver v).got (t.receiver v).mark (a.full v) b (begins net Fits t a v) whole2 in
    let sw : n2 ≡ n = same_switch n2 link n h.link (sym far ∙ ap net.far same ∙ h.far) in
    let l : BodyLeaves net n b w (a.full w) = subst (λ k. BodyLeaves net k b w (a.full w)) sw leaves in
    (x.0, body_same net n b w (a.full w) (d ++ x.0) l (subst (λ k. BodyLeaves net n k w (d ++ x.0)) (sym x.1) (longer net n (t.receiver v).got x.0 w d h.leaves)))

marked_only : (net : Net) (p : Port) (sent : List ℕ) (xs : List Token) (got : List ℕ) (mark : Option Mark) (full b : List ℕ) (m : Mark) → mark ≡ Some m →
    WholeGot net p sent xs got mark full b → b ≡ got
marked_only net p sent xs got mark full b m is (marked m2 is2 e) = e
marked_only net p sent xs got mark full b m is (coming drawn passed body none may some e f k) = absurd (let c : None ≡ Some m = sym none ∙ is in cc)

-- and it is all there once the mark is
pub switch_last : (net : Net) (Fits : ℕ → List ℕ → Type 0) (waiting : Waiting) (t : Tokens) (n v w : ℕ) (d : List ℕ) (m : Mark) → (a : Ahead net Fits t) → Bindings net t →
    IsBoundTo net waiting t n v w d → (t.receiver v).mark ≡ Some m → From net t a.full w → a.full w ≡ d
switch_last net Fits waiting t n v w d m a bindings h mark (queued n2 i p rest near front is) =
    absurd (let l = h.leaves in let k = l.leaves in let e : AtNode n2 i ≡ AtSwitch n k.link = sym near ∙ k.near in cc)
switch_last net Fits waiting t n v w d m a bindings h mark (bound n2 v2 link b real far is whole leaves) =
    let same : v2 ≡ v = bindings.one v2 v w real h.real is h.bound in
    let whole2 : WholeAt net t a.full v b = subst (λ k. WholeAt net t a.full k b) same whole in
    let x = marked_only net (net.far v) (t.sender v).sent ((t.receiver v).buffer ++ without_fcts (t.wire v)) (t.receiver v).got (t.receiver v).mark (a.full v) b m mark whole2 in
    let sw : n2 ≡ n = same_switch n2 link n h.link (sym far ∙ ap net.far same ∙ h.far) in
    body_same net n (t.receiver v).got w (a.full w) d (subst (λ k. BodyLeaves net n k w (a.full w)) x (subst (λ k. BodyLeaves net k b w (a.full w)) sw leaves)) h.leaves
