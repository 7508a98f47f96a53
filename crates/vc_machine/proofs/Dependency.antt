-- The way by which a packet comes to a switch depends on the way to which its input is bound, however much of it has come.
use Rattle.std.proofs.Common.{◌≡◌, ℕ, ◌<◌, ◌⊎◌, inl, inr, List, [], ◌∷◌, ◌++◌, sym, ap, subst, ◌∙◌, Option, append_assoc}
use Rattle.std.specs.List.{AllByRecursion}
use Rattle.vc_packets.specs.declared.packet.Packet.{Packet}
use Rattle.vc_packets.specs.Headers.{spelled}
use Rattle.vc_machine.specs.Paths.{AtSwitch, Net}
use Rattle.vc_switch.specs.Forward.{behind}
use Rattle.vc_switch.specs.Waiting.{Waiting}
use Rattle.vc_machine.specs.Machine.{State, BodyLeaves}
use Rattle.vc_tokens.specs.Tokens.{EndMark, bytes, spelling, spellings, Spells, without_fcts}
use Rattle.vc_machine.specs.Links.{Tokens}
use Rattle.vc_machine.specs.View.{MayDraw, nothing, begun, Inside, without_mark, with_mark, StandsFor}
use Rattle.vc_machine.specs.Private.Laws.{FitsWay, AllFit}
use Rattle.vc_machine.specs.Dependencies.{Depends}
use Rattle.vc_machine.proofs.Heads.{no_group, longer, same_switch}
use Rattle.vc_machine.proofs.Ahead.{Sending, within_body, within_bytes, no_bytes}
use Rattle.vc_machine.proofs.Standing.{Standing, depends}

by_line : (net : Net) (most : ℕ) (t : Tokens) (full : ℕ → List ℕ) (v w n i : ℕ) (d : List ℕ) (drawn : Option ℕ) (passed : List ℕ) (line : List Packet) →
    net.far v ≡ AtSwitch n i → MayDraw net (net.far v) drawn → BodyLeaves net n (t.receiver v).got w d → (passed ≡ [] → ⊥) → (t.receiver v).got ≡ spelled (behind drawn []) ++ passed →
    Spells (bytes passed ++ ((t.receiver v).buffer ++ without_fcts (t.wire v))) line (t.sender v).sent → AllByRecursion (λ p. FitsWay net most v p.body) line →
    ((t.sender v).sent ≡ []) ⊎ Sending net (FitsWay net most) t full v → Depends net v w
by_line net most t full v w n i d drawn passed [] far may group some got_is line fit (inl empty) =
    absurd (some (no_bytes passed _ (line ∙ ap bytes empty)))
by_line net most t full v w n i d drawn passed [] far may group some got_is line fit (inr s) =
    let x = within_bytes passed _ (t.sender v).sent line in
    let h = spelled (behind drawn []) in
    let same : (t.receiver v).got ++ (x.0 ++ s.more) ≡ h ++ full v =
    ap (λ k. k ++ (x.0 ++ s.more)) got_is ∙ append_assoc h passed (x.0 ++ s.more)
    ∙ ap (λ k. h ++ k) (sym (append_assoc passed x.0 s.more) ∙ ap (λ k. k ++ s.more) (sym x.1) ∙ sym s.is) in
    depends net most v n i w drawn (full v) (d ++ (x.0 ++ s.more)) s.fits far (subst (λ k. MayDraw net k drawn) far may)
    (subst (λ k. BodyLeaves net n k w (d ++ (x.0 ++ s.more))) same (longer net n (t.receiver v).got (x.0 ++ s.more) w d group))
by_line net most t full v w n i d drawn passed (p ∷ ps) far may group some got_is line fit sends =
    let again = line ∙ append_assoc (spelling p) (spellings ps) (bytes (t.sender v).sent) ∙ append_assoc (bytes p.body) (EndMark p.mark ∷ []) (spellings ps ++ bytes (t.sender v).sent) in
    let x = within_body passed _ p.body p.mark _ again in
    let h = spelled (behind drawn []) in
    let same : (t.receiver v).got ++ x.0 ≡ h ++ p.body = ap (λ k. k ++ x.0) got_is ∙ append_assoc h passed x.0 ∙ ap (λ k. h ++ k) (sym x.1) in
    depends net most v n i w drawn p.body (d ++ x.0) fit.0 far (subst (λ k. MayDraw net k drawn) far may)
    (subst (λ k. BodyLeaves net n k w (d ++ x.0)) same (longer net n (t.receiver v).got x.0 w d group))

by_input : (net : Net) (most : ℕ) (t : Tokens) (s : State) (full : ℕ → List ℕ) (v w n i : ℕ) (d : List ℕ) → AllFit net (FitsWay net most) s →
    v < net.ways → net.far v ≡ AtSwitch n i → BodyLeaves net n (t.receiver v).got w d → (x : StandsFor net (net.far v) (t.nodes.ways v).queue (t.sender v) (t.wire v) (t.receiver v) (s.ways v)) →
    Inside net (net.far v) (t.receiver v).got (t.receiver v).mark (t.receiver v).bound x.passed (s.ways v).input →
    ((t.sender v).sent ≡ []) ⊎ Sending net (FitsWay net most) t full v → Depends net v w
by_input net most t s full v w n i d fit real far group x (without_mark none (nothing empty empty2) input) sends =
    absurd (no_group net n w d (subst (λ k. BodyLeaves net n k w d) empty group))
by_input net most t s full v w n i d fit real far group x (without_mark none (begun drawn may some is) input) sends =
    by_line net most t full v w n i d drawn x.passed (s.ways v).line far may group some is x.line (fit.lines v real) sends
by_input net most t s full v w n i d fit real far group x (with_mark n2 i2 m far2 is empty input) sends =
    let c = fit.inputs v (record { body = (t.receiver v).got; mark = m }) (t.receiver v).bound real input in
    depends net most v c.switch c.link w c.drawn c.body d c.fits c.far c.draw
    (subst (λ k. BodyLeaves net k (spelled (behind c.drawn []) ++ c.body) w d) (same_switch n i c.switch c.link (sym far ∙ c.far)) (subst (λ k. BodyLeaves net n k w d) c.is group))

pub rising : (net : Net) (back : ℕ → ℕ) (waiting : Waiting) (most : ℕ) (t : Tokens) (v w n i : ℕ) (d : List ℕ) → Standing net back waiting most t → v < net.ways → net.far v ≡ AtSwitch n i →
    BodyLeaves net n (t.receiver v).got w d → Depends net v w
rising net back waiting most t v w n i d g real far group =
    by_input net most t g.state g.ahead.full v w n i d g.fit real far group (g.view.ways v) (g.view.ways v).inside (g.ahead.each v)
