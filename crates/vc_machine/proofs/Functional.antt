-- The function finds the state that the relation tells.
use Rattle.std.proofs.Common.{◌≡◌, ℕ, List, [], ◌∷◌, ◌++◌, refl, sym, ap, ◌∙◌, arith, Option, Some, None, append-nil, append_assoc}
use Rattle.vc_packets.specs.declared.mark.Mark.{Mark}
use Rattle.vc_packets.specs.declared.packet.Packet.{Packet}
use Rattle.vc_packets.specs.Headers.{spelled}
use Rattle.vc_machine.specs.Paths.{Port, AtNode, AtSwitch, Net}
use Rattle.vc_switch.specs.Forward.{Interval, IsDrawn, behind}
use Rattle.vc_machine.specs.Machine.{State, Input}
use Rattle.vc_tokens.specs.Tokens.{Token, Byte, Fct, EndMark, bytes, spelling, spellings, Spells, without_fcts, fcts}
use Rattle.vc_machine.specs.Links.{Tokens}
use Rattle.vc_machine.specs.View.{Got, nothing, begun, Inside, without_mark, with_mark, TokenView}
use Rattle.vc_machine.specs.PacketsOfTokens.{read, without_random, passed_on, input_of, seen}
use Rattle.vc_tokens.proofs.Spellings.{bytes-append, fcts-append, mark_in_bytes, first_packet}
use Rattle.vc_machine.proofs.Heads.{node_got}

pub fcts_bytes : (bs : List ℕ) → fcts (bytes bs) ≡ 0
fcts_bytes [] = refl
fcts_bytes (b ∷ bs) = fcts_bytes bs

pub fcts_spellings : (ps : List Packet) → fcts (spellings ps) ≡ 0
fcts_spellings [] = refl
fcts_spellings (p ∷ ps) =
    let a = fcts-append (spelling p) (spellings ps) in
    let b = fcts-append (bytes p.body) (EndMark p.mark ∷ []) in
    let c = fcts_bytes p.body in
    omega (arith, fcts_spellings ps)

-- no FCT is in a spelling
pub spelled_plain : (ts : List Token) (ps : List Packet) (rest : List ℕ) → Spells ts ps rest → fcts ts ≡ 0
spelled_plain ts ps rest e =
    let a = ap fcts e in let b = fcts-append (spellings ps) (bytes rest) in let c = fcts_spellings ps in let d = fcts_bytes rest in omega arith

pub read_spells : (got : List ℕ) (ts : List Token) (ps : List Packet) (rest : List ℕ) → Spells (bytes got ++ ts) ps rest → read got ts ≡ ps
read_spells got [] ps rest e = nothing_more ps (sym (append-nil (bytes got)) ∙ e)
  where
    nothing_more : (ps : List Packet) → bytes got ≡ spellings ps ++ bytes rest → [] ≡ ps
    nothing_more [] h = refl
    nothing_more (p ∷ ps) h = absurd (mark_in_bytes p.body p.mark (spellings ps ++ bytes rest) got
        (sym (append_assoc (bytes p.body) (EndMark p.mark ∷ []) (spellings ps ++ bytes rest)) ∙ sym (append_assoc (spelling p) (spellings ps) (bytes rest)) ∙ sym h))
read_spells got (Byte b ∷ ts) ps rest e =
    read_spells (got ++ b ∷ []) ts ps rest (ap (λ k. k ++ ts) (bytes-append got (b ∷ [])) ∙ append_assoc (bytes got) (Byte b ∷ []) ts ∙ e)
read_spells got (EndMark m ∷ ts) ps rest e =
    let f = first_packet got m ts ps rest e in
    ap (λ k. record { body = got; mark = m } ∷ k) (read_spells [] ts f.others rest f.spells) ∙ sym f.is
read_spells got (Fct ∷ ts) ps rest e =
    absurd (let a = spelled_plain (bytes got ++ Fct ∷ ts) ps rest e in let b = fcts-append (bytes got) (Fct ∷ ts) in omega arith)

read_without : (got : List ℕ) (ts : List Token) → read got ts ≡ read got (without_fcts ts)
read_without got [] = refl
read_without got (Byte b ∷ ts) = read_without (got ++ b ∷ []) ts
read_without got (EndMark m ∷ ts) = ap (λ k. record { body = got; mark = m } ∷ k) (read_without [] ts)
read_without got (Fct ∷ ts) = read_without got ts

read_buffer : (got : List ℕ) (buffer ts : List Token) → read got (buffer ++ ts) ≡ read got (buffer ++ without_fcts ts)
read_buffer got [] ts = read_without got ts
read_buffer got (Byte b ∷ buffer) ts = read_buffer (got ++ b ∷ []) buffer ts
read_buffer got (EndMark m ∷ buffer) ts = ap (λ k. record { body = got; mark = m } ∷ k) (read_buffer [] buffer ts)
read_buffer got (Fct ∷ buffer) ts = read_buffer got buffer ts

random_none : (r : Option Interval) → without_random r [] ≡ []
random_none None = refl
random_none (Some i) = refl

random_off : (r : Option Interval) (d : Option ℕ) (passed : List ℕ) → IsDrawn r d → without_random r (spelled (behind d []) ++ passed) ≡ passed
random_off None None passed h = refl
random_off None (Some v) passed h = absurd h
random_off (Some i) (Some v) passed h = refl
random_off (Some i) None passed h = absurd h

passed_got : (net : Net) (p : Port) (got passed : List ℕ) → Got net p got passed → passed_on net p got None ≡ passed
passed_got net (AtNode n i) got passed g = node_got net (AtNode n i) n i got passed refl g
passed_got net (AtSwitch n i) got passed (nothing empty empty2) = ap (without_random ((net.switch n).random i)) empty ∙ random_none ((net.switch n).random i) ∙ sym empty2
passed_got net (AtSwitch n i) got passed (begun d may some e) = ap (without_random ((net.switch n).random i)) e ∙ random_off ((net.switch n).random i) d passed may

marked_passed : (net : Net) (p : Port) (got : List ℕ) (m : Mark) → passed_on net p got (Some m) ≡ []
marked_passed net (AtNode n i) got m = refl
marked_passed net (AtSwitch n i) got m = refl

passed_is : (net : Net) (p : Port) (got : List ℕ) (mark : Option Mark) (bound : Option ℕ) (passed : List ℕ) (input : Input) → Inside net p got mark bound passed input → passed_on net p got mark ≡ passed
passed_is net p got mark bound passed input (without_mark none g empty) = ap (passed_on net p got) none ∙ passed_got net p got passed g
passed_is net p got mark bound passed input (with_mark n i m far is empty full) = ap (passed_on net p got) is ∙ marked_passed net p got m ∙ sym empty

input_is : (net : Net) (p : Port) (got : List ℕ) (mark : Option Mark) (bound : Option ℕ) (passed : List ℕ) (input : Input) → Inside net p got mark bound passed input → input ≡ input_of got mark bound
input_is net p got mark bound passed input (without_mark none g empty) = empty ∙ ap (λ k. input_of got k bound) (sym none)
input_is net p got mark bound passed input (with_mark n i m far is empty full) = full ∙ ap (λ k. input_of got k bound) (sym is)

way_is : (net : Net) (t : Tokens) (s : State) → TokenView net t s → (w : ℕ) → s.ways w ≡ (seen net t).ways w
way_is net t s view w =
    let x = view.ways w in
    let r = t.receiver w in
    let p = passed_is net (net.far w) r.got r.mark r.bound x.passed (s.ways w).input x.inside in
    let line : (s.ways w).line ≡ read (passed_on net (net.far w) r.got r.mark) (r.buffer ++ t.wire w) =
    sym (read_spells x.passed (r.buffer ++ without_fcts (t.wire w)) (s.ways w).line (t.sender w).sent x.line)
    ∙ sym (read_buffer x.passed r.buffer (t.wire w)) ∙ ap (λ k. read k (r.buffer ++ t.wire w)) (sym p) in
    let input = input_is net (net.far w) r.got r.mark r.bound x.passed (s.ways w).input x.inside in
    λ j. record { queue = x.same_queue j; line = line j; input = input j }

pub seen_is : (net : Net) (t : Tokens) (s : State) → TokenView net t s → s ≡ seen net t
seen_is net t s view = λ j. record { ways = λ w. way_is net t s view w j; chans = view.chans j; strays = view.strays j; lost = view.lost j }
