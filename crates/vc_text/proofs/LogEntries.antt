-- What a log's events are with one more.
use Rattle.std.proofs.Common.{◌≡◌, ℕ, suc, ◌+◌, List, [], ◌∷◌, ◌++◌, length, length-append, append-nil, refl, sym, ap, subst, ◌∙◌, arith}
use Rattle.vc_actor.specs.declared.act.Act.TheVariants as act
use Rattle.vc_core.specs.declared.event.Event.{Event}
use Rattle.vc_occam.specs.declared.moves.Move.{Move}
use Rattle.vc_text.specs.EventLog.{act_of, words_left, moves_left, words_of, moves_of, words_in, moves_in, Fit, events_of}
use Rattle.vc_text.specs.declared.entry.Brief.{Brief}
use Rattle.vc_text.specs.declared.entry.Brief.TheVariants as brief
use Rattle.vc_text.specs.declared.entry.Entry.{Entry}

abbrev pub event_at : ℕ → Brief → List ℕ → List Move → Event
event_at actor b words moves = record { actor = actor; act = act_of b words moves }

-- one entry in front of others that are known
behind : (a : ℕ) (b : Brief) (es : List Entry) (e : Entry) (ws ws2 : List ℕ) (ms ms2 : List Move) →
    ((us : List ℕ) (ns : List Move) → words_in es ≡ length us → moves_in es ≡ length ns → events_of (es ++ e ∷ []) (us ++ ws2) (ns ++ ms2) ≡ events_of es us ns ++ event_at e.actor e.brief ws2 ms2 ∷ []) →
    words_of b + words_in es ≡ length ws → moves_of b + moves_in es ≡ length ms →
    event_at a b (ws ++ ws2) (ms ++ ms2) ∷ events_of (es ++ e ∷ []) (words_left b (ws ++ ws2)) (moves_left b (ms ++ ms2))
    ≡ event_at a b ws ms ∷ (events_of es (words_left b ws) (moves_left b ms) ++ event_at e.actor e.brief ws2 ms2 ∷ [])
behind a brief.Move es e ws ws2 [] ms2 rest w m = absurd (omega (m, arith))
behind a brief.Move es e ws ws2 (made ∷ ms) ms2 rest w m = ap (λ xs. event_at a brief.Move ws (made ∷ ms) ∷ xs) (rest ws ms (omega (w, arith)) (omega (m, arith)))
behind a (brief.Take link) es e [] ws2 ms ms2 rest w m = absurd (omega (w, arith))
behind a (brief.Take link) es e (word ∷ ws) ws2 ms ms2 rest w m = ap (λ xs. event_at a (brief.Take link) (word ∷ ws) ms ∷ xs) (rest ws ms (omega (w, arith)) (omega (m, arith)))
behind a x es e ws ws2 ms ms2 rest w m = ap (λ xs. event_at a x ws ms ∷ xs) (rest ws ms (omega (w, arith)) (omega (m, arith)))

-- one event more
pub one_more : (es : List Entry) (e : Entry) (ws ws2 : List ℕ) (ms ms2 : List Move) → words_in es ≡ length ws → moves_in es ≡ length ms →
    events_of (es ++ e ∷ []) (ws ++ ws2) (ms ++ ms2) ≡ events_of es ws ms ++ event_at e.actor e.brief ws2 ms2 ∷ []
one_more [] e [] ws2 [] ms2 w m = refl
one_more [] e (x ∷ ws) ws2 ms ms2 w m = absurd (omega (w, arith))
one_more [] e [] ws2 (x ∷ ms) ms2 w m = absurd (omega (m, arith))
one_more (d ∷ es) e ws ws2 ms ms2 w m = behind d.actor d.brief es e ws ws2 ms ms2 (λ us ns. one_more es e us ws2 ns ms2) w m

-- what one entry more takes
pub words_more : (es : List Entry) (e : Entry) → words_in (es ++ e ∷ []) ≡ words_in es + words_of e.brief
words_more [] e = omega arith
words_more (d ∷ es) e = let h = words_more es e in omega (h, arith)

pub moves_more : (es : List Entry) (e : Entry) → moves_in (es ++ e ∷ []) ≡ moves_in es + moves_of e.brief
moves_more [] e = omega arith
moves_more (d ∷ es) e = let h = moves_more es e in omega (h, arith)

-- the counts still fit with one entry more
pub fits_more : (es : List Entry) (e : Entry) (ws ws2 : List ℕ) (ms ms2 : List Move) → Fit es ws ms → words_of e.brief ≡ length ws2 → moves_of e.brief ≡ length ms2 → Fit (es ++ e ∷ []) (ws ++ ws2) (ms ++ ms2)
fits_more es e ws ws2 ms ms2 fit w m =
    let (u, v) = fit in
    let wl = length-append ws ws2 in
    let ml = length-append ms ms2 in
    let wm = words_more es e in
    let mm = moves_more es e in
    (omega (u, wl, wm, w, arith), omega (v, ml, mm, m, arith))

pub fits_word : (es : List Entry) (a link word : ℕ) (ws : List ℕ) (ms : List Move) → Fit es ws ms → Fit (es ++ record { actor = a; brief = brief.Take link } ∷ []) (ws ++ word ∷ []) ms
fits_word es a link word ws ms fit =
    subst (Fit (es ++ record { actor = a; brief = brief.Take link } ∷ []) (ws ++ word ∷ [])) (append-nil ms) (fits_more es (record { actor = a; brief = brief.Take link }) ws (word ∷ []) ms [] fit refl refl)

pub fits_move : (es : List Entry) (a : ℕ) (made : Move) (ws : List ℕ) (ms : List Move) → Fit es ws ms → Fit (es ++ record { actor = a; brief = brief.Move } ∷ []) ws (ms ++ made ∷ [])
fits_move es a made ws ms fit =
    subst (λ us. Fit (es ++ record { actor = a; brief = brief.Move } ∷ []) us (ms ++ made ∷ [])) (append-nil ws) (fits_more es (record { actor = a; brief = brief.Move }) ws [] ms (made ∷ []) fit refl refl)

-- an event for each entry
pub as_many : (es : List Entry) (ws : List ℕ) (ms : List Move) → length (events_of es ws ms) ≡ length es
as_many [] ws ms = refl
as_many (e ∷ es) ws ms = ap suc (as_many es (words_left e.brief ws) (moves_left e.brief ms))

pub none_of_none : (es : List Entry) (ws : List ℕ) (ms : List Move) → events_of es ws ms ≡ [] → es ≡ []
none_of_none [] ws ms h = refl
none_of_none (e ∷ es) ws ms h = absurd (cc)

-- the same with an entry that takes no word and no move
pub fits_brief : (es : List Entry) (e : Entry) (ws : List ℕ) (ms : List Move) → Fit es ws ms → words_of e.brief ≡ 0 → moves_of e.brief ≡ 0 → Fit (es ++ e ∷ []) ws ms
fits_brief es e ws ms fit w m =
    let (u, v) = fit in
    let wm = words_more es e in
    let mm = moves_more es e in
    (omega (u, wm, w, arith), omega (v, mm, m, arith))

pub brief_more : (es : List Entry) (e : Entry) (ws : List ℕ) (ms : List Move) → Fit es ws ms → events_of (es ++ e ∷ []) ws ms ≡ events_of es ws ms ++ event_at e.actor e.brief [] [] ∷ []
brief_more es e ws ms fit =
    let (u, v) = fit in
    ap (λ us. events_of (es ++ e ∷ []) us ms) (sym (append-nil ws)) ∙ ap (events_of (es ++ e ∷ []) (ws ++ [])) (sym (append-nil ms)) ∙ one_more es e ws [] ms [] u v

-- and with a word, or with a move
pub word_more : (es : List Entry) (a : ℕ) (link word : ℕ) (ws : List ℕ) (ms : List Move) → Fit es ws ms →
    events_of (es ++ record { actor = a; brief = brief.Take link } ∷ []) (ws ++ word ∷ []) ms ≡ events_of es ws ms ++ record { actor = a; act = act.Take link word } ∷ []
word_more es a link word ws ms fit =
    let (u, v) = fit in
    let e : Entry = record { actor = a; brief = brief.Take link } in
    ap (events_of (es ++ e ∷ []) (ws ++ word ∷ [])) (sym (append-nil ms)) ∙ one_more es e ws (word ∷ []) ms [] u v

pub move_more : (es : List Entry) (a : ℕ) (made : Move) (ws : List ℕ) (ms : List Move) → Fit es ws ms →
    events_of (es ++ record { actor = a; brief = brief.Move } ∷ []) ws (ms ++ made ∷ []) ≡ events_of es ws ms ++ record { actor = a; act = act.Proc made } ∷ []
move_more es a made ws ms fit =
    let (u, v) = fit in
    let e : Entry = record { actor = a; brief = brief.Move } in
    ap (λ us. events_of (es ++ e ∷ []) us (ms ++ made ∷ [])) (sym (append-nil ws)) ∙ one_more es e ws [] ms (made ∷ []) u v
