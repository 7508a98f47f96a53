-- What an output half keeps of a message, as the pieces not yet acknowledged.
use Rattle.std.proofs.Common.{◌≡◌, ℕ, zero, suc, ◌+◌, ◌<◌, ◌≤◌, Bool, true, false, not, List, [], ◌∷◌, length, drop, refl, sym, ap, ◌∙◌, subst, arith, IsTrue, length-drop, Result, Ok, Err, IfOk}
use Rattle.std.proofs.lemmas.List.{drop_all}
use Rattle.vc_packets.specs.declared.packet.Packet.{Packet}
use Rattle.vc_packets.specs.Spellings.{piece_packet}
use Rattle.vc_packets.specs.Pieces.{Pieces, piece_count}
use Rattle.vc_packets.proofs.PieceLists.{has_pieces, length-pieces}
use Rattle.vc_blocks.specs.Outputs.{unacked_of, IsUnderWay}
use Rattle.vc_blocks.specs.Acknowledges.{later_than, advanced}
use Rattle.vc_blocks.specs.declared.out_half.Advance.TheVariants.{More, Finished}

pub count-pieces : (m : List ℕ) → length (has_pieces m).0 ≡ piece_count (length m)
count-pieces m = length-pieces m (has_pieces m).0 (has_pieces m).1

-- while a message is under way a piece is unacknowledged
some_unacked : (m : List ℕ) (n k : ℕ) → IsUnderWay true m n k → unacked_of true m k ≡ [] → ⊥
some_unacked m n k under none =
    let e = under.0 in
    let h = under.1 in
    let c = count-pieces m in
    let l = length-drop k (has_pieces m).0 in
    let z : length (drop k (has_pieces m).0) ≡ 0 = ap length none in
    omega arith

pub idle_is : (b : Bool) (m : List ℕ) (n k : ℕ) → IsUnderWay b m n k → (u : List (List ℕ)) → unacked_of b m k ≡ u → (IsTrue (not b) → u ≡ []) × (u ≡ [] → IsTrue (not b))
idle_is true m n k under u is = (λ h. absurd (cc), λ h. absurd (some_unacked m n k under (is ∙ h)))
idle_is false m n k under u is = (λ h. sym is, λ h. refl)

pub is_busy : (b : Bool) (m : List ℕ) (k : ℕ) (u : List (List ℕ)) → unacked_of b m k ≡ u → (u ≡ [] → ⊥) → b ≡ true
is_busy true m k u is some = refl
is_busy false m k u is some = absurd (some (sym is))

pub is_under_way : (b : Bool) (m : List ℕ) (n k : ℕ) → IsUnderWay b m n k → b ≡ true → IsUnderWay true m n k
is_under_way true m n k under e = under
is_under_way false m n k under e = absurd (cc)

later-drop : (xs : List (List ℕ)) (k : ℕ) → later_than (drop k xs) ≡ drop (suc k) xs
later-drop [] zero = refl
later-drop [] (suc k) = refl
later-drop (x ∷ xs) zero = refl
later-drop (x ∷ xs) (suc k) = later-drop xs k

next_drop : (xs : List (List ℕ)) (k : ℕ) → later_than (drop k xs) ≡ drop (k + 1) xs
next_drop xs k = later-drop xs k ∙ ap (λ n. drop n xs) (let e : suc k ≡ k + 1 = omega arith in e)

-- of a busy half: the pieces behind the one under way, by its number, and whether there are any
pub later_is : (b : Bool) (m : List ℕ) (k : ℕ) (u : List (List ℕ)) → unacked_of b m k ≡ u → (u ≡ [] → ⊥) → later_than u ≡ drop (k + 1) (has_pieces m).0
later_is b m k u is some =
    ap later_than (sym is) ∙ ap (λ z. later_than (unacked_of z m k)) (is_busy b m k u is some) ∙ next_drop (has_pieces m).0 k

last_is : (m : List ℕ) (n k : ℕ) → n ≡ piece_count (length m) → drop k (has_pieces m).0 ≡ [] → n ≤ k
last_is m n k e none = let c = count-pieces m in let l = length-drop k (has_pieces m).0 in let z : length (drop k (has_pieces m).0) ≡ 0 = ap length none in omega arith

none_later : (m : List ℕ) (n k : ℕ) → n ≡ piece_count (length m) → n ≤ k → drop k (has_pieces m).0 ≡ []
none_later m n k e h = let c = count-pieces m in drop_all k (has_pieces m).0 (omega arith)

pub last_test : (b : Bool) (m : List ℕ) (n k : ℕ) → IsUnderWay b m n k → (u : List (List ℕ)) → unacked_of b m k ≡ u → (u ≡ [] → ⊥) → (k + 1 ≡ n → later_than u ≡ []) × (later_than u ≡ [] → k + 1 ≡ n)
last_test b m n k under u is some =
    let w = is_under_way b m n k under (is_busy b m k u is some) in
    let less = w.1 in (
      λ e. later_is b m k u is some ∙ none_later m n (k + 1) w.0 (omega arith),
      λ e. (let z = last_is m n (k + 1) w.0 (sym (later_is b m k u is some) ∙ e) in omega arith),
    )

pub some_now : (u : List (List ℕ)) → (later_than u ≡ [] → ⊥) → u ≡ [] → ⊥
some_now u some e = some (ap later_than e)

pub next_less : (b : Bool) (m : List ℕ) (n k : ℕ) → IsUnderWay b m n k → (u : List (List ℕ)) → unacked_of b m k ≡ u → (later_than u ≡ [] → ⊥) → k + 1 < piece_count (length m)
next_less b m n k under u is some =
    let now = some_now u some in
    let w = is_under_way b m n k under (is_busy b m k u is now) in
    let t = last_test b m n k under u is now in
    let e = w.0 in
    let h = w.1 in
    let not_last : k + 1 ≡ n → ⊥ = λ q. some (t.0 q) in
    omega arith

-- after an acknowledge of the last piece nothing is under way, and else the next piece is
pub after_last : (b : Bool) (m : List ℕ) (n k : ℕ) → IsUnderWay b m n k → (u : List (List ℕ)) → unacked_of b m k ≡ u → (u ≡ [] → ⊥) → k + 1 ≡ n → [] ≡ later_than u
after_last b m n k under u is some e = sym ((last_test b m n k under u is some).0 e)

pub after_more : (b : Bool) (m : List ℕ) (k : ℕ) (u : List (List ℕ)) → unacked_of b m k ≡ u → (u ≡ [] → ⊥) → unacked_of b m (k + 1) ≡ later_than u
after_more b m k u is some = ap (λ z. unacked_of z m (k + 1)) (is_busy b m k u is some) ∙ sym (later_is b m k u is some)

finished : (u : List (List ℕ)) → u ≡ [] → Finished ≡ advanced u
finished u e = sym (ap advanced e)

pub is_finished : (b : Bool) (m : List ℕ) (n k : ℕ) → IsUnderWay b m n k → (u : List (List ℕ)) → unacked_of b m k ≡ u → (u ≡ [] → ⊥) → k + 1 ≡ n → Finished ≡ advanced (later_than u)
is_finished b m n k under u is some e = finished (later_than u) ((last_test b m n k under u is some).0 e)

more : (u : List (List ℕ)) → (u ≡ [] → ⊥) → More ≡ advanced u
more [] some = absurd (some refl)
more (x ∷ u) some = refl

pub is_more : (b : Bool) (m : List ℕ) (n k : ℕ) → IsUnderWay b m n k → (u : List (List ℕ)) → unacked_of b m k ≡ u → (u ≡ [] → ⊥) → (k + 1 ≡ n → ⊥) → More ≡ advanced (later_than u)
is_more b m n k under u is some e = more (later_than u) (λ q. e ((last_test b m n k under u is some).1 q))

-- the packet of a piece is that of the pieces from it on
pub packet_is : {E : Type 0} (r : Result Packet E) (route route' sent m : List ℕ) (k : ℕ) (u : List (List ℕ)) → IfOk r (λ p. (cs : List (List ℕ)) → Pieces sent cs → p ≡ piece_packet route (drop k cs)) →
    sent ≡ m → route ≡ route' → drop k (has_pieces m).0 ≡ u → IfOk r (λ p. p ≡ piece_packet route' u)
packet_is (Ok p) route route' sent m k u h same along is =
    h (has_pieces m).0 (subst (λ z. Pieces z (has_pieces m).0) (sym same) (has_pieces m).1) ∙ ap (λ z. piece_packet z (drop k (has_pieces m).0)) along ∙ ap (piece_packet route') is
packet_is (Err e) route route' sent m k u h same along is = h
