-- A message has one list of pieces, and what its pieces are by number.
use Rattle.std.proofs.Common.{zero, suc, take, drop, length-drop, length-take-le, take-append-drop, inl, inr, ◌≡◌, ℕ, ◌+◌, ◌*◌, ◌≤◌, ◌<◌, min, List, [], ◌∷◌, ◌++◌, length, refl, sym, ap, ◌∙◌, arith, append-nil, length-append, subst}
use Rattle.std.proofs.lemmas.Bool.{cases_lt}
use Rattle.std.proofs.Math.Nat.{min_comm}
use Rattle.std.proofs.lemmas.List.{append_cancel_left, take_at, drop_at, take_all, take_min, drop-drop}
use Rattle.vc_packets.specs.declared.mark.Mark.{Mark}
use Rattle.vc_packets.specs.declared.mark.Mark.TheVariants.{Eop, Eom}
use Rattle.vc_packets.specs.declared.packet.Packet.{Packet}
use Rattle.vc_packets.specs.Headers.{spelled}
use Rattle.vc_packets.specs.Pieces.{joined, IsCut, HasNoEmptyEnd, Pieces, piece_count, pieces_from, pieces_of}
use Rattle.vc_packets.specs.Spellings.{mark_before, piece_packet, packets}

pub head_same : {A : Type 0} (a b : A) (xs ys : List A) → a ∷ xs ≡ b ∷ ys → a ≡ b
head_same a b xs ys e = cc

pub tail_same : {A : Type 0} (a b : A) (xs ys : List A) → a ∷ xs ≡ b ∷ ys → xs ≡ ys
tail_same a b xs ys e = cc

-- lists that begin with parts of one length
pub front_same : (xs ys as' bs : List ℕ) → length xs ≡ length ys → xs ++ as' ≡ ys ++ bs → (xs ≡ ys) × (as' ≡ bs)
front_same [] [] as' bs l e = (refl, e)
front_same [] (y ∷ ys) as' bs l e = absurd (omega arith)
front_same (x ∷ xs) [] as' bs l e = absurd (omega arith)
front_same (x ∷ xs) (y ∷ ys) as' bs l e =
    let r = front_same xs ys as' bs (omega arith) (tail_same x y (xs ++ as') (ys ++ bs) e) in
    ((λ i. head_same x y (xs ++ as') (ys ++ bs) e i ∷ r.0 i), r.1)

nothing : (xs : List ℕ) → length xs ≡ 0 → xs ≡ []
nothing [] e = refl
nothing (x ∷ xs) e = absurd (omega arith)

-- pieces of nothing, behind a full piece: there are none
none_behind : (m c : List ℕ) (ds : List (List ℕ)) → IsCut (c ∷ ds) → HasNoEmptyEnd m (c ∷ ds) → length (joined (c ∷ ds)) ≡ 0 → m ≡ []
none_behind m c [] cut end e = end (nothing c (let k = length-append c [] in omega arith))
none_behind m c (d ∷ ds) cut end e = let k = length-append c (joined (d ∷ ds)) in let h = cut.0 in absurd (omega arith)

-- what follows a full piece isn't empty
some_behind : (m c : List ℕ) (ds : List (List ℕ)) → IsCut (c ∷ ds) → HasNoEmptyEnd m (c ∷ ds) → 32 ≤ length m → 0 < length (joined (c ∷ ds))
some_behind m c ds cut end long =
    elim (cases_lt 0 (length (joined (c ∷ ds)))) [
      | inl some ↦ some
      | inr none' ↦ let y = ap length (none_behind m c ds cut end (omega arith)) in omega arith
    ]

longer : (m c d : List ℕ) (e : List ℕ) (ds : List (List ℕ)) → length c ≤ 32 → length d ≡ 32 → IsCut (e ∷ ds) → HasNoEmptyEnd m (e ∷ ds) → c ++ [] ≡ d ++ joined (e ∷ ds) → 32 ≤ length m → ⊥
longer m c d e ds short full cut end same long =
    let a = length-append c [] in
    let b = length-append d (joined (e ∷ ds)) in
    let k : length (c ++ []) ≡ length (d ++ joined (e ∷ ds)) = ap length same in
    let z = some_behind m e ds cut end long in
    omega arith

cut_same : (m : List ℕ) (cs ds : List (List ℕ)) → IsCut cs → IsCut ds → HasNoEmptyEnd m cs → HasNoEmptyEnd m ds → joined cs ≡ joined ds → length (joined cs) ≤ length m → cs ≡ ds
cut_same m [] ds a b p q e l = absurd a
cut_same m (c ∷ cs) [] a b p q e l = absurd b
cut_same m (c ∷ []) (d ∷ []) a b p q e l = ap (λ k. k ∷ []) (sym (append-nil c) ∙ e ∙ append-nil d)
cut_same m (c ∷ []) (d ∷ f ∷ ds) a b p q e l =
    let k : length (c ++ []) ≡ length (d ++ joined (f ∷ ds)) = ap length e in
    let y = length-append d (joined (f ∷ ds)) in
    let h = b.0 in
    absurd (longer m c d f ds a b.0 b.1 q e (omega arith))
cut_same m (c ∷ g ∷ cs) (d ∷ []) a b p q e l =
    let y = length-append c (joined (g ∷ cs)) in
    let h = a.0 in
    absurd (longer m d c g cs b a.0 a.1 p (sym e) (omega arith))
cut_same m (c ∷ g ∷ cs) (d ∷ f ∷ ds) a b p q e l =
    let r = front_same c d (joined (g ∷ cs)) (joined (f ∷ ds)) (a.0 ∙ sym b.0) e in
    let y = length-append c (joined (g ∷ cs)) in
    let rest = cut_same m (g ∷ cs) (f ∷ ds) a.1 b.1 p q r.1 (omega arith) in
    (λ i. r.0 i ∷ rest i)

-- a message has only one list of pieces
pub pieces_same : (m : List ℕ) (cs ds : List (List ℕ)) → Pieces m cs → Pieces m ds → cs ≡ ds
pieces_same m cs ds a b = cut_same m cs ds a.cut b.cut a.end b.end (a.whole ∙ sym b.whole) (let k = ap length a.whole in omega arith)

end_weaker : (a b : List ℕ) (cs : List (List ℕ)) → (a ≡ [] → b ≡ []) → HasNoEmptyEnd a cs → HasNoEmptyEnd b cs
end_weaker a b [] h e = tt
end_weaker a b (c ∷ []) h e = λ z. h (e z)
end_weaker a b (c ∷ d ∷ cs) h e = end_weaker a b (d ∷ cs) h e

cut_more : (c : List ℕ) (cs : List (List ℕ)) → length c ≡ 32 → IsCut cs → IsCut (c ∷ cs)
cut_more c [] l h = absurd h
cut_more c (d ∷ cs) l h = (l, h)

end_more : (m c : List ℕ) (cs : List (List ℕ)) → IsCut cs → HasNoEmptyEnd m cs → HasNoEmptyEnd m (c ∷ cs)
end_more m c [] k h = absurd k
end_more m c (d ∷ cs) k h = h

so_many : (n : ℕ) (m : List ℕ) → n ≡ piece_count (length m) → Pieces m (pieces_from n m)
so_many zero m e = absurd (omega arith)
so_many (suc zero) m e =
    let all : take 32 m ≡ m = take_all 32 m (omega arith) in
    record { whole = append-nil (take 32 m) ∙ all; cut = subst (λ c. length c ≤ 32) (sym all) (omega arith); end = λ none. sym all ∙ none }
so_many (suc (suc n)) m e =
    let l = length-drop 32 m in
    let rest = pieces_from (suc n) (drop 32 m) in
    let p : Pieces (drop 32 m) rest = so_many (suc n) (drop 32 m) (omega arith) in
    record {
      whole = ap (λ k. take 32 m ++ k) p.whole ∙ take-append-drop 32 m;
      cut = cut_more (take 32 m) rest (length-take-le 32 m (omega arith)) p.cut;
      end = end_more m (take 32 m) rest p.cut (end_weaker (drop 32 m) m rest (λ none. (let z = ap length none in absurd (omega arith))) p.end);
    }

-- the pieces of a message are its pieces
pub are_pieces : (m : List ℕ) → Pieces m (pieces_of m)
are_pieces m = so_many (piece_count (length m)) m refl

-- each message has pieces
pub has_pieces : (m : List ℕ) → (cs : List (List ℕ)) × Pieces m cs
has_pieces m = (pieces_of m, are_pieces m)

-- how many pieces there are
length-cut : (m : List ℕ) (cs : List (List ℕ)) → IsCut cs → HasNoEmptyEnd m cs → length (joined cs) ≤ length m → length cs ≡ piece_count (length (joined cs))
length-cut m [] cut end l = absurd cut
length-cut m (c ∷ []) cut end l = let k = length-append c [] in omega arith
length-cut m (c ∷ d ∷ cs) cut end l =
    let k = length-append c (joined (d ∷ cs)) in
    let h = cut.0 in
    let some = some_behind m d cs cut.1 end (omega arith) in
    let rest = length-cut m (d ∷ cs) cut.1 end (omega arith) in
    omega arith

pub length-pieces : (m : List ℕ) (cs : List (List ℕ)) → Pieces m cs → length cs ≡ piece_count (length m)
length-pieces m cs p = let k = ap length p.whole in length-cut m cs p.cut p.end (omega arith) ∙ ap (λ b. piece_count (length b)) p.whole

-- the piece of this number: its bytes, its mark, and the pieces behind it
pub record PieceAt (m : List ℕ) (cs : List (List ℕ)) (k : ℕ) : Type 0 where
  pub now : List ℕ
  pub later : List (List ℕ)
  pub is : drop k cs ≡ now ∷ later
  pub bytes : now ≡ take 32 (drop (32 * k) m)
  pub last : length (drop (32 * k) m) ≤ 32 → later ≡ []
  pub more : 32 < length (drop (32 * k) m) → mark_before later ≡ Eop

cut_at : (m : List ℕ) (cs : List (List ℕ)) (k : ℕ) → IsCut cs → HasNoEmptyEnd m cs → length (joined cs) ≤ length m → k < length cs → PieceAt (joined cs) cs k
cut_at m [] k cut end l h = absurd cut
cut_at m (c ∷ []) zero cut end l h = record {
  now = c;
  later = [];
  is = refl;
  bytes = sym (ap (take 32) (append-nil c) ∙ take_all 32 c cut);
  last = λ short. refl;
  more = λ long. (let k = length-append c [] in absurd (omega arith));
}
cut_at m (c ∷ []) (suc k) cut end l h = absurd (omega arith)
cut_at m (c ∷ d ∷ cs) zero cut end l h =
    let k = length-append c (joined (d ∷ cs)) in
    let full = cut.0 in
    let some = some_behind m d cs cut.1 end (omega arith) in
    record {
      now = c;
      later = d ∷ cs;
      is = refl;
      bytes = sym (take_at c (joined (d ∷ cs)) 32 full);
      last = λ short. absurd (omega arith);
      more = λ long. refl;
    }
cut_at m (c ∷ d ∷ cs) (suc k) cut end l h =
    let n = length-append c (joined (d ∷ cs)) in
    let full = cut.0 in
    let behind : drop (32 * suc k) (joined (c ∷ d ∷ cs)) ≡ drop (32 * k) (joined (d ∷ cs)) =
    ap (λ n. drop n (joined (c ∷ d ∷ cs))) (let e : 32 * suc k ≡ 32 + 32 * k = omega arith in e)
    ∙ sym (drop-drop (32 * k) 32 (joined (c ∷ d ∷ cs))) ∙ ap (drop (32 * k)) (drop_at c (joined (d ∷ cs)) 32 full) in
    let p = cut_at m (d ∷ cs) k cut.1 end (omega arith) (omega arith) in
    record {
      now = p.now;
      later = p.later;
      is = p.is;
      bytes = p.bytes ∙ ap (take 32) (sym behind);
      last = λ short. p.last (let e = ap length behind in omega arith);
      more = λ long. p.more (let e = ap length behind in omega arith);
    }

pub piece_at : (m : List ℕ) (cs : List (List ℕ)) (k : ℕ) → Pieces m cs → k < length cs → PieceAt m cs k
piece_at m cs k p h =
    let long = ap length p.whole in
    let P : List ℕ → Type 0 = λ b. PieceAt b cs k in
    subst P p.whole (cut_at m cs k p.cut p.end (omega arith) h)

full_mark : (later : List (List ℕ)) → mark_before later ≡ Eom → later ≡ []
full_mark [] e = refl
full_mark (d ∷ ds) e = absurd (let f : Eop ≡ Eom = e in cc)

no_packets : (ps : List Packet) (p : Packet) → [] ≡ p ∷ ps → ⊥
no_packets ps p e = cc

same_parts : (route m n : List ℕ) (cs ds : List (List ℕ)) (more : List Packet) → IsCut cs → IsCut ds → packets route ds ≡ packets route cs ++ more → joined cs ≡ joined ds
same_parts route m n [] ds more a b e = absurd a
same_parts route m n (c ∷ cs) [] more a b e = absurd b
same_parts route m n (c ∷ []) (d ∷ ds) more a b e =
    let first = head_same (piece_packet route (d ∷ ds)) (piece_packet route (c ∷ [])) (packets route ds) more e in
    let none_later = full_mark ds (ap (λ (p : Packet). p.mark) first) in
    let same = append_cancel_left (spelled route) d c (ap (λ (p : Packet). p.body) first) in
    λ i. joined (sym same i ∷ sym none_later i)
same_parts route m n (c ∷ g ∷ cs) (d ∷ []) more a b e =
    absurd (no_packets (packets route cs ++ more) (piece_packet route (g ∷ cs)) (tail_same (piece_packet route (d ∷ [])) (piece_packet route (c ∷ g ∷ cs)) [] (packets route (g ∷ cs) ++ more) e))
same_parts route m n (c ∷ g ∷ cs) (d ∷ f ∷ ds) more a b e =
    let first = head_same (piece_packet route (d ∷ f ∷ ds)) (piece_packet route (c ∷ g ∷ cs)) (packets route (f ∷ ds)) (packets route (g ∷ cs) ++ more) e in
    let same = append_cancel_left (spelled route) d c (ap (λ (p : Packet). p.body) first) in
    let rest = same_parts route m n (g ∷ cs) (f ∷ ds) more a.1 b.1
    (tail_same (piece_packet route (d ∷ f ∷ ds)) (piece_packet route (c ∷ g ∷ cs)) (packets route (f ∷ ds)) (packets route (g ∷ cs) ++ more) e) in
    λ i. sym same i ++ rest i

pub packets_tell : (route m n : List ℕ) (cs ds : List (List ℕ)) (more : List Packet) → Pieces m cs → Pieces n ds → packets route ds ≡ packets route cs ++ more → m ≡ n
packets_tell route m n cs ds more p q e = sym p.whole ∙ same_parts route m n cs ds more p.cut q.cut e ∙ q.whole

-- the packet of a piece: what is left of the message from it on is cut after 32 bytes
pub packet_of : (route m : List ℕ) (k : ℕ) (rest body : List ℕ) (n : ℕ) (mark : Mark) → k < piece_count (length m) → rest ≡ drop (32 * k) m →
    n ≡ min (length rest) 32 → body ≡ spelled route ++ take n rest → (length rest ≤ 32 → mark ≡ Eom) → (32 < length rest → mark ≡ Eop) →
    (cs : List (List ℕ)) → Pieces m cs → let packet : Packet = record { body = body; mark = mark } in packet ≡ piece_packet route (drop k cs)
packet_of route m k rest body n mark within is few bytes short long cs p =
    let a = piece_at m cs k p (let n = length-pieces m cs p in omega arith) in
    let size = ap length is in
    let same : mark ≡ mark_before a.later =
    elim (cases_lt 32 (length rest)) [
      | inl h ↦ long h ∙ sym (a.more (omega arith))
      | inr h ↦ short h ∙ ap mark_before (sym (a.last (omega arith)))
    ] in
    let load : take n rest ≡ a.now =
    ap (λ i. take i rest) (few ∙ min_comm (length rest) 32) ∙ take_min 32 rest ∙ ap (take 32) is ∙ sym a.bytes in
    (λ i. record { body = (bytes ∙ ap (λ b. spelled route ++ b) load) i; mark = same i }) ∙ ap (piece_packet route) (sym a.is)
