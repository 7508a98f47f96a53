-- Looking at the ends of rings.
use Rattle.std.proofs.Common.{◌≡◌, ℕ, ◌<◌, List, [], ◌++◌, length, get_or, refl, ap, sym, subst, arith, ◌∙◌, append_assoc, inl, inr, w32, ◌^◌, ◌*◌, ◌%◌, length-set, bit_or, ◌≢◌}
use Rattle.std.specs.List.{AllZip, All}
use Rattle.std.proofs.Math.ListN.{set}
use mathlib.Core.List.{IsPrefix}
use Rattle.std.proofs.lemmas.Grind.{common_steps}
use Rattle.rtrb.specs.Ring.{known_free, known_items, SameProducer, SameConsumer}
use Rattle.rtrb.specs.Ends.{SameRing}
use Rattle.rtrb.specs.declared.end.End.{End}
use Rattle.rtrb.specs.declared.producer.Producer.{Producer}
use Rattle.rtrb.specs.declared.consumer.Consumer.{Consumer}
use Rattle.std.specs.Int.{bit_at}
use Rattle.std.proofs.lemmas.Nat.Bits.{bit_at_set_other}
use Rattle.std.proofs.lemmas.List.{get_or-set_same, get_or-set_other}
use Rattle.std.proofs.lemmas.Bool.Decides.{eqb_tells}
use Rattle.vc_threads.specs.declared.link.Stamped.{Stamped}
use Rattle.vc_threads.specs.Wires.{OutLooked, InLooked}
use Rattle.vc_threads.specs.Private.Rooms.{IsFree, HasRoom, HaveRoom}
use Rattle.vc_threads.proofs.Zips.{zip_at, zip_length}

pub prefix_then : {X : Type 0} (a b c : List X) → IsPrefix a b → IsPrefix b c → IsPrefix a c
prefix_then a b c p q = (p.0 ++ q.0, sym (append_assoc a p.0 q.0) ∙ (ap (λ w. w ++ q.0) p.1 ∙ q.1))

module _ {A P : Type 0} where
  pub ring_then : (a b c : End Stamped A P) → SameRing a b → SameRing b c → SameRing a c
  ring_then a b c p q = (q.0 ∙ p.0, q.1 ∙ p.1, q.2 ∙ p.2, q.3 ∙ p.3)

  pub producer_then : (a b c : Producer Stamped A P) → SameProducer a b → SameProducer b c → SameProducer a c
  producer_then a b c p q = (ring_then a.end b.end c.end p.0 q.0, q.1 ∙ p.1)

  pub consumer_then : (a b c : Consumer Stamped A P) → SameConsumer a b → SameConsumer b c → SameConsumer a c
  consumer_then a b c p q = (ring_then a.end b.end c.end p.0 q.0, q.1 ∙ p.1)

  pub looked_same : (o : ℕ × Producer Stamped A P) → OutLooked o o
  looked_same o = (refl, (((refl, refl, refl, refl), refl), refl, omega arith))

  pub looked_then : (a b c : ℕ × Producer Stamped A P) → OutLooked a b → OutLooked b c → OutLooked a c
  looked_then a b c p q =
      let u = p.1.2 in let v = q.1.2 in
      (q.0 ∙ p.0, (producer_then a.1 b.1 c.1 p.1.0 q.1.0, q.1.1 ∙ p.1.1, omega (arith, u, v)))

  pub free_kept : (link : ℕ) (a b : ℕ × Producer Stamped A P) → OutLooked a b → IsFree link a → IsFree link b
  free_kept link a b l f = (l.0 ∙ f.0, omega (arith, l.1.2, f.1))

  pub room_kept : (link : ℕ) (xs ys : List (ℕ × Producer Stamped A P)) → AllZip OutLooked xs ys → HasRoom xs link → HasRoom ys link
  room_kept link xs ys z h none =
      let e = zip_length OutLooked xs ys z in
      h (λ k less free. none k (omega (arith, e, less)) (λ d. free_kept link (get_or xs k d) (get_or ys k d) (zip_at OutLooked xs ys k d d z less) (free d)))

  pub low_kept : (xs ys : List (ℕ × Producer Stamped A P)) → AllZip OutLooked xs ys → All (λ o. o.0 < 32) xs → All (λ o. o.0 < 32) ys
  low_kept xs ys z h k d m =
      let e = zip_length OutLooked xs ys z in
      let l = zip_at OutLooked xs ys k d d z (omega arith) in
      let low = h k d (omega arith) in
      let same = l.0 in
      subst (λ (n : ℕ). n < 32) (sym same) low

  pub in_looked_same : (o : ℕ × Consumer Stamped A P) → InLooked o o
  in_looked_same o = (refl, (((refl, refl, refl, refl), refl), refl, ([], grind (arith, common_steps))))

  pub in_looked_then : (a b c : ℕ × Consumer Stamped A P) → InLooked a b → InLooked b c → InLooked a c
  in_looked_then a b c p q =
      (q.0 ∙ p.0, (consumer_then a.1 b.1 c.1 p.1.0 q.1.0, q.1.1 ∙ p.1.1, prefix_then (known_items a.1) (known_items b.1) (known_items c.1) p.1.2 q.1.2))

  -- the ring at a place has room
  room_at : (outs : List (ℕ × Producer Stamped A P)) (k link : ℕ) (y : ℕ × Producer Stamped A P) → k < length outs → y.0 ≡ link → 0 < known_free y.1 → HasRoom (set outs k y) link
  room_at outs k link y within is free none =
      let P : ℕ × Producer Stamped A P → Type 0 = IsFree link in
      none k (omega (arith, length-set outs k y, within)) (λ d. subst P (sym (get_or-set_same outs k y d within)) (is, free))

  -- another link's ring has the room that it had
  room_beside : (outs : List (ℕ × Producer Stamped A P)) (k link other : ℕ) (y : ℕ × Producer Stamped A P) → ((d : ℕ × Producer Stamped A P) → (get_or outs k d).0 ≡ link) → other ≢ link → HasRoom outs other → HasRoom (set outs k y) other
  room_beside outs k link other y is apart h none = h (λ j less free. none j (omega (arith, length-set outs k y, less)) (λ d.
      let P : ℕ × Producer Stamped A P → Type 0 = IsFree other in
      subst P (sym (get_or-set_other outs k j y d (λ same. apart (sym (free d).0 ∙ (ap (λ n. (get_or outs n d).0) same ∙ is d))))) (free d)))

  -- one more bit, for a link that has room
  pub room_more : (outs : List (ℕ × Producer Stamped A P)) (room k l : ℕ) (e y : ℕ × Producer Stamped A P) → k < length outs → l < 32 → (get_or outs k e).0 ≡ l
      → OutLooked (get_or outs k e) y → 0 < known_free y.1 → HaveRoom room (set outs k y) → HaveRoom (bit_or room (1 * 2 ^ l % 2 ^ 32)) (set outs k y)
  room_more outs room k l e y within low is looked free rest link one =
      elim (eqb_tells link l) [
        | inl t ↦ room_at outs k link y within (looked.0 ∙ (is ∙ sym t.1)) free
        | inr f ↦ rest link (sym (bit_at_set_other w32 room l low link f.1) ∙ one)
      ]

  -- the ring at a place is changed, and its link is among those with room only where it has some
  pub room_then : (outs : List (ℕ × Producer Stamped A P)) (room new k l : ℕ) (y : ℕ × Producer Stamped A P) → k < length outs → ((d : ℕ × Producer Stamped A P) → (get_or outs k d).0 ≡ l) → y.0 ≡ l
      → ((link : ℕ) → bit_at new link ≡ 1 → (bit_at room link ≡ 1) × (link ≡ l → 0 < known_free y.1)) → HaveRoom room outs → HaveRoom new (set outs k y)
  room_then outs room new k l y within is same after known link one =
      elim (eqb_tells link l) [
        | inl t ↦ room_at outs k link y within (same ∙ sym t.1) ((after link one).1 t.1)
        | inr f ↦ room_beside outs k l link y is f.1 (known link (after link one).0)
      ]
