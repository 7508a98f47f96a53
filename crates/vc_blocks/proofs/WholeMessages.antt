-- A message arrives whole: by induction on its pieces.
use Rattle.std.proofs.Common.{◌≡◌, ℕ, Bool, true, false, List, [], ◌∷◌, ◌++◌, Option, Some, None, refl, sym, ap, ◌∙◌, subst, append-nil, append_assoc}
use Rattle.vc_packets.specs.declared.packet.Packet.{Packet}
use Rattle.vc_packets.specs.Pieces.{IsCut, joined}
use Rattle.vc_packets.specs.Spellings.{piece_packet}
use Rattle.vc_blocks.specs.Halves.{Incoming}
use Rattle.vc_blocks.specs.declared.in_half.Arrival.TheVariants as arrival
use Rattle.vc_blocks.specs.declared.in_half.Want.TheVariants as want
use Rattle.vc_blocks.specs.WholeMessages.{IsStoredWhole, IsFoundWhole, MessagesArriveWhole}

-- a half with these fields
abbrev half : Bool → Bool → Option Packet → List ℕ → Incoming
half wants stopped held stored = record { wants = wants; stopped = stopped; held = held; stored = stored }

stored-from : (stopped : Bool) (held : Option Packet) (stored m : List ℕ) (block : ℕ) (cs : List (List ℕ)) → stored ++ joined cs ≡ m → IsCut cs →
    IsStoredWhole (half true stopped held stored) block cs m
stored-from stopped held stored m block [] e cut = absurd cut
stored-from stopped held stored m block (c ∷ []) e cut = record {
  arrive = ap (λ k. arrival.Complete k ∷ []) (ap (λ k. stored ++ k) (sym (append-nil c)) ∙ e);
  after = refl;
}
stored-from stopped held stored m block (c ∷ d ∷ cs) e cut =
    let rest = stored-from stopped None (stored ++ c) m block (d ∷ cs) (append_assoc stored c (joined (d ∷ cs)) ∙ e) cut.1 in
    record { arrive = ap (λ k. arrival.Stored ∷ k) rest.arrive; after = rest.after }

found-from : (stopped : Bool) (held : Option Packet) (m : List ℕ) (block : ℕ) (c : List ℕ) (cs : List (List ℕ)) → joined (c ∷ cs) ≡ m → IsCut (c ∷ cs) →
    IsFoundWhole (half false stopped held []) (half false stopped (Some (piece_packet (block ∷ []) (c ∷ cs))) []) block c cs m
found-from stopped held m block c [] e cut = record {
  held = refl;
  after = refl;
  input = ap want.Complete (sym (append-nil c) ∙ e);
  others = refl;
}
found-from stopped held m block c (d ∷ cs) e cut = record {
  held = refl;
  after = refl;
  input = refl;
  others = (stored-from stopped None c m block (d ∷ cs) e cut.1).arrive;
}

asked-is : (x : Incoming) → x.wants ≡ true → x.stored ≡ [] → half true x.stopped x.held [] ≡ x
asked-is x wants stored = λ i. record { wants = sym wants i; stopped = x.stopped; held = x.held; stored = sym stored i }

unasked-is : (x : Incoming) → x.wants ≡ false → x.stored ≡ [] → half false x.stopped x.held [] ≡ x
unasked-is x wants stored = λ i. record { wants = sym wants i; stopped = x.stopped; held = x.held; stored = sym stored i }

pub arrive_whole : MessagesArriveWhole
arrive_whole = record {
  asked = λ x block m cs p wants stored.
      subst (λ y. IsStoredWhole y block cs m) (asked-is x wants stored) (stored-from x.stopped x.held [] m block cs p.whole p.cut);
  unasked = λ x block m c cs p wants stored. (
    half false x.stopped (Some (piece_packet (block ∷ []) (c ∷ cs))) [],
    subst (λ y. IsFoundWhole y (half false x.stopped (Some (piece_packet (block ∷ []) (c ∷ cs))) []) block c cs m) (unasked-is x wants stored)
        (found-from x.stopped x.held m block c cs p.whole p.cut),
  );
}
