-- Events that do a list of communications in its order.
use Rattle.std.proofs.Common.{◌≡◌, ℕ, Bool, true, false, if◌then◌else◌, nat_eq, List, [], ◌∷◌, ◌++◌, inl, inr, ◌⊎◌, refl, sym, ap, ap₂, subst, ◌∙◌, append-nil, append_assoc}
use Rattle.vc_accepted.specs.Begin.{begin_of}
use Rattle.vc_accepted.specs.NetworkOf.{network_of}
use Rattle.vc_accepted.specs.OneList.{on, to_channel}
use Rattle.vc_accepted.specs.Process.{Process, does}
use Rattle.vc_free.specs.Together.{KeepsOrder, ShowsAll}
use Rattle.vc_machine.specs.Rendezvous.{View, DoesAll, nothing_yet}
use Rattle.vc_machine.specs.Rendezvous as rendezvous
use Rattle.vc_network.specs.Actors.{Network, ActBy}
use Rattle.vc_network.specs.Network.{Act, Actor, begins, HappenAll}
use Rattle.vc_occam.specs.Traces.{Comm}
use Rattle.vc_placement.specs.Linearization.{Atomic, all_comms, comms_of}
use Rattle.vc_plan.specs.declared.plan.Plan.{Plan}
use Rattle.vc_switch.specs.Waiting.{Waiting}
use Rattle.vc_tokens.specs.Tokens.{Token}

-- more events change nothing of it
pub order_longer : (p : Plan) (waiting : Waiting) (hs : List Atomic) (es fs : List (ActBy Act)) → KeepsOrder p waiting hs es → KeepsOrder p waiting hs (es ++ fs)
order_longer p waiting hs es fs order before after cut =
    let (first, rest, s, split, happen, shows) = order before after cut in
    (first, rest ++ fs, s, ap (λ z. z ++ fs) split ∙ append_assoc first rest fs, happen, shows)

-- a list and one more, cut in two: the second part is empty, or the cut is one of the list
snoc_cut : (hs : List Atomic) (h : Atomic) (before after : List Atomic) → hs ++ h ∷ [] ≡ before ++ after → (before ≡ hs ++ h ∷ []) ⊎ ((rest : List Atomic) × (hs ≡ before ++ rest))
snoc_cut hs h [] after e = inr (hs, refl)
snoc_cut [] h (b ∷ bs) after e = by_rest bs after (let z : [] ≡ bs ++ after = cc in z) (let z : h ≡ b = cc in z)
  where
    by_rest : (bs after : List Atomic) → [] ≡ bs ++ after → h ≡ b → (b ∷ bs ≡ h ∷ []) ⊎ ((rest : List Atomic) × ([] ≡ b ∷ bs ++ rest))
    by_rest [] after e same = inl (ap (λ z. z ∷ []) (sym same))
    by_rest (x ∷ xs) after e same = absurd (cc)
snoc_cut (x ∷ xs) h (b ∷ bs) after e =
    let same : x ≡ b = cc in
    let tails : xs ++ h ∷ [] ≡ bs ++ after = cc in
    elim (snoc_cut xs h bs after tails) [
      | inl whole ↦ inl (ap₂ (λ y ys. y ∷ ys) (sym same) whole)
      | inr (rest, is) ↦ inr (rest, ap₂ (λ y ys. y ∷ ys) same is)
    ]

-- one communication more is done
pub order_more : (p : Plan) (waiting : Waiting) (hs : List Atomic) (h : Atomic) (es : List (ActBy Act)) (s : Network (Actor Process) Token) → KeepsOrder p waiting hs es →
    HappenAll (network_of p) waiting does (begins (network_of p) (begin_of p)) es s → ShowsAll p (hs ++ h ∷ []) s → KeepsOrder p waiting (hs ++ h ∷ []) es
order_more p waiting hs h es s order happen shows before after cut = elim (snoc_cut hs h before after cut) [
  | inl whole ↦ (es, [], s, sym (append-nil es), happen, subst (λ z. ShowsAll p z s) (sym whole) shows)
  | inr (rest, is) ↦ order before rest is
]

-- nothing is done at the opening
pub order_first : (p : Plan) (waiting : Waiting) → ShowsAll p [] (begins (network_of p) (begin_of p)) → KeepsOrder p waiting [] []
order_first p waiting shows [] after cut = ([], [], begins (network_of p) (begin_of p), refl, record { states = λ n. refl; ways = λ w. refl }, shows)
order_first p waiting shows (b ∷ bs) after cut = absurd (cc)

-- ---- what a channel is told

part_more : (c : ℕ) (xs ys : List (ℕ × Comm)) → on c (xs ++ ys) ≡ on c xs ++ on c ys
part_more c [] ys = refl
part_more c ((n, k) ∷ xs) ys = by_test (nat_eq (to_channel k).0 c) (part_more c xs ys)
  where
    by_test : (b : Bool) → on c (xs ++ ys) ≡ on c xs ++ on c ys → (if b then (to_channel k).1 ∷ on c (xs ++ ys) else on c (xs ++ ys)) ≡ (if b then (to_channel k).1 ∷ on c xs else on c xs) ++ on c ys
    by_test true rest = ap (λ z. (to_channel k).1 ∷ z) rest
    by_test false rest = rest

pub all_more : (hs gs : List Atomic) → all_comms (hs ++ gs) ≡ all_comms hs ++ all_comms gs
all_more [] gs = refl
all_more (h ∷ hs) gs = ap (λ z. comms_of h ++ z) (all_more hs gs) ∙ sym (append_assoc (comms_of h) (all_comms hs) (all_comms gs))

pub on_first : (c : ℕ) (h : Atomic) (hs : List Atomic) → on c (all_comms (h ∷ hs)) ≡ on c (comms_of h) ++ on c (all_comms hs)
on_first c h hs = part_more c (comms_of h) (all_comms hs)

pub on_last : (c : ℕ) (hs : List Atomic) (h : Atomic) → on c (all_comms (hs ++ h ∷ [])) ≡ on c (all_comms hs) ++ on c (comms_of h)
on_last c hs h = ap (on c) (all_more hs (h ∷ []) ∙ ap (λ z. all_comms hs ++ z) (append-nil (comms_of h))) ∙ part_more c (all_comms hs) (comms_of h)

-- a run of a channel, cut in two
pub halved : (xs ys : List rendezvous.Comm) (v u : View) → DoesAll v (xs ++ ys) u → (w : View) × DoesAll v xs w × DoesAll w ys u
halved [] ys v u h = (v, refl, h)
halved (x ∷ xs) ys v u h = let r = halved xs ys h.0 u h.2 in (r.0, (h.0, h.1, r.1), r.2)
