-- What the ends of the rings show of a run.
use Rattle.std.specs.Prelude.{◌≡◌, ◌≢◌, ℕ, ◌<◌, List, ◌++◌, length, map, slice_index}
use Rattle.rtrb.specs.Ring.{sent, received, known_items, SameProducer, SameConsumer, ProducerLooked, ConsumerLooked}
use Rattle.rtrb.specs.declared.producer.Producer.{Producer}
use Rattle.rtrb.specs.declared.consumer.Consumer.{Consumer}
use Rattle.vc_network.specs.LocalRun.{Turn, all_put, all_taken}
use Rattle.vc_actor.specs.declared.act.Act.{Act}
use Rattle.vc_tokens.specs.declared.token.Token.{Token}
use Rattle.vc_threads.specs.declared.link.Stamped.{Stamped}
use Rattle.vc_threads.specs.Stamps.{all_stamped}

-- the number stands among these
abbrev pub IsAmong : List ℕ → ℕ → Type 0
IsAmong ns n = (i : ℕ) × (i < length ns) × (slice_index ns i ≡ n)

-- no number stands twice
abbrev pub Distinct : List ℕ → Type 0
Distinct ns = (i j : ℕ) → i < j → j < length ns → slice_index ns i ≢ slice_index ns j

module _ {A P : Type 0} where
  -- the same end of the same ring, which has sent what the run put on its link, in order
  abbrev pub Sends : List (Turn Act Token) → ℕ × Producer Stamped A P → ℕ × Producer Stamped A P → Type 0
  Sends ts a b = (b.0 ≡ a.0) × SameProducer a.1 b.1 × (all_stamped (sent b.1) ≡ all_stamped (sent a.1) ++ all_put a.0 ts)

  -- the same end of the same ring, which has received what the run took from its link, in order
  abbrev pub Receives : List (Turn Act Token) → ℕ × Consumer Stamped A P → ℕ × Consumer Stamped A P → Type 0
  Receives ts a b = (b.0 ≡ a.0) × SameConsumer a.1 b.1 × (all_stamped (received b.1) ≡ all_stamped (received a.1) ++ all_taken a.0 ts)

  abbrev pub out_links : List (ℕ × Producer Stamped A P) → List ℕ
  out_links = map (λ o. o.0)

  abbrev pub in_links : List (ℕ × Consumer Stamped A P) → List ℕ
  in_links = map (λ i. i.0)

  -- the same, and nothing was sent; no slot known to be free is lost
  abbrev pub OutLooked : ℕ × Producer Stamped A P → ℕ × Producer Stamped A P → Type 0
  OutLooked a b = (b.0 ≡ a.0) × ProducerLooked a.1 b.1

  -- the same, and nothing was received; more items may be known
  abbrev pub InLooked : ℕ × Consumer Stamped A P → ℕ × Consumer Stamped A P → Type 0
  InLooked a b = (b.0 ≡ a.0) × ConsumerLooked a.1 b.1

  -- the same end of the same ring
  abbrev pub SameIn : ℕ × Consumer Stamped A P → ℕ × Consumer Stamped A P → Type 0
  SameIn a b = (b.0 ≡ a.0) × SameConsumer a.1 b.1

  -- an item is known in the link's ring
  abbrev pub IsReady : ℕ × Consumer Stamped A P → Type 0
  IsReady i = 0 < length (known_items i.1)
