-- What a node's virtual channel processor keeps: its outputs and inputs, and the two ends of its four links.
use Rattle.std.specs.Prelude.{◌≡◌, ◌≢◌, ℕ, ◌<◌, List, length, slice_get, Option, Some, None, [], ◌∷◌, ◌++◌, false, true}
use Rattle.std.specs.List.{AllByRecursion}
use Rattle.vc_packets.specs.declared.packet.Packet.{Packet}
use Rattle.vc_packets.specs.Headers.{spelled}
use Rattle.vc_packets.specs.Counters.{one_more}
use Rattle.vc_packets.specs.Kind.{kind}
use Rattle.vc_packets.specs.declared.kind.Kind.TheVariants.{Ack}
use Rattle.vc_tokens.specs.Tokens.{Fct}
use Rattle.vc_blocks.specs.Halves.{IsPiece, load_of}
use Rattle.vc_vcp.specs.declared.output.Output.{Output}
use Rattle.vc_vcp.specs.declared.input.Input.{Input}
use Rattle.vc_vcp.specs.LinkOut.{Sending}
use Rattle.vc_vcp.specs.LinkIn.{Receiving}
use Rattle.vc_credit.specs.Ends.{HasRoom}
use Rattle.vc_vcp.specs.Names.{named, NamesDiffer}

pub record State : Type 0 where
  pub outputs : List Output
  pub inputs : List Input
  pub outs : List Sending  -- by link
  pub ins : List Receiving  -- by link
  pub strays : ℕ

-- one more packet or token was dropped, and nothing else changed
abbrev pub CountsStray : State → State → Type 0
CountsStray old new = new ≡ record old { strays = one_more old.strays }

-- a packet is a piece for this block
pub record IsPieceOf (block : ℕ) (p : Packet) : Type 0 where
  pub body : p.body ≡ spelled (block ∷ []) ++ load_of p
  pub piece : IsPiece p

-- a packet is an acknowledge for this block
pub record IsAckOf (block : ℕ) (p : Packet) : Type 0 where
  pub body : p.body ≡ spelled (block ∷ [])
  pub kind : kind [] p.mark ≡ Ack

abbrev pub HoldsFor : ℕ → Option Packet → Type 0
HoldsFor block None = Unit {0}
HoldsFor block (Some p) = IsPieceOf block p

-- An output sends by one of the four links, and where a piece is under way something was offered.
pub record IsOutput (x : Output) : Type 0 where
  pub link : x.link < 4
  pub offered : x.offered ≡ [] → x.half.unacked ≡ []

-- An input sends by one of the four links, holds what came to its block, and holds nothing where a process inputs.
pub record IsInput (x : Input) : Type 0 where
  pub link : x.link < 4
  pub held : HoldsFor x.block x.half.held
  pub empty : x.half.wants ≡ true → x.half.held ≡ None

-- An FCT never waits in a buffer, and each link has the same limit.
pub record IsLinkIn (most : ℕ) (x : Receiving) : Type 0 where
  pub no_fct : AllByRecursion (λ k. k ≢ Fct) x.receiver.buffer
  pub limit : x.limit ≡ most

-- how many bytes a packet that comes may have
abbrev pub limit_of : List Receiving → ℕ
limit_of [] = 0
limit_of (x ∷ xs) = x.limit

-- no channel goes out twice or comes in twice, and each output and each input has a block of its own
pub record HaveOwnNames (outputs : List Output) (inputs : List Input) : Type 0 where
  pub out_chans : NamesDiffer (λ x. x.chan) outputs
  pub in_chans : NamesDiffer (λ x. x.chan) inputs
  pub out_blocks : NamesDiffer (λ x. x.block) outputs
  pub in_blocks : NamesDiffer (λ x. x.block) inputs

-- There are four links, and each output and each input has names of its own.
pub record IsWired (s : State) : Type 0 where
  pub four_out : length s.outs ≡ 4
  pub four_in : length s.ins ≡ 4
  pub outputs : AllByRecursion IsOutput s.outputs
  pub inputs : AllByRecursion IsInput s.inputs
  pub ins : AllByRecursion (IsLinkIn (limit_of s.ins)) s.ins
  pub names : HaveOwnNames s.outputs s.inputs

-- the node outputs on the channel, and nothing is under way
pub record IsIdle (s : State) (chan : ℕ) : Type 0 where
  pub output : Output
  pub here : named (λ x. x.chan) chan s.outputs ≡ Some output
  pub idle : output.half.unacked ≡ []

-- the node inputs on the channel, no process does yet, and it is not stopped
pub record IsOpen (s : State) (chan : ℕ) : Type 0 where
  pub input : Input
  pub here : named (λ x. x.chan) chan s.inputs ≡ Some input
  pub idle : input.half.wants ≡ false
  pub not_stopped : input.half.stopped ≡ false

-- the node inputs on the channel, and no process does yet
pub record IsUnwanted (s : State) (chan : ℕ) : Type 0 where
  pub input : Input
  pub here : named (λ x. x.chan) chan s.inputs ≡ Some input
  pub idle : input.half.wants ≡ false

-- there is credit on the link, and a packet waits
pub record MayPut (s : State) (link : ℕ) : Type 0 where
  pub out : Sending
  pub here : slice_get s.outs link ≡ Some out
  pub credit : 0 < out.sender.credit
  pub packet : out.queue ≢ []

-- eight places of the link's buffer are free and not promised
pub record MayGrant (s : State) (link : ℕ) : Type 0 where
  pub into : Receiving
  pub here : slice_get s.ins link ≡ Some into
  pub room : HasRoom into.receiver
