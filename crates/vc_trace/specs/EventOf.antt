-- What the words of a line name.
use Rattle.std.specs.Prelude.{ℕ, ◌<◌, ◌+◌, ◌^◌, length, Option, Some, None}
use Rattle.vc_actor.specs.declared.act.Act.{Act}
use Rattle.vc_actor.specs.declared.act.Act.TheVariants.{Proc, Take, Put, Route, Fct, Pass}
use Rattle.vc_core.specs.declared.event.Event.{Event}
use Rattle.vc_occam.specs.declared.moves.Move.{Move}
use Rattle.vc_occam.specs.declared.moves.Move.TheVariants.{Offer, Want, Choose, Stopch, Inner, Quiet}
use Rattle.vc_plan.specs.declared.plan.Plan.{Plan}

-- a number of at most 8, 16 or 32 bits
abbrev pub IsByte : ℕ → Type 0
IsByte n = n < 2 ^ 8

abbrev pub IsHalf : ℕ → Type 0
IsHalf n = n < 2 ^ 16

abbrev pub IsLong : ℕ → Type 0
IsLong n = n < 2 ^ 32

-- a number of an actor, or of a channel, of the plan
abbrev pub IsActor : Plan → ℕ → Type 0
IsActor p k = k < length p.nodes + length p.switches

abbrev pub IsChannel : Plan → ℕ → Type 0
IsChannel p c = c < length p.channels

-- the place of a guard, where there is one
abbrev pub IsGuard : Option ℕ → Type 0
IsGuard None = Unit {0}
IsGuard (Some guard) = IsHalf guard

-- its numbers have the sizes that the program has for them, and its channel is one of the plan
abbrev pub IsMoveOf : Plan → Move → Type 0
IsMoveOf p (Offer site chan) = IsHalf site × IsChannel p chan
IsMoveOf p (Want site chan) = IsHalf site × IsChannel p chan
IsMoveOf p (Choose site guard chan) = IsHalf site × IsHalf guard × IsChannel p chan
IsMoveOf p (Stopch site chan) = IsHalf site × IsChannel p chan
IsMoveOf p (Inner sender receiver guard chan) = IsHalf sender × IsHalf receiver × IsGuard guard × IsChannel p chan
IsMoveOf p (Quiet site) = IsHalf site

abbrev pub IsActOf : Plan → Act → Type 0
IsActOf p (Proc made) = IsMoveOf p made
IsActOf p (Take link word) = IsByte link × IsLong word
IsActOf p (Put link) = IsByte link
IsActOf p (Route input output) = IsByte input × IsByte output
IsActOf p (Fct link) = IsByte link
IsActOf p (Pass link) = IsByte link

-- and its actor too
abbrev pub IsEventOf : Plan → Event → Type 0
IsEventOf p e = IsActor p e.actor × IsActOf p e.act
