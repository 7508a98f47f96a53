-- The messages that a channel shows.
use Rattle.std.specs.Prelude.{ℕ, List, [], Option, Some, None, drop}
use Rattle.std.specs.Borrow.{Bor}
use Rattle.vc_blocks.specs.declared.messages.Messages.{Messages}
use Rattle.vc_blocks.specs.declared.messages.MessagesIter.{MessagesIter}

-- the messages of a log, or none where there is no log
abbrev pub logged : Option (Bor (List (List ℕ))) → List (List ℕ)
logged None = []
logged (Some log) = log.now

abbrev pub listed : Messages → List (List ℕ)
listed m = logged m.log

-- the messages that an iterator has still to give
abbrev pub listed_left : MessagesIter → List (List ℕ)
listed_left it = drop it.at (listed it.messages)
