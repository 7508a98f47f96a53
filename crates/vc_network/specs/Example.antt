-- Two nodes, one wire, one virtual link and one channel, with a process that outputs once and one that inputs once.
use Rattle.std.specs.Prelude.{ℕ, ◌*◌, Bool, true, false, ◌&&◌, ◌==◌, List, [], ◌∷◌, Some, None}
use Rattle.vc_network.specs.Actors.{ActBy}
use Rattle.vc_machine.specs.Paths.{AtNode}
use Rattle.vc_network.specs.Plan.{Plan, Way}
use Rattle.vc_network.specs.Processes.{Offer, Want}
use Rattle.vc_process.specs.ProcessStep.{ProcessStep, Offers, Wants, Finishes, Receives}
use Rattle.vc_network.specs.Network.{Act, Proc, Take, Put, Fct, Pass}

abbrev pub example : Plan
example = record {
  headers = 6;
  nodes = 2;
  switches = [];
  wires = record { one = AtNode 0 0; two = AtNode 1 0 } ∷ [];
  links = record { a = record { node = 0; link = 0; block = 1; route = 1 ∷ [] }; b = record { node = 1; link = 0; block = 1; route = 1 ∷ [] } } ∷ [];
  channels = Way 0 true ∷ [];
}

abbrev pub hello : List ℕ
hello = 104 ∷ 101 ∷ 108 ∷ 108 ∷ 111 ∷ []

-- states 0 to 2 are the output's, and 3 to 5 the input's
abbrev pub does : ℕ → ProcessStep → ℕ → Bool
does p (Offers site c m) q = (p == 0) && (q == 1)
does p (Finishes c) q = (p == 1) && (q == 2)
does p (Wants site c None) q = (p == 3) && (q == 4)
does p (Wants site c (Some m)) q = (p == 3) && (q == 5)
does p (Receives c m) q = (p == 4) && (q == 5)
does p _ q = false

abbrev pub begin : ℕ → ℕ
begin n = 3 * n

-- the message goes over, and is acknowledged
abbrev pub exchange : List (ActBy Act)
exchange =
    record { actor = 0; act = Proc (Offer 0 0) }
    ∷ record { actor = 1; act = Fct 0 }
    ∷ record { actor = 0; act = Take 0 0 }
    ∷ record { actor = 0; act = Put 0 }
    ∷ record { actor = 0; act = Put 0 }
    ∷ record { actor = 0; act = Put 0 }
    ∷ record { actor = 0; act = Put 0 }
    ∷ record { actor = 0; act = Put 0 }
    ∷ record { actor = 0; act = Put 0 }
    ∷ record { actor = 0; act = Put 0 }
    ∷ record { actor = 0; act = Put 0 }
    ∷ record { actor = 1; act = Take 0 0 }
    ∷ record { actor = 1; act = Take 0 0 }
    ∷ record { actor = 1; act = Take 0 0 }
    ∷ record { actor = 1; act = Take 0 0 }
    ∷ record { actor = 1; act = Take 0 0 }
    ∷ record { actor = 1; act = Take 0 0 }
    ∷ record { actor = 1; act = Take 0 0 }
    ∷ record { actor = 1; act = Take 0 0 }
    ∷ record { actor = 1; act = Pass 0 }
    ∷ record { actor = 1; act = Pass 0 }
    ∷ record { actor = 1; act = Pass 0 }
    ∷ record { actor = 1; act = Pass 0 }
    ∷ record { actor = 1; act = Pass 0 }
    ∷ record { actor = 1; act = Pass 0 }
    ∷ record { actor = 1; act = Pass 0 }
    ∷ record { actor = 1; act = Pass 0 }
    ∷ record { actor = 1; act = Proc (Want 0 0) }
    ∷ record { actor = 0; act = Fct 0 }
    ∷ record { actor = 1; act = Take 0 0 }
    ∷ record { actor = 1; act = Put 0 }
    ∷ record { actor = 1; act = Put 0 }
    ∷ record { actor = 1; act = Put 0 }
    ∷ record { actor = 0; act = Take 0 0 }
    ∷ record { actor = 0; act = Take 0 0 }
    ∷ record { actor = 0; act = Take 0 0 }
    ∷ record { actor = 0; act = Pass 0 }
    ∷ record { actor = 0; act = Pass 0 }
    ∷ record { actor = 0; act = Pass 0 }
    ∷ []
