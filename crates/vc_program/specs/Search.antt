-- What a search of a program finds that makes one move alone at each state that has a move which is no choice.
use Rattle.std.specs.Prelude.{◌≡◌, ℕ, suc, ◌<◌, Bool, true, List, length}
use Rattle.vc_plan.specs.Accepted.{IsAccepted}
use Rattle.vc_plan.specs.declared.plan.Plan.{Plan}
use Rattle.vc_program.specs.Choices.{IsNoChoice}
use Rattle.vc_program.specs.Program.{Program, program_of, Move, Makes, Reaches, IsQuiet, IsStuck, NeverStuck, EndsWithin}

-- Of a state that was found within n moves, each next state is found within one more; or one of them is, by a move that is no choice.
pub data IsExpanded (p : Plan) (found : ℕ → Program → Bool) (n : ℕ) (s : Program) : Type 0 where
  all : ((m : Move) (t : Program) → Makes p s m t → found (suc n) t ≡ true) → IsExpanded p found n s
  one : (m : Move) (t : Program) → IsNoChoice m → Makes p s m t → found (suc n) t ≡ true → IsExpanded p found n s

-- the opening state is found, and each state that is found is expanded
pub record IsSearch (p : Plan) (found : ℕ → Program → Bool) : Type 0 where
  pub begins : found 0 (program_of p) ≡ true
  pub expands : (n : ℕ) (s : Program) → found n s ≡ true → IsExpanded p found n s

-- such a search of an accepted plan's program finds each quiet state within as few moves as lead to it
abbrev pub QuietStatesAreFound : Type 0
QuietStatesAreFound =
    (p : Plan) (found : ℕ → Program → Bool) → IsAccepted p → IsSearch p found → (ms : List Move) (q : Program) → Reaches p ms q → IsQuiet p q → found (length ms) q ≡ true

-- so the program is never stuck if no state that is found is
abbrev pub SearchesDecide : Type 0
SearchesDecide =
    (p : Plan) (found : ℕ → Program → Bool) → IsAccepted p → IsSearch p found → ((n : ℕ) (s : Program) → found n s ≡ true → IsStuck p s → ⊥) → NeverStuck p

-- The rank of a state falls along each of its moves, to states that are found; or along one move that is no choice.
pub data Falls (p : Plan) (found : Program → Bool) (rank : Program → ℕ) (s : Program) : Type 0 where
  along_all : ((m : Move) (t : Program) → Makes p s m t → (found t ≡ true) × (rank t < rank s)) → Falls p found rank s
  along_one : (m : Move) (t : Program) → IsNoChoice m → Makes p s m t → found t ≡ true → rank t < rank s → Falls p found rank s

-- if it falls so from each state that is found, no schedule has more moves than the opening state's rank
abbrev pub RanksBoundSchedules : Type 0
RanksBoundSchedules =
    (p : Plan) (found : Program → Bool) (rank : Program → ℕ) → IsAccepted p → found (program_of p) ≡ true → ((s : Program) → found s ≡ true → Falls p found rank s)
    → EndsWithin p (rank (program_of p))
