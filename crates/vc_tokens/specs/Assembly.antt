-- A packet that is being put together: the bytes passed of it so far, and how many it may have.
use Rattle.std.specs.Prelude.{ℕ, List}

pub record Assembly : Type 0 where
  pub passed : List ℕ
  pub limit : ℕ
