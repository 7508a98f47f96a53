-- Ports that are one, and the numbers in them.
use Rattle.std.proofs.Common.{◌≡◌, ℕ}
use Rattle.vc_machine.specs.Paths.{AtNode, AtSwitch}

pub node_same : (n m l link : ℕ) → AtNode n l ≡ AtNode m link → (n ≡ m) × (l ≡ link)
node_same n m l link e = (cc, cc)

pub switch_same : (n m l link : ℕ) → AtSwitch n l ≡ AtSwitch m link → (n ≡ m) × (l ≡ link)
switch_same n m l link e = (cc, cc)

pub not_both : (n l k link : ℕ) → AtNode n l ≡ AtSwitch k link → ⊥
not_both n l k link e = cc
