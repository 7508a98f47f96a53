use Rattle.std.proofs.Common.{◌≡◌, ℕ, ◌≤◌, List, length, true, Ok, ap, nat_le, arith}
use Rattle.std.specs.Prelude.{if◌then◌else◌}
use Rattle.std.proofs.lemmas.Bool.Decides.{nat_tests}
use Rattle.vc_reader.specs.Reading.{wrong}
use Rattle.vc_reader.specs.Bytes.{no_longer}
use Rattle.vc_reader.specs.declared.fault.Why.TheVariants as why
use Rattle.vc_reader.proofs.bytes.no_longer.Goals as goal

fitting : (bytes : List ℕ) (n : ℕ) → n ≡ length bytes → n ≤ 65535 → no_longer bytes ≡ Ok bytes
fitting bytes n e le =
    let fits : nat_le (length bytes) 65535 ≡ true = grind (arith, nat_tests) in
    ap (λ b. if b then Ok bytes else wrong why.Range) fits

pub returns-then-fits : goal.returns-then-fits
returns-then-fits c = fitting c.args.bytes _ c.len-fits.ensures c.if-fits.true
