use Rattle.std.proofs.Common.{sym, ◌∙◌}
use Rattle.vc_reader.proofs.Numbers.{number_at_put, number_at_kept}
use Rattle.vc_reader.proofs.register.numbered.Goals as goal
use Rattle.vc_reader.proofs.register.numbered.Goals.{then-not-contains_key+in_ok-key+in_ok-insert, else-not-contains_key}

pub returns : goal.returns
returns c = λ other. elim c.if-not-contains_key.branch [
  | then-not-contains_key+in_ok-key+in_ok-insert w ↦
      rw (w.numbers-is, ← w.in_ok-key.ensures.items)
      (number_at_put w.in_ok-key.key.items c.args.numbers w.insert.new.self c.args.number
      (rw w.in_ok-key.ensures.items (sym c.contains_key.ensures ∙ w.if-not-contains_key.true))
      w.in_ok-insert.ensures.updates
      other)
  | else-not-contains_key w ↦
      rw w.numbers-is
      (number_at_kept c.args.name.now c.args.numbers c.args.number (sym c.contains_key.ensures ∙ w.if-not-contains_key.false) other)
]
