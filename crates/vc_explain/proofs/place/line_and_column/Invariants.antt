use Rattle.std.proofs.Common.{◌≡◌, ◌+◌, ◌≤◌, length}
use Rattle.vc_explain.specs.Place.{line_from, column_from}
use Rattle.vc_explain.proofs.place.line_and_column.Given as goal

abbrev pub invariant-loop-byte : goal.invariant-loop-byte
invariant-loop-byte l = record {
  line : line_from l.line l.rest ≡ line_from 1 l.before;
  column : column_from l.column l.rest ≡ column_from 1 l.before;
  lines : l.line + length l.rest ≤ 1 + length l.before;
  columns : l.column + length l.rest ≤ 1 + length l.before;
}

abbrev pub decreases-loop-byte : goal.decreases-loop-byte
decreases-loop-byte l = length l.rest
