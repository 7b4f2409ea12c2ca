use Rattle.std.proofs.Common.{◌≡◌, ◌++◌, ◌*◌, take, drop}
use Rattle.cert_text.proofs.Pieces.{behind_spaces}
use Rattle.cert_text.proofs.puts.put_cells.Given as goal

abbrev pub invariant-loop-x : goal.invariant-loop-x
invariant-loop-x l = l.out.items ≡ l.fn.out.items ++ behind_spaces (take l.x (drop (l.y * l.table.x_side) l.table.cells))
