use Rattle.std.proofs.Common.{◌≡◌, ◌++◌, take}
use Rattle.page_pieces.specs.Pieces.{numbered}
use Rattle.page_figures.specs.Stack.{layer_text}
use Rattle.page_figures.proofs.stack.put_each_layer.Given as goal

abbrev pub invariant-loop-below : goal.invariant-loop-below
invariant-loop-below l = l.out.items ≡ l.fn.out.items ++ numbered (layer_text l.sides l.sheet) 1 (take l.below l.numbers)
