use Rattle.std.proofs.Common.{◌≡◌, ◌++◌, take}
use Rattle.page_pieces.specs.Pieces.{numbered}
use Rattle.page_figures.specs.Slabs.{slab_text}
use Rattle.page_figures.proofs.slabs.put_slabs.Given as goal

abbrev pub invariant-loop-place : goal.invariant-loop-place
invariant-loop-place l = l.out.items ≡ l.fn.out.items ++ numbered (slab_text l.sides l.sheet) 1 (take l.place l.layers)
