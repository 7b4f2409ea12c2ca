use Rattle.std.proofs.Common.{◌≡◌, ◌∙◌, ℕ, ◌+◌, ◌-◌, ◌≤◌, ◌++◌, ◌∷◌, [], List, map, sym, ap, append_assoc, arith}
use Rattle.std.specs.List.{range_with_len}
use Rattle.std.proofs.lemmas.List.FromFn.{map-range_with_len_more}
use Rattle.case_design.specs.declared.sizes.Size.{Size}
use Rattle.case_design.specs.Sizes.{size_with}
use Rattle.case_design.proofs.sizes.push_sizes.Goals as goal

abbrev run : ℕ → ℕ → ℕ → List Size
run long first count = map (size_with long) (range_with_len first count)

one_more : (old items new : List Size) (long first short : ℕ) → first ≤ short → items ≡ old ++ run long first (short - first) → new ≡ items ++ size_with long short ∷ [] → new ≡ old ++ run long first (short + 1 - first)
one_more old items new long first short le before push =
    let count : short - first + 1 ≡ short + 1 - first = omega arith in
    let more : run long first (short - first + 1) ≡ run long first (short - first) ++ size_with long short ∷ [] = map-range_with_len_more (size_with long) first (short - first) short (omega arith) in
    push ∙ ap (λ (xs : List Size). xs ++ size_with long short ∷ []) before ∙ append_assoc old (run long first (short - first)) (size_with long short ∷ [])
    ∙ ap (λ (xs : List Size). old ++ xs) (sym more ∙ ap (run long first) count)

pub loop-short-preserved : goal.loop-short-preserved
loop-short-preserved c = record {
  pushed = one_more c.args.sizes.now.items c.loop-short.sizes.items c.push.new.self.items c.args.long c.args.first c.loop-short.short c.loop-short.auto.short c.loop-short.invariant.pushed c.in_ok-push.ensures.items;
  within = omega arith;
}

pub returns : goal.returns
returns c =
    let within = c.loop-short.invariant.within in
    let count : c.loop-short.short - c.args.first ≡ c.args.end - c.args.first = omega arith in
    c.loop-short.invariant.pushed ∙ ap (λ (n : ℕ). c.args.sizes.now.items ++ run c.args.long c.args.first n) count
