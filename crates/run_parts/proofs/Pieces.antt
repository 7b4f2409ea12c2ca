-- Texts that were written whole, and texts of which a part was written.
use Rattle.std.proofs.Common.{◌≡◌, ℕ, List, [], ◌++◌, refl, sym, ap, ◌∙◌, append_assoc, take, drop}
use Rattle.std.proofs.lemmas.List.{append-nil, take-append-drop}
use Rattle.plan_io.specs.Streams.{Outlet, with_bytes}
use Rattle.run_parts.specs.Written.{Wrote, WrotePart}

-- nothing was written
pub wrote-nil : (old : Outlet) → Wrote old old []
wrote-nil old = ap (λ t. record { taken = t; faults = old.faults }) (sym (append-nil old.taken))

-- a whole text, and then the whole next one
pub wrote-trans : (a b c : Outlet) (xs ys : List ℕ) → Wrote a b xs → Wrote b c ys → Wrote a c (xs ++ ys)
wrote-trans a b c xs ys first second =
    second ∙ ap (λ p. with_bytes p ys) first ∙ ap (λ t. record { taken = t; faults = a.faults }) (append_assoc a.taken xs ys)

-- a whole text, whatever failed meanwhile, and then a part of the next
pub part-after : (a b c : Outlet) (xs ys : List ℕ) → b.taken ≡ a.taken ++ xs → WrotePart b c ys → WrotePart a c (xs ++ ys)
part-after a b c xs ys whole part = record {
  sent = xs ++ part.sent;
  front = (part.front.0, ap (λ t. xs ++ t) part.front.1 ∙ sym (append_assoc xs part.sent part.front.0));
  wrote = part.wrote ∙ ap (λ t. t ++ part.sent) whole ∙ append_assoc a.taken xs part.sent;
}

-- a whole text, and then a part of the next
pub part-then : (a b c : Outlet) (xs ys : List ℕ) → Wrote a b xs → WrotePart b c ys → WrotePart a c (xs ++ ys)
part-then a b c xs ys whole part = part-after a b c xs ys (ap (λ p. p.taken) whole) part

-- a part of a text is a part of a longer one
pub part-more : (a b : Outlet) (xs ys : List ℕ) → WrotePart a b xs → WrotePart a b (xs ++ ys)
part-more a b xs ys part = record {
  sent = part.sent;
  front = (part.front.0 ++ ys, ap (λ t. t ++ ys) part.front.1 ∙ append_assoc part.sent part.front.0 ys);
  wrote = part.wrote;
}

-- a whole text is a part of a longer one
pub part-whole : (a b : Outlet) (xs ys : List ℕ) → Wrote a b xs → WrotePart a b (xs ++ ys)
part-whole a b xs ys wrote = record { sent = xs; front = (ys, refl); wrote = ap (λ p. p.taken) wrote }

-- the first bytes of a text
pub part-take : (a b : Outlet) (xs : List ℕ) (n : ℕ) → b.taken ≡ a.taken ++ take n xs → WrotePart a b xs
part-take a b xs n wrote = record { sent = take n xs; front = (drop n xs, sym (take-append-drop n xs)); wrote = wrote }
