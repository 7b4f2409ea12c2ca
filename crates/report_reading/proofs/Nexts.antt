-- Entries that are read one after another.
use Rattle.std.proofs.Common.{◌≡◌, ◌∙◌, List, [], ◌∷◌, ◌++◌, ap, sym, append_assoc}
use Rattle.std.specs.List.{All}
use Rattle.std.proofs.lemmas.List.{append-nil}
use Rattle.std.proofs.lemmas.List.Elements.{All-nil, All-cons, All-head, All-tail}
use Rattle.plan_entries.specs.declared.entries.Entry.{Entry}

pub all-front : {X : Type 0} (P : X → Type 0) (xs ys : List X) → All P (xs ++ ys) → All P xs
all-front P [] ys all = All-nil P
all-front P (x ∷ xs) ys all = All-cons P x xs (All-head P x (xs ++ ys) all) (all-front P xs ys (All-tail P x (xs ++ ys) all))

pub all-behind : {X : Type 0} (P : X → Type 0) (xs ys : List X) → All P (xs ++ ys) → All P ys
all-behind P [] ys all = all
all-behind P (x ∷ xs) ys all = all-behind P xs ys (All-tail P x (xs ++ ys) all)

-- the next entry joins those before it
pub one-on : (all before rest now : List Entry) (e : Entry) → all ≡ before ++ now → now ≡ e ∷ rest → all ≡ (before ++ e ∷ []) ++ rest
one-on all before rest now e is next = is ∙ ap (λ l. before ++ l) next ∙ sym (append_assoc before (e ∷ []) rest)

-- no entry is left
pub none-left : (all before now : List Entry) → all ≡ before ++ now → now ≡ [] → before ≡ all
none-left all before now is none = sym (is ∙ ap (λ l. before ++ l) none ∙ append-nil before)
