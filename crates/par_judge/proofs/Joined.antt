-- Lists that are joined, element by element beside those of other lists.
use Rattle.std.proofs.Common.{◌≡◌, ℕ, zero, suc, ◌+◌, ◌*◌, ◌<◌, ◌≤◌, List, [], ◌∷◌, ◌++◌, length, get_or, take, drop, slice_get, Some, ap, sym, subst, refl, ◌∙◌, arith}
use Rattle.std.proofs.Math.Seq.{take-add}
use Rattle.std.proofs.lemmas.List.{take_all, get_or_default}
use Rattle.std.proofs.lemmas.Grind.{take_at_read}
use Rattle.std.proofs.lemmas.Option.{same_Some}
use Rattle.plan_entries.specs.declared.entries.Entry.{Entry}
use Rattle.report_checker.specs.declared.verdicts.Verdict.{Verdict}
use Rattle.report_checker.specs.Verdicts.{IsVerdict}
use Rattle.report_checker.proofs.OneVerdict.{one-verdict}
use Rattle.par_judge.specs.Paired.{ArePaired}
use Rattle.par_judge.specs.Judged.{AreVerdicts, AreOnlyVerdicts}

pub paired-none : {A B : Type 0} (R : A → B → Type 0) → ArePaired R [] []
paired-none R = record { as_many = refl; each = λ k a b h g. cc h }

first-or-rest : {A B : Type 0} (R : A → B → Type 0) (a : A) (b : B) (xs : List A) (bs : List B) → R a b → ArePaired R xs bs → (k : ℕ) (x : A) (w : B) → slice_get (a ∷ xs) k ≡ Some x → slice_get (b ∷ bs) k ≡ Some w → R x w
first-or-rest R a b xs bs h hs zero x w p q = subst (λ y. R y w) (same_Some a x p) (subst (λ y. R a y) (same_Some b w q) h)
first-or-rest R a b xs bs h hs (suc k) x w p q = hs.each k x w p q

pub paired-cons : {A B : Type 0} (R : A → B → Type 0) (a : A) (b : B) (xs : List A) (bs : List B) → R a b → ArePaired R xs bs → ArePaired R (a ∷ xs) (b ∷ bs)
paired-cons R a b xs bs h hs = record { as_many = omega (arith, hs.as_many); each = first-or-rest R a b xs bs h hs }

pub paired-rest : {A B : Type 0} (R : A → B → Type 0) (a : A) (b : B) (xs : List A) (bs : List B) → ArePaired R (a ∷ xs) (b ∷ bs) → ArePaired R xs bs
paired-rest R a b xs bs h = record { as_many = omega (arith, h.as_many); each = λ k x w p q. h.each (suc k) x w p q }

pub paired-append : {A B : Type 0} (R : A → B → Type 0) (xs cs : List A) (bs ds : List B) → ArePaired R xs bs → ArePaired R cs ds → ArePaired R (xs ++ cs) (bs ++ ds)
paired-append R [] cs [] ds p q = q
paired-append R [] cs (b ∷ bs) ds p q = absurd (omega (arith, p.as_many))
paired-append R (a ∷ xs) cs [] ds p q = absurd (omega (arith, p.as_many))
paired-append R (a ∷ xs) cs (b ∷ bs) ds p q =
    paired-cons R a b (xs ++ cs) (bs ++ ds) (p.each 0 a b refl refl) (paired-append R xs cs bs ds (paired-rest R a b xs bs p) q)

-- ---- verdicts beside their entries

pub verdicts-none : AreVerdicts [] []
verdicts-none = paired-none IsVerdict

pub verdicts-cons : (e : Entry) (v : Verdict) (es : List Entry) (vs : List Verdict) → IsVerdict e v → AreVerdicts es vs → AreVerdicts (e ∷ es) (v ∷ vs)
verdicts-cons = paired-cons IsVerdict

pub verdicts-append : (es fs : List Entry) (vs ws : List Verdict) → AreVerdicts es vs → AreVerdicts fs ws → AreVerdicts (es ++ fs) (vs ++ ws)
verdicts-append = paired-append IsVerdict

pub one-list : (es : List Entry) (vs : List Verdict) → AreVerdicts es vs → AreOnlyVerdicts es vs
one-list [] [] a [] b = refl
one-list [] [] a (w ∷ ws) b = absurd (omega (arith, b.as_many))
one-list [] (v ∷ vs) a ws b = absurd (omega (arith, a.as_many))
one-list (e ∷ es) [] a ws b = absurd (omega (arith, a.as_many))
one-list (e ∷ es) (v ∷ vs) a [] b = absurd (omega (arith, b.as_many))
one-list (e ∷ es) (v ∷ vs) a (w ∷ ws) b =
    ap (λ x. x ∷ ws) (one-verdict e v (a.each 0 e v refl refl) w (b.each 0 e w refl refl))
    ∙ ap (λ l. v ∷ l) (one-list es vs (paired-rest IsVerdict e v es vs a) ws (paired-rest IsVerdict e w es ws b))

-- ---- one more, and one part more

-- one more on each side
pub paired-push : {A B : Type 0} (R : A → B → Type 0) (xs : List A) (i : ℕ) (a : A) (b : B) (bs : List B) → i < length xs → a ≡ get_or xs i a → R a b → ArePaired R (take i xs) bs → ArePaired R (take (i + 1) xs) (bs ++ b ∷ [])
paired-push R xs i a b bs lt is h p =
    let one : ArePaired R (a ∷ []) (b ∷ []) = paired-cons R a b [] [] h (paired-none R) in
    let more : take i xs ++ a ∷ [] ≡ take (i + 1) xs = ap (λ x. take i xs ++ x ∷ []) is ∙ sym (take_at_read xs i a lt).1 in
    subst (λ l. ArePaired R l (bs ++ b ∷ [])) more (paired-append R (take i xs) (a ∷ []) bs (b ∷ []) p one)

-- the same, where what belongs together is read at the place
pub paired-next : {A B : Type 0} (R : A → B → Type 0) (xs : List A) (i : ℕ) (b : B) (bs : List B) → i < length xs → ((d : A) → R (get_or xs i d) b) → ArePaired R (take i xs) bs → ArePaired R (take (i + 1) xs) (bs ++ b ∷ [])
paired-next R [] i b bs lt h p = absurd (omega (arith, lt))
paired-next R (x ∷ xs) i b bs lt h p =
    let a = get_or (x ∷ xs) i x in
    paired-push R (x ∷ xs) i a b bs lt (get_or_default (x ∷ xs) i x a lt) (h x) p

-- one more part on each side
pub paired-join : {A B : Type 0} (R : A → B → Type 0) (xs : List A) (start size : ℕ) (bs ds : List B) → ArePaired R (take start xs) bs → ArePaired R (take size (drop start xs)) ds → ArePaired R (take (start + size) xs) (bs ++ ds)
paired-join R xs start size bs ds p q =
    let parts : take (start + size) xs ≡ take start xs ++ take size (drop start xs) = take-add start size xs in
    subst (λ l. ArePaired R l (bs ++ ds)) (sym parts) (paired-append R (take start xs) (take size (drop start xs)) bs ds p q)

pub paired-whole : {A B : Type 0} (R : A → B → Type 0) (xs : List A) (n : ℕ) (bs : List B) → length xs ≤ n → ArePaired R (take n xs) bs → ArePaired R xs bs
paired-whole R xs n bs le p = subst (λ l. ArePaired R l bs) (take_all n xs le) p
