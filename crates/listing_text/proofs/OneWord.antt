-- One of a few words: a way, a move, alone or together.
use Rattle.std.proofs.Common.{◌≡◌, ◌≢◌, ℕ, ◌⊎◌, List, [], ◌∷◌, Option, Some, None, refl, sym, ap, subst, ◌∙◌, Bool, true, false, cond, inl, inr}
use Rattle.std.specs.Prelude.{MatchOption}
use Rattle.std.specs.Str.{bytes_eq}
use Rattle.std.specs.List.{find}
use Rattle.std.proofs.lemmas.Slice.Eq.{bytes_eq-Decides}
use Rattle.texts.specs.Words.{word_by}
use Rattle.texts.proofs.Parsers.{Parses, parses_word, some_is, guard_some, IsWord}
use Rattle.plan_geometry.specs.declared.spots.Way.{Way}
use Rattle.plan_geometry.specs.declared.spots.Way.TheVariants.{Lying, Standing}
use Rattle.layer_symmetry.specs.declared.symmetries.Move.{Move}
use Rattle.layer_symmetry.specs.declared.symmetries.Move.TheVariants.{Same, MirrorX, MirrorY, HalfTurn, Diagonal, Anti, Left, Right}
use Rattle.layer_symmetry.specs.Moves.{move_name}
use Rattle.listing_text.specs.Text.{way_word, alone_word}
use Rattle.listing_text.specs.Words.{way_of, every_move, move_of, alone_of}

abbrev pub Any : {A : Type 0} → A → Type 0
Any a = Unit {0}

pub pick : {X : Type 0} (b : Bool) (x y z : X) → cond b x y ≡ z → ((b ≡ true) × (x ≡ z)) ⊎ ((b ≡ false) × (y ≡ z))
pick true x y z e = inl (refl, e)
pick false x y z e = inr (refl, e)

-- what one of two words says
abbrev two_of : {A : Type 0} → List ℕ → List ℕ → A → A → List ℕ → Option A
two_of t1 t2 a1 a2 w = cond (bytes_eq w t1) (Some a1) (cond (bytes_eq w t2) (Some a2) None)

two_is : {A : Type 0} (text : A → List ℕ) (a1 a2 : A) (w : List ℕ) (a : A) → two_of (text a1) (text a2) a1 a2 w ≡ Some a → w ≡ text a
two_is {A} text a1 a2 w a e =
    elim (pick (bytes_eq w (text a1)) (Some a1) (cond (bytes_eq w (text a2)) (Some a2) None) (Some a) e) [
      | inl p ↦ (bytes_eq-Decides w (text a1)).0 p.0 ∙ ap text (some_is a1 a p.1)
      | inr q ↦ let g = guard_some (bytes_eq w (text a2)) a2 a q.1 in (bytes_eq-Decides w (text a2)).0 g.0 ∙ ap text g.1
    ]

-- ---- a way

pub way_parses : Parses (λ k. way_word k ∷ []) Any (word_by way_of)
way_parses = parses_word way_of way_word Any back (λ w k e. (tt, two_is way_word Lying Standing w k e))
  where
    back : (k : Way) → Any k → way_of (way_word k) ≡ Some k
    back Lying h = refl
    back Standing h = refl

pub way_solid : (k : Way) → IsWord (way_word k)
way_solid Lying = refl
way_solid Standing = refl

-- ---- alone or together

pub alone_parses : Parses (λ k. alone_word k ∷ []) Any (word_by alone_of)
alone_parses = parses_word alone_of alone_word Any back (λ w k e. (tt, two_is alone_word true false w k e))
  where
    back : (k : Bool) → Any k → alone_of (alone_word k) ≡ Some k
    back true h = refl
    back false h = refl

pub alone_solid : (k : Bool) → IsWord (alone_word k)
alone_solid true = refl
alone_solid false = refl

-- ---- a move

find_passes : {X : Type 0} (p : X → Bool) (xs : List X) (x : X) → find p xs ≡ Some x → p x ≡ true
find_passes p [] x e = absurd cc
find_passes {X} p (y ∷ ys) x e = elim (pick (p y) (Some y) (find p ys) (Some x) e) [
  | inl h ↦ subst (λ (z : X). p z ≡ true) (some_is y x h.1) h.0
  | inr h ↦ find_passes p ys x h.1
]

move_back : (m : Move) → move_of (move_name m) ≡ Some m
unfolding move_of
move_back Same = refl
move_back MirrorX = refl
move_back MirrorY = refl
move_back HalfTurn = refl
move_back Diagonal = refl
move_back Anti = refl
move_back Left = refl
move_back Right = refl

move_is : (w : List ℕ) (m : Move) → move_of w ≡ Some m → w ≡ move_name m
unfolding move_of
move_is w m e = (bytes_eq-Decides w (move_name m)).0 (find_passes (λ (k : Move). bytes_eq w (move_name k)) every_move m e)

pub move_parses : Parses (λ m. move_name m ∷ []) Any (word_by move_of)
move_parses = parses_word move_of move_name Any (λ m h. move_back m) (λ w m e. (tt, move_is w m e))

pub move_solid : (m : Move) → IsWord (move_name m)
move_solid Same = refl
move_solid MirrorX = refl
move_solid MirrorY = refl
move_solid HalfTurn = refl
move_solid Diagonal = refl
move_solid Anti = refl
move_solid Left = refl
move_solid Right = refl

-- the move that has a name is found by it
found_by_name : (w : List ℕ) (m : Move) → move_name m ≡ w → Some m ≡ move_of w
found_by_name w m e = sym (subst (λ (t : List ℕ). move_of t ≡ Some m) e (move_back m))

either : {X : Type 0} (o : Option X) → (o ≡ None) ⊎ ((x : X) × (o ≡ Some x))
either None = inl refl
either (Some x) = inr (x, refl)

-- and where none has it, none is found
none_by_name : (w : List ℕ) → ((m : Move) → move_name m ≢ w) → None ≡ move_of w
none_by_name w none = elim (either (move_of w)) [
  | inl e ↦ sym e
  | inr s ↦ absurd (none s.0 (sym (move_is w s.0 s.1)))
]

-- so is what is found by name
pub named_is : (o : Option Move) (w : List ℕ) → MatchOption o ((m : Move) → move_name m ≢ w) (λ m. move_name m ≡ w) → o ≡ move_of w
named_is None w none = none_by_name w none
named_is (Some m) w e = found_by_name w m e
