use Rattle.std.proofs.Common.{◌≡◌, ℕ, ◌+◌, ◌-◌, ◌≤◌, ◌<◌, inl, inr, List, [], ◌∷◌, ◌++◌, length, get_or, length-append, sym, ap, ◌∙◌, subst, arith}
use Rattle.std.proofs.Math.Seq.{get_or-append_seam}
use Rattle.std.proofs.lemmas.List.{get_or_append_left}
use Rattle.std.specs.List.{All, AllPairs, Contains}
use Rattle.std.proofs.lemmas.Bool.{cases_lt}
use Rattle.std.proofs.lemmas.List.Elements.{All-push, All-nil, Contains-push, Contains-append_left}
use Rattle.std.proofs.lemmas.List.Quantifiers.{all_pairs_push}
use Rattle.partitions.specs.Partitions.{IsNormal}
use Rattle.raster_points.specs.Places.{IsDown, IsRaster, Lists}
use Rattle.raster_points.specs.Laws.{HasOneDown, DownRises, DownRoundsItself, RasterRoundsBack, RasterIsNormal}
use Rattle.raster_points.specs.Points.{IsDownBefore}

-- a normal place on any side that holds it
pub normal_on : (side other long short place : ℕ) → place ≤ other → IsNormal side long short place → IsNormal other long short place
normal_on side other long short place h n = record { i = n.i; j = n.j; sum = n.sum; within = h }

pub before_none : (long short : ℕ) → IsDownBefore long short 0 0
before_none long short = record {
  normal = record { i = 0; j = 0; sum = omega arith; within = omega arith };
  below = omega arith;
  greatest = λ other n h. absurd (omega arith);
}

pub before_next : (long short place down : ℕ) → IsDown place long short down → IsDownBefore long short (place + 1) down
before_next long short place down d = record {
  normal = normal_on place down long short down (omega arith) d.normal;
  below = omega (arith, d.normal.within);
  greatest = λ other n h. d.greatest other (normal_on other place long short other (omega arith) n);
}

pub down_here : (long short place : ℕ) → IsNormal place long short place → IsDown place long short place
down_here long short place n = record { normal = n; greatest = λ other m. m.within }

pub down_before : (long short place before : ℕ) → IsDownBefore long short place before → ¬ IsNormal place long short place → IsDown place long short before
down_before long short place before b refuted = record {
  normal = normal_on before place long short before b.below b.normal;
  greatest = λ other n. elim (cases_lt other place) [
    | inl lt ↦ b.greatest other (normal_on place other long short other (omega arith) n) lt
    | inr ge ↦
        let same : other ≡ place = omega (arith, n.within) in
        absurd (refuted (subst (IsNormal place long short) same n))
  ];
}

-- a place is normal exactly where it is its own greatest
pub normal_down : DownRoundsItself
normal_down side long short place down h d = (
  λ e. normal_on place side long short place h (subst (IsNormal place long short) e d.normal),
  λ n. omega (arith, d.normal.within, d.greatest place (normal_on side place long short place (omega arith) n)),
)

pub down_unique : HasOneDown
down_unique side long short a b d e = omega (arith, d.greatest b e.normal, e.greatest a d.normal)

-- a longer side has no smaller greatest place
pub down_rises : DownRises
down_rises side other long short a b h d e =
    e.greatest a (normal_on side other long short a (omega (arith, d.normal.within)) d.normal)

-- a raster place is the greatest on what the greatest normal place beside it leaves
pub raster_down : RasterRoundsBack
raster_down s long short place left again h d e = (
  λ same. record {
    left = left;
    normal = normal_on (s - place) s long short left (omega (arith, d.normal.within)) d.normal;
    down = subst (IsDown (s - left) long short) same e;
  },
  λ r.
      let x = r.left in
      let w = r.down.normal.within in
      let v = r.normal.within in
      let l = d.normal.within in
      let up : x ≤ left = d.greatest x (normal_on s (s - place) long short x (omega (arith, w, v, h)) r.normal) in
      let most : again ≤ place = down_rises (s - left) (s - x) long short again place (omega (arith, up)) e r.down in
      let least : place ≤ again = e.greatest place (normal_on (s - x) (s - left) long short place (omega (arith, l, h)) r.down.normal) in
      omega (arith, most, least),
)

-- each raster place is normal
pub raster_normal : RasterIsNormal
raster_normal side long short place r = normal_on (side - r.left) side long short place (let w = r.down.normal.within in omega (arith, w)) r.down.normal

-- each raster place is at most the greatest normal place
pub raster_within : (side long short greatest place : ℕ) → IsDown side long short greatest → IsRaster side long short place → place ≤ greatest
raster_within side long short greatest place d r = d.greatest place (raster_normal side long short place r)

-- the numbers below a bound of which P is true
pub record ListsBelow (P : ℕ → Type 0) (bound : ℕ) (xs : List ℕ) : Type 0 where
  pub each : All P xs
  pub below : All (λ x. x < bound) xs
  pub whole : (v : ℕ) → P v → v < bound → Contains xs v
  pub rising : AllPairs (λ (x y : ℕ). x < y) xs

pub below_none : (P : ℕ → Type 0) → ListsBelow P 0 []
below_none P = record {
  each = All-nil P;
  below = All-nil (λ (x : ℕ). x < 0);
  whole = λ v p h. absurd (omega arith);
  rising = λ i j d p q. absurd (omega arith);
}

pub below_more : (P : ℕ → Type 0) (n : ℕ) (xs : List ℕ) → ListsBelow P n xs → P n → ListsBelow P (n + 1) (xs ++ n ∷ [])
below_more P n xs h p = record {
  each = All-push P xs n h.each p;
  below = All-push (λ (x : ℕ). x < n + 1) xs n (λ k d q. let b = h.below k d q in omega (arith, b)) (omega arith);
  whole = λ v q l. elim (cases_lt v n) [
    | inl lt ↦ Contains-append_left xs (n ∷ []) v (h.whole v q lt)
    | inr ge ↦ let same : n ≡ v = omega arith in subst (Contains (xs ++ n ∷ [])) same (Contains-push xs n)
  ];
  rising = all_pairs_push (λ (x y : ℕ). x < y) xs n h.rising h.below;
}

pub below_skip : (P : ℕ → Type 0) (n : ℕ) (xs : List ℕ) → ListsBelow P n xs → ¬ P n → ListsBelow P (n + 1) xs
below_skip P n xs h refuted = record {
  each = h.each;
  below = λ k d q. let b = h.below k d q in omega (arith, b);
  whole = λ v q l. elim (cases_lt v n) [
    | inl lt ↦ h.whole v q lt
    | inr ge ↦ let same : v ≡ n = omega arith in absurd (refuted (subst P same q))
  ];
  rising = h.rising;
}

pub lists_below : (P : ℕ → Type 0) (bound : ℕ) (xs : List ℕ) → ((v : ℕ) → P v → v < bound) → ListsBelow P bound xs → Lists P xs
lists_below P bound xs within h = record { each = h.each; whole = λ v p. h.whole v p (within v p); rising = h.rising }

-- one more place of the table
pub table_more : (long short : ℕ) (xs : List ℕ) (n v : ℕ) → length xs ≡ n → ((k d : ℕ) → k < length xs → IsDown k long short (get_or xs k d)) → IsDown n long short v → (k d : ℕ) → k < length (xs ++ v ∷ []) → IsDown k long short (get_or (xs ++ v ∷ []) k d)
table_more long short xs n v len each last k d h = elim (cases_lt k n) [
  | inl lt ↦ subst (IsDown k long short) (sym (get_or_append_left xs (v ∷ []) d k (omega arith))) (each k d (omega arith))
  | inr ge ↦
      let more : length (xs ++ v ∷ []) ≡ n + 1 = length-append xs (v ∷ []) ∙ omega arith in
      let same : length xs ≡ k = omega arith in
      let r : get_or (xs ++ v ∷ []) k d ≡ v = sym (ap (λ i. get_or (xs ++ v ∷ []) i d) same) ∙ get_or-append_seam xs v [] d in
      let is : n ≡ k = omega arith in
      subst (IsDown k long short) (sym r) (subst (λ i. IsDown i long short v) is last)
]
