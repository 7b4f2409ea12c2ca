-- Runs that lead over columns, and what a scan over them finds.
use Rattle.std.proofs.Common.{◌≡◌, ◌≢◌, ℕ, zero, suc, ◌+◌, ◌-◌, ◌<◌, ◌≤◌, inl, inr, List, length, get_or, set, drop, arith, subst, sym, refl, ap, ◌∙◌, get_or-set_other, get_or-set_same, length-set}
use Rattle.std.proofs.lemmas.Bool.{cases_lt}
use Rattle.std.proofs.lemmas.List.{set-set, set_comm, set-get_or}
use Rattle.cert_rules.specs.Corner.{lowest, before_first, run_of, corner, flat_run, raised}
use Rattle.cert_rules.specs.Runs.{IsFlat, entry, Leads, HasRuns, Scan}
use Rattle.cert_rules.specs.declared.skyline.Run.{Run}
use Rattle.cert_rules.proofs.Heights.{corner-lt, corner-at, corner-first, flat_run-at, flat_run-fits, flat_run-longest, flat_run-some, raised-below, raised-in, raised-above}
use Rattle.cert_rules.proofs.HeightSteps.{lowest-is, before_first-is, run_of-is, run_of-to_end}

pub leads-le : (rs : List Run) (hs : List ℕ) (n a b : ℕ) → Leads rs hs n a b → a ≤ b
leads-le rs hs zero a b l = omega arith
leads-le rs hs (suc n) a b l =
    let le : a + (entry rs a).width ≤ b = leads-le rs hs n (a + (entry rs a).width) b l.2 in omega arith

pub runs-join : (rs : List Run) (hs : List ℕ) (n a b c : ℕ) → Leads rs hs n a b → HasRuns rs hs b c → HasRuns rs hs a c
runs-join rs hs zero a b c l r = subst (λ (x : ℕ). HasRuns rs hs x c) (sym l) r
runs-join rs hs (suc n) a b c l r =
    let rest = runs-join rs hs n (a + (entry rs a).width) b c l.2 r in
    (suc rest.0, (l.0, l.1, rest.1))

-- runs stay where neither their entries nor their columns change
pub leads-same :
    (rs new : List Run) (hs now : List ℕ) (n a b : ℕ)
    → ((k : ℕ) → a ≤ k → k < b → entry new k ≡ entry rs k)
    → ((k : ℕ) → a ≤ k → k < b → get_or now k 0 ≡ get_or hs k 0)
    → Leads rs hs n a b
    → Leads new now n a b
leads-same rs new hs now zero a b e h l = l
leads-same rs new hs now (suc n) a b e h l =
    let le : a + (entry rs a).width ≤ b = leads-le rs hs n (a + (entry rs a).width) b l.2 in
    let some : 0 < (entry rs a).width = l.0 in
    let here : entry new a ≡ entry rs a = e a (omega arith) (omega arith) in
    let tail : Leads new now n (a + (entry rs a).width) b =
    leads-same rs new hs now n (a + (entry rs a).width) b (λ k p q. e k (omega arith) q) (λ k p q. h k (omega arith) q) l.2 in
    let flat : IsFlat now a (entry rs a).width (entry rs a).height = λ k p q. h k p (omega arith) ∙ l.1 k p q in
    subst (λ (r : Run). (0 < r.width) × IsFlat now a r.width r.height × Leads new now n (a + r.width) b) (sym here) (some, flat, tail)

-- runs break at each column whose height is not that of the one before it
pub runs-break :
    (rs : List Run) (hs : List ℕ) (n a b k : ℕ)
    → Leads rs hs n a b
    → a ≤ k
    → k ≤ b
    → (a < k → k < b → get_or hs (k - 1) 0 ≢ get_or hs k 0)
    → HasRuns rs hs a k × HasRuns rs hs k b
runs-break rs hs zero a b k l from to edge =
    let left : a ≡ k = omega arith in
    let right : k ≡ b = omega arith in
    ((0, left), (0, right))
runs-break rs hs (suc n) a b k l from to edge =
    let le : a + (entry rs a).width ≤ b = leads-le rs hs n (a + (entry rs a).width) b l.2 in
    let some : 0 < (entry rs a).width = l.0 in
    elim (cases_lt a k) [
      | inl past ↦
          elim (cases_lt k (a + (entry rs a).width)) [
            | inl within ↦
                absurd (edge past (omega arith) (l.1 (k - 1) (omega arith) (omega arith) ∙ sym (l.1 k (omega arith) within)))
            | inr beyond ↦
                let rest = runs-break rs hs n (a + (entry rs a).width) b k l.2 beyond to (λ p q. edge past q) in
                ((suc rest.0.0, (l.0, l.1, rest.0.1)), rest.1)
          ]
      | inr at ↦
          let same : a ≡ k = omega arith in
          ((0, same), subst (λ (x : ℕ). HasRuns rs hs x b) same (suc n, l))
    ]

pub run-then :
    (rs : List Run) (hs : List ℕ) (a w h b : ℕ)
    → entry rs a ≡ record { width = w; height = h }
    → 0 < w
    → IsFlat hs a w h
    → HasRuns rs hs (a + w) b
    → HasRuns rs hs a b
run-then rs hs a w h b e some flat r =
    (suc r.0, subst (λ (p : Run). (0 < p.width) × IsFlat hs a p.width p.height × Leads rs hs r.0 (a + p.width) b) (sym e) (some, flat, r.1))

-- two entries written
abbrev pub put : List Run → ℕ → Run → ℕ → Run → List Run
put rs a p b q = set (set rs a p) b q

put-other : (rs : List Run) (a b k : ℕ) (p q : Run) → k ≢ a → k ≢ b → entry (put rs a p b q) k ≡ entry rs k
put-other rs a b k p q na nb =
    get_or-set_other (set rs a p) b k q (record { width = 0; height = 0 }) nb
    ∙ get_or-set_other rs a k p (record { width = 0; height = 0 }) na

put-first : (rs : List Run) (a b : ℕ) (p q : Run) → a ≢ b → a < length rs → entry (put rs a p b q) a ≡ p
put-first rs a b p q ne lt =
    get_or-set_other (set rs a p) b a q (record { width = 0; height = 0 }) ne
    ∙ get_or-set_same rs a p (record { width = 0; height = 0 }) lt

put-second : (rs : List Run) (a b : ℕ) (p q : Run) → b < length rs → entry (put rs a p b q) b ≡ q
put-second rs a b p q lt =
    get_or-set_same (set rs a p) b q (record { width = 0; height = 0 }) (omega (arith, length-set rs a p))

-- what was written back
pub put-back :
    (rs : List Run) (a b : ℕ) (p q : Run) → a ≢ b → put (put rs a p b q) a (entry rs a) b (entry rs b) ≡ rs
put-back rs a b p q ne =
    ap (λ (l : List Run). set l b (entry rs b)) (set_comm (set rs a p) b a q (entry rs a) (λ e. ne (sym e)))
    ∙ (ap (λ (l : List Run). set (set l b q) b (entry rs b)) (set-set rs a p (entry rs a))
    ∙ (set-set (set rs a (entry rs a)) b q (entry rs b)
    ∙ (ap (λ (l : List Run). set l b (entry rs b)) (set-get_or rs a (record { width = 0; height = 0 }))
    ∙ set-get_or rs b (record { width = 0; height = 0 }))))

lifted :
    (rs : List Run) (hs : List ℕ) (x n run y v columns : ℕ) (rest : Run)
    → x + run ≤ columns
    → length hs ≡ columns
    → length rs ≡ columns + 1
    → 0 < n
    → n ≤ run
    → HasRuns rs hs 0 x
    → HasRuns rs hs (x + run) columns
    → IsFlat hs x run y
    → (n < run → rest ≡ record { width = run - n; height = y })
    → (run ≤ n → rest ≡ entry rs (x + n))
    → HasRuns (put rs x (record { width = n; height = v }) (x + n) rest) (raised hs x n v) 0 columns
lifted rs hs x n run y v columns rest fits wide long some le before behind flat cut whole =
    runs-join (put rs x (record { width = n; height = v }) (x + n) rest) (raised hs x n v) before.0 0 x columns
    (leads-same rs (put rs x (record { width = n; height = v }) (x + n) rest) hs (raised hs x n v) before.0 0 x
    (λ k p q. put-other rs x (x + n) k (record { width = n; height = v }) rest (omega arith) (omega arith))
    (λ k p q. raised-below hs x n v k (omega arith) q) before.1)
    (run-then (put rs x (record { width = n; height = v }) (x + n) rest) (raised hs x n v) x n v columns
    (put-first rs x (x + n) (record { width = n; height = v }) rest (omega arith) (omega arith)) some
    (λ k p q. raised-in hs x n v k (omega arith) p q)
    (elim (cases_lt n run) [
      | inl less ↦
          let again : HasRuns (put rs x (record { width = n; height = v }) (x + n) rest) (raised hs x n v) (x + run) columns = (
            behind.0,
            leads-same rs (put rs x (record { width = n; height = v }) (x + n) rest) hs (raised hs x n v) behind.0 (x + run) columns
                (λ k p q. put-other rs x (x + n) k (record { width = n; height = v }) rest (omega arith) (omega arith))
                (λ k p q. raised-above hs x n v k (omega arith) (omega arith)) behind.1,
          ) in
          let e : x + run ≡ (x + n) + (run - n) = omega arith in
          run-then (put rs x (record { width = n; height = v }) (x + n) rest) (raised hs x n v) (x + n) (run - n) y columns
          (put-second rs x (x + n) (record { width = n; height = v }) rest (omega arith) ∙ cut less) (omega arith)
          (λ k p q. raised-above hs x n v k (omega arith) (omega arith) ∙ flat k (omega arith) (omega arith))
          (subst (λ (c : ℕ). HasRuns (put rs x (record { width = n; height = v }) (x + n) rest) (raised hs x n v) c columns) e again)
      | inr all ↦
          let e : x + run ≡ x + n = omega arith in (
            behind.0,
            leads-same rs (put rs x (record { width = n; height = v }) (x + n) rest) hs (raised hs x n v) behind.0 (x + n) columns
                (λ k p q.
                elim (cases_lt (x + n) k) [
                  | inl past ↦ put-other rs x (x + n) k (record { width = n; height = v }) rest (omega arith) (omega arith)
                  | inr at ↦
                      let here : x + n ≡ k = omega arith in
                      subst (λ (c : ℕ). entry (put rs x (record { width = n; height = v }) (x + n) rest) c ≡ entry rs c) here
                      (put-second rs x (x + n) (record { width = n; height = v }) rest (omega arith) ∙ whole all)
                ])
                (λ k p q. raised-above hs x n v k (omega arith) p)
                (subst (λ (c : ℕ). Leads rs hs behind.0 c columns) e behind.1),
          )
    ]))

-- the runs after columns from the corner on are raised
pub runs-raised :
    (rs : List Run) (hs : List ℕ) (columns n v : ℕ) (rest : Run)
    → 0 < length hs
    → length hs ≡ columns
    → length rs ≡ columns + 1
    → HasRuns rs hs 0 columns
    → 0 < n
    → n ≤ flat_run hs
    → (n < flat_run hs → rest ≡ record { width = flat_run hs - n; height = lowest hs })
    → (flat_run hs ≤ n → rest ≡ entry rs (corner hs + n))
    → HasRuns (put rs (corner hs) (record { width = n; height = v }) (corner hs + n) rest) (raised hs (corner hs) n v) 0 columns
runs-raised rs hs columns n v rest pos wide long leads some le cut whole =
    let lt : corner hs < length hs = corner-lt hs pos in
    let fits : corner hs + flat_run hs ≤ length hs = flat_run-fits hs pos in
    let flats : 0 < flat_run hs = flat_run-some hs pos in
    let front = runs-break rs hs leads.0 0 columns (corner hs) leads.1 (omega arith) (omega arith)
    (λ p q e. corner-first hs (corner hs - 1) (omega arith) (e ∙ corner-at hs pos)) in
    let back = runs-break rs hs leads.0 0 columns (corner hs + flat_run hs) leads.1 (omega arith) (omega arith)
    (λ p q e. past_run hs (corner hs + flat_run hs) refl q wide (sym e ∙ last_of hs pos flats)) in
    lifted rs hs (corner hs) n (flat_run hs) (lowest hs) v columns rest (omega arith) wide long some le front.0 back.1
    (λ k p q.
    let e : corner hs + (k - corner hs) ≡ k = omega arith in
    subst (λ (c : ℕ). get_or hs c 0 ≡ lowest hs) e (flat_run-at hs (k - corner hs) (omega arith))) cut whole
  where
    last_of : (hs : List ℕ) → 0 < length hs → 0 < flat_run hs → get_or hs (corner hs + flat_run hs - 1) 0 ≡ lowest hs
    last_of hs pos flats =
        let e : corner hs + (flat_run hs - 1) ≡ corner hs + flat_run hs - 1 = omega arith in
        subst (λ (c : ℕ). get_or hs c 0 ≡ lowest hs) e (flat_run-at hs (flat_run hs - 1) (omega arith))

    longer : (hs : List ℕ) (c : ℕ) → c ≡ corner hs + flat_run hs → get_or hs c 0 ≡ lowest hs → (k : ℕ) → k < flat_run hs + 1 → get_or hs (corner hs + k) 0 ≡ lowest hs
    longer hs c e at k lt =
        elim (cases_lt k (flat_run hs)) [
          | inl less ↦ flat_run-at hs k less
          | inr more ↦
              let same : c ≡ corner hs + k = omega arith in
              subst (λ (d : ℕ). get_or hs d 0 ≡ lowest hs) same at
        ]

    past_run : {columns : ℕ} (hs : List ℕ) (c : ℕ) → c ≡ corner hs + flat_run hs → c < columns → length hs ≡ columns → get_or hs c 0 ≡ lowest hs → ⊥
    past_run hs c e lt wide at =
        let le : flat_run hs + 1 ≤ flat_run hs = flat_run-longest hs (flat_run hs + 1) (omega arith) (longer hs c e at) in
        absurd (omega arith)

pub scan-start : (hs : List ℕ) (w h : ℕ) → 0 < w → IsFlat hs 0 w h → Scan hs 0 h w w
scan-start hs w h some flat = record {
  some = some;
  within = omega arith;
  least = λ k lt. let e : get_or hs k 0 ≡ h = flat k (omega arith) (omega arith) in omega arith;
  first = λ k lt. absurd (omega arith);
  flat = flat;
  ends = λ lt. absurd (omega arith);
}

-- what a scan of all columns finds
pub scan-end :
    (hs : List ℕ) (x y run c : ℕ)
    → Scan hs x y run c
    → c ≡ length hs
    → (x ≡ corner hs) × (y ≡ lowest hs) × (run ≡ flat_run hs) × (x + run ≤ length hs)
scan-end hs x y run c s e =
    let within : x + run ≤ c = s.within in
    let some : 0 < run = s.some in
    let at : get_or hs x 0 ≡ y = s.flat x (omega arith) (omega arith) in
    let ey : y ≡ lowest hs = lowest-is hs y (λ k lt. s.least k (omega arith)) x (omega arith) at in
    let ex : x ≡ corner hs =
    before_first-is y hs x s.first (omega arith) at ∙ ap (λ (v : ℕ). before_first v hs) ey in
    let er : run ≡ run_of y (drop x hs) =
    elim (cases_lt (x + run) c) [
      | inl lt ↦
          let r : (x + run) - x ≡ run_of y (drop x hs) =
          run_of-is y hs x (x + run) (omega arith) s.flat (omega arith) (s.ends lt) in
          omega arith
      | inr ge ↦
          let r : length hs - x ≡ run_of y (drop x hs) =
          run_of-to_end y hs x (omega arith) (λ j from to. s.flat j from (omega arith)) in
          omega arith
    ] in
    (ex, ey, er ∙ (ap (λ (v : ℕ). run_of v (drop x hs)) ey ∙ ap (λ (k : ℕ). run_of (lowest hs) (drop k hs)) ex), omega arith)

-- the first of the runs
pub runs-next :
    (rs : List Run) (hs : List ℕ) (a b : ℕ)
    → HasRuns rs hs a b
    → a < b
    → (0 < (entry rs a).width)
    × IsFlat hs a (entry rs a).width (entry rs a).height
    × HasRuns rs hs (a + (entry rs a).width) b
    × (a + (entry rs a).width ≤ b)
runs-next rs hs a b r lt = next r.0 r.1
  where
    next : (n : ℕ) → Leads rs hs n a b
        → (0 < (entry rs a).width)
        × IsFlat hs a (entry rs a).width (entry rs a).height
        × HasRuns rs hs (a + (entry rs a).width) b
        × (a + (entry rs a).width ≤ b)
    next zero l = absurd (omega arith)
    next (suc n) l = (l.0, l.1, (n, l.2), leads-le rs hs n (a + (entry rs a).width) b l.2)

-- a scan begins with the first run
pub runs-start :
    (rs : List Run) (hs : List ℕ) (b : ℕ)
    → HasRuns rs hs 0 b
    → 0 < b
    → Scan hs 0 (entry rs 0).height (entry rs 0).width (entry rs 0).width × HasRuns rs hs (entry rs 0).width b
runs-start rs hs b r lt =
    let next = runs-next rs hs 0 b r lt in
    let e : 0 + (entry rs 0).width ≡ (entry rs 0).width = omega arith in
    (scan-start hs (entry rs 0).width (entry rs 0).height next.0 next.1, subst (λ (x : ℕ). HasRuns rs hs x b) e next.2)

pub put-length : (rs : List Run) (a b : ℕ) (p q : Run) → length (put rs a p b q) ≡ length rs
put-length rs a b p q = length-set (set rs a p) b q ∙ length-set rs a p

-- all columns of height 0 are one run
pub runs-all :
    (rs : List Run) (hs : List ℕ) (columns : ℕ)
    → 0 < columns
    → entry rs 0 ≡ record { width = columns; height = 0 }
    → ((k : ℕ) → get_or hs k 0 ≡ 0)
    → HasRuns rs hs 0 columns
runs-all rs hs columns some e zero_at =
    let last : 0 + columns ≡ columns = omega arith in
    run-then rs hs 0 columns 0 columns e some (λ k p q. zero_at k) (0, last)
