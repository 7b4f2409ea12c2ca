-- The pending regions, each smaller than those that wait for it.
use Rattle.std.proofs.Common.{◌≡◌, ℕ, ◌+◌, ◌-◌, ◌*◌, ◌≤◌, ◌<◌, refl, ap, sym, ◌∙◌, subst, arith, All, List, [], ◌∷◌, ◌++◌, Option, Some, None, slice_index_or, take, append-nil}
use Rattle.std.specs.Option.{option_to_list}
use Rattle.std.proofs.Math.Nat.{le_refl, mul-le-mul}
use Rattle.std.proofs.lemmas.List.Elements.{All-append, All-cons, All-nil, All-tail, All-take}
use Rattle.std.proofs.lemmas.List.Kept.{AllPairs-cons}
use Rattle.lru.specs.LruCache.{LruCache}
use Rattle.plan_geometry.specs.declared.instances.Inst.{Inst}
use Rattle.plan_geometry.proofs.LayoutSteps.{AllPairs-nil, AllPairs-head, AllPairs-tail}
use Rattle.block_tree.specs.declared.regions.Region.{Region}
use Rattle.block_tree.specs.Regions.{area, rectangle}
use Rattle.block_tree.proofs.AreaLemmas.{area-within, area-rectangle}
use Rattle.l_patterns.specs.declared.sides.Sides.{Sides}
use Rattle.l_patterns.specs.declared.knowledge.Key.{Key}
use Rattle.l_patterns.specs.declared.knowledge.Known.{Known}
use Rattle.l_patterns.specs.declared.knowledge.Search.{Search}
use Rattle.l_patterns.specs.declared.trying.Frame.{Frame}
use Rattle.l_patterns.specs.Cuts.{Fits}
use Rattle.l_patterns.specs.Progress.{known_of, IsOpen, due_area, AreFalling, IsFrom, gaps_of, work_left, Narrows, Enters}
use Rattle.l_patterns.specs.States.{Tried, IsPending, IsGo}
use Rattle.l_patterns.proofs.RootLemmas.{waiting, due as due-frame}

abbrev Waits : Frame → Frame → Type 0
Waits f g = area g.region < area f.region

-- ---- lists with one more

init-all : (P : Frame → Type 0) (xs : List Frame) (x : Frame) → All P (xs ++ x ∷ []) → All P xs × P x
init-all P [] x h = (All-nil P, h 0 x (omega arith))
init-all P (y ∷ ys) x h = let t = init-all P ys x (All-tail P y (ys ++ x ∷ []) h) in (All-cons P y ys (h 0 y (omega arith)) t.0, t.1)

snoc-all : (P : Frame → Type 0) (xs : List Frame) (x : Frame) → All P xs → P x → All P (xs ++ x ∷ [])
snoc-all P xs x h p = All-append P xs (x ∷ []) h (All-cons P x [] p (All-nil P))

init-falling : (xs : List Frame) (x : Frame) → AreFalling (xs ++ x ∷ []) → AreFalling xs × All (λ (g : Frame). Waits g x) xs
init-falling [] x h = (AllPairs-nil Waits, All-nil (λ (g : Frame). Waits g x))
init-falling (y ∷ ys) x h =
    let t = init-falling ys x (AllPairs-tail Waits y (ys ++ x ∷ []) h) in
    let a = init-all (Waits y) ys x (AllPairs-head Waits y (ys ++ x ∷ []) h) in
    (AllPairs-cons Waits y ys a.0 t.0, All-cons (λ (g : Frame). Waits g x) y ys a.1 t.1)

snoc-falling : (xs : List Frame) (x : Frame) → AreFalling xs → All (λ (g : Frame). Waits g x) xs → AreFalling (xs ++ x ∷ [])
snoc-falling [] x h a = AllPairs-cons Waits x [] (All-nil (Waits x)) (AllPairs-nil Waits)
snoc-falling (y ∷ ys) x h a =
    AllPairs-cons Waits y (ys ++ x ∷ []) (snoc-all (Waits y) ys x (AllPairs-head Waits y ys h) (a 0 y (omega arith)))
    (snoc-falling ys x (AllPairs-tail Waits y ys h) (All-tail (λ (g : Frame). Waits g x) y ys a))

pub due-last : (r : Region) (xs : List Frame) (f : Frame) → due_area r (xs ++ f ∷ []) ≡ area f.region
due-last r [] f = refl
due-last r (x ∷ xs) f = due-last x.region xs f

-- ---- the frame that is taken off

-- the rest falls, waits for the frame, and the frame was the one due
pub taken-off : (root : Region) (f : Frame) (o : Option Frame) (xs ys : List Frame) → IsFrom o root f → xs ≡ ys ++ option_to_list o → (o ≡ None → ys ≡ []) → AreFalling xs
    → AreFalling ys × All (λ (g : Frame). Waits g f) ys × (due_area root xs ≡ area f.region)
taken-off root f None xs ys from items empty fall =
    let e : ys ≡ [] = empty refl in
    let e' : xs ≡ [] = items ∙ (append-nil ys ∙ e) in (
      subst AreFalling (sym e) (AllPairs-nil Waits),
      subst (λ (zs : List Frame). All (λ (g : Frame). Waits g f) zs) (sym e) (All-nil (λ (g : Frame). Waits g f)),
      ap (due_area root) e' ∙ ap area (sym from),
    )
taken-off root f (Some g) xs ys from items empty fall =
    let e : xs ≡ ys ++ f ∷ [] = subst (λ (z : Frame). xs ≡ ys ++ z ∷ []) (sym from) items in
    let t = init-falling ys f (subst AreFalling e fall) in
    (t.0, t.1, ap (due_area root) e ∙ due-last root ys f)

-- ---- what stays known of those that wait

opens-by : (i : Inst) (m n : LruCache Key Known) (r : Region) (need : ℕ) → known_of i n r ≡ known_of i m r → IsOpen i m r need → IsOpen i n r need
opens-by i m n r need e h = subst (λ (k : Known). (k.low < need) × (need ≤ k.high)) (sym e) h

pub still-open : (i : Inst) (m n : LruCache Key Known) (r : Region) (need : ℕ) → ((t : Region) → known_of i n t ≡ known_of i m t) → IsOpen i m r need → IsOpen i n r need
still-open i m n r need e h = opens-by i m n r need (e r) h

pub still-pending : (q : Sides) (s t : Search) (f : Frame) (ys : List Frame) → ((z : Region) → (z ≡ f.region → ⊥) → known_of q.inst t.memo z ≡ known_of q.inst s.memo z)
    → All (λ (g : Frame). Waits g f) ys → All (IsPending q s) ys → All (IsPending q t) ys
still-pending q s t f ys e a h = λ i d w.
    let g = slice_index_or ys i d in
    let p = h i d w in
    let lt : area f.region < area g.region = a i d w in
    (p.0, opens-by q.inst s.memo t.memo g.region g.need (e g.region (λ same. absurd (omega (arith, lt, ap area same)))) p.1)

-- the frame goes back at its next cut, and a smaller region comes after it
pub two-more : (ys : List Frame) (f g h : Frame) → AreFalling ys → All (λ (x : Frame). Waits x f) ys → g.region ≡ f.region → area h.region < area f.region
    → AreFalling ((ys ++ g ∷ []) ++ h ∷ [])
two-more ys f g h fall a e lt =
    let same : area g.region ≡ area f.region = ap area e in
    let one = snoc-falling ys g fall (λ i d w. let v : area f.region < area (slice_index_or ys i d).region = a i d w in omega (arith, v, same)) in
    let later : All (λ (x : Frame). Waits x h) ys = λ i d w. (let v : area f.region < area (slice_index_or ys i d).region = a i d w in omega (arith, v, lt)) in
    snoc-falling (ys ++ g ∷ []) h one (snoc-all (λ (x : Frame). Waits x h) ys g later (omega (arith, same, lt)))

-- ---- the work that is left

pub area-small : (q : Sides) (r : Region) → Fits q r → area r ≤ 16000000
area-small q r f =
    let o = f.region.ordered in
    let w = area-within r (rectangle r.big_x r.big_y) o (le_refl _, le_refl _) (le_refl _, le_refl _, o.0, o.1) in
    let e = area-rectangle r.big_x r.big_y in
    let x : r.big_x ≤ 4000 = omega (arith, f.wide, q.inst.sides.l_max) in
    let y : r.big_y ≤ 4000 = omega (arith, f.tall, q.inst.sides.w_max) in
    let m : r.big_x * r.big_y ≤ 4000 * 4000 = mul-le-mul x y in
    omega (arith, w, e, m)

due-small : (root : Region) (fs : List Frame) → area root ≤ 16000000 → All (λ (f : Frame). area f.region ≤ 16000000) fs → due_area root fs ≤ 16000000
due-small root [] w h = w
due-small root (f ∷ fs) w h = due-small f.region fs (h 0 f (omega arith)) (All-tail (λ (g : Frame). area g.region ≤ 16000000) f fs h)

pub due-bound : (q : Sides) (s : Search) (root : Region) (fs : List Frame) → Fits q root → All (IsPending q s) fs → due_area root fs ≤ 16000000
due-bound q s root fs f h = due-small root fs (area-small q root f) (λ i d w. area-small q (slice_index_or fs i d).region (h i d w).0.fits)

pub less-work : (i : Inst) (most : ℕ) (r : Region) (a b c : LruCache Key Known) → Enters i most r a b → Narrows i r b c → work_left most c < work_left most a
less-work i most r a b c h k =
    let e : work_left most c + gaps_of b ≡ work_left most b + gaps_of c = ap (λ (n : ℕ). (most - n) * 16000001 + gaps_of c + gaps_of b) k.count ∙ omega arith in
    omega (arith, e, k.nearer, h.less)

pub emptied : (n : ℕ) (xs ys : List Frame) → n ≡ 0 → ys ≡ take (n - 1) xs → ys ≡ []
emptied n xs ys e h = h ∙ rw e refl

-- ---- one turn of the search: a frame was taken off, its region came into the memo, and a step was made

pub record IsTurn (q : Sides) (most : ℕ) (root : Region) (s t u : Search) (f : Frame) (xs ys : List Frame) : Type 0 where
  pub frame : IsPending q s f
  pub enters : Enters q.inst most f.region s.memo t.memo
  pub rest : All (IsPending q s) ys
  pub falling : AreFalling ys
  pub waits : All (λ (g : Frame). Waits g f) ys
  pub due : due_area root xs ≡ area f.region
  pub room : most ≤ s.memo.cap
  pub fits : Fits q root

-- a turn, by what `pop` says
pub turn-of : (q : Sides) (most : ℕ) (root : Region) (s t u : Search) (f : Frame) (o : Option Frame) (xs ys : List Frame) (n : ℕ)
    → IsPending q s f × IsFrom o root f → Enters q.inst most f.region s.memo t.memo → All (IsPending q s) xs → AreFalling xs → most ≤ s.memo.cap → Fits q root
    → xs ≡ ys ++ option_to_list o → (o ≡ None → n ≡ 0) → ys ≡ take (n - 1) xs → IsTurn q most root s t u f xs ys
turn-of q most root s t u f o xs ys n next enters all fall room fits items cases rest =
    let k = taken-off root f o xs ys next.1 items (λ e. emptied n xs ys (cases e) rest) fall in
    record { frame = next.0; enters = enters; rest = subst (λ (zs : List Frame). All (IsPending q s) zs) (sym rest) (All-take (IsPending q s) (n - 1) xs all); falling = k.0; waits = k.1; due = k.2; room = room; fits = fits }

module _ (q : Sides) (most : ℕ) (root : Region) (s t u : Search) (f : Frame) (xs ys : List Frame) (h : IsTurn q most root s t u f xs ys) where
  rest-after-entry : All (IsPending q t) ys
  rest-after-entry = still-pending q s t f ys (λ z d. h.enters.same z) h.waits h.rest

  -- the step is done
  pub done-pending : Narrows q.inst f.region t.memo u.memo → All (IsPending q u) ys
  done-pending n = still-pending q t u f ys n.others h.waits rest-after-entry

  pub done-room : Narrows q.inst f.region t.memo u.memo → most ≤ u.memo.cap
  done-room n = omega (arith, h.room, h.enters.cap, n.cap)

  pub done-less : Narrows q.inst f.region t.memo u.memo → work_left most u.memo * 16000001 + due_area root ys < work_left most s.memo * 16000001 + due_area root xs
  done-less n = omega (arith, less-work q.inst most f.region s.memo t.memo u.memo h.enters n, due-bound q s root ys h.fits h.rest)

  -- the step waits for a part
  module _ (same : u.memo ≡ t.memo) (at : ℕ) (p : Region) (need : ℕ) (tried : Tried q f.region f.need at) (go : IsGo q t f.region p need) where
    abbrev again : Frame
    again = record { region = f.region; need = f.need; at = at }

    abbrev next : Frame
    next = record { region = p; need = need; at = 0 }

    unchanged : (z : Region) → known_of q.inst u.memo z ≡ known_of q.inst t.memo z
    unchanged z = ap (λ (m : LruCache Key Known). known_of q.inst m z) same

    pub waits-pending : All (IsPending q u) ((ys ++ again ∷ []) ++ next ∷ [])
    waits-pending =
        let rest = still-pending q t u f ys (λ z d. unchanged z) h.waits rest-after-entry in
        let one : IsPending q u again = (waiting q f at h.frame.0 tried, still-open q.inst t.memo u.memo f.region f.need unchanged (still-open q.inst s.memo t.memo f.region f.need h.enters.same h.frame.1)) in
        let two : IsPending q u next = (due-frame q t f.region p need go, still-open q.inst t.memo u.memo p need unchanged go.opens) in
        snoc-all (IsPending q u) (ys ++ again ∷ []) next (snoc-all (IsPending q u) ys again rest one) two

    pub waits-falling : AreFalling ((ys ++ again ∷ []) ++ next ∷ [])
    waits-falling = two-more ys f again next h.falling h.waits refl go.falls

    pub waits-room : most ≤ u.memo.cap
    waits-room = let e = ap (λ (m : LruCache Key Known). m.cap) same in omega (arith, h.room, h.enters.cap, e)

    pub waits-less : work_left most u.memo * 16000001 + due_area root ((ys ++ again ∷ []) ++ next ∷ []) < work_left most s.memo * 16000001 + due_area root xs
    waits-less =
        let e = ap (λ (m : LruCache Key Known). work_left most m) same in
        omega (arith, e, h.enters.less, h.due, due-last root (ys ++ again ∷ []) next, go.falls)
