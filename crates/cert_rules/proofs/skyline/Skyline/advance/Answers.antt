use Rattle.std.proofs.Common.{◌≡◌, ◌≤◌, ◌<◌, ◌+◌, ◌-◌, ℕ, List, [], ◌∷◌, length, ap, ◌∙◌, subst, sym, arith, true, false, Bool, refl}
use Rattle.std.specs.Prelude.{reverse, IsTrue, if◌then◌else◌}
use Rattle.std.proofs.lemmas.List.{reverse-append, with_items_is, get_or_read}
use Rattle.std.specs.Vec.{with_items}
use Rattle.cert_rules.specs.Corner.{state_of, allows, is_case, corner, lowest, flat_run}
use Rattle.cert_rules.specs.Path.{Path, state}
use Rattle.cert_rules.specs.Frames.{steps_of}
use Rattle.cert_rules.specs.declared.skyline.Frame.{Frame}
use Rattle.cert_rules.specs.declared.skyline.Run.{Run}
use Rattle.cert_rules.proofs.RunSteps.{put, put-length}
use Rattle.cert_rules.proofs.Paths.{spots-few, length-steps_of, Keeps, Keeps-step, step-numbers, step-light}
use Rattle.cert_rules.proofs.skyline.Skyline.advance.Goals as goal
use Rattle.cert_rules.proofs.skyline.Skyline.advance.Goals.{After-places}

pub overflow_sub-height : goal.overflow_sub-height
overflow_sub-height c =
    (step-numbers c.self.inside c.args.self.now c.corner-at.result.x c.corner-at.result.y c.corner-at.result.run c.width_of-columns.result c.height_of-height.result c.args.step
    c.self.invariant c.self.view_is c.requires.allowed c.corner-at.ensures.x c.corner-at.ensures.y c.corner-at.ensures.run c.width_of-columns.ensures c.height_of-height.ensures).0

pub index-first-requires : goal.index-first-requires
index-first-requires c =
    let n = step-numbers c.self.inside c.args.self.now c.corner-at.result.x c.corner-at.result.y c.corner-at.result.run c.width_of-columns.result c.height_of-height.result c.args.step
    c.self.invariant c.self.view_is c.requires.allowed c.corner-at.ensures.x c.corner-at.ensures.y c.corner-at.ensures.run c.width_of-columns.ensures c.height_of-height.ensures in
    omega (arith, n.4, n.5, c.self.inside.runs.ok.0)

pub index-second-requires : goal.index-second-requires
index-second-requires c =
    let n = step-numbers c.self.inside c.args.self.now c.corner-at.result.x c.corner-at.result.y c.corner-at.result.run c.width_of-columns.result c.height_of-height.result c.args.step
    c.self.invariant c.self.view_is c.requires.allowed c.corner-at.ensures.x c.corner-at.ensures.y c.corner-at.ensures.run c.width_of-columns.ensures c.height_of-height.ensures in
    omega (arith, n.4, n.5, c.self.inside.runs.ok.0)

pub put_two-requires-clause-a_in : goal.put_two-requires-clause-a_in
put_two-requires-clause-a_in c =
    let n = step-numbers c.self.inside c.args.self.now c.corner-at.result.x c.corner-at.result.y c.corner-at.result.run c.width_of-columns.result c.height_of-height.result c.args.step
    c.self.invariant c.self.view_is c.requires.allowed c.corner-at.ensures.x c.corner-at.ensures.y c.corner-at.ensures.run c.width_of-columns.ensures c.height_of-height.ensures in
    omega (arith, n.4, n.5, ap length c.deref_mut.ensures.value)

pub put_two-requires-clause-b_in : goal.put_two-requires-clause-b_in
put_two-requires-clause-b_in c =
    let n = step-numbers c.self.inside c.args.self.now c.corner-at.result.x c.corner-at.result.y c.corner-at.result.run c.width_of-columns.result c.height_of-height.result c.args.step
    c.self.invariant c.self.view_is c.requires.allowed c.corner-at.ensures.x c.corner-at.ensures.y c.corner-at.ensures.run c.width_of-columns.ensures c.height_of-height.ensures in
    omega (arith, n.4, n.5, ap length c.deref_mut.ensures.value)

pub overflow_sub-self : goal.overflow_sub-self
overflow_sub-self c =
    step-light c.self.inside c.args.self.now c.corner-at.result.x c.corner-at.result.y c.corner-at.result.run c.width_of-columns.result c.height_of-height.result c.block-weight.result c.args.step
    c.self.invariant c.self.view_is c.requires.allowed c.corner-at.ensures.x c.corner-at.ensures.y c.corner-at.ensures.run c.width_of-columns.ensures c.height_of-height.ensures
    c.block-weight.ensures

pub overflow_add-self : goal.overflow_add-self
overflow_add-self c =
    let few : length (state_of c.self.inside.inst (steps_of (reverse c.self.inside.frames.items))).spots
    ≤ length (steps_of (reverse c.self.inside.frames.items)) =
    spots-few c.self.inside.inst (steps_of (reverse c.self.inside.frames.items)) in
    let same : length (steps_of (reverse c.self.inside.frames.items)) ≡ length (reverse c.self.inside.frames.items) =
    length-steps_of (reverse c.self.inside.frames.items) in
    let most : length (reverse c.self.inside.frames.items) ≤ 500000 = c.self.invariant.few in
    let cases : c.self.inside.cases ≡ length (state_of c.self.inside.inst (steps_of (reverse c.self.inside.frames.items))).spots = c.self.invariant.cases in
    omega arith

keeps :
    (c : After-places) (count : ℕ)
    → count ≡ c.self.inside.cases + (if is_case c.args.step then 1 else 0)
    → Keeps c.self.inside.inst c.self.inside.weighting (reverse c.push.new.self.items) (with_items c.self.inside.runs c.put_two.new.runs).items
    (c.self.inside.weight - c.block-weight.result) count
keeps c count counted =
    let n = step-numbers c.self.inside c.args.self.now c.corner-at.result.x c.corner-at.result.y c.corner-at.result.run c.width_of-columns.result c.height_of-height.result c.args.step
    c.self.invariant c.self.view_is c.requires.allowed c.corner-at.ensures.x c.corner-at.ensures.y c.corner-at.ensures.run c.width_of-columns.ensures c.height_of-height.ensures in
    let room : length (reverse c.self.inside.frames.items) < 500000 =
    subst (λ (k : ℕ). k < 500000) (length-steps_of (reverse c.self.inside.frames.items))
    (subst (λ (p : Path). length p.steps < 500000) (sym c.self.view_is) c.requires.room) in
    let f : Frame = record {
      step = c.args.step;
      x = c.corner-at.result.x;
      y = c.corner-at.result.y;
      columns = c.width_of-columns.result;
      first = c.index-first.result.now;
      second = c.index-second.result.now;
      weight = c.block-weight.result;
    } in
    let pushed : reverse c.push.new.self.items ≡ f ∷ reverse c.self.inside.frames.items =
    ap reverse c.in_ok-push.ensures.items ∙ reverse-append c.self.inside.frames.items (f ∷ []) in
    let made : c.put_two.new.runs ≡ put c.self.inside.runs.items c.corner-at.result.x
    (record { width = c.width_of-columns.result; height = c.height_of-height.result }) (c.corner-at.result.x + c.width_of-columns.result) c.rest_of-rest.result =
    c.put_two.ensures
    ∙ ap (λ (l : List Run). put l c.corner-at.result.x (record { width = c.width_of-columns.result; height = c.height_of-height.result })
    (c.corner-at.result.x + c.width_of-columns.result) c.rest_of-rest.result) c.deref_mut.ensures.value in
    let as_long : length c.put_two.new.runs ≡ c.self.inside.runs.len =
    ap length made
    ∙ (put-length c.self.inside.runs.items c.corner-at.result.x (c.corner-at.result.x + c.width_of-columns.result)
    (record { width = c.width_of-columns.result; height = c.height_of-height.result }) c.rest_of-rest.result ∙ sym c.self.inside.runs.ok.0) in
    let x_in : c.corner-at.result.x < length c.self.inside.runs.items = omega (arith, n.4, n.5) in
    let end_in : c.corner-at.result.x + c.width_of-columns.result < length c.self.inside.runs.items = omega (arith, n.4, n.5) in
    Keeps-step c.self.inside.inst c.self.inside.weighting (reverse c.self.inside.frames.items) (reverse c.push.new.self.items)
    c.self.inside.runs.items (with_items c.self.inside.runs c.put_two.new.runs).items c.self.inside.weight (c.self.inside.weight - c.block-weight.result)
    c.self.inside.cases count c.corner-at.result.run c.height_of-height.result c.rest_of-rest.result f
    (record { few = c.self.invariant.few; lawful = c.self.invariant.lawful; corners = c.self.invariant.corners; runs = c.self.invariant.runs; counted = c.self.invariant.cases })
    room
    (record {
      allowed = subst (λ (p : Path). IsTrue (allows p.inst (state p).heights c.args.step)) (sym c.self.view_is) c.requires.allowed;
      x = subst (λ (p : Path). c.corner-at.result.x ≡ corner (state p).heights) (sym c.self.view_is) c.corner-at.ensures.x;
      y = subst (λ (p : Path). c.corner-at.result.y ≡ lowest (state p).heights) (sym c.self.view_is) c.corner-at.ensures.y;
      run_is = subst (λ (p : Path). c.corner-at.result.run ≡ flat_run (state p).heights) (sym c.self.view_is) c.corner-at.ensures.run;
      columns = c.width_of-columns.ensures;
      height = c.height_of-height.ensures;
      first = get_or_read c.self.inside.runs.items c.corner-at.result.x c.index-first.result.now x_in c.index-first.ensures (record { width = 0; height = 0 });
      second = get_or_read c.self.inside.runs.items (c.corner-at.result.x + c.width_of-columns.result) c.index-second.result.now end_in c.index-second.ensures (record { width = 0; height = 0 });
      cut = c.rest_of-rest.ensures.cut;
      whole = c.rest_of-rest.ensures.whole;
      weighs = c.block-weight.ensures;
      written = with_items_is c.self.inside.runs c.put_two.new.runs as_long ∙ made;
      less = refl;
    })
    counted pushed

one_more : (n : ℕ) (b : Bool) → b ≡ true → n + 1 ≡ n + (if b then 1 else 0)
one_more n b e = rw e refl

no_more : (n : ℕ) (b : Bool) → b ≡ false → n ≡ n + (if b then 1 else 0)
no_more n b e = rw e (omega arith)

pub invariant_of-self-then-places : goal.invariant_of-self-then-places
invariant_of-self-then-places c =
    let k = keeps (goal.at.invariant_of-self-then-places c).After-places (c.self.inside.cases + 1) (one_more c.self.inside.cases (is_case c.args.step) (sym c.places.ensures ∙ c.if-places.true)) in
    record {
      member = c.self.invariant.member;
      is_least = c.self.invariant.is_least;
      least = c.self.invariant.least;
      across = c.self.invariant.across;
      along = c.self.invariant.along;
      few = k.few;
      lawful = k.lawful;
      corners = k.corners;
      runs = k.runs;
      cases = k.counted;
    }

pub invariant_of-self-else-places : goal.invariant_of-self-else-places
invariant_of-self-else-places c =
    let k = keeps (goal.at.invariant_of-self-else-places c).After-places c.self.inside.cases (no_more c.self.inside.cases (is_case c.args.step) (sym c.places.ensures ∙ c.if-places.false)) in
    record {
      member = c.self.invariant.member;
      is_least = c.self.invariant.is_least;
      least = c.self.invariant.least;
      across = c.self.invariant.across;
      along = c.self.invariant.along;
      few = k.few;
      lawful = k.lawful;
      corners = k.corners;
      runs = k.runs;
      cases = k.counted;
    }
