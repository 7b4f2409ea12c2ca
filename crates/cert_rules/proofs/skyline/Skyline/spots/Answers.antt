use Rattle.std.proofs.Common.{◌≡◌, ◌+◌, ◌++◌, ◌∷◌, List, [], ◌∙◌, ap, sym, subst, append-nil}
use Rattle.std.specs.Prelude.{reverse, option_to_list}
use Rattle.cert_rules.specs.Path.{Path}
use Rattle.cert_rules.proofs.Placed.{paths_place_layouts}
use Rattle.cert_rules.specs.Corner.{state_of}
use Rattle.cert_rules.specs.Frames.{steps_of, KeepsCorners}
use Rattle.cert_rules.specs.declared.skyline.Frame.{Frame}
use Rattle.plan_geometry.specs.declared.instances.Inst.{Inst}
use Rattle.cert_rules.proofs.Paths.{front, spots-on, lawful-at, path-at}
use Rattle.cert_rules.proofs.skyline.Skyline.spots.Goals as goal
use Rattle.cert_rules.proofs.skyline.Skyline.spots.Goals.{in-Some+in_ok-push, in_default}

pub loop-frame-preserved : goal.loop-frame-preserved
loop-frame-preserved c =
    let same : c.self.inside.inst ≡ c.args.self.now.inst = ap (λ (p : Path). p.inst) c.self.view_is in
    let before : c.loop-frame.spots.items ≡ (state_of c.self.inside.inst (steps_of (front c.deref-frame-items.result.now c.loop-frame.frame-index))).spots =
    c.loop-frame.invariant ∙ ap (λ (i : Inst). (state_of i (steps_of (front c.deref-frame-items.result.now c.loop-frame.frame-index))).spots) (sym same) in
    let added : c.match-case_at.spots.items ≡ c.loop-frame.spots.items ++ option_to_list c.case_at.result =
    elim c.match-case_at.branch [
      | in-Some+in_ok-push w ↦
          let e : option_to_list c.case_at.result ≡ w.in-Some.spot ∷ [] = ap option_to_list w.in-Some.is in
          let items : w.push.new.self.items ≡ c.loop-frame.spots.items ++ w.in-Some.spot ∷ [] = w.in_ok-push.ensures.items in
          cc (e, items)
      | in_default w ↦
          let e : option_to_list c.case_at.result ≡ [] = ap option_to_list w.in_default.is in
          let none : c.loop-frame.spots.items ++ [] ≡ c.loop-frame.spots.items = append-nil c.loop-frame.spots.items in
          cc (e, none)
    ] in
    spots-on c.self.inside.inst c.deref-frame-items.result.now c.loop-frame.frame-index _ c.case_at.result
    c.loop-frame.spots.items c.match-case_at.spots.items
    (subst (λ (l : List Frame). KeepsCorners c.self.inside.inst (reverse l)) (sym c.deref-frame-items.ensures.value) c.self.invariant.corners)
    c.loop-frame-test.true c.case_at.ensures before added
    ∙ ap (λ (i : Inst). (state_of i (steps_of (front c.deref-frame-items.result.now (c.loop-frame.frame-index + 1)))).spots) same

pub returns-clause-layout : goal.returns-clause-layout
returns-clause-layout c =
    paths_place_layouts c.args.self.now.inst c.args.self.now.steps (lawful-at c.self.inside c.args.self.now c.self.invariant c.self.view_is)

pub returns-clause-path : goal.returns-clause-path
returns-clause-path c = path-at c.self.inside c.args.self.now c.self.invariant c.self.view_is

pub returns-in_err-push-clause-layout : goal.returns-in_err-push-clause-layout
returns-in_err-push-clause-layout c =
    paths_place_layouts c.args.self.now.inst c.args.self.now.steps (lawful-at c.self.inside c.args.self.now c.self.invariant c.self.view_is)

pub returns-in_err-push-clause-path : goal.returns-in_err-push-clause-path
returns-in_err-push-clause-path c = path-at c.self.inside c.args.self.now c.self.invariant c.self.view_is
