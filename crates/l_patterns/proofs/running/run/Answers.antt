use Rattle.std.proofs.Common.{◌≡◌, ◌<◌, ◌+◌, ◌*◌, ◌++◌, All, List, [], ◌∷◌, Option, Some, None, MatchOption, ap, sym, subst, ◌∙◌}
use Rattle.l_patterns.specs.declared.trying.Frame.{Frame}
use Rattle.l_patterns.specs.declared.stepping.Stop.{Stop}
use Rattle.l_patterns.specs.declared.stepping.Stop.TheVariants.{Done, Waits}
use Rattle.l_patterns.specs.Progress.{work_left, due_area, AreFalling}
use Rattle.l_patterns.specs.States.{IsStop, IsPending}
use Rattle.l_patterns.proofs.RootLemmas.{root-fits}
use Rattle.l_patterns.proofs.PendingLemmas.{turn-of, done-pending, done-room, done-less, waits-pending, waits-falling, waits-room, waits-less}
use Rattle.l_patterns.proofs.running.run.Goals as goal

-- nothing was taken off an empty list
emptied : (A B C : Type 0) (o : Option Frame) → MatchOption o (A × B) (λ x. C) → o ≡ None → A
emptied A B C None h e = h.0
emptied A B C (Some x) h e = cc

pub loop-known-preserved-in-Done : goal.loop-known-preserved-in-Done
loop-known-preserved-in-Done c =
    let q = c.args.q in
    let s = c.loop-known.s in
    let t = c.enter.new.s in
    let u = c.step.new.s in
    let f = c.in-Try.frame in
    let xs = c.loop-known.pending.items in
    let ys = c.pop.new.self.items in
    let v = c.loop-known.invariant in
    let turn = turn-of q c.args.most c.args.root s t u f c.pop.result xs ys _ c.in-Try.ensures (c.in_ok-enter-in-Try.ensures.enters c.if-not-branch.false) v.pending v.falling v.room
    (root-fits q c.args.root c.requires.root) c.pop.ensures.items (emptied _ _ _ c.pop.result c.pop.ensures.cases) c.pop.ensures.rest in
    let stop : IsStop q t u f Done = subst (λ (z : Stop). IsStop q t u f z) c.in-Done.is c.in_ok-step-in-Try.ensures.goes in
    record {
      search = c.in_ok-step-in-Try.ensures.search;
      room = done-room q c.args.most c.args.root s t u f xs ys turn stop;
      pending = done-pending q c.args.most c.args.root s t u f xs ys turn stop;
      falling = turn.falling;
    }

pub loop-known-smaller-in-Done : goal.loop-known-smaller-in-Done
loop-known-smaller-in-Done c =
    let q = c.args.q in
    let s = c.loop-known.s in
    let t = c.enter.new.s in
    let u = c.step.new.s in
    let f = c.in-Try.frame in
    let xs = c.loop-known.pending.items in
    let ys = c.pop.new.self.items in
    let v = c.loop-known.invariant in
    let turn = turn-of q c.args.most c.args.root s t u f c.pop.result xs ys _ c.in-Try.ensures (c.in_ok-enter-in-Try.ensures.enters c.if-not-branch.false) v.pending v.falling v.room
    (root-fits q c.args.root c.requires.root) c.pop.ensures.items (emptied _ _ _ c.pop.result c.pop.ensures.cases) c.pop.ensures.rest in
    let stop : IsStop q t u f Done = subst (λ (z : Stop). IsStop q t u f z) c.in-Done.is c.in_ok-step-in-Try.ensures.goes in
    done-less q c.args.most c.args.root s t u f xs ys turn stop

pub loop-known-preserved : goal.loop-known-preserved
loop-known-preserved c =
    let q = c.args.q in
    let s = c.loop-known.s in
    let t = c.enter.new.s in
    let u = c.step.new.s in
    let f = c.in-Try.frame in
    let w = c.in-Waits in
    let xs = c.loop-known.pending.items in
    let ys = c.pop.new.self.items in
    let v = c.loop-known.invariant in
    let turn = turn-of q c.args.most c.args.root s t u f c.pop.result xs ys _ c.in-Try.ensures (c.in_ok-enter-in-Try.ensures.enters c.if-not-branch.false) v.pending v.falling v.room
    (root-fits q c.args.root c.requires.root) c.pop.ensures.items (emptied _ _ _ c.pop.result c.pop.ensures.cases) c.pop.ensures.rest in
    let stop : IsStop q t u f (Waits w.region w.need w.at) = subst (λ (z : Stop). IsStop q t u f z) w.is c.in_ok-step-in-Try.ensures.goes in
    let pushed = c.in_ok-push-in-Waits-2.ensures.items ∙ ap (λ (zs : List Frame). zs ++ record { region = w.region; need = w.need; at = 0 } ∷ []) c.in_ok-push-in-Waits.ensures.items in
    record {
      search = c.in_ok-step-in-Try.ensures.search;
      room = waits-room q c.args.most c.args.root s t u f xs ys turn stop.0 w.at w.region w.need stop.1 stop.2;
      pending = subst (λ (zs : List Frame). All (IsPending q u) zs) (sym pushed) (waits-pending q c.args.most c.args.root s t u f xs ys turn stop.0 w.at w.region w.need stop.1 stop.2);
      falling = subst AreFalling (sym pushed) (waits-falling q c.args.most c.args.root s t u f xs ys turn stop.0 w.at w.region w.need stop.1 stop.2);
    }

pub loop-known-smaller : goal.loop-known-smaller
loop-known-smaller c =
    let q = c.args.q in
    let s = c.loop-known.s in
    let t = c.enter.new.s in
    let u = c.step.new.s in
    let f = c.in-Try.frame in
    let w = c.in-Waits in
    let xs = c.loop-known.pending.items in
    let ys = c.pop.new.self.items in
    let v = c.loop-known.invariant in
    let turn = turn-of q c.args.most c.args.root s t u f c.pop.result xs ys _ c.in-Try.ensures (c.in_ok-enter-in-Try.ensures.enters c.if-not-branch.false) v.pending v.falling v.room
    (root-fits q c.args.root c.requires.root) c.pop.ensures.items (emptied _ _ _ c.pop.result c.pop.ensures.cases) c.pop.ensures.rest in
    let stop : IsStop q t u f (Waits w.region w.need w.at) = subst (λ (z : Stop). IsStop q t u f z) w.is c.in_ok-step-in-Try.ensures.goes in
    let pushed = c.in_ok-push-in-Waits-2.ensures.items ∙ ap (λ (zs : List Frame). zs ++ record { region = w.region; need = w.need; at = 0 } ∷ []) c.in_ok-push-in-Waits.ensures.items in
    subst (λ (zs : List Frame). work_left c.args.most u.memo * 16000001 + due_area c.args.root zs < work_left c.args.most s.memo * 16000001 + due_area c.args.root xs) (sym pushed)
    (waits-less q c.args.most c.args.root s t u f xs ys turn stop.0 w.at w.region w.need stop.1 stop.2)
