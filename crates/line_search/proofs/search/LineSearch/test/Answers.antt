use Rattle.std.proofs.Common.{◌∙◌, ◌<◌, inl}
use Rattle.line_search.proofs.SearchSteps.{improved-by, best-of-same}
use Rattle.line_search.proofs.search.LineSearch.test.Goals as goal
use Rattle.line_search.proofs.search.LineSearch.test.Goals.{in-Some-2, in_default-2}

pub returns-clause-improved : goal.returns-clause-improved
returns-clause-improved c =
    let kept = best-of-same _ _ c.keep_lightest.ensures in
    elim c.match-branch-3.branch [
      | in-Some-2 w ↦
          let below : w.in-Some-2.better.bound < c.least_bound-least.result = rw w.in-Some-2.is at c.in_ok-better.ensures.below in
          improved-by c.args.known c.least_bound-least.result _ _ w.in-Some-2.better (kept ∙ best-of-same _ _ w.self-is ∙ best-of-same _ _ w.keep_best.ensures) below c.least_bound-least.ensures.known c.least_bound-least.ensures.best
      | in_default-2 w ↦ inl (kept ∙ best-of-same _ _ w.self-is)
    ]
