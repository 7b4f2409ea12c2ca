-- What the ranges of a plan say of its count.
use Rattle.std.proofs.Common.{◌≡◌, ◌≤◌, true, arith}
use Rattle.cert_text.specs.declared.forms.Form.TheVariants.{Two}
use Rattle.plan_entries.specs.declared.entries.Plan.{Plan}
use Rattle.plan_entries.specs.Ranges.{plan_in_range}

-- a layer has at most 1,000 cases
pub count_small : (p : Plan) → plan_in_range Two p ≡ true → p.count ≤ 1000
count_small p e = grind arith
