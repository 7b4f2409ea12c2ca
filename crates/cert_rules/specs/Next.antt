-- The next normal place of a side, as a number.
use Rattle.std.specs.Prelude.{ℕ, zero, suc, ◌+◌, ◌-◌, ◌%◌, ◌==◌, ◌||◌, ◌&&◌, Bool, nat_le, min, if◌then◌else◌}
use Rattle.plan_geometry.specs.declared.instances.Inst.{Inst}

-- whether v is the total of at most k long and of some short sides of the case
abbrev pub is_sum : Inst → ℕ → ℕ → Bool
is_sum i zero v = v % i.short == 0
is_sum i (suc k) v = (v % i.short == 0) || (nat_le i.long v && is_sum i k (v - i.long))

-- the first such total of v, v + 1, .., v + k - 1, or v + k
abbrev pub normal_from : Inst → ℕ → ℕ → ℕ
normal_from i zero v = v
normal_from i (suc k) v = if is_sum i v v then v else normal_from i k (v + 1)

-- the least normal place above v on a side, or the side where there is none
abbrev pub next : Inst → ℕ → ℕ → ℕ
next i side v = min side (normal_from i (side - v) (v + 1))
