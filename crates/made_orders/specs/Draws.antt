-- The numbers that are drawn from a start: a linear congruential generator modulo 2^64, with Knuth's two numbers for MMIX.
use Rattle.std.specs.Prelude.{ℕ, zero, suc, ◌+◌, ◌*◌, ◌/◌, ◌%◌, ◌^◌}

-- the state after a state
unfoldable pub next_state : ℕ → ℕ
next_state state = (state * 6364136223846793005 + 1442695040888963407) % 2 ^ 64

-- the state after so many draws
abbrev pub state_after : ℕ → ℕ → ℕ
state_after start zero = start
state_after start (suc draws) = next_state (state_after start draws)

-- what a state gives: its upper 31 bits, as a number below a bound
unfoldable pub given_by : ℕ → ℕ → ℕ
given_by state below = (state / 2 ^ 33) % below

-- the draw of this number, from 1: the state moves first, and then gives a number
abbrev pub drawn : ℕ → ℕ → ℕ → ℕ
drawn start draw below = given_by (state_after start draw) below
