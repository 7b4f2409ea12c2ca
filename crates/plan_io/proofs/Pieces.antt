-- A piece of a list, and the pieces before and after it.
use Rattle.std.proofs.Common.{◌≡◌, ℕ, ◌+◌, ◌-◌, ◌≤◌, List, ◌++◌, length, take, drop, sym, ◌∙◌, ap, arith, append_assoc}
use Rattle.std.proofs.lemmas.List.{take_all, length-take-le, length-drop}
use Rattle.std.proofs.Math.Seq.{take-append_seam, take-add}
use Rattle.plan_io.specs.Streams.{Outlet, with_bytes}

-- what was copied is the next piece
pub fed : (bytes into got : List ℕ) (at n m : ℕ) → m ≡ n → at + n ≤ length bytes → got ≡ take m (drop at bytes)
    → take (at + n) bytes ≡ take at bytes ++ take n (got ++ drop n into)
fed bytes into got at n m same fits is =
    let room : n ≤ length (drop at bytes) = omega (arith, length-drop at bytes) in
    let got_is : got ≡ take n (drop at bytes) = is ∙ ap (λ k. take k (drop at bytes)) same in
    let len : length got ≡ n = ap length got_is ∙ length-take-le n (drop at bytes) room in
    let front : take n (got ++ drop n into) ≡ got = ap (λ k. take k (got ++ drop n into)) (sym len) ∙ take-append_seam got (drop n into) in
    rw (front, got_is) (take-add at n bytes)

-- the rest of a list, as a slice to its end
pub rest_all : (bytes : List ℕ) (at : ℕ) → take (length bytes - at) (drop at bytes) ≡ drop at bytes
rest_all bytes at = take_all (length bytes - at) (drop at bytes) (omega (arith, length-drop at bytes))

-- a text that was written up to a place, and then one more piece of it
pub sent_more : (a b c : Outlet) (bytes : List ℕ) (sent n : ℕ) → b ≡ with_bytes a (take sent bytes) → c ≡ with_bytes b (take n (take (length bytes - sent) (drop sent bytes))) → c ≡ with_bytes a (take (sent + n) bytes)
sent_more a b c bytes sent n h k =
    let piece : c ≡ with_bytes b (take n (drop sent bytes)) = rw (rest_all bytes sent) at k in
    let both : (a.taken ++ take sent bytes) ++ take n (drop sent bytes) ≡ a.taken ++ take (sent + n) bytes
    = append_assoc a.taken (take sent bytes) (take n (drop sent bytes)) ∙ ap (λ t. a.taken ++ t) (sym (take-add sent n bytes)) in
    piece ∙ ap (λ p. with_bytes p (take n (drop sent bytes))) h ∙ ap (λ t. record { taken = t; faults = a.faults }) both
