-- The ties hold at the start, and after each call.
use Rattle.std.proofs.Common.{◌≡◌, ℕ, ◌==◌, List, length, take, sym, Option, Some, None, Result, Ok, Err, arith, subst}
use Rattle.std.proofs.lemmas.Bool.{and_parts, eqb-true}
use Rattle.std.proofs.lemmas.Bool.Decides.{nat_tests}
use Rattle.std.specs.Prelude.{nat_lt}
use Rattle.std.specs.Io.KnownBytes.{Appends, ReadConsumes, WriteAppends, Keeps}
use Rattle.std.proofs.KnownBytes.{Appends-trans, Consumes-trans, Consumes-kept, Consumes-nil, Appends-nil}
use Rattle.plan_io.specs.Streams.{Intake, Outlet, new_intake, new_outlet, after_read, after_write}
use Rattle.program_parts.specs.Ties.{WasFed, HasFed}

pub fed_first : (start now : Option (List ℕ)) (past : Intake) → start ≡ now → past ≡ new_intake → WasFed start now past
fed_first start now past same fresh = rw (same, fresh) (record { first = Consumes-nil now; end = λ e. absurd cc })

fed_after : {E : Type 0} (start now next : Option (List ℕ)) (past : Intake) (place : List ℕ) (r : Result ℕ E)
    → WasFed start now past → ReadConsumes now next r place → WasFed start next (after_read past place r)
fed_after start now next past place (Ok n) fed step = record {
  first = Consumes-trans start now next past.given (take n place) fed.first step.0;
  end = λ e. let parts = and_parts (n == 0) (nat_lt 0 (length place)) e in step.1 (eqb-true n 0 parts.0) (grind (arith, nat_tests));
}
fed_after start now next past place (Err x) fed step = record {
  first = Consumes-kept start now next past.given fed.first step;
  end = λ e. absurd cc;
}

pub fed_read : {E : Type 0} (start now next : Option (List ℕ)) (past past' : Intake) (place : List ℕ) (r : Result ℕ E)
    → WasFed start now past → ReadConsumes now next r place → past' ≡ after_read past place r → WasFed start next past'
fed_read start now next past past' place r fed step is = subst (WasFed start next) (sym is) (fed_after start now next past place r fed step)

pub has_first : (start now : Option (List ℕ)) (past : Outlet) → start ≡ now → past ≡ new_outlet → HasFed start now past
has_first start now past same fresh = rw (same, fresh) (Appends-nil now)

kept : (a b c : Option (List ℕ)) (bs : List ℕ) → Appends a b bs → Keeps b c → Appends a c bs
kept None b c bs h k = tt
kept (Some x) None c bs h k = absurd h
kept (Some x) (Some y) None bs h k = absurd k
kept (Some x) (Some y) (Some z) bs h k = rw k h

has_after : {E : Type 0} (start now next : Option (List ℕ)) (past : Outlet) (piece : List ℕ) (r : Result ℕ E)
    → HasFed start now past → WriteAppends now next r piece → HasFed start next (after_write past piece r)
has_after start now next past piece (Ok n) fed step = Appends-trans start now next past.taken (take n piece) fed step
has_after start now next past piece (Err x) fed step = kept start now next past.taken fed step

pub has_write : {E : Type 0} (start now next : Option (List ℕ)) (past past' : Outlet) (piece : List ℕ) (r : Result ℕ E)
    → HasFed start now past → WriteAppends now next r piece → past' ≡ after_write past piece r → HasFed start next past'
has_write start now next past past' piece r fed step is = subst (HasFed start next) (sym is) (has_after start now next past piece r fed step)
