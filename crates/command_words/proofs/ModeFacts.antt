-- The numbers of a mode, and words that are refused.
use Rattle.std.proofs.Common.{◌≡◌, ◌≤◌, ℕ, Bool, true, false, cond, [], ◌∷◌, Option, Some, None, is_some, refl, codes, not, ◌&&◌, arith}
use Rattle.std.specs.Prelude.{IfSome, option_map, unwrap_or}
use Rattle.std.specs.Str.{bytes_eq}
use Rattle.clap.specs.Words.{Text, Kinds, IsAmong, IsUnsignedIn}
use Rattle.clap.specs.declared.error.kind.ErrorKind.{ErrorKind}
use Rattle.command_words.specs.Given.{number_in}
use Rattle.command_words.specs.Accepted.{mode_with, where_faultless, IsInRange}
use Rattle.command_words.specs.declared.modes.Mode.{Mode}
use Rattle.command_words.specs.declared.modes.Mode.TheVariants.{Plan, Check, Upgrade, Choose, CheckChoice, Design, Floor, CheckFloor, Trial}
use Rattle.command_words.specs.declared.modes.Options.{Options}

-- a choice of two modes, or of a mode and none
either : (b : Bool) (x y : Option Mode) → IfSome x IsInRange → IfSome y IsInRange → IfSome (cond b x y) IsInRange
either true x y p q = p
either false x y p q = q

where_true : (b : Bool) (x : Option Mode) → IfSome x IsInRange → IfSome (cond b x None) IsInRange
where_true true x p = p
where_true false x p = tt

workers_in_range : (text : Option Text) → IfSome text (IsUnsignedIn 1 16) → (1 ≤ unwrap_or (option_map number_in text) 1) × (unwrap_or (option_map number_in text) 1 ≤ 16)
workers_in_range None h = (omega arith, omega arith)
workers_in_range (Some t) h = (h.2, h.3)

trial_in_range : (text : Option Text) → IfSome text (IsUnsignedIn 1 1000000) → IfSome (option_map Trial (option_map number_in text)) IsInRange
trial_in_range None h = tt
trial_in_range (Some t) h = (h.2, h.3)

pub mode_in_range : (workers number : Option Text) (draw : Bool) (word : Text) → IfSome workers (IsUnsignedIn 1 16) → IfSome number (IsUnsignedIn 1 1000000)
    → IfSome (mode_with (record { workers = option_map number_in workers; draw = draw; number = option_map number_in number }) word) IsInRange
unfolding mode_with
mode_in_range workers number draw word w n =
    let no_workers = not (is_some (option_map number_in workers)) in
    let no_number = not (is_some (option_map number_in number)) in
    let absent = not draw && no_workers && no_number in
    either (bytes_eq word (codes "plan")) _ _ (where_true no_number (Some (Plan draw (unwrap_or (option_map number_in workers) 1))) (workers_in_range workers w))
    (either (bytes_eq word (codes "check")) _ _ (where_true (not draw && no_number) (Some (Check (unwrap_or (option_map number_in workers) 1))) (workers_in_range workers w))
    (either (bytes_eq word (codes "upgrade")) _ _ (where_true absent (Some Upgrade) tt)
    (either (bytes_eq word (codes "choose")) _ _ (where_true absent (Some Choose) tt)
    (either (bytes_eq word (codes "check-choice")) _ _ (where_true absent (Some CheckChoice) tt)
    (either (bytes_eq word (codes "design")) _ _ (where_true (not draw && no_number) (Some (Design (unwrap_or (option_map number_in workers) 1))) (workers_in_range workers w))
    (either (bytes_eq word (codes "floor")) _ _ (where_true absent (Some Floor) tt)
    (either (bytes_eq word (codes "check-floor")) _ _ (where_true absent (Some CheckFloor) tt)
    (where_true (bytes_eq word (codes "trial")) _
    (where_true (not draw && no_workers) (option_map Trial (option_map number_in number)) (trial_in_range number n))))))))))

pub same_options : (a b m n : Option ℕ) (d e : Bool) → a ≡ b → d ≡ e → m ≡ n
    → ◌≡◌ {A = Options} (record { workers = a; draw = d; number = m }) (record { workers = b; draw = e; number = n })
same_options a b m n d e workers draw number = rw (workers, draw, number) refl

pub nothing_at_a_fault : {A : Type 0} (kind : ErrorKind) (kinds : Kinds) (found : Option A) → IsAmong kind kinds → None ≡ where_faultless kinds found
nothing_at_a_fault kind [] found h = absurd h
nothing_at_a_fault kind (k ∷ ks) found h = refl
