-- The ranges within which an entry has a text of a form.
use Rattle.std.specs.Prelude.{ℕ, ◌≡◌, ◌*◌, ◌/◌, nat_le, Bool, true, false, not, ◌&&◌, ◌==◌, List, length, map, is_some}
use Rattle.std.specs.List.{list_all}
use Rattle.std.specs.Cmp.Lexicographic.{pointwise}
use Rattle.plan_geometry.specs.declared.spots.Spot.{Spot}
use Rattle.order_reader.specs.Orders.{OrderValue, pallet_x_of, pallet_y_of, long_of, short_of, gap_of}
use Rattle.order_reader.specs.Faults.{order_fault}
use Rattle.order_reader.specs.declared.fields.Field.{Field}
use Rattle.order_reader.specs.declared.fields.Field.TheVariants as fields
use Rattle.order_reader.specs.declared.faults.RowFault.{RowFault}
use Rattle.order_reader.specs.declared.faults.RowFault.TheVariants.{FieldCount, BadId, BadNumber, OutOfRange, DoesNotFit, TooManyCases}
use Rattle.contact_rules.specs.declared.rules.Rule.{Rule}
use Rattle.contact_rules.specs.declared.rules.Rule.TheVariants.{Contact, Support, Cut}
use Rattle.stack_builder.specs.declared.lists.UnmetRule.{UnmetRule}
use Rattle.stack_builder.specs.declared.lists.StackAnswer.{StackAnswer}
use Rattle.stack_builder.specs.declared.lists.StackAnswer.TheVariants.{Stack, Unmet}
use Rattle.stack_builder.specs.Orders.{rules_of}
use Rattle.cert_text.specs.declared.forms.Form.{Form}
use Rattle.cert_text.specs.declared.forms.Form.TheVariants.{One, Two}
use Rattle.cert_text.specs.Ranges.{in_range as cert_in_range}
use Rattle.plan_entries.specs.declared.listed.Listed.{Listed}
use Rattle.plan_entries.specs.declared.entries.Plan.{Plan}
use Rattle.plan_entries.specs.declared.entries.Entry.{Entry}
use Rattle.plan_entries.specs.declared.entries.Entry.TheVariants.{Planned, Refused}

-- the most entries of a report
abbrev pub most_entries : Form → ℕ
most_entries One = 64
most_entries Two = 256

-- the greatest count and bound
abbrev pub most_cases : Form → ℕ
most_cases One = 400
most_cases Two = 1000

-- a number from 1 on
abbrev pub is_within : ℕ → ℕ → Bool
is_within most n = nat_le 1 n && nat_le n most

-- what the first form asks of an order beyond the tests of today: no gap, and its own limit of cases
abbrev pub is_old_order : OrderValue → Bool
is_old_order o = (gap_of o == 0) && nat_le ((pallet_x_of o * pallet_y_of o) / (long_of o * short_of o)) 400

abbrev pub has_orders_of : Form → OrderValue → Bool
has_orders_of One o = is_old_order o
has_orders_of Two o = true

-- twelve numbers that pass the tests of an order
abbrev pub order_in_range : Form → OrderValue → Bool
order_in_range form o = (length o.numbers == 12) && (not (is_some (order_fault o)) && has_orders_of form o)

abbrev pub is_place : Spot → Bool
is_place s = nat_le s.x 4000 && nat_le s.y 4000

abbrev pub listed_in_range : ℕ → Listed → Bool
listed_in_range count l = (length l.spots == count) && list_all is_place l.spots

-- one to eight layers of so many cases
abbrev pub layers_in_range : ℕ → List Listed → Bool
layers_in_range count layers = is_within 8 (length layers) && list_all (listed_in_range count) layers

abbrev pub same_rule : Rule → Rule → Bool
same_rule (Contact p) (Contact q) = p == q
same_rule (Contact p) Support = false
same_rule (Contact p) (Cut q) = false
same_rule Support (Contact q) = false
same_rule Support Support = true
same_rule Support (Cut q) = false
same_rule (Cut p) (Contact q) = false
same_rule (Cut p) Support = false
same_rule (Cut p) (Cut q) = p == q

abbrev pub same_rules : List Rule → List Rule → Bool
same_rules = pointwise same_rule

abbrev pub rules_told : List UnmetRule → List Rule
rules_told unmet = map (λ u. u.rule) unmet

-- a list of at most 10,000 numbers of variants, or the rules that the order asks for, of which there is one at least
abbrev pub stack_in_range : OrderValue → ℕ → StackAnswer → Bool
stack_in_range o variants (Stack numbers) = nat_le (length numbers) 10000 && list_all (is_within variants) numbers
stack_in_range o variants (Unmet unmet) = nat_le 1 (length unmet) && same_rules (rules_told unmet) (rules_of o)

abbrev pub numbers_in_range : Form → Plan → Bool
numbers_in_range form p =
    is_within (most_entries form) p.number
    && (is_within (most_cases form) p.count && (is_within (most_cases form) p.bound && nat_le p.allowed 10000))

abbrev pub plan_in_range : Form → Plan → Bool
plan_in_range form p =
    numbers_in_range form p
    && (order_in_range form p.order
    && (cert_in_range form p.cert
    && (layers_in_range p.count p.layers
    && stack_in_range p.order (length p.layers) p.stack)))

-- the gap is no column of the first form
abbrev pub has_column : Form → Field → Bool
has_column One fields.PalletX = true
has_column One fields.PalletY = true
has_column One fields.CaseX = true
has_column One fields.CaseY = true
has_column One fields.CaseZ = true
has_column One fields.Weight = true
has_column One fields.MaxHeight = true
has_column One fields.MaxWeight = true
has_column One fields.Contact = true
has_column One fields.Support = true
has_column One fields.Cut = true
has_column One fields.Gap = false
has_column Two field = true

abbrev pub fault_in_range : Form → RowFault → Bool
fault_in_range form FieldCount = true
fault_in_range form BadId = true
fault_in_range form (BadNumber field) = has_column form field
fault_in_range form (OutOfRange field) = has_column form field
fault_in_range form DoesNotFit = true
fault_in_range form TooManyCases = true

abbrev pub entry_in_range : Form → Entry → Bool
entry_in_range form (Planned p) = plan_in_range form p
entry_in_range form (Refused n fault) = is_within (most_entries form) n && fault_in_range form fault

-- the entry has a text of the form
abbrev pub IsInRange : Form → Entry → Type 0
IsInRange form e = entry_in_range form e ≡ true
