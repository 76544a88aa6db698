-- The laws of the model: two events with equal fields are equal, C's two numbers tell every answer apart.
-- And each limit of rules 1 rules something out: one past it is not valid.
use Prim.Native.Nat.{ℕ, ◌≤◌}
use mathlib.Core.Path.{◌≡◌, ap}
use mathlib.Core.List.{[]}
use native.Mathlib.Omega.{arith}
use lib.ListN.{length}
use Rattle.scan.specs.Choice.{shown, refused}
use Rattle.event.specs.Event.{Tag, Event, ValidTag, Valid}
use Rattle.event.specs.Answers.{two_numbers}

-- events whose seven fields are equal are equal
pub all_seven : {d e : Event} → d.id ≡ e.id → d.pubkey ≡ e.pubkey → d.sig ≡ e.sig → d.created_at ≡ e.created_at → d.kind ≡ e.kind
    → d.tags ≡ e.tags → d.content ≡ e.content → d ≡ e
all_seven p q r s t u v = λ i. record { id = p i; pubkey = q i; sig = r i; created_at = s i; kind = t i; tags = u i; content = v i }

-- what C gets tells a value from a refusal, since no refusal has the number 0, and one refusal from another
pub shown_told : (v w : ℕ) → two_numbers (shown v) ≡ two_numbers (shown w) → v ≡ w
shown_told v w e = ap (λ (n : ℕ × ℕ). n.1) e

pub refused_told : (n p m q : ℕ) → two_numbers (refused n p) ≡ two_numbers (refused m q) → (n ≡ m) × (p ≡ q)
refused_told n p m q e = (ap (λ (n : ℕ × ℕ). n.0) e, ap (λ (n : ℕ × ℕ). n.1) e)

pub value_or_refusal : (v n p : ℕ) → 1 ≤ n → two_numbers (shown v) ≡ two_numbers (refused n p) → ⊥
value_or_refusal v n p h e = let z = ap (λ (n : ℕ × ℕ). n.0) e in omega arith

-- ---- one past each limit is not valid

pub no_empty_tag : ValidTag [] → ⊥
no_empty_tag v = let h = v.one in omega arith

pub no_256_texts : (t : Tag) → length t ≡ 256 → ValidTag t → ⊥
no_256_texts t n v = let h = v.few in omega arith

pub no_1001_tags : (e : Event) → length e.tags ≡ 1_001 → Valid e → ⊥
no_1001_tags e n v = let h = v.few in omega arith

pub no_later_time : (e : Event) → e.created_at ≡ 9_223_372_036_854_776 → Valid e → ⊥
no_later_time e n v = let h = v.time in omega arith

pub no_higher_kind : (e : Event) → e.kind ≡ 65_536 → Valid e → ⊥
no_higher_kind e n v = let h = v.kind16 in omega arith
