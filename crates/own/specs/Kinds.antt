-- The kinds of steps.
--     Counts w k   <-> a word w counts as the kind k: 11, 12 and 13 as what they are, any other as 14
--     word_of k      == the word of a kind
use Rattle.std.specs.Prelude.{◌≡◌, ℕ}
use Rattle.own.specs.declared.kind.Kind.{Kind}

abbrev pub Counts : ℕ → Kind → Type 0
Counts w Kind.Inward = w ≡ 0x11
Counts w Kind.Among = w ≡ 0x12
Counts w Kind.Outward = w ≡ 0x13
Counts w Kind.Reports = (w ≡ 0x11 → ⊥) × (w ≡ 0x12 → ⊥) × (w ≡ 0x13 → ⊥)

abbrev pub word_of : Kind → ℕ
word_of Kind.Inward = 0x11
word_of Kind.Among = 0x12
word_of Kind.Outward = 0x13
word_of Kind.Reports = 0x14
