-- The bytes of a block and of the blocks of one F.
--     opening_bytes F A S        == the opening of a block
--     body_bytes n f links F S   == what follows it, which F and S fix
--     block_bytes, ..            == a block and the blocks of one F
--     block_for, body_for, ..    == the same, by the weak sets of F and what is chosen
--     body_at start each k       == where the body of block k stands: from `start` on the blocks stand one behind the other, each with `each` bytes
--     Again body from each at lent   <-> no block with this body has been written; or it stands at `from`, before `at`, and a block has `each` bytes
use Rattle.std.specs.Prelude.{◌≡◌, List, [], ◌∷◌, map, ℕ, ◌+◌, ◌*◌, ◌^◌, ◌≤◌, length, take, drop, Option, IfSome}
use Rattle.sets.specs.Sets.{minus, full}
use Rattle.network.specs.Links.{Links}
use Rattle.sets.specs.Members.{list_from}
use Rattle.plan.specs.Due.{is_part, blocks_of}
use Rattle.rules.specs.Blocks.{encode_block, encode_blocks}
use Rattle.planner.specs.Plan.{block_with, block_of}
use Rattle.choice.specs.declared.Chosen.{Chosen}
use Rattle.choice.specs.declared.weak.Weak.{Weak}

unfoldable pub opening_bytes : (F A S : ℕ) → List ℕ
opening_bytes F A S = 0x10 ∷ F ∷ A ∷ S ∷ []

unfoldable pub body_bytes : (n f : ℕ) → Links → (F S : ℕ) → List ℕ
body_bytes n f links F S = drop 4 (encode_block (block_with n f links F 0 S))

abbrev pub block_bytes : (n f : ℕ) → Links → (F A S : ℕ) → List ℕ
block_bytes n f links F A S = encode_block (block_with n f links F A S)

unfoldable pub cuts_bytes : (n f : ℕ) → Links → ℕ → List ℕ
cuts_bytes n f links F = encode_blocks (map (block_of n f links) (blocks_of F (list_from (2 ^ n) 0 (is_part (minus (full n) F)))))

abbrev pub block_for : Weak → Chosen → List ℕ
block_for w c = block_bytes w.network.now.n w.network.now.f w.network.now.links w.fault c.side c.quorum

abbrev pub body_for : Weak → ℕ → List ℕ
body_for w S = body_bytes w.network.now.n w.network.now.f w.network.now.links w.fault S

abbrev pub cuts_for : Weak → List ℕ
cuts_for w = cuts_bytes w.network.now.n w.network.now.f w.network.now.links w.fault

-- behind the blocks before it and its own opening
abbrev pub body_at : (start each k : ℕ) → ℕ
body_at start each k = start + k * each + 4

-- so many bytes stand at `from`, all before `at`
pub record Stands (body : List ℕ) (each at : ℕ) (lent : List ℕ) (from : ℕ) : Type 0 where
  pub whole : each ≡ 4 + length body
  pub before : from + length body ≤ at
  pub there : take (length body) (drop from lent) ≡ body

abbrev pub Again : List ℕ → Option ℕ → (each at : ℕ) → List ℕ → Type 0
Again body from each at lent = IfSome from (Stands body each at lent)
