-- What is written for a card into a lent buffer.
--     write_into s lent    == how many bytes the plan for card s has; or the refusal, the card's, then 17 with the first bad split, then 18
--     written_in s lent    == the lent bytes after it: the plan, then the later bytes as they were; refused, all as they were
use Rattle.std.specs.Prelude.{cond, List, [], ◌++◌, ℕ, ltb, length, drop}
use Rattle.refusal.specs.Refused.{Refused, call}
use Rattle.network.specs.Card.{Network, network, refused, read_card}
use Rattle.split.specs.Split.{Split, good, bad, unread, split_test}
use Rattle.planner.specs.Plan.{plan_bytes}

pub data Writing : Type 0 where
  wrote : (bytes : ℕ) → Writing
  -- refused for a bad split, with the first one
  broken : Refused → (f l c r : ℕ) → Writing
  unwritten : Refused → Writing

-- the plan of what a card gives; nothing where it is refused
abbrev pub plan_on : Network → List ℕ
plan_on (network n f links) = plan_bytes n f links
plan_on (refused r) = []

unfoldable pub plan_for : List ℕ → List ℕ
plan_for s = plan_on (read_card s)

-- a lent buffer shorter than the plan is refused
unfoldable pub fitting : List ℕ → List ℕ → Writing
fitting plan lent = cond (ltb (length lent) (length plan)) (unwritten (call 18)) (wrote (length plan))

abbrev pub write_on : Split → List ℕ → List ℕ → Writing
write_on good plan lent = fitting plan lent
write_on (bad f l c r) plan lent = broken (call 17) f l c r
write_on (unread r) plan lent = unwritten r

unfoldable pub write_into : List ℕ → List ℕ → Writing
write_into s lent = write_on (split_test s) (plan_for s) lent

abbrev pub after_write : Writing → List ℕ → List ℕ → List ℕ
after_write (wrote bytes) plan lent = plan ++ drop bytes lent
after_write (broken r f l c s) plan lent = lent
after_write (unwritten r) plan lent = lent

unfoldable pub written_in : List ℕ → List ℕ → List ℕ
written_in s lent = after_write (write_into s lent) (plan_for s) lent
