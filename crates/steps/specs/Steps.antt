-- The six steps of a block, each one sentence of docs/FORMATS.md. v and t are the values of the eight servers that there can be.
--     run_block ..   == v and t after the block's six steps; `number` is that of its first carriage
use Rattle.std.specs.Prelude.{cond, not, ◌&&◌, List, [], ◌∷◌, map, ℕ, zero, suc, ◌+◌, ltb, length, get_or}
use Rattle.sets.specs.Sets.{has, meet, minus, full}
use Rattle.rules.specs.Blocks.{Block, Carriage, carriage_of, report_carriages, carriages_of}
use Rattle.steps.specs.Hearing.{heard, all, common}

abbrev pub held : List ℕ → ℕ → ℕ
held values i = get_or values i 0

-- the values of the k servers from i on
unfoldable pub values_from : ℕ → ℕ → (ℕ → ℕ) → List ℕ
values_from zero i f = []
values_from (suc k) i f = f i ∷ values_from k (suc i) f

unfoldable pub values : (ℕ → ℕ) → List ℕ
values f = values_from 8 0 f

-- 1. each server of A sets t to v
unfoldable pub step1 : ℕ → List ℕ → List ℕ → List ℕ
step1 A v t = values (λ (i : ℕ). cond (has A i) (held v i) (held t i))

-- 2 and 4. each receiver of the set: t is the common value if its f + 1 arrivals are alike, else 2
unfoldable pub gather : ℕ → List ℕ → ℕ → List Carriage → ℕ → List ℕ → List ℕ
gather X table number cs receivers t =
    values (λ (i : ℕ). cond (has receivers i) (common (heard X table number (held t) cs i)) (held t i))

-- 3. all of S at the same time: t is kept if every arrival equals it, else 2
unfoldable pub compare : ℕ → List ℕ → ℕ → List Carriage → ℕ → List ℕ → List ℕ
compare X table number cs S t =
    values (λ (i : ℕ). cond (has S i && not (all (held t i) (heard X table number (held t) cs i))) 2 (held t i))

-- 5. each server of V−F outside A∩S: if t is 0 or 1, v becomes t
unfoldable pub step5 : ℕ → ℕ → List ℕ → List ℕ → List ℕ
step5 sound kept t v = values (λ (i : ℕ). cond (has sound i && (not (has kept i) && ltb (held t i) 2)) (held t i) (held v i))

-- 6. each k of F: if its f + 1 arrivals are alike and 0 or 1, v becomes that
unfoldable pub step6 : ℕ → List ℕ → ℕ → List Carriage → ℕ → List ℕ → List ℕ
step6 X table number cs F v =
    values
    (λ (i : ℕ).
    let x = common (heard X table number (held v) cs i) in
    cond (has F i && ltb x 2) x (held v i))

pub record Values : Type 0 where
  pub v : List ℕ
  pub t : List ℕ

unfoldable pub run_block : ℕ → ℕ → List ℕ → ℕ → Block → Values → Values
run_block n X table number b s =
    let F = b.faults in
    let A = b.side in
    let S = b.quorum in
    let sound = minus (full n) F in
    let inward = map carriage_of b.inward in
    let among = map carriage_of b.among in
    let outward = map carriage_of b.outward in
    let number3 = number + length inward in
    let number4 = number3 + length among in
    let number6 = number4 + length outward in
    let t1 = step1 A s.v s.t in
    let t2 = gather X table number inward (minus S A) t1 in
    let t3 = compare X table number3 among S t2 in
    let t4 = gather X table number4 outward (minus sound S) t3 in
    let v5 = step5 sound (meet A S) t4 s.v in
    record { v = step6 X table number6 (report_carriages b.reports) F v5; t = t4 }

-- the blocks in plan order
unfoldable pub run_blocks : ℕ → ℕ → List ℕ → ℕ → List Block → Values → Values
run_blocks n X table number [] s = s
run_blocks n X table number (b ∷ bs) s =
    run_blocks n X table (number + length (carriages_of b)) bs (run_block n X table number b s)
