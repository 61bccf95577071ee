-- One kind of a block for one server, which knows only itself: i is the server, v and t are its values, b is the block. The kinds are the commands 11, 12,
-- 13 and 14 of the plan.
--     carriages_of kind b       == the carriages of a kind, in plan order
--     sent kind v t            == what the server sends as source: t in 12 and 13, else v: in 11 and 14, and at the end as its decided bit
--     given x i cs             == x for each carriage of cs whose source is server i
--     received arrived j i cs  == what arrived by the carriages of cs whose receiver is server i, each as the run reads it; byte j is that of the first
--     committed ..             == v and t after the steps that the commit of a kind takes
use Rattle.std.specs.Prelude.{cond, not, ◌&&◌, List, [], ◌∷◌, map, ℕ, suc, eqb, ltb, get_or}
use Rattle.sets.specs.Sets.{has, meet, minus, full}
use Rattle.rules.specs.Blocks.{Block, Carriage, carriage_of, report_carriages}
use Rattle.steps.specs.Hearing.{message, all, common}

abbrev pub source : Carriage → ℕ
source c = get_or c.before 0 0

unfoldable pub carriages_of : ℕ → Block → List Carriage
carriages_of kind b =
    cond (eqb kind 0x11) (map carriage_of b.inward)
    (cond (eqb kind 0x12) (map carriage_of b.among)
    (cond (eqb kind 0x13) (map carriage_of b.outward) (report_carriages b.reports)))

unfoldable pub sent : ℕ → ℕ → ℕ → ℕ
sent kind v t = cond (eqb kind 0x12) t (cond (eqb kind 0x13) t v)

unfoldable pub given : ℕ → ℕ → List Carriage → List ℕ
given x i [] = []
given x i (c ∷ cs) = let later = given x i cs in cond (eqb (source c) i) (x ∷ later) later

unfoldable pub received : List ℕ → ℕ → ℕ → List Carriage → List ℕ
received arrived j i [] = []
received arrived j i (c ∷ cs) =
    cond (eqb c.receiver i) (message arrived j ∷ received arrived (suc j) i cs) (received arrived j i cs)

pub record Own : Type 0 where
  pub v : ℕ
  pub t : ℕ

-- the six steps for server i alone; l is what arrived for it

-- 1. each server of A sets t to v
unfoldable pub own1 : ℕ → ℕ → ℕ → ℕ → ℕ
own1 A i v t = cond (has A i) v t

-- 2 and 4. each receiver of the set: t is the common value if its f + 1 arrivals are alike, else 2
unfoldable pub own_gather : ℕ → ℕ → List ℕ → ℕ → ℕ
own_gather receivers i l t = cond (has receivers i) (common l) t

-- 3. each server of S: t is kept if every arrival equals it, else 2
unfoldable pub own_compare : ℕ → ℕ → List ℕ → ℕ → ℕ
own_compare S i l t = cond (has S i && not (all t l)) 2 t

-- 5. each server of V−F outside A∩S: if t is 0 or 1, v becomes t
unfoldable pub own5 : ℕ → ℕ → ℕ → ℕ → ℕ → ℕ
own5 sound kept i t v = cond (has sound i && (not (has kept i) && ltb t 2)) t v

-- 6. each k of F: if its f + 1 arrivals are alike and 0 or 1, v becomes that
unfoldable pub own6 : ℕ → ℕ → List ℕ → ℕ → ℕ
own6 F i l v = let x = common l in cond (has F i && ltb x 2) x v

-- the commit of 11: step 1, then step 2
unfoldable pub commit11 : Block → ℕ → List ℕ → Own → Own
commit11 b i l s = record { v = s.v; t = own_gather (minus b.quorum b.side) i l (own1 b.side i s.v s.t) }

-- the commit of 12: step 3
unfoldable pub commit12 : Block → ℕ → List ℕ → Own → Own
commit12 b i l s = record { v = s.v; t = own_compare b.quorum i l s.t }

-- the commit of 13: step 4, then step 5
unfoldable pub commit13 : ℕ → Block → ℕ → List ℕ → Own → Own
commit13 n b i l s =
    let sound = minus (full n) b.faults in
    let t = own_gather (minus sound b.quorum) i l s.t in
    record { v = own5 sound (meet b.side b.quorum) i t s.v; t = t }

-- the commit of 14: step 6
unfoldable pub commit14 : Block → ℕ → List ℕ → Own → Own
commit14 b i l s = record { v = own6 b.faults i l s.v; t = s.t }

unfoldable pub committed : ℕ → ℕ → Block → ℕ → List ℕ → Own → Own
committed n kind b i arrived s =
    let l = received arrived 0 i (carriages_of kind b) in
    cond (eqb kind 0x11) (commit11 b i l s) (cond (eqb kind 0x12) (commit12 b i l s) (cond (eqb kind 0x13) (commit13 n b i l s) (commit14 b i l s)))
