-- Algorithm BC of Tseng and Vaidya, "Byzantine Consensus in Directed Graphs", section 4, over arbitrary sets of servers and for every n and f.
-- Its choices are parameters: for each block the sets F, A and S, the paths of Propagate and Equality, and N_k of step (j). The adversary is what
-- arrives on a path with a faulty server. Changes from the paper: servers are numbered from 0; ⊥ is 2; a set is a test, of which only the servers below n
-- count; a path holds its servers before the receiver; N_k is a list of paths of one server; case 1 is taken where S lies within A,
-- as docs/FORMATS.md has it (the paper: where B does not propagate to A), and then both cases give the same; f = 0 has no case of its own.
--     bc_block n X b v      == v after one iteration of the INNER loop, X being the actual faulty set
--     bc n X bs v          == v after the iterations bs
use Rattle.std.specs.Prelude.{Bool, true, false, cond, not, ◌&&◌, ◌||◌, List, [], ◌∷◌, map, ℕ, zero, suc, eqb, ltb}
use Rattle.sets.specs.Sets.{Set}

-- `spoiled` is what arrives when a server on the way is faulty
pub record Path : Type 0 where
  pub source : ℕ
  pub relays : List ℕ
  pub spoiled : ℕ

abbrev pub on_way : Path → List ℕ
on_way p = p.source ∷ p.relays

pub record Choice : Type 0 where
  pub F : Set
  pub A : Set
  pub S : Set
  -- the f + 1 paths of Propagate(A, S − A) to a server
  pub inward : ℕ → List Path
  -- the path of Equality(S) to a server from another
  pub between : ℕ → ℕ → Path
  -- the f + 1 paths of Propagate(S, V − F − S) to a server
  pub outward : ℕ → List Path
  -- the members of N_k
  pub reports : ℕ → List Path

abbrev pub Values : Type 0
Values = ℕ → ℕ

unfoldable pub some : Set → List ℕ → Bool
some X [] = false
some X (s ∷ ss) = X s || some X ss

unfoldable pub arrives : Set → Values → Path → ℕ
arrives X w p = cond (some X (on_way p)) p.spoiled (w p.source)

unfoldable pub all_are : ℕ → List ℕ → Bool
all_are x [] = true
all_are x (y ∷ ys) = eqb y x && all_are x ys

-- 0 if all are 0, 1 if all are 1, else ⊥; there are f + 1 of them, so never none
unfoldable pub agreed : List ℕ → ℕ
agreed l = cond (all_are 0 l) 0 (cond (all_are 1 l) 1 2)

-- Propagate(P, D): each server of D takes the value that its arrivals agree on
unfoldable pub propagate : Set → Set → (ℕ → List Path) → Values → Values
propagate X D paths t i = cond (D i) (agreed (map (arrives X t) (paths i))) (t i)

unfoldable pub all_below : ℕ → Set → Bool
all_below zero p = true
all_below (suc n) p = p n && all_below n p

-- Equality(D): each server of D keeps its t if what it receives from all others of D equals it and is 0 or 1, else ⊥
unfoldable pub equality : ℕ → Set → Set → (ℕ → ℕ → Path) → Values → Values
equality n X D paths t j =
    cond (D j)
    (cond (ltb (t j) 2 && all_below n (λ (i : ℕ). not (D i) || (eqb i j || eqb (arrives X t (paths j i)) (t j)))) (t j) 2)
    (t j)

-- steps (d) and (i): each server of D takes a t that is not ⊥
unfoldable pub adopt : Set → Values → Values → Values
adopt D t v j = cond (D j && ltb (t j) 2) (t j) (v j)

-- servers of V − F − S
abbrev pub rest : Choice → Set
rest b i = not (b.F i) && not (b.S i)

unfoldable pub within : ℕ → Set → Set → Bool
within n p q = all_below n (λ (i : ℕ). not (p i) || q i)

-- Case 1, steps (a) to (d); t before it has no effect
unfoldable pub case1 : ℕ → Set → Choice → Values → Values
case1 n X b v =
    adopt (rest b) (propagate X (rest b) b.outward (equality n X b.S b.between v)) v

-- Case 2, steps (e) to (i)
unfoldable pub case2 : ℕ → Set → Choice → Values → Values
case2 n X b v =
    let t = propagate X (λ (i : ℕ). b.S i && not (b.A i)) b.inward v in
    adopt (λ (i : ℕ). not (b.F i) && not (b.A i && b.S i)) (propagate X (rest b) b.outward (equality n X b.S b.between t)) v

-- step (j)
unfoldable pub step_j : Set → Choice → Values → Values
step_j X b v k = let x = agreed (map (arrives X v) (b.reports k)) in cond (b.F k && ltb x 2) x (v k)

unfoldable pub bc_block : ℕ → Set → Choice → Values → Values
bc_block n X b v = step_j X b (cond (within n b.S b.A) (case1 n X b v) (case2 n X b v))

unfoldable pub bc : ℕ → Set → List Choice → Values → Values
bc n X [] v = v
bc n X (b ∷ bs) v = bc n X bs (bc_block n X b v)
