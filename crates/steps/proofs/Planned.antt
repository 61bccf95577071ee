-- The choices of blocks that are the due ones, in order and within the rules, are such as Algorithm BC allows.
--     due_in          a due block has an F of at most f servers and a part of V − F that holds its lowest server
--     choice_in       each choice is that of one of the blocks; in_choices the other way
--     choices_append  the choices of two lists of blocks, one after the other
--     planned_allowed the choices are such as the algorithm allows; planned_sound: so they are sound
--     blocks_cover    the choices of blocks with F = X that have every cut cover every cut
--     planned_covers  the choices with F = X stand together and cover every cut
--     planned_grouped the same for every test X, with none of the others in between
-- Assumes nothing.
use mathlib.Core.Path.{◌≡◌, refl, sym, ap, ◌∙◌, subst}
use mathlib.Core.Logic.{◌⊎◌, inl, inr, ⊎_elim}
use mathlib.Core.Bool.{true, not, ◌&&◌}
use mathlib.Core.List.{List, [], ◌∷◌, ◌++◌, Memᴰ}
use Prim.Native.Nat.{ℕ, ◌+◌, ◌^◌, ◌≤◌, ◌<◌}
use native.Mathlib.Omega.{arith}
use lib.Dec.{leb}
use lib.ListN.{length}
use borrow.Author.Tests.{leb-true, lt-ltb}
use Rattle.facts.proofs.Bools.{cases, clash, and_right}
use Rattle.sets.specs.Sets.{Set, In, Out, has, minus, within, full, size, count, encode}
use Rattle.sets.proofs.Members.{has_minus, has_full, has_empty, minus_small, full_small, same_members, in_within, encode_small, encode_has}
use Rattle.sets.proofs.Counts.{count_same, size_count}
use Rattle.network.specs.Links.{Links, linked_in}
use Rattle.sets.specs.Members.{list_from}
use Rattle.plan.specs.Due.{DueBlock, is_part, blocks_of, blocks_of_all, due}
use Rattle.rules.specs.Blocks.{Block, carriages_of}
use Rattle.facts.specs.Lists.{Each}
use Rattle.rules.specs.Rules.{InOrder}
use Rattle.rules.proofs.Lists.{listed_in}
use Rattle.rules.proofs.Order.{order_of, order_together}
use Rattle.bc.specs.Algorithm.{Choice}
use Rattle.bc.specs.Allowed.{Allowed, Sound, Covers}
use Rattle.bc.proofs.Main.{weaker}
use Rattle.steps.specs.Choices.{choice_of, choices_of}
use Rattle.steps.specs.Demand.{Other, Grouped}
use Rattle.steps.proofs.Chosen.{chosen_allowed}

-- due blocks

parts_in : (F : ℕ) (ps : List ℕ) (d : DueBlock) → Memᴰ d (blocks_of F ps) → (d.faults ≡ F) × Memᴰ d.part ps
unfolding blocks_of
parts_in F [] d m = elim m [ ]
parts_in F (p ∷ ps) d m =
    ⊎_elim
    (λ e. (ap (λ (x : DueBlock). x.faults) e, mathlib.Core.List.Memᴰ.head (ap (λ (x : DueBlock). x.part) e)))
    (λ t. let r = parts_in F ps d t in (r.0, mathlib.Core.List.Memᴰ.tail r.1))
    (mathlib.Core.List.Memᴰ.cases_cons m)

abbrev parts_for : ℕ → ℕ → List ℕ
parts_for n F = list_from (2 ^ n) 0 (is_part (minus (full n) F))

all_parts_in : (n : ℕ) (Fs : List ℕ) (d : DueBlock) → Memᴰ d (blocks_of_all n Fs) → Memᴰ d.faults Fs × Memᴰ d.part (parts_for n d.faults)
unfolding blocks_of_all
all_parts_in n [] d m = elim m [ ]
all_parts_in n (F ∷ Fs) d m =
    ⊎_elim
    (λ h. let r = parts_in F (parts_for n F) d h in (mathlib.Core.List.Memᴰ.head r.0, subst (λ (x : ℕ). Memᴰ d.part (parts_for n x)) (sym r.0) r.1))
    (λ h. let r = all_parts_in n Fs d h in (mathlib.Core.List.Memᴰ.tail r.0, r.1))
    (mathlib.Core.List.Memᴰ.append_cases (blocks_of F (parts_for n F)) m)

pub due_in : (n f : ℕ) (d : DueBlock) → Memᴰ d (due n f) → (d.faults < 2 ^ n) × (size d.faults ≤ f) × (is_part (minus (full n) d.faults) d.part ≡ true)
unfolding due
due_in n f d m =
    let few : Set = λ F. leb (size F) f in
    let (i, j) = all_parts_in n (list_from (2 ^ n) 0 few) d m in
    let (a, b, c) = listed_in (2 ^ n) 0 few d.faults i in
    let r = listed_in (2 ^ n) 0 (is_part (minus (full n) d.faults)) d.part j in
    (omega arith, leb-true (size d.faults) f a, r.0)

-- the choices of a list of blocks

pub choice_in : (table : List ℕ) (number : ℕ) (bs : List Block) (c : Choice) → Memᴰ c (choices_of table number bs)
    → (b : Block) × Memᴰ b bs × (k : ℕ) × (c ≡ choice_of table k b)
unfolding choices_of
choice_in table number [] c m = elim m [ ]
choice_in table number (b ∷ bs) c m =
    ⊎_elim
    (λ e. (b, mathlib.Core.List.Memᴰ.head refl, number, e))
    (λ t. let (x, i, k, e) = choice_in table (number + length (carriages_of b)) bs c t in (x, mathlib.Core.List.Memᴰ.tail i, k, e))
    (mathlib.Core.List.Memᴰ.cases_cons m)

pub in_choices : (table : List ℕ) (number : ℕ) (bs : List Block) (b : Block) → Memᴰ b bs → (k : ℕ) × Memᴰ (choice_of table k b) (choices_of table number bs)
unfolding choices_of
in_choices table number [] b m = elim m [ ]
in_choices table number (x ∷ bs) b m =
    ⊎_elim
    (λ e. (number, mathlib.Core.List.Memᴰ.head (ap (choice_of table number) e)))
    (λ t. let (k, i) = in_choices table (number + length (carriages_of x)) bs b t in (k, mathlib.Core.List.Memᴰ.tail i))
    (mathlib.Core.List.Memᴰ.cases_cons m)

pub choices_append : (table : List ℕ) (number : ℕ) (bs cs : List Block)
    → (k : ℕ) × (choices_of table number (bs ++ cs) ≡ choices_of table number bs ++ choices_of table k cs)
unfolding choices_of
choices_append table number [] cs = (number, refl)
choices_append table number (b ∷ bs) cs =
    let (k, e) = choices_append table (number + length (carriages_of b)) bs cs in
    (k, ap (λ (l : List Choice). choice_of table number b ∷ l) e)

-- the choices of blocks that are the due ones, in order and within the rules
pub planned_allowed : (n f : ℕ) (links : Links) (bs : List Block) → n ≤ 8 → InOrder n f links (due n f) bs → (table : List ℕ) (number : ℕ)
    → Each (Allowed n f (linked_in links)) (choices_of table number bs)
planned_allowed n f links bs eight o table number =
    λ c m. let (b, i, k, e) = choice_in table number bs c m in
    let (d, j, r) = order_of n f links (due n f) bs o b i in
    let (small, few, part) = due_in n f d j in
    subst (Allowed n f (linked_in links)) (sym e) (chosen_allowed n f links d b eight few small part r table k)

pub planned_sound : (n f : ℕ) (links : Links) (bs : List Block) → n ≤ 8 → InOrder n f links (due n f) bs → (table : List ℕ) (number : ℕ)
    → Each (Sound n f) (choices_of table number bs)
planned_sound n f links bs eight o table number = λ c m. weaker n f (linked_in links) c (planned_allowed n f links bs eight o table number c m)

-- the choices with F = X

choice_f : (table : List ℕ) (k : ℕ) (b : Block) → (choice_of table k b).F ≡ has b.faults
unfolding choice_of
choice_f table k b = refl

choice_a : (table : List ℕ) (k : ℕ) (b : Block) → (choice_of table k b).A ≡ has b.side
unfolding choice_of
choice_a table k b = refl

module _ (n X : ℕ) (Z : Set) where
  -- the servers of Z outside X, as a number
  abbrev kept : ℕ
  kept = encode n (λ (i : ℕ). Z i && not (has X i))

  kept_has : (i : ℕ) → i < n → has kept i ≡ (Z i && not (has X i))
  kept_has i k = encode_has n (λ (i : ℕ). Z i && not (has X i)) i k

  outside_has : (i : ℕ) → i < n → has (minus (full n) X) i ≡ not (has X i)
  outside_has i k =
      let a = has_minus (full n) X i in
      let b = has_full n i in
      let c = lt-ltb i n k in
      cc

  kept_within : within kept (minus (full n) X) ≡ true
  kept_within =
      in_within n kept (minus (full n) X) (encode_small n (λ (i : ℕ). Z i && not (has X i))) (minus_small n (full n) X (full_small n))
      (λ i k e. outside_has i k ∙ and_right (Z i) (not (has X i)) (sym (kept_has i k) ∙ e))

  kept_on : (i : ℕ) → i < n → Out (has X) i → has kept i ≡ Z i
  kept_on i k o = let a = kept_has i k in cases (Z i) (λ e. cc) (λ e. cc)

  rest_on : (i : ℕ) → i < n → Out (has X) i → has (minus (minus (full n) X) kept) i ≡ not (Z i)
  rest_on i k o =
      let a = has_minus (minus (full n) X) kept i in
      let b = outside_has i k in
      let c = kept_on i k o in
      cc

  kept_some : (a : ℕ) → a < n → Out (has X) a → In Z a → kept ≡ 0 → ⊥
  kept_some a k o e q = clash (has kept a) (kept_on a k o ∙ e) (ap (λ (s : ℕ). has s a) q ∙ has_empty a)

  kept_other : (c : ℕ) → c < n → Out (has X) c → Out Z c → kept ≡ minus (full n) X → ⊥
  kept_other c k o e q = clash (has kept c) (ap (λ (s : ℕ). has s c) q ∙ outside_has c k ∙ ap not o) (kept_on c k o ∙ e)

pub blocks_cover : (n X : ℕ) (mid : List Block) → Each (λ b. b.faults ≡ X) mid
    → ((Z : ℕ) → within Z (minus (full n) X) ≡ true → (Z ≡ 0 → ⊥) → (Z ≡ minus (full n) X → ⊥) → (b : Block) × Memᴰ b mid × ((b.side ≡ Z) ⊎ (b.side ≡ minus (minus (full n) X) Z)))
    → (table : List ℕ) (number : ℕ) → Covers n (has X) (choices_of table number mid)
blocks_cover n X mid theirs cut table number =
    record {
      theirs = λ c m i l. let (b, j, k, e) = choice_in table number mid c m in ap (λ (x : Choice). x.F i) e ∙ ap (λ (s : Set). s i) (choice_f table k b) ∙ ap (λ (s : ℕ). has s i) (theirs b j);
      cut = λ Z a a-below a-out a_in c c-below c_out c-not. let (b, m, q) = cut (kept n X Z) (kept_within n X Z) (kept_some n X Z a a-below a-out a_in) (kept_other n X Z c c-below c_out c-not) in
          let (k, i) = in_choices table number mid b m in (
            choice_of table k b,
            i,
            ⊎_elim
                (λ e. inl (λ j l o. ap (λ (s : Set). s j) (choice_a table k b) ∙ ap (λ (s : ℕ). has s j) e ∙ kept_on n X Z j l o))
                (λ e. inr (λ j l o. ap (λ (s : Set). s j) (choice_a table k b) ∙ ap (λ (s : ℕ). has s j) e ∙ rest_on n X Z j l o))
                q,
          );
    }

-- those with F = X stand together and cover every cut
pub planned_covers : (n f X : ℕ) (links : Links) (bs : List Block) → n ≤ 8 → InOrder n f links (due n f) bs → X < 2 ^ n → size X ≤ f
    → (table : List ℕ) (number : ℕ)
    → (pre mid post : List Choice) × (choices_of table number bs ≡ pre ++ mid ++ post) × Covers n (has X) mid
planned_covers n f X links bs eight o small few table number =
    let t = order_together n f links bs eight o X small few in
    let (k, e) = choices_append table number (t.pre ++ t.mid) t.post in
    let (l, q) = choices_append table number t.pre t.mid in (
      choices_of table number t.pre,
      choices_of table l t.mid,
      choices_of table k t.post,
      ap (choices_of table number) t.whole ∙ e ∙ ap (λ (x : List Choice). x ++ choices_of table k t.post) q,
      blocks_cover n X t.mid t.theirs t.cut table l,
    )

-- the same for any test X, which stands for the number of its servers below n
covers_same : (n : ℕ) (X Y : Set) (mid : List Choice) → ((i : ℕ) → i < n → Y i ≡ X i) → Covers n Y mid → Covers n X mid
covers_same n X Y mid same c =
    record {
      theirs = λ b m i k. c.theirs b m i k ∙ same i k;
      cut = λ Z a a-below a-out a_in d d-below d-out d-not. let (b, m, q) = c.cut Z a a-below (same a a-below ∙ a-out) a_in d d-below (same d d-below ∙ d-out) d-not in (
        b,
        m,
        ⊎_elim (λ h. inl (λ i k o. h i k (same i k ∙ o))) (λ h. inr (λ i k o. h i k (same i k ∙ o))) q,
      );
    }

-- what is part of a list of blocks in order is due, so that its F is a number below 2^n; as a test it is X only if the number is that of X
choices_other : (n f Y : ℕ) (links : Links) (bs part : List Block) → Each (λ b. Memᴰ b bs) part → InOrder n f links (due n f) bs
    → Y < 2 ^ n → Each (λ b. b.faults ≡ Y → ⊥) part → (X : Set) → ((i : ℕ) → i < n → has Y i ≡ X i)
    → (table : List ℕ) (number : ℕ) → Each (Other n X) (choices_of table number part)
choices_other n f Y links bs part inside o small others X same table number =
    λ c m alike. let (b, j, k, e) = choice_in table number part c m in
    let (d, l, r) = order_of n f links (due n f) bs o b (inside b j) in
    let below : b.faults < 2 ^ n = rw r.faults (due_in n f d l).0 in
    others b j (same_members n b.faults Y below small (λ i h. sym (ap (λ (x : Choice). x.F i) e ∙ ap (λ (s : Set). s i) (choice_f table k b)) ∙ alike i h ∙ sym (same i h)))

pub planned_grouped : (n f : ℕ) (links : Links) (bs : List Block) → n ≤ 8 → InOrder n f links (due n f) bs
    → (table : List ℕ) (number : ℕ) (X : Set) → count n X ≤ f → Grouped n X (choices_of table number bs)
planned_grouped n f links bs eight o table number X few =
    let Y = encode n X in
    let small = encode_small n X in
    let sized = size_count n Y eight small ∙ count_same n (has Y) X (encode_has n X) in
    let t = order_together n f links bs eight o Y small (omega arith) in
    let (k, e) = choices_append table number (t.pre ++ t.mid) t.post in
    let (l, q) = choices_append table number t.pre t.mid in
    let inside : Each (λ b. Memᴰ b bs) (t.pre ++ t.mid ++ t.post) = λ b m. rw t.whole m in
    record {
      pre = choices_of table number t.pre;
      mid = choices_of table l t.mid;
      post = choices_of table k t.post;
      whole = ap (choices_of table number) t.whole ∙ e ∙ ap (λ (x : List Choice). x ++ choices_of table k t.post) q;
      before = choices_other n f Y links bs t.pre (λ b m. inside b (mathlib.Core.List.Memᴰ.append_left t.post (mathlib.Core.List.Memᴰ.append_left t.mid m))) o small t.pre_others X (encode_has n X) table number;
      covers = covers_same n X (has Y) (choices_of table l t.mid) (encode_has n X) (blocks_cover n Y t.mid t.theirs t.cut table l);
      after = choices_other n f Y links bs t.post (λ b m. inside b (mathlib.Core.List.Memᴰ.append_right (t.pre ++ t.mid) m)) o small t.post_others X (encode_has n X) table k;
    }
