-- The bytes of routes and reports as texts, one for each server of a set.
--     route_text, fan_text, pair_text, one_text, report_text    the texts
--     route_is, ..                                         what the code puts for a server is its text
--     routes_text, ..                                      the texts of all, one after the other, are the whole
--     report_put                                           the three bytes of one report
--     head_put                                             the four bytes of a block's head
--     block_put                                            the parts of a block, one after the other, are the block
-- Assumes nothing.
use mathlib.Core.Path.{◌≡◌, refl, sym, ap, ◌∙◌}
use mathlib.Core.List.{List, [], ◌∷◌, ◌++◌, map, append_assoc}
use Prim.Native.Nat.{ℕ, zero, suc, ◌+◌, ◌<◌}
use native.Mathlib.Nat.{zero-add}
use native.Mathlib.Omega.{arith}
use lib.Dec.{eqb}
use lib.ListN.{length, get_or}
use borrow.Author.Tests.{lt-ltb, eq-eqb, eqb-true}
use Rattle.facts.proofs.Bools.{cases, same}
use Rattle.sets.specs.Sets.{has, single, meet, minus}
use Rattle.sets.proofs.Members.{has_minus, has_single}
use Rattle.sets.specs.Members.{list_from, members}
use Rattle.rules.specs.Blocks.{operand, Route, encode_routes, encode_reports, encode_block}
use Rattle.rules.specs.Rules.{sources_for, pairs_of}
use Rattle.rules.proofs.Groups.{encode_append}
use Rattle.flow.specs.declared.Flow.{Flow}
use Rattle.flow.specs.Search.{Sought, lowest_of, flow_by}
use Rattle.flow.specs.Routes.{trail, routes_of}
use Rattle.blocks.specs.declared.bytes.Place.{Place}
use Rattle.blocks.specs.Written.{routes_by, fans_by, mesh_by, report_by, block_by, BlockPut}
use Rattle.blocks.specs.Placed.{Placed}
use Rattle.blocks.proofs.Putting.{joined, placed_join}

eqb_turned : (a b : ℕ) → eqb a b ≡ eqb b a
eqb_turned a b = same (eqb a b) (eqb b a) (λ e. eq-eqb b a (sym (eqb-true a b e))) (λ e. eq-eqb a b (sym (eqb-true b a e)))

-- the texts, one for each server

-- the route that starts at x
unfoldable pub route_text : (command : ℕ) → Flow → (r x : ℕ) → List ℕ
route_text command φ r x = command ∷ operand (trail φ r 7 x)

-- the k routes to r
unfoldable pub fan_text : List ℕ → List ℕ → (W sources k r : ℕ) → List ℕ
fan_text rows nears W sources k r = encode_routes 19 (routes_by rows (get_or nears r 0) W sources k r)

-- the route from s to r
unfoldable pub pair_text : List ℕ → List ℕ → (W r s : ℕ) → List ℕ
pair_text rows nears W r s = encode_routes 18 (routes_by rows (get_or nears r 0) W (single s) 1 r)

-- the routes from each other server of S to r
unfoldable pub one_text : List ℕ → List ℕ → (W S r : ℕ) → List ℕ
one_text rows nears W S r = encode_routes 18 (mesh_by rows nears W (sources_for r (members S)))

-- the report to k
unfoldable pub report_text : List ℕ → (W count k : ℕ) → List ℕ
report_text nears W count k = 20 ∷ k ∷ lowest_of count (meet W (get_or nears k 0)) ∷ []

-- what the code puts for a server is its text

pub route_is : (command : ℕ) (φ : Flow) (r x : ℕ) (route : List ℕ) → route ≡ operand (trail φ r 7 x) → command ∷ route ≡ route_text command φ r x
unfolding route_text
route_is command φ r x route e = ap (λ (l : List ℕ). command ∷ l) e

pub fan_is : (rows nears : List ℕ) (W sources k r : ℕ) (φ : Flow) (s : Sought) → φ ≡ s.flow → s ≡ flow_by rows (get_or nears r 0) W sources r k
    → encode_routes 19 (routes_of φ r) ≡ fan_text rows nears W sources k r
unfolding fan_text routes_by
fan_is rows nears W sources k r φ s f e = ap (λ (t : Flow). encode_routes 19 (routes_of t r)) (f ∙ ap (λ (t : Sought). t.flow) e)

pub pair_is : (rows nears : List ℕ) (W r x only : ℕ) → only ≡ single x → (φ : Flow) (s : Sought) → φ ≡ s.flow → s ≡ flow_by rows (get_or nears r 0) W only r 1
    → encode_routes 18 (routes_of φ r) ≡ pair_text rows nears W r x
unfolding pair_text routes_by
pair_is rows nears W r x only o φ s f e =
    ap (λ (t : Flow). encode_routes 18 (routes_of t r)) (f ∙ ap (λ (t : Sought). t.flow) e ∙ ap (λ (y : ℕ). (flow_by rows (get_or nears r 0) W y r 1).flow) o)

pub one_is : (rows nears : List ℕ) (W S r : ℕ) → encode_routes 18 (mesh_by rows nears W (sources_for r (members S))) ≡ one_text rows nears W S r
unfolding one_text
one_is rows nears W S r = refl

pub report_is : (nears : List ℕ) (W count k : ℕ) → 20 ∷ k ∷ lowest_of count (meet W (get_or nears k 0)) ∷ [] ≡ report_text nears W count k
unfolding report_text
report_is nears W count k = refl

-- the texts of all are the whole

module _ (command : ℕ) (φ : Flow) (r : ℕ) where
  routes_each : (xs : List ℕ) → encode_routes command (map (trail φ r 7) xs) ≡ joined (route_text command φ r) xs
  unfolding encode_routes joined route_text
  routes_each [] = refl
  routes_each (x ∷ xs) = ap (λ (l : List ℕ). command ∷ (operand (trail φ r 7 x) ++ l)) (routes_each xs)

  pub routes_text : encode_routes command (routes_of φ r) ≡ joined (route_text command φ r) (members φ.start)
  unfolding routes_of
  routes_text = routes_each (members φ.start)

module _ (rows nears : List ℕ) (W : ℕ) where
  module _ (sources k : ℕ) where
    fans_each : (rs : List ℕ) → encode_routes 19 (fans_by rows nears W sources k rs) ≡ joined (fan_text rows nears W sources k) rs
    unfolding encode_routes fans_by joined fan_text
    fans_each [] = refl
    fans_each (r ∷ rs) =
        let routes = routes_by rows (get_or nears r 0) W sources k r in
        encode_append 19 routes (fans_by rows nears W sources k rs) ∙ ap (λ (l : List ℕ). encode_routes 19 routes ++ l) (fans_each rs)

    pub fans_text : (s S : ℕ) → s ≡ minus W S → encode_routes 19 (fans_by rows nears W sources k (members (minus W S))) ≡ joined (fan_text rows nears W sources k) (members s)
    fans_text s S e = rw e (fans_each (members (minus W S)))

  module _ (r : ℕ) (h : r < 8) where
    one_each : (S k lo : ℕ) → encode_routes 18 (mesh_by rows nears W (sources_for r (list_from k lo (has S)))) ≡ joined (pair_text rows nears W r) (list_from k lo (has (minus S (single r))))
    unfolding encode_routes mesh_by sources_for list_from joined pair_text
    one_each S zero lo = refl
    one_each S (suc k) lo =
        let ih = one_each S k (suc lo) in
        let a = has_minus S (single r) lo in
        let b = has_single r lo in
        let c = lt-ltb r 8 h in
        let d = eqb_turned lo r in
        let e = encode_append 18 (routes_by rows (get_or nears r 0) W (single lo) 1 r) (mesh_by rows nears W (sources_for r (list_from k (suc lo) (has S)))) in
        cases (has S lo) (λ i. cases (eqb lo r) (λ j. cc) (λ j. cc)) (λ i. cc)

    pub one_text_lem : (S only others : ℕ) → only ≡ single r → others ≡ minus S only → encode_routes 18 (mesh_by rows nears W (sources_for r (members S))) ≡ joined (pair_text rows nears W r) (members others)
    unfolding members
    one_text_lem S only others e g = rw (g, e) (one_each S 8 0)

  mesh_append : (ds es : List (ℕ × ℕ)) → mesh_by rows nears W (ds ++ es) ≡ mesh_by rows nears W ds ++ mesh_by rows nears W es
  unfolding mesh_by
  mesh_append [] es = refl
  mesh_append (d ∷ ds) es =
      let routes = routes_by rows (get_or nears d.0 0) W (single d.1) 1 d.0 in
      ap (λ (l : List Route). routes ++ l) (mesh_append ds es) ∙ sym (append_assoc routes (mesh_by rows nears W ds) (mesh_by rows nears W es))

  module _ (S : ℕ) where
    pub mesh_text : (rs : List ℕ) → encode_routes 18 (mesh_by rows nears W (pairs_of (members S) rs)) ≡ joined (one_text rows nears W S) rs
    unfolding encode_routes mesh_by pairs_of joined one_text
    mesh_text [] = refl
    mesh_text (r ∷ rs) =
        let to = sources_for r (members S) in
        let later = pairs_of (members S) rs in
        ap (encode_routes 18) (mesh_append to later)
        ∙ encode_append 18 (mesh_by rows nears W to) (mesh_by rows nears W later)
        ∙ ap (λ (l : List ℕ). encode_routes 18 (mesh_by rows nears W to) ++ l) (mesh_text rs)

module _ (nears : List ℕ) (W count : ℕ) where
  pub reports_text : (ks : List ℕ) → encode_reports (map (report_by nears W count) ks) ≡ joined (report_text nears W count) ks
  unfolding encode_reports report_by joined report_text
  reports_text [] = refl
  reports_text (k ∷ ks) = ap (λ (l : List ℕ). 20 ∷ k ∷ lowest_of count (meet W (get_or nears k 0)) ∷ l) (reports_text ks)

-- one report, three bytes
pub report_put : {p q r t : Place} (W near count receiver : ℕ) {both reporters : ℕ} → both ≡ meet W near → reporters ≡ lowest_of count both
    → Placed (20 ∷ []) 1 p q → Placed (receiver ∷ []) 1 q r → Placed (reporters ∷ []) 1 r t
    → Placed (20 ∷ receiver ∷ lowest_of count (meet W near) ∷ []) 3 p t
report_put W near count receiver e g a b d = placed_join (placed_join a b) (rw (g, e) at d)

-- a block

pub head_put : {p q r t w : Place} (F A S : ℕ) → Placed (16 ∷ []) 1 p q → Placed (F ∷ []) 1 q r → Placed (A ∷ []) 1 r t → Placed (S ∷ []) 1 t w
    → Placed (16 ∷ F ∷ A ∷ S ∷ []) 4 p w
head_put F A S a b c d = placed_join (placed_join (placed_join a b) c) d

pub block_put : (rows nears : List ℕ) (W count F A S : ℕ) {p head mesh fans last : Place} → p.at ≡ 0
    → Placed (16 ∷ F ∷ A ∷ S ∷ []) 4 p head
    → Placed (encode_routes 18 (mesh_by rows nears W (pairs_of (members S) (members S)))) 4608 head mesh
    → Placed (encode_routes 19 (fans_by rows nears W S count (members (minus W S)))) 576 mesh fans
    → Placed (encode_reports (map (report_by nears W count) (members F))) 24 fans last
    → {after : List ℕ} → after ≡ last.part.now → BlockPut (block_by rows nears W count F A S) p.part.now after last.at
unfolding block_by encode_block encode_routes
block_put rows nears W count F A S z p m f g {after} e =
    let whole = (placed_join (placed_join (placed_join p m) f) g).put in
    let n = whole.place in
    let b = whole.bound in
    record { bytes = e ∙ (rw z at whole.bytes); long = n ∙ ap (λ (i : ℕ). i + length (encode_block (block_by rows nears W count F A S))) z ∙ zero-add (length (encode_block (block_by rows nears W count F A S))); few = omega arith }
