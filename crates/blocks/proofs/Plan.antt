-- The block by rows is the block of the plan, if the rows are those of the network's links.
--     near_linking   an entry of the rows of sources is who links to that server, by the rows of links
--     block_by_lem       the block by rows is the block of the plan
-- Assumes nothing.
use mathlib.Core.Path.{◌≡◌, refl, ap, ap₂, ◌∙◌}
use mathlib.Core.List.Memᴰ
use mathlib.Core.List.{List, [], ◌∷◌, ◌++◌, map}
use Prim.Native.Nat.{ℕ, ◌+◌, ◌<◌}
use lib.Dec.{eqb}
use lib.ListN.{get_or}
use Rattle.facts.specs.Lists.{Each}
use Rattle.facts.proofs.Bools.{by_cond}
use Rattle.sets.specs.Sets.{has, single, meet, minus, full, encode}
use Rattle.sets.proofs.Members.{encode_has, encode_small, same_members}
use Rattle.network.specs.Links.{Links, linked_in}
use Rattle.network.specs.Rows.{rows_of}
use Rattle.network.proofs.LinkRows.{rows_at, row_has}
use Rattle.split.specs.Sources.{sources_to, SourceRows}
use Rattle.sets.specs.Members.{members}
use Rattle.rules.specs.Blocks.{Route, Report}
use Rattle.rules.specs.Rules.{sources_for, pairs_of}
use Rattle.rules.proofs.Lists.{members_in}
use Rattle.rules.proofs.Groups.{each_cons, each_append}
use Rattle.flow.specs.Search.{lowest_of, linking, flow_by}
use Rattle.flow.specs.Routes.{routes_of}
use Rattle.planner.specs.Plan.{routes_to, fans_to, mesh_of, report_to, block_with}
use Rattle.blocks.specs.Written.{routes_by, fans_by, mesh_by, report_by, block_by}

module _ (links : Links) (nears : List ℕ) (so : SourceRows links nears) where
  abbrev rows : List ℕ
  rows = rows_of (linked_in links)

  near_linking : (r : ℕ) → r < 8 → get_or nears r 0 ≡ linking rows r
  unfolding sources_to linking
  near_linking r h =
      so r h
      ∙ same_members 8 (encode 8 (λ (u : ℕ). linked_in links u r)) (encode 8 (λ (x : ℕ). has (get_or rows x 0) r))
      (encode_small 8 (λ (u : ℕ). linked_in links u r)) (encode_small 8 (λ (x : ℕ). has (get_or rows x 0) r))
      (λ u k. let a = encode_has 8 (λ (u : ℕ). linked_in links u r) u k in
      let b = encode_has 8 (λ (x : ℕ). has (get_or rows x 0) r) u k in
      let c = rows_at (linked_in links) u k in
      let d = row_has (linked_in links) u r h in
      cc)

  routes_by_lem : (W sources k r : ℕ) → r < 8 → routes_by rows (get_or nears r 0) W sources k r ≡ routes_to rows W sources k r
  unfolding routes_by routes_to
  routes_by_lem W sources k r h = ap (λ (near : ℕ). routes_of (flow_by rows near W sources r k).flow r) (near_linking r h)

  fans_by_lem : (W sources k : ℕ) (rs : List ℕ) → Each (λ (r : ℕ). r < 8) rs → fans_by rows nears W sources k rs ≡ fans_to rows W sources k rs
  unfolding fans_by fans_to
  fans_by_lem W sources k [] h = refl
  fans_by_lem W sources k (r ∷ rs) h = ap₂ (λ (a b : List Route). a ++ b) (routes_by_lem W sources k r (h r (Memᴰ.head refl))) (fans_by_lem W sources k rs (λ x m. h x (Memᴰ.tail m)))

  mesh_by_lem : (W : ℕ) (es : List (ℕ × ℕ)) → Each (λ (e : ℕ × ℕ). e.0 < 8) es → mesh_by rows nears W es ≡ mesh_of rows W es
  unfolding mesh_by mesh_of
  mesh_by_lem W [] h = refl
  mesh_by_lem W (e ∷ es) h = ap₂ (λ (a b : List Route). a ++ b) (routes_by_lem W (single e.1) 1 e.0 (h e (Memᴰ.head refl))) (mesh_by_lem W es (λ x m. h x (Memᴰ.tail m)))

  reports_by : (W k : ℕ) (ks : List ℕ) → Each (λ (r : ℕ). r < 8) ks → map (report_by nears W k) ks ≡ map (report_to links W k) ks
  unfolding report_by report_to
  reports_by W k [] h = refl
  reports_by W k (r ∷ rs) h =
      ap₂ (λ (a : Report) (l : List Report). a ∷ l)
      (ap (λ (near : ℕ). record { receiver = r; reporters = lowest_of k (meet W near) }) (so r (h r (Memᴰ.head refl))))
      (reports_by W k rs (λ x m. h x (Memᴰ.tail m)))

  pairs_one : (r : ℕ) → r < 8 → (ss : List ℕ) → Each (λ (e : ℕ × ℕ). e.0 < 8) (sources_for r ss)
  unfolding sources_for
  pairs_one r h [] = λ e m. elim m [ ]
  pairs_one r h (s ∷ ss) =
      let ih = pairs_one r h ss in
      by_cond (λ (l : List (ℕ × ℕ)). Each (λ (e : ℕ × ℕ). e.0 < 8) l) (eqb s r) (sources_for r ss) ((r, s) ∷ sources_for r ss)
      (λ e. ih)
      (λ e. each_cons (λ (e : ℕ × ℕ). e.0 < 8) (r, s) (sources_for r ss) h ih)

  pairs_below : (ss rs : List ℕ) → Each (λ (r : ℕ). r < 8) rs → Each (λ (e : ℕ × ℕ). e.0 < 8) (pairs_of ss rs)
  unfolding pairs_of
  pairs_below ss [] h = λ e m. elim m [ ]
  pairs_below ss (r ∷ rs) h =
      each_append (λ (e : ℕ × ℕ). e.0 < 8) (sources_for r ss) (pairs_of ss rs) (pairs_one r (h r (Memᴰ.head refl)) ss) (pairs_below ss rs (λ x m. h x (Memᴰ.tail m)))

  members_below : (s : ℕ) → Each (λ (r : ℕ). r < 8) (members s)
  members_below s r m = (members_in s r m).1

  pub block_by_lem : (n f F A S : ℕ) → block_by (rows_of (linked_in links)) nears (minus (full n) F) (f + 1) F A S ≡ block_with n f links F A S
  unfolding block_by block_with
  block_by_lem n f F A S =
      let W = minus (full n) F in
      let a = mesh_by_lem W (pairs_of (members S) (members S)) (pairs_below (members S) (members S) (members_below S)) in
      let b = fans_by_lem W S (f + 1) (members (minus W S)) (members_below (minus W S)) in
      let c = reports_by W (f + 1) (members F) (members_below F) in
      rw (a, b, c) refl
