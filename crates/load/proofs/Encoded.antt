-- The operands in the bytes of blocks are those of their routes, in order.
--     operands_encoded     the operands in the bytes of a plan that encodes its blocks
--     routes_proper        the routes of proper blocks are proper
-- Assumes nothing.
use mathlib.Core.Path.{◌≡◌, refl, ap, ◌∙◌}
use mathlib.Core.Bool.{true}
use mathlib.Core.List.Memᴰ
use mathlib.Core.List.{List, [], ◌∷◌, ◌++◌, map, append_assoc, append-nil}
use Prim.Native.Nat.{ℕ}
use native.Mathlib.Omega.{arith}
use lib.ListN.{length, length-append}
use lib.Seq.{take_at, drop_at}
use Rattle.facts.specs.Lists.{Each}
use Rattle.route.specs.Commands.{width, is_cut}
use Rattle.rules.specs.Blocks.{Route, Report, Block, operand, encode_routes, encode_reports, encode_block, encode_blocks, encode_plan}
use Rattle.rules.proofs.Fans.{map_join}
use Rattle.rules.proofs.Groups.{each_append}
use Rattle.rules.proofs.Progress.{cut_backward}
use Rattle.load.specs.Load.{routes_of, plan_routes}
use Rattle.load.specs.Places.{has_route, operands_from, operands_in}
use Rattle.load.proofs.Commands.{route_wide, operands_next}
use Rattle.load.proofs.Proper.{Proper, ProperBlock}

-- a command at the front, with the bytes after it

route_ahead : (c : ℕ) (o rest : List ℕ) → has_route c ≡ true → length o ≡ 8 → operands_in (c ∷ (o ++ rest)) ≡ o ∷ operands_in rest
route_ahead c o rest h l =
    let s = c ∷ (o ++ rest) in
    let w = route_wide c h in
    let j = length-append o rest in
    let e = cut_backward s 0 9 w (omega arith) (omega arith) in
    operands_next s e ∙ rw (h, w, take_at o rest 8 l, drop_at o rest 8 l) refl

opening_ahead : (F A S : ℕ) (rest : List ℕ) → operands_in (0x10 ∷ F ∷ A ∷ S ∷ rest) ≡ operands_in rest
unfolding width has_route
opening_ahead F A S rest = operands_next (0x10 ∷ F ∷ A ∷ S ∷ rest) (cut_backward (0x10 ∷ F ∷ A ∷ S ∷ rest) 0 4 refl (omega arith) (omega arith))

report_ahead : (k N : ℕ) (rest : List ℕ) → operands_in (0x14 ∷ k ∷ N ∷ rest) ≡ operands_in rest
unfolding width has_route
report_ahead k N rest = operands_next (0x14 ∷ k ∷ N ∷ rest) (cut_backward (0x14 ∷ k ∷ N ∷ rest) 0 3 refl (omega arith) (omega arith))

end_ahead : operands_in (0x15 ∷ []) ≡ []
unfolding operands_in operands_from has_route width is_cut
end_ahead = refl

-- the commands of a block

module _ (n : ℕ) where
  routes_ahead : (c : ℕ) → has_route c ≡ true → (ps : List Route) → Each (Proper n) ps → (rest : List ℕ)
      → operands_in (encode_routes c ps ++ rest) ≡ map operand ps ++ operands_in rest
  unfolding encode_routes
  routes_ahead c h [] g rest = refl
  routes_ahead c h (p ∷ ps) g rest =
      let ih = routes_ahead c h ps (λ q m. g q (Memᴰ.tail m)) rest in
      let long = (g p (Memᴰ.head refl)).long in
      ap (λ (t : List ℕ). operands_in (c ∷ t)) (append_assoc (operand p) (encode_routes c ps) rest) ∙ route_ahead c (operand p) (encode_routes c ps ++ rest) h long ∙ ap (λ (t : List (List ℕ)). operand p ∷ t) ih

  reports_ahead : (rs : List Report) (rest : List ℕ) → operands_in (encode_reports rs ++ rest) ≡ operands_in rest
  unfolding encode_reports
  reports_ahead [] rest = refl
  reports_ahead (r ∷ rs) rest = report_ahead r.receiver r.reporters (encode_reports rs ++ rest) ∙ reports_ahead rs rest

  block_ahead : (b : Block) → ProperBlock n b → (rest : List ℕ) → operands_in (encode_block b ++ rest) ≡ map operand (routes_of b) ++ operands_in rest
  unfolding encode_block routes_of has_route
  block_ahead b g rest =
      let R = encode_reports b.reports in
      let outward = routes_ahead 0x13 refl b.outward g.outward (R ++ rest) in
      let among = routes_ahead 0x12 refl b.among g.among (encode_routes 0x13 b.outward ++ (R ++ rest)) in
      let inward = routes_ahead 0x11 refl b.inward g.inward (encode_routes 0x12 b.among ++ (encode_routes 0x13 b.outward ++ (R ++ rest))) in
      opening_ahead b.faults b.side b.quorum _ ∙ simp (append_assoc, inward, among, outward, reports_ahead, map_join operand)

  blocks_ahead : (bs : List Block) → Each (ProperBlock n) bs → (rest : List ℕ) → operands_in (encode_blocks bs ++ rest) ≡ map operand (plan_routes bs) ++ operands_in rest
  unfolding encode_blocks plan_routes
  blocks_ahead [] g rest = refl
  blocks_ahead (b ∷ bs) g rest =
      let here = block_ahead b (g b (Memᴰ.head refl)) (encode_blocks bs ++ rest) in
      let later = blocks_ahead bs (λ c m. g c (Memᴰ.tail m)) rest in
      simp (append_assoc, here, later, map_join operand)

  pub operands_encoded : (bs : List Block) → Each (ProperBlock n) bs → operands_in (encode_plan bs) ≡ map operand (plan_routes bs)
  unfolding encode_plan
  operands_encoded bs g = blocks_ahead bs g (0x15 ∷ []) ∙ rw (end_ahead, append-nil) refl

  pub routes_proper : (bs : List Block) → Each (ProperBlock n) bs → Each (Proper n) (plan_routes bs)
  unfolding routes_of plan_routes
  routes_proper [] g = λ p m. elim m [ ]
  routes_proper (b ∷ bs) g =
      let here = g b (Memᴰ.head refl) in
      let later = routes_proper bs (λ c m. g c (Memᴰ.tail m)) in
      each_append (Proper n) (b.inward ++ b.among ++ b.outward) (plan_routes bs)
      (each_append (Proper n) (b.inward ++ b.among) b.outward (each_append (Proper n) b.inward b.among here.inward here.among) here.outward)
      later
