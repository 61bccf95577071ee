-- What docs/FORMATS.md asks of a plan, sentence by sentence, on servers and links.
--     MeetsRules n f links s   <-> s is the encoding of blocks that are the due ones, in order, each within the rules
use Rattle.std.specs.Prelude.{◌≡◌, ◌⊎◌, true, cond, List, [], ◌∷◌, ◌++◌, map, ℕ, suc, ◌+◌, ◌≤◌, ◌<◌, eqb, length, get_or, replicate}
use Rattle.facts.specs.Lists.{Each}
use Rattle.sets.specs.Sets.{In, Out, has, minus, within, full, size}
use Rattle.network.specs.Links.{Links, linked_in}
use Rattle.sets.specs.Members.{members}
use Rattle.plan.specs.Due.{DueBlock, due}
use Rattle.rules.specs.Blocks.{Route, source_of, receiver_of, Report, Block, encode_plan}

-- "It has at least two servers, none twice and none in F, each linked to the next." Its operand is eight bytes.
pub record IsRoute (n : ℕ) (links : Links) (F : ℕ) (p : Route) : Type 0 where
  pub two : 2 ≤ length p
  pub eight : length p ≤ 8
  pub servers : (i : ℕ) → i < length p → get_or p i 0 < n
  pub clear : (i : ℕ) → i < length p → Out (has F) (get_or p i 0)
  pub once : (i j : ℕ) → i < j → j < length p → get_or p i 0 ≡ get_or p j 0 → ⊥
  pub linked : (i : ℕ) → suc i < length p → linked_in links (get_or p i 0) (get_or p (suc i) 0) ≡ true

-- the routes p and q share nothing but the receiver, sources included
abbrev pub Separate : Route → Route → Type 0
Separate p q = (i j : ℕ) → i < length p → j < length q → get_or p i 0 ≡ get_or q j 0 → get_or p i 0 ≡ receiver_of p

-- any two routes to one receiver are separate
abbrev pub AllSeparate : List Route → Type 0
AllSeparate [] = Unit
AllSeparate (p ∷ ps) = Each (λ q. receiver_of q ≡ receiver_of p → Separate p q) ps × AllSeparate ps

-- each of the list, k times
unfoldable pub repeated : ℕ → List ℕ → List ℕ
repeated k [] = []
repeated k (r ∷ rs) = replicate k r ++ repeated k rs

-- "11 route, f+1 for each receiver of S−A, receivers ascending, from a source in A"; the same for 13
pub record Fan (n f : ℕ) (links : Links) (F sources receivers : ℕ) (ps : List Route) : Type 0 where
  pub order : map receiver_of ps ≡ repeated (f + 1) (members receivers)
  pub start : Each (λ p. In (has sources) (source_of p)) ps
  pub routes : Each (IsRoute n links F) ps
  pub separate : AllSeparate ps

-- each other server of the list as a source, with the receiver r
unfoldable pub sources_for : ℕ → List ℕ → List (ℕ × ℕ)
sources_for r [] = []
sources_for r (s ∷ ss) = cond (eqb s r) (sources_for r ss) ((r, s) ∷ sources_for r ss)

-- for each receiver of the list each other server as a source
unfoldable pub pairs_of : List ℕ → List ℕ → List (ℕ × ℕ)
pairs_of sources [] = []
pairs_of sources (r ∷ rs) = sources_for r sources ++ pairs_of sources rs

abbrev pub ends_of : Route → ℕ × ℕ
ends_of p = (receiver_of p, source_of p)

-- "12 route, one for each receiver in S ascending and each other member of S ascending as source"
pub record Mesh (n : ℕ) (links : Links) (F S : ℕ) (ps : List Route) : Type 0 where
  pub order : map ends_of ps ≡ pairs_of (members S) (members S)
  pub routes : Each (IsRoute n links F) ps

-- "N is exactly f+1 servers of V−F, each with a link to k"
pub record IsReport (n f : ℕ) (links : Links) (F : ℕ) (r : Report) : Type 0 where
  pub sound : within r.reporters (minus (full n) F) ≡ true
  pub exact : size r.reporters ≡ f + 1
  pub linked : (i : ℕ) → In (has r.reporters) i → linked_in links i r.receiver ≡ true

abbrev pub reports_to : Report → ℕ
reports_to r = r.receiver

-- a block that is the due one, within the rules
pub record InBlock (n f : ℕ) (links : Links) (d : DueBlock) (b : Block) : Type 0 where
  pub faults : b.faults ≡ d.faults
  pub side : (b.side ≡ d.part) ⊎ (b.side ≡ minus (minus (full n) d.faults) d.part)
  pub some : b.quorum ≡ 0 → ⊥
  pub inside : within b.quorum (minus (full n) b.faults) ≡ true
  pub inward : Fan n f links b.faults b.side (minus b.quorum b.side) b.inward
  pub among : Mesh n links b.faults b.quorum b.among
  pub outward : Fan n f links b.faults b.quorum (minus (minus (full n) b.faults) b.quorum) b.outward
  pub told : map reports_to b.reports ≡ members b.faults
  pub reports : Each (IsReport n f links b.faults) b.reports

-- the due blocks, one for one and in order
abbrev pub InOrder : ℕ → ℕ → Links → List DueBlock → List Block → Type 0
InOrder n f links [] [] = Unit
InOrder n f links [] (b ∷ bs) = ⊥
InOrder n f links (d ∷ ds) [] = ⊥
InOrder n f links (d ∷ ds) (b ∷ bs) = InBlock n f links d b × InOrder n f links ds bs

abbrev pub MeetsRules : ℕ → ℕ → Links → List ℕ → Type 0
MeetsRules n f links s = (length s ≤ 1048576) × (bs : List Block) × InOrder n f links (due n f) bs × (encode_plan bs ≡ s)
