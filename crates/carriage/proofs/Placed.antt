-- Where the routes and reports of a block stand in its bytes, for the block of an opening command that the code has read.
--     fault_is, ..      F, A and S of the decoded block
--     block_inward      the routes of 11; block_among, block_outward, block_reports: the others
--     inward_long       how many there are
--     block_bytes       how many bytes the block takes; block_fits: they are there
--     commands_low      so there are not many
--     inward_servers    the routes name servers
--     reports_few       there are at most eight reports
-- Assumes nothing.
use mathlib.Core.Path.{◌≡◌, refl, sym, ap, ◌∙◌}
use mathlib.Core.List.{List}
use Prim.Native.Nat.{ℕ, ◌+◌, ◌*◌, ◌≤◌}
use native.Mathlib.Omega.{arith}
use lib.ListN.{length, get_or}
use Rattle.sets.specs.Sets.{size}
use Rattle.sets.proofs.Counts.{size_le}
use Rattle.rules.specs.Blocks.{routes_at, reports_at, inward_due, among_due, outward_due, decode_block, length_of}
use Rattle.facts.specs.Lists.{Each}
use Rattle.rules.proofs.Groups.{routes_length}
use Rattle.rules.proofs.Reports.{reports_length}
use Rattle.carriage.specs.declared.opening.Opening.{Opening}
use Rattle.carriage.specs.Openings.{Servers, ReportOf, Opens, Ready, block_at, RoutesThere, ReportsThere}

-- F, A and S of the decoded block
module _ (o : Opening) (s : List ℕ) (h : Opens o.n o.f s o) where
  pub fault_is : (block_at o s).faults ≡ o.fault
  unfolding decode_block
  fault_is = sym h.fault

  pub side_is : (block_at o s).side ≡ o.side
  unfolding decode_block
  side_is = sym h.side

  pub quorum_is : (block_at o s).quorum ≡ o.quorum
  unfolding decode_block
  quorum_is = sym h.quorum

module _ (o : Opening) (s : List ℕ) (r : Ready o s) where
  inward_due_lem : o.inward ≡ inward_due o.f (get_or s 2 0) (get_or s 3 0)
  inward_due_lem = let a = r.opens.side in let b = r.opens.quorum in let e = r.opens.inward in rw (a, b) at e

  among_due_lem : o.among ≡ among_due (get_or s 3 0)
  among_due_lem = let b = r.opens.quorum in let e = r.opens.among in rw b at e

  outward_due_lem : o.outward ≡ outward_due o.n o.f (get_or s 1 0) (get_or s 3 0)
  outward_due_lem = let a = r.opens.fault in let b = r.opens.quorum in let e = r.opens.outward in rw (a, b) at e

  pub block_inward : (block_at o s).inward ≡ routes_at s 4 o.inward
  unfolding decode_block
  block_inward = ap (routes_at s 4) (sym inward_due_lem)

  pub block_among : (block_at o s).among ≡ routes_at s (4 + 9 * o.inward) o.among
  unfolding decode_block
  block_among = let a = inward_due_lem in let b = among_due_lem in rw (← a, ← b) refl

  pub block_outward : (block_at o s).outward ≡ routes_at s (4 + 9 * (o.inward + o.among)) o.outward
  unfolding decode_block
  block_outward =
      let a = inward_due_lem in
      let b = among_due_lem in
      let c = outward_due_lem in
      let z : 4 + 9 * o.inward + 9 * o.among ≡ 4 + 9 * (o.inward + o.among) = omega arith in
      rw (← a, ← b, ← c) (ap (λ (at : ℕ). routes_at s at o.outward) z)

  pub block_reports : (block_at o s).reports ≡ reports_at s (4 + 9 * (o.inward + o.among + o.outward)) o.reports
  unfolding decode_block
  block_reports =
      let a = inward_due_lem in
      let b = among_due_lem in
      let c = outward_due_lem in
      let d : o.reports ≡ size (get_or s 1 0) = r.opens.reports ∙ ap size r.opens.fault in
      let z : 4 + 9 * o.inward + 9 * o.among + 9 * o.outward ≡ 4 + 9 * (o.inward + o.among + o.outward) = omega arith in
      rw (← a, ← b, ← c, ← d) (ap (λ (at : ℕ). reports_at s at o.reports) z)

  pub inward_long : length (block_at o s).inward ≡ o.inward
  inward_long = ap length block_inward ∙ routes_length s 4 o.inward

  pub among_long : length (block_at o s).among ≡ o.among
  among_long = ap length block_among ∙ routes_length s (4 + 9 * o.inward) o.among

  pub outward_long : length (block_at o s).outward ≡ o.outward
  outward_long = ap length block_outward ∙ routes_length s (4 + 9 * (o.inward + o.among)) o.outward

  pub reports_are : length (block_at o s).reports ≡ o.reports
  reports_are = ap length block_reports ∙ reports_length s (4 + 9 * (o.inward + o.among + o.outward)) o.reports

  pub block_bytes : length_of (block_at o s) ≡ 4 + 9 * (o.inward + o.among + o.outward) + 3 * o.reports
  unfolding length_of
  block_bytes = let a = inward_long in let b = among_long in let c = outward_long in let d = reports_are in omega arith

  pub block_fits : 4 + 9 * (o.inward + o.among + o.outward) + 3 * o.reports ≤ length s
  block_fits = let h = r.readable.fits in let e = block_bytes in omega arith

  pub commands_low : o.inward + o.among + o.outward + o.reports ≤ 1048576
  commands_low = let l = block_fits in let h = r.short in omega arith

  pub inward_servers : Each Servers (routes_at s 4 o.inward)
  inward_servers = let h = r.readable.inward in rw block_inward at h

  pub among_servers : Each Servers (routes_at s (4 + 9 * o.inward) o.among)
  among_servers = let h = r.readable.among in rw block_among at h

  pub outward_servers : Each Servers (routes_at s (4 + 9 * (o.inward + o.among)) o.outward)
  outward_servers = let h = r.readable.outward in rw block_outward at h

  pub reports_servers : Each (ReportOf (o.f + 1)) (reports_at s (4 + 9 * (o.inward + o.among + o.outward)) o.reports)
  reports_servers = let h = r.readable.reports in rw block_reports at h

  -- all their bytes are there, and name servers

  pub inward_there : RoutesThere s 4 o.inward
  inward_there = let l = block_fits in record { fits = omega arith; short = r.short; servers = inward_servers }

  pub among_there : RoutesThere s (4 + 9 * o.inward) o.among
  among_there = let l = block_fits in record { fits = omega arith; short = r.short; servers = among_servers }

  pub outward_there : RoutesThere s (4 + 9 * (o.inward + o.among)) o.outward
  outward_there = let l = block_fits in record { fits = omega arith; short = r.short; servers = outward_servers }

  pub reports_there : ReportsThere s (4 + 9 * (o.inward + o.among + o.outward)) o.reports (o.f + 1)
  reports_there = let l = block_fits in let f = r.bound in record { fits = omega arith; short = r.short; few = omega arith; told = reports_servers }

  pub reports_few : o.reports ≤ 8
  reports_few = let a = size_le o.fault in let b = r.opens.reports in omega arith
