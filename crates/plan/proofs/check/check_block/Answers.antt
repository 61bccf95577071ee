-- The tests of a block's opening, in their order. Assumes nothing.
use mathlib.Core.Path.{◌∙◌}
use native.Mathlib.Omega.{arith}
use Rattle.std.proofs.lemmas.Result.{err_from_is_err_and}
use Rattle.route.specs.Commands.{width}
use Rattle.plan.specs.Check.{check_block}
use Rattle.plan.proofs.Parts.{block_strange, block_side, block_empty, block_outside, block_rest}
use Rattle.plan.proofs.check.check_block.Goals as goal
use Rattle.plan.proofs.check.check_block.Goals.{then-block-site-via-then-block-site, then-block-site-via-else-block-site+then-not-is_side, then-quorum-eq0-via-then-quorum-eq0, then-quorum-eq0-via-else-quorum-eq0+then-not-within}

pub returns-in_err-due_here : goal.returns-in_err-due_here
unfolding check_block
returns-in_err-due_here c =
    let p = err_from_is_err_and c.from_residual.result c.from_residual.ensures.1 in
    rw (p.1, p.2) (c.in_err-due_here.ensures.gives _)

pub bounds-block-1 : goal.bounds-block-1
unfolding width
bounds-block-1 c = let l = c.in_ok-due_here.ensures.whole in omega arith

pub bounds-block-2 : goal.bounds-block-2
unfolding width
bounds-block-2 c = let l = c.in_ok-due_here.ensures.whole in omega arith

pub bounds-block-3 : goal.bounds-block-3
unfolding width
bounds-block-3 c = let l = c.in_ok-due_here.ensures.whole in omega arith

pub returns : goal.returns
returns c =
    c.check_rest.ensures
    ∙ block_rest c.args.site.now _ _ c.in_ok-due_here.ensures.gives c.if-block-site.false c.is_side.ensures c.if-not-is_side.false c.if-quorum-eq0.false c.within.ensures c.if-not-within.false

pub returns-then-block-site : goal.returns-then-block-site
returns-then-block-site c = elim c.then-block-site.branch [
  | then-block-site-via-then-block-site w ↦ block_strange c.args.site.now _ _ c.in_ok-due_here.ensures.gives w.if-block-site.true
  | then-block-site-via-else-block-site+then-not-is_side w ↦ block_side c.args.site.now _ _ c.in_ok-due_here.ensures.gives w.if-block-site.false w.is_side.ensures w.if-not-is_side.true
]

pub returns-then-quorum-eq0 : goal.returns-then-quorum-eq0
returns-then-quorum-eq0 c = elim c.then-quorum-eq0.branch [
  | then-quorum-eq0-via-then-quorum-eq0 w ↦ block_empty c.args.site.now _ _ c.in_ok-due_here.ensures.gives c.if-block-site.false c.is_side.ensures c.if-not-is_side.false w.if-quorum-eq0.true
  | then-quorum-eq0-via-else-quorum-eq0+then-not-within w ↦
      block_outside c.args.site.now _ _ c.in_ok-due_here.ensures.gives c.if-block-site.false c.is_side.ensures c.if-not-is_side.false w.if-quorum-eq0.false w.within.ensures w.if-not-within.true
]
