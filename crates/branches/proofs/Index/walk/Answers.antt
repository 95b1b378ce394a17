-- A turn goes to the next row of the chain.
use Rattle.std.proofs.Common.{◌≡◌, ◌-◌, ◌*◌, ◌<◌, Bool, Some, cond, sym, ap, ◌∙◌, rules, arith}
use Rattle.rows.proofs.RowLaws.{row_before}
use Rattle.branches.proofs.WalkLaws.{walk_begins, walk_falls, walk_goes, walk_ends}
use Rattle.branches.proofs.Index.walk.Goals as goal
use Rattle.branches.proofs.Index.walk.Goals.{then-is_sought, else-is_sought}

pub loop-at-init : goal.loop-at-init
loop-at-init c L = walk_begins _ _ _ _ c.args.b c.requires.1.1.0 L

pub is_sought-requires : goal.is_sought-requires
is_sought-requires c =
    let l = c.loop-at in
    let b = (l.invariant c.requires.1.1.1).below in
    let h : l.at - 1 < c.args.n = omega arith in
    let r = row_before (2 * c.args.rows.now.w) h in
    (c.requires.1.0, omega arith)

pub overflow_add-at : goal.overflow_add-at
overflow_add-at c =
    let b = (c.loop-at.invariant c.requires.1.1.1).below in
    let r = c.requires.1.1.1.room in
    search rules

pub offset_bounds-self-self : goal.offset_bounds-self-self
offset_bounds-self-self c =
    let b = (c.loop-at.invariant c.requires.1.1.1).below in
    let r = c.requires.1.1.1.room in
    search rules

pub bounds-self-self : goal.bounds-self-self
bounds-self-self c =
    let b = (c.loop-at.invariant c.requires.1.1.1).below in
    let r = c.requires.1.1.1.room in
    omega arith

pub loop-at-smaller : goal.loop-at-smaller
loop-at-smaller c =
    let l = c.loop-at in
    let L = c.requires.1.1.1 in
    walk_falls _ _ _ _ _ c.requires.1.1.0 L l.at l.best c.loop-at-test.true (l.invariant L)

pub loop-at-preserved : goal.loop-at-preserved
loop-at-preserved c L =
    let l = c.loop-at in
    let taken : c.if-is_sought.best ≡ cond c.is_sought.result (Some (l.at - 1)) l.best =
    elim c.if-is_sought.branch [
      | then-is_sought w ↦ w.best-is ∙ ap (λ (t : Bool). cond t (Some (l.at - 1)) l.best) (sym w.if-is_sought.true)
      | else-is_sought w ↦ w.best-is ∙ ap (λ (t : Bool). cond t (Some (l.at - 1)) l.best) (sym w.if-is_sought.false)
    ] in
    rw (taken, c.is_sought.ensures) (walk_goes _ _ _ _ _ c.requires.1.1.0 L l.at l.best c.loop-at-test.true (l.invariant L))

pub returns : goal.returns
returns c =
    let l = c.loop-at in
    let z : l.at ≡ 0 = omega arith in
    record { found = λ L. walk_ends _ _ _ _ _ _ (l.invariant L) z }
