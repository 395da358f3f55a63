-- A line is taken.
use Rattle.sv_keys.proofs.Walk.{some_left, walk_over, walk_blank, walk_key, walk_wrong}
use Rattle.sv_keys.proofs.rows.rows_of.Goals as goal

pub returns-in-Wrong-clause-wrong : goal.returns-in-Wrong-clause-wrong
returns-in-Wrong-clause-wrong c = walk_wrong c.loop-rest.invariant c.cut.result.0.now c.cut.result.1.now c.cut.ensures.before c.cut.ensures.behind c.in-Wrong.ensures

pub loop-rest-preserved-in-Blank : goal.loop-rest-preserved-in-Blank
loop-rest-preserved-in-Blank c =
    walk_blank c.loop-rest.invariant c.cut.result.0.now c.cut.result.1.now c.cut.ensures.before c.cut.ensures.behind c.in-Blank.ensures
    (c.cut.ensures.less (some_left _ c.loop-rest-test.ensures))

pub loop-rest-preserved : goal.loop-rest-preserved
loop-rest-preserved c =
    let next = walk_key c.loop-rest.invariant c.cut.result.0.now c.cut.result.1.now c.cut.ensures.before c.cut.ensures.behind c.in-Key.row c.in-Key.ensures
    (c.cut.ensures.less (some_left _ c.loop-rest-test.ensures)) in
    rw c.in_ok-push-in-Key.ensures.items next

pub returns-clause-ok : goal.returns-clause-ok
returns-clause-ok c = walk_over c.loop-rest.invariant c.loop-rest-test.ensures
