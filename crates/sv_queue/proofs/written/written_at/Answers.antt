-- What the check leaves to prove of `written_at`.
use Rattle.std.proofs.Common.{List, ap, sym, ◌∙◌, [], ◌∷◌, ◌++◌, get_or}
use Rattle.std.proofs.lemmas.Bool.{cond-true, cond-false, eq-eqb, ne_eqb}
use Rattle.sv_world.specs.declared.world.ObjectId.{ObjectId}
use Rattle.sv_world.specs.Control.{is_in}
use Rattle.sv_queue.specs.Written.{writes_before}
use Rattle.sv_queue.proofs.WrittenObjects.{writes_before-next, fresh_read, read_at}
use Rattle.sv_queue.proofs.written.written_at.Goals as goal

pub returns-then-action-slot-eq1-clause-next : goal.returns-then-action-slot-eq1-clause-next
returns-then-action-slot-eq1-clause-next c =
    let a = c.args.action.now in
    let n = c.args.slot in
    writes_before-next a n c.requires.slot
    ∙ ap (λ ys. writes_before a n ++ ys) (cond-true _ _ _ (eq-eqb _ 1 c.if-action-slot-eq1.true)
    ∙ ap (λ x. x ∷ []) (read_at a n (record { 0 = 0 }) c.requires.slot ∙ ap (λ (rs : List ObjectId). (get_or rs n (record { 0 = 0 })).0) (sym c.as_slice.ensures)))

pub returns-then-action-slot-eq1-clause-fresh : goal.returns-then-action-slot-eq1-clause-fresh
returns-then-action-slot-eq1-clause-fresh c =
    let a = c.args.action.now in
    let n = c.args.slot in
    ap (λ x. is_in x (writes_before a n)) (sym (read_at a n (record { 0 = 0 }) c.requires.slot ∙ ap (λ (rs : List ObjectId). (get_or rs n (record { 0 = 0 })).0) (sym c.as_slice.ensures)))
    ∙ fresh_read a n c.requires.ascending c.requires.slot

pub returns-else-action-slot-eq1-clause-next : goal.returns-else-action-slot-eq1-clause-next
returns-else-action-slot-eq1-clause-next c =
    writes_before-next c.args.action.now c.args.slot c.requires.slot
    ∙ ap (λ ys. writes_before c.args.action.now c.args.slot ++ ys) (cond-false _ _ _ (ne_eqb _ 1 c.if-action-slot-eq1.false))
