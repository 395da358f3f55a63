-- The one walk answers as the five tests do.
use Rattle.std.proofs.Common.{◌≡◌, ◌≤◌, List, refl, sym, ap, ◌∙◌, subst, arith}
use Rattle.sv_world.specs.Faults.{has_slots, sets_in_mask, has_attrs, is_too_large, is_too_deep}
use Rattle.sv_world.specs.Parts.{Part, Block, first, parts}
use Rattle.sv_world.specs.PartTrees.{part_nodes, part_depth, fits}
use Rattle.sv_world.specs.Trees.{body_nodes, body_depth}
use Rattle.sv_world.specs.declared.fits.Limits.{Limits}
use Rattle.sv_world.specs.declared.node.Node.{Node}
use Rattle.sv_world.proofs.Sound.{sound, unsound}
use Rattle.sv_world.proofs.check.has_sound_body.Goals as goal

pub returns-in-Some : goal.returns-in-Some
unfolding has_slots sets_in_mask has_attrs is_too_large is_too_deep
returns-in-Some c =
    let body = c.args.action.now.body in
    let limits : Limits = record { reads = c.len.result; mask = c.args.action.now.mask; attrs = c.args.shape.attrs } in
    let whole : first (parts c.new-nodes.result) ≡ Block c.args.action.now.body = ap (λ (ns : List Node). first (parts ns)) c.new-nodes.ensures ∙ ap first c.nodes.ensures in
    sound limits _ body (body_nodes body) (body_depth body) c.len.ensures
    (sym (ap (fits limits) whole) ∙ c.in-Some.ensures.fits)
    (omega (arith, ap part_nodes whole, c.in-Some.ensures.nodes))
    (omega (arith, ap part_depth whole, c.in-Some.ensures.depth))

pub returns-in-None : goal.returns-in-None
unfolding has_slots sets_in_mask has_attrs is_too_large is_too_deep
returns-in-None c =
    let body = c.args.action.now.body in
    let limits : Limits = record { reads = c.len.result; mask = c.args.action.now.mask; attrs = c.args.shape.attrs } in
    let whole : first (parts c.new-nodes.result) ≡ Block c.args.action.now.body = ap (λ (ns : List Node). first (parts ns)) c.new-nodes.ensures ∙ ap first c.nodes.ensures in
    unsound limits _ body (body_nodes body) (body_depth body) c.len.ensures (λ e few shallow.
    c.in-None.ensures.refuses refl (ap (fits limits) whole ∙ e) (subst (λ (p : Part). part_nodes p ≤ 64) (sym whole) few) (subst (λ (p : Part). part_depth p ≤ 8) (sym whole) shallow))
