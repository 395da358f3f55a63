-- A body without statements, by its count.
use Rattle.std.proofs.Common.{ℕ, ◌==◌, sym, ap, ◌∙◌}
use Rattle.sv_world.specs.Parts.{first, parts}
use Rattle.sv_looks.proofs.Blocks.{statements_counted}
use Rattle.sv_looks.proofs.looks.is_empty.Goals as goal

pub returns : goal.returns
returns c = ap (λ (n : ℕ). n == 0) (statements_counted c.block_head-count.result.0 (parts c.block_head-count.result.1.now) c.args.body.now (ap first (sym c.block_head-count.ensures.head ∙ c.nodes.ensures)))
