-- What is proved by hand of `text_length`.
use Rattle.std.proofs.Common.{ℕ, List, length, take, refl, sym, ◌∙◌, ap, subst, arith, length-drop}
use Rattle.std.proofs.lemmas.List.{take_rest}
use Rattle.sv_log.specs.Texts.{has_line, IsText}
use Rattle.sv_log.proofs.Mended.{text_more, text_all}
use Rattle.sv_log.proofs.mending.text_length.Goals as goal

pub loop-count-init : goal.loop-count-init
loop-count-init c = record { within = omega arith; text = refl }

pub loop-count-preserved : goal.loop-count-preserved
loop-count-preserved c = record {
  within = omega (arith, c.in-Some.ensures.1, ap length (take_rest c.args.bytes.now c.loop-count.end), length-drop c.loop-count.end c.args.bytes.now, c.loop-count.invariant.within);
  text = text_more c.args.bytes.now c.loop-count.end c.in-Some.count c.loop-count.invariant.text (subst (λ (l : List ℕ). IsText (take c.in-Some.count l)) (take_rest c.args.bytes.now c.loop-count.end) c.in-Some.ensures.2);
}

pub returns-clause-text : goal.returns-clause-text
returns-clause-text c = text_all c.args.bytes.now c.loop-count.end c.loop-count.invariant.text (ap has_line (sym (take_rest c.args.bytes.now c.loop-count.end)) ∙ c.in_default.ensures)
