-- What is proved by hand of `Served::serve_all`.
use Rattle.std.proofs.Common.{rules, ◌≡◌, ℕ, true, drop, ap, ◌∙◌}
use Rattle.sv_check.proofs.JournalLines.{serving_more}
use Rattle.sv_check.proofs.journal.Served.serve_all.Goals as goal

pub loop-preserved : goal.loop-preserved
loop-preserved c =
    let so : c.in_ok-serve.field-0 ≡ true = search rules in
    serving_more c.args.scenario.now c.loop.self c.serve.new.self c.args.text.now c.loop.rest.now c.split_at.result.1.now c.loop.counter c.in_ok-serve.field-0 c.loop.invariant c.in_ok-serve.ensures.served
    so c.in_ok-serve.ensures.told (c.split_at.ensures.back ∙ ap (λ (n : ℕ). drop n c.loop.rest.now) c.line_length.ensures.width)
