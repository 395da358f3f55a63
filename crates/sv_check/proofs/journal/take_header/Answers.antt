-- What is proved by hand of `take_header`.
use Rattle.std.proofs.Common.{rules, Bor, List, ◌≡◌, ℕ, length, refl}
use Rattle.std.proofs.lemmas.Result.{err_from_is_err_and}
use Rattle.sv_check.specs.Entering.{header_text, NoHeader}
use Rattle.sv_check.proofs.JournalLines.{no_header}
use Rattle.sv_check.proofs.JournalStops.{wrong_at}
use Rattle.sv_check.proofs.journal.take_header.Goals as goal

pub returns-in_err-rest-clause-wrong : goal.returns-in_err-rest-clause-wrong
returns-in_err-rest-clause-wrong c =
    let text = c.args.text.now in
    let p = err_from_is_err_and c.from_residual-in_err-rest.result c.from_residual-in_err-rest.ensures.1 in
    let line : c.as_bytes.result.now ≡ header_text c.in-Some.count = search rules in
    wrong_at (ℕ × Bor (List ℕ)) c.from_residual-in_err-rest.result p.0 c.in_err-rest.field-0.0 (length text) (λ (left : ℕ). (left ≡ length text) × NoHeader text) p.1 p.2 c.in_err-rest.ensures.wrong
    (refl, no_header text c.as_bytes.result.now c.in-Some.count c.in-Some.ensures line c.in_err-rest.ensures.differs)
