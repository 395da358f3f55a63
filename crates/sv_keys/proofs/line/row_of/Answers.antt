-- A text that has no digest, or something behind it, is no key.
use Rattle.std.proofs.Common.{◌≡◌, ℕ, List, None, subst, sym}
use Rattle.std.proofs.lemmas.Bool.{true≢false}
use Rattle.std.specs.Result.{result_ok}
use Rattle.hex.specs.Hex.{decode_sized}
use Rattle.sv_keys.proofs.Numbers.{no_digest}
use Rattle.sv_keys.proofs.line.row_of.Goals as goal

pub returns-in_err-digest-clause-none : goal.returns-in_err-digest-clause-none
returns-in_err-digest-clause-none c =
    rw c.from_residual-in_err-digest.ensures (no_digest c.args.text.now c.cut.result.1.now c.cut.ensures.behind
    (subst (λ (xs : List ℕ). None ≡ result_ok (decode_sized xs 32)) c.cut_at.ensures.before c.in_err-digest.ensures))

pub returns-then-not-is_blank-clause-none : goal.returns-then-not-is_blank-clause-none
returns-then-not-is_blank-clause-none c =
    λ row r. true≢false (sym (c.if-not-is_blank.ensures.1 (rw c.cut_at.ensures.behind (rw c.cut.ensures.behind r.rest))))
