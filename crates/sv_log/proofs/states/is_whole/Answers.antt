-- What is proved by hand of `is_whole`.
use Rattle.std.proofs.Common.{rules, ◌≡◌, ◌↔◌, ◌∙◌, ℕ, List, IsTrue, string_bytes, sym}
use Rattle.std.proofs.lemmas.Bool.{false≢true}
use Rattle.sv_log.specs.Chains.{sum_line}
use Rattle.sv_log.proofs.Sums.{short_no_state, sum_whole}
use Rattle.sv_log.proofs.states.is_whole.Goals as goal

pub returns-then-bytes-lt-SUM_LINE : goal.returns-then-bytes-lt-SUM_LINE
returns-then-bytes-lt-SUM_LINE c = ((λ t. absurd (false≢true t)), (λ whole. absurd (short_no_state c.args.bytes.now c.if-bytes-lt-SUM_LINE.true whole)))

pub returns : goal.returns
returns c =
    let before = c.split_at.result.0.now in
    let last = c.split_at.result.1.now in
    let line : c.as_bytes.result.now ≡ sum_line before = c.as_bytes.ensures.value ∙ c.in_ok-line.ensures in
    let to : IsTrue c.eq.result → last ≡ c.as_bytes.result.now = search rules in
    let from : last ≡ c.as_bytes.result.now → IsTrue c.eq.result = search rules in
    let both = sum_whole c.args.bytes.now before last c.split_at.ensures.front c.split_at.ensures.back in (
      (λ t. both.0 (to t ∙ line)),
      (λ whole. from (both.1 whole ∙ sym line)),
    )
