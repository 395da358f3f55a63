-- What is proved by hand of `bytes_after`.
use Rattle.std.proofs.Common.{◌-◌, arith, List, ℕ, take, sym, ◌∙◌, ap}
use Rattle.sv_bytes.specs.Stored.{contents_of}
use Rattle.sv_log.specs.Pictures.{seen_after}
use Rattle.sv_log.specs.Memory.{call_of, latest_first}
use Rattle.sv_log.proofs.Replays.{latest_at, seen_failed, seen_done, if_ok}
use Rattle.sv_log.proofs.replay.+bytes_after.Goals as goal

pub returns-then-not-last : goal.returns-then-not-last
returns-then-not-last t c =
    let start = contents_of c.args.start.now in
    let past = latest_first (take (c.args.count - 1) c.args.calls.now) in
    let k = c.index-calls-count.result in
    let last = latest_at c.args.calls.now c.args.count k c.if-count-eq0.false (omega (arith, c.requires)) c.index-calls-count.is in
    if_ok c.bytes_after.result _ _ c.bytes_after.ensures
    (λ file is. is ∙ seen_failed start past _ (call_of k.call) k.done last c.if-not-last.true c.args.name.now)

pub returns : goal.returns
returns t c =
    let start = contents_of c.args.start.now in
    let past = latest_first (take (c.args.count - 1) c.args.calls.now) in
    let k = c.index-calls-count.result in
    let last = latest_at c.args.calls.now c.args.count k c.if-count-eq0.false (omega (arith, c.requires)) c.index-calls-count.is in
    let before = ap (λ (n : List ℕ). seen_after start past n) (sym c.name_before.ensures) ∙ sym c.in_ok-old.ensures in
    if_ok c.changed.result _ _ c.changed.ensures
    (λ file is. is (seen_after start past) before ∙ seen_done start past _ (call_of k.call) k.done last c.if-not-last.false c.args.name.now)
