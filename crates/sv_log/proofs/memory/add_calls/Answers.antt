-- What is proved by hand of `add_calls`.
use Rattle.std.proofs.Common.{◌≡◌, ◌∙◌, ℕ, List, Option, Some, map, string_bytes, ap}
use Rattle.sv_bytes.specs.Stored.{contents_of}
use Rattle.sv_log.specs.Pictures.{seen_after}
use Rattle.sv_log.specs.Memory.{latest_first, call_of, target}
use Rattle.sv_log.specs.declared.calls.KeptCall.{KeptCall}
use Rattle.sv_log.proofs.Listed.{call_step, only_more, keeps_more}
use Rattle.sv_log.proofs.memory.add_calls.Goals as goal

pub loop-i-preserved : goal.loop-i-preserved
loop-i-preserved c =
    let p = seen_after (contents_of c.args.start.now) (latest_first c.args.calls.now) in
    let first = map string_bytes c.args.names.now.items in
    let old = map string_bytes c.loop-i.names.items in
    let new = map string_bytes c.add_call.new.names.items in
    let name = target (call_of c.index-calls-i.result.call) in
    record {
      keeps = keeps_more p first old new name c.in_ok-add_call.ensures c.loop-i.invariant.keeps;
      covers = call_step p first old new name c.in_ok-add_call.ensures c.args.calls.now c.loop-i.i c.index-calls-i.result c.loop-i-test.true (ap (λ (k : KeptCall). target (call_of k.call)) c.index-calls-i.is) c.loop-i.invariant.covers;
      only = only_more p first old new name c.in_ok-add_call.ensures c.loop-i.invariant.only;
    }
