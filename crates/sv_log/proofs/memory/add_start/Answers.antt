-- What is proved by hand of `add_start`.
use Rattle.std.proofs.Common.{◌≡◌, ◌∙◌, ℕ, List, Option, Some, map, string_bytes, ap}
use Rattle.sv_bytes.specs.Stored.{contents_of}
use Rattle.sv_log.specs.Pictures.{seen_after}
use Rattle.sv_log.specs.Memory.{latest_first}
use Rattle.sv_log.proofs.Listed.{start_step, only_more}
use Rattle.sv_log.proofs.memory.add_start.Goals as goal

pub loop-i-preserved : goal.loop-i-preserved
loop-i-preserved c =
    let p = seen_after (contents_of c.args.start.now) (latest_first c.args.calls.now) in
    let first = map string_bytes c.args.names.now.items in
    let old = map string_bytes c.loop-i.names.items in
    let new = map string_bytes c.add_name.new.names.items in
    let named = ap (λ (n : List ℕ). Some n) (c.name.ensures ∙ ap (λ (s : List ℕ × List ℕ). s.0) c.index-start-i.is) in
    record {
      covers = start_step p first old new (Some c.name.result.now) c.in_ok-add_name.ensures c.args.start.now c.loop-i.i c.index-start-i.result c.loop-i-test.true named c.loop-i.invariant.covers;
      only = only_more p first old new (Some c.name.result.now) c.in_ok-add_name.ensures c.loop-i.invariant.only;
    }
