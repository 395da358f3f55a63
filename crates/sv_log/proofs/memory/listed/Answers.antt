-- What is proved by hand of `listed`.
use Rattle.std.proofs.Common.{◌⊎◌, ⊎_elim, ℕ, List, Contains, IsSome, map, string_bytes, String, subst}
use Rattle.std.specs.declared.alloc.Global.{Global}
use Rattle.sv_bytes.specs.Stored.{contents_of}
use Rattle.sv_log.specs.Pictures.{seen_after}
use Rattle.sv_log.specs.Memory.{latest_first}
use Rattle.sv_log.proofs.Firsts.{contains_none}
use Rattle.sv_log.proofs.Listed.{lists_all}
use Rattle.sv_log.proofs.memory.listed.Goals as goal

pub returns : goal.returns
returns c =
    let p = seen_after (contents_of c.args.start.now) (latest_first c.args.calls.now) in
    let mid = map string_bytes c.add_start.new.names.items in
    let starts = c.in_ok-add_start.ensures in
    let calls = c.in_ok-add_calls.ensures in
    lists_all c.args.start.now c.args.calls.now mid (map string_bytes c.add_calls.new.names.items)
    (λ n has. ⊎_elim (λ (h : Contains (map string_bytes c.new-names.result.items) n). absurd (contains_none n (subst (λ (xs : List (String Global)). Contains (map string_bytes xs) n) c.new-names.ensures.items h)))
    (λ (some : IsSome (p n)). some) (starts.only n has))
    starts.has calls.keeps calls.has calls.only
