-- How many items and members there are.
use Rattle.std.proofs.Common.{◌≡◌, suc, List, [], ◌∷◌, length, ◌≤◌, false, refl, ap, arith}
use Rattle.std.specs.Prelude.{String}
use Rattle.std.specs.declared.alloc.Global.{Global}
use Rattle.serde_json.specs.declared.value.Value.{Value}
use Rattle.serde_json.specs.View.{items_view, members_view}
use Rattle.sv_scenario.specs.Numbers.{count_items}
use Rattle.sv_scenario.specs.Scripts.{count_members, has_no_items}

pub count_items_is : (vs : List Value) → count_items (items_view vs) ≡ length vs
count_items_is [] = refl
count_items_is (v ∷ vs) = ap suc (count_items_is vs)

pub count_members_is : (ms : List (String Global × Value)) → count_members (members_view ms) ≡ length ms
count_members_is [] = refl
count_members_is (m ∷ ms) = ap suc (count_members_is ms)

pub some_left : (vs : List Value) → 1 ≤ length vs → has_no_items (items_view vs) ≡ false
some_left [] some = absurd (omega arith)
some_left (v ∷ vs) some = refl
