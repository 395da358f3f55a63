-- The turns of a scenario file.
use Rattle.std.specs.Prelude.{ℕ, zero, suc, cond, ◌==◌, List, [], ◌∷◌, Option, Some, None, Ok, decimal}
use Rattle.std.specs.Str.{bytes_eq}
use Rattle.serde_json.specs.Data.{Data}
use Rattle.serde_json.specs.Find.{as_str}
use Rattle.sv_world.specs.Limits.{most_turns}
use Rattle.sv_scenario.specs.declared.fault.ScenarioCause.TheVariants as causes
use Rattle.sv_scenario.specs.declared.scenario.Turn.{Turn}
use Rattle.sv_scenario.specs.declared.scenario.Turn.TheVariants as turns
use Rattle.sv_scenario.specs.Faults.{Read, ◌>>=◌, refuse, given, each}
use Rattle.sv_scenario.specs.Numbers.{list_within}

-- The number below a limit that these bytes are the decimal digits of.
abbrev pub number_below : ℕ → List ℕ → Option ℕ
number_below zero digits = None
number_below (suc n) digits = cond (bytes_eq (decimal n) digits) (Some n) (number_below n digits)

abbrev pub numbered : (ℕ → Turn) → ℕ → List ℕ → Read Turn
numbered turn limit digits = given causes.Kind (number_below limit digits) >>= λ n. Ok (turn n)

-- `c`, `s` or `t`, and the number of a client, a session or a client.
unfoldable pub turn_in : ℕ → ℕ → List ℕ → Read Turn
turn_in clients sessions [] = refuse causes.Kind
turn_in clients sessions (letter ∷ digits) =
    cond (letter == 99) (numbered turns.Client clients digits)
    (cond (letter == 115) (numbered turns.Session sessions digits)
    (cond (letter == 116) (numbered turns.Take clients digits)
    (refuse causes.Kind)))

unfoldable pub turn_of : ℕ → ℕ → Data → Read Turn
turn_of clients sessions d = given causes.Kind (as_str d) >>= turn_in clients sessions

unfoldable pub turns_of : ℕ → ℕ → Data → Read (List Turn)
turns_of clients sessions d = list_within 0 most_turns d >>= each (turn_of clients sessions) []
