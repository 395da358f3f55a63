-- What was read of a file.
use Rattle.std.proofs.Common.{◌≡◌, ◌⊎◌, ℕ, List, take, Option, Some, None}
use Rattle.std.specs.Prelude.{IfSome, IsErrAnd, Result, Ok, Err}
use Rattle.sv_scenario.specs.declared.fault.ScenarioFault.{ScenarioFault}
use Rattle.sv_scenario.specs.declared.scenario.Scenario.{Scenario}
use Rattle.sv_scenario.specs.Scenarios.{scenario_of}
use Rattle.sv_ending.specs.declared.ending.Ending.{Ending}
use Rattle.sv_ending.specs.declared.ending.Ending.TheVariants as endings
use Rattle.sv_ending.specs.Reading.{read_limit, held_by_file, IsFileFront, IsRead, IsRefused, IsNoScenario, HoldsScenario}
use Rattle.sv_ending.specs.Statuses.{Counts, Raises, IsGiven, IsScenarioRead, IsUnread, ending_of}
use Rattle.sv_ending.proofs.Counts.{came}

-- ---- Reading

unread : (held : Option (List ℕ)) (e : Ending) → IsUnread e → IsScenarioRead held (Err e)
unread held endings.File u = tt
unread held endings.Memory u = tt
unread held endings.Done u = absurd u
unread held endings.Words u = absurd u
unread held (endings.Scenario line) u = absurd u
unread held endings.Start u = absurd u
unread held endings.Link u = absurd u
unread held endings.Out u = absurd u
unread held endings.Range u = absurd u

pub unread_by : (held : Option (List ℕ)) (r : Result Scenario Ending) (e : Ending) → IsErrAnd r (λ x. x ≡ e) → IsUnread e → IsScenarioRead held r
unread_by held r e by u = rw (came r e by) (unread held e u)

pub given_read : (held : Option (List ℕ)) (bytes : List ℕ) (r : Result Scenario Ending) → IsFileFront held bytes → IsGiven bytes r → IsScenarioRead held r
given_read held bytes (Ok scenario) front g = (record { bytes = bytes; front = front; read = g.0 }, g.1)
given_read held bytes (Err (endings.Scenario line)) front g = record { bytes = bytes; front = front; fault = g.fault; faulty = g.faulty; told = g.told }
given_read held bytes (Err endings.Memory) front g = tt
given_read held bytes (Err endings.Done) front g = absurd g
given_read held bytes (Err endings.Words) front g = absurd g
given_read held bytes (Err endings.File) front g = absurd g
given_read held bytes (Err endings.Start) front g = absurd g
given_read held bytes (Err endings.Link) front g = absurd g
given_read held bytes (Err endings.Out) front g = absurd g
given_read held bytes (Err endings.Range) front g = absurd g

-- What bytes are tells of no fault.
pub given_raises : (bytes : List ℕ) (r : Result Scenario Ending) → IsGiven bytes r → (before now : Counts) → now ≡ before → Raises before now (ending_of r)
given_raises bytes (Ok scenario) g before now same = same
given_raises bytes (Err (endings.Scenario line)) g before now same = same
given_raises bytes (Err endings.Memory) g before now same = same
given_raises bytes (Err endings.Done) g before now same = absurd g
given_raises bytes (Err endings.Words) g before now same = absurd g
given_raises bytes (Err endings.File) g before now same = absurd g
given_raises bytes (Err endings.Start) g before now same = absurd g
given_raises bytes (Err endings.Link) g before now same = absurd g
given_raises bytes (Err endings.Out) g before now same = absurd g
given_raises bytes (Err endings.Range) g before now same = absurd g

pub given_not_file : (bytes : List ℕ) (r : Result Scenario Ending) → IsGiven bytes r → r ≡ Err endings.File → ⊥
given_not_file bytes r g s = rw s at g

-- ---- What was read, and what the file holds

pub both : (scenario : Scenario) (fault : ScenarioFault) (bytes : List ℕ) → scenario_of bytes ≡ Ok scenario → scenario_of bytes ≡ Err fault → ⊥
both scenario fault bytes e f = cc

pub same_scenario : (x y : Scenario) (bytes : List ℕ) → scenario_of bytes ≡ Ok x → scenario_of bytes ≡ Ok y → x ≡ y
same_scenario x y bytes e f = cc

-- A scenario was read only where the file does not hold something else.
pub read_is : (held : Option (List ℕ)) (P : Type 0) (scenario : Scenario) → IsRead held scenario → IfSome held (λ all. IsNoScenario (take read_limit all) → P)
read_is None P scenario r = tt
read_is (Some all) P scenario r = λ none.
    let faulty : scenario_of r.bytes ≡ Err none.fault = rw r.front none.faulty in
    absurd (both scenario none.fault r.bytes r.read faulty)

-- What was refused is no scenario.
pub holds_none : (held : Option (List ℕ)) (P : Type 0) (line : List ℕ) → IsRefused held line → HoldsScenario held → P
holds_none None P line r h = absurd h
holds_none (Some all) P line r h =
    let read : scenario_of r.bytes ≡ Ok h.scenario = rw r.front h.read in
    absurd (both h.scenario r.fault r.bytes read r.faulty)

-- The statuses where the file holds no scenario.
abbrev pub Faulty : ℕ → Type 0
Faulty n = (n ≡ 3) ⊎ (n ≡ 4) ⊎ (n ≡ 8)

-- This holds whatever the file holds.
pub always : (P : Type 0) (Q : List ℕ → Type 0) (held : Option (List ℕ)) → P → IfSome held (λ all. Q all → P)
always P Q None p = tt
always P Q (Some all) p = λ q. p

-- Where no file is named, nothing is held.
pub unheld : (P : List ℕ → Type 0) (contents : List ℕ → Option (List ℕ)) (named : Option (List ℕ)) → named ≡ None → IfSome (held_by_file contents named) P
unheld P contents None n = tt
unheld P contents (Some name) n = absurd cc

pub unnamed : (contents : List ℕ → Option (List ℕ)) (named : Option (List ℕ)) → named ≡ None → HoldsScenario (held_by_file contents named) → ⊥
unnamed contents None n can = can
unnamed contents (Some name) n can = cc
