-- Giving the ends of connections back.
use Rattle.std.specs.Prelude.{◌≡◌, ℕ, ◌+◌, ◌<◌, List, ◌++◌, map, length, Result, Ok, Err}
use Rattle.sv_link.specs.Ends.{Told, new_end}
use Rattle.sv_link.specs.declared.side.Side.TheVariants.{Server}
use Rattle.law_system.specs.Places.{EachPlace}
use Rattle.sv_threads.specs.declared.outcome.PlayFault.{PlayFault}
use Rattle.sv_threads.specs.declared.outcome.PlayFault.TheVariants as faults
use Rattle.sv_threads.specs.declared.tasks.Service.{Service}
use Rattle.sv_threads.specs.declared.tasks.Serviced.{Serviced}
use Rattle.sv_door.specs.Doors.{Passage, passage_of}

-- What a door tells of its ends: what was given back, how many were made, and how many of these are owed.
pub record Doorway : Type 0 where
  pub given : List Passage
  pub made : ℕ
  pub owed : ℕ

abbrev pub doorway : List Passage → ℕ → ℕ → Doorway
doorway given made owed = record { given = given; made = made; owed = owed }

-- Each end that was made was given back, in the order in which they were made.
pub record GaveAllBack (old new : Doorway) : Type 0 where
  pub passages : List Passage
  pub given : new.given ≡ old.given ++ passages
  pub numbers : EachPlace (λ k x. x.number ≡ old.made + k) passages
  pub made : new.made ≡ old.made + length passages
  pub owed : new.owed ≡ old.owed

-- What is kept of an end that was given back as it was made: nothing was sent over it, and nothing received.
abbrev pub unused_passage : ℕ → Passage
unused_passage number = passage_of (new_end number Server) 0

-- Each end that was made was given back as it was made: no session was served.
pub record GaveUnused (old new : Doorway) : Type 0 where
  pub back : GaveAllBack old new
  pub unused : EachPlace (λ k x. x ≡ unused_passage (old.made + k)) back.passages

-- Each end that was made was given back; and where no run of jobs is noted, each as it was made.
pub record GaveBack (ran_before ran_now : List ℕ) (old new : Doorway) : Type 0 where
  pub back : GaveAllBack old new
  pub unserved : ran_now ≡ ran_before → GaveUnused old new

-- None was given back, and no run of jobs is noted: threads that could not be started took the ends along.
pub record LostAll (ran_before ran_now : List ℕ) (old new : Doorway) : Type 0 where
  pub ends : ℕ
  pub given : new.given ≡ old.given
  pub made : new.made ≡ old.made + ends
  pub owed : new.owed ≡ old.owed + ends
  pub ran : ran_now ≡ ran_before

-- Each end that was made was given back, but where a thread could not be started. Where a connection could not be made no run of jobs is noted.
abbrev pub GivesBack : {A : Type 0} → List ℕ → List ℕ → Doorway → Doorway → Result A PlayFault → Type 0
GivesBack ran_before ran_now old new (Ok made) = GaveBack ran_before ran_now old new
GivesBack ran_before ran_now old new (Err faults.Link) = GaveBack ran_before ran_now old new × (ran_now ≡ ran_before)
GivesBack ran_before ran_now old new (Err faults.Start) = LostAll ran_before ran_now old new
GivesBack ran_before ran_now old new (Err faults.Memory) = GaveBack ran_before ran_now old new

module _ {E : Type 0} (told : E → Told) (faults : E → ℕ) where
  abbrev pub passage_kept : E → Passage
  passage_kept end = passage_of (told end) (faults end)

  -- what is kept of the ends of sessions that are to be served, and of those that were
  abbrev pub kept_unserved : {G : Type 0} → List (Service E G) → List Passage
  kept_unserved xs = map (λ (x : Service E _). passage_kept x.end) xs

  abbrev pub kept_served : List (Serviced E) → List Passage
  kept_served ys = map (λ (y : Serviced E). passage_kept y.end) ys

module _ {E : Type 0} (told : E → Told) where
  -- a door that made so many ends made these
  abbrev pub IsUnservedOf : {G : Type 0} → ℕ → Service E G → Type 0
  IsUnservedOf made x = (told x.end).pair < made

  abbrev pub IsServedOf : ℕ → Serviced E → Type 0
  IsServedOf made y = (told y.end).pair < made
