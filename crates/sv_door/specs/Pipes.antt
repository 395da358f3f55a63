-- Doors in memory: their lists of calls that fail.
use Rattle.std.specs.Prelude.{◌≡◌, ◌≢◌, ℕ, ◌-◌, ◌^◌, ◌⊎◌, List, []}
use Rattle.sv_link.specs.Books.{IsNewBook}
use Rattle.sv_link.specs.Pipes.{IsListed, IsCopied}
use Rattle.sv_link.specs.declared.book.Book.{Book}
use Rattle.sv_link.specs.declared.pipe_end.PipeEnd.{PipeEnd}
use Rattle.sv_door.specs.Doors.{Passage}
use Rattle.sv_door.specs.declared.doors.EndMade.{EndMade}
use Rattle.sv_door.specs.declared.doors.EndMade.TheVariants as made
use Rattle.sv_door.specs.declared.pipe_door.PipeDoor.{PipeDoor}

-- The numbers of the calls that fail, of the door and of each end; how many calls of the door were made; and how many bytes a call of an end
-- moves at most.
pub record DoorPlans : Type 0 where
  pub calls : List ℕ
  pub ends : List ℕ
  pub calls_made : ℕ
  pub step : ℕ

-- nothing fails
pub record HasNoDoorPlan (plans : DoorPlans) : Type 0 where
  pub calls : plans.calls ≡ []
  pub ends : plans.ends ≡ []

module _ {R : Type 0} where
  abbrev pub plans_of : PipeDoor R → DoorPlans
  plans_of door =
      record {
        calls = door.calls.failing.items;
        ends = door.ends.failing.items;
        calls_made = door.calls.made;
        step = door.ends.step;
      }

  -- the door's ends: those that were given back, how many were made, how many are owed, and the count of faults
  abbrev pub book_of : PipeDoor R → Book Passage
  book_of door = door.book

  abbrev pub port_of : PipeDoor R → ℕ
  port_of door = door.port

  -- the door is at this port, and nothing fails there
  pub record IsSureOf (door : PipeDoor R) (port : ℕ) : Type 0 where
    pub here : port_of door ≡ port
    pub plans : HasNoDoorPlan (plans_of door)

  -- no end was made, no call was counted, nothing fails at this port, and ends move as much as they can
  pub record IsNewDoor (port : ℕ) (door : PipeDoor R) : Type 0 where
    pub book : IsNewBook (book_of door)
    pub sure : IsSureOf door port
    pub counts : (plans_of door).calls_made ≡ 0
    pub steps : (plans_of door).step ≡ 2 ^ 64 - 1

  -- a call at this port fails: it is listed, or the door is at another port
  abbrev pub IsTurnedAway : PipeDoor R → ℕ → Type 0
  IsTurnedAway door port = IsListed door.calls ⊎ (port ≢ port_of door)

  -- a new end fails at the calls that the door has for its ends
  abbrev pub HasEndPlan : PipeDoor R → EndMade (PipeEnd R) → Type 0
  HasEndPlan door (made.End end) = IsCopied door.ends end.plan
  HasEndPlan door _ = Unit {0}
