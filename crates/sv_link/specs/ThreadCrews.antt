-- Crews over the threads of the system.
use Rattle.std.specs.Prelude.{◌≡◌, ℕ, []}
use Rattle.sv_link.specs.declared.thread_crew.ThreadCrew.{ThreadCrew}
use Rattle.sv_link.specs.declared.thread_crew.FewCrew.{FewCrew}

-- nothing ran yet, and no fault was counted
pub record IsNew (crew : ThreadCrew) : Type 0 where
  pub ran : crew.ran.items ≡ []
  pub faultless : crew.faults.value ≡ 0

-- the same of a crew that refuses this start
pub record IsNewFew (refused : ℕ) (crew : FewCrew) : Type 0 where
  pub crew_is : IsNew crew.crew
  pub refuses : crew.refused ≡ refused
