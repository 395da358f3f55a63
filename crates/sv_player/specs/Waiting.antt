-- What becomes of requests that are posted.
use Rattle.std.specs.Prelude.{ℕ, List}
use Rattle.sv_link.specs.Ends.{Told}
use Rattle.sv_link.specs.declared.ends.Sent.{Sent}
use Rattle.sv_link.specs.declared.ends.Sent.TheVariants as answers
use Rattle.sv_player.specs.Carried.{Posted, PostedPart}

-- these bytes were put behind what waited; or sending ended early
abbrev pub PutBehind : Sent → Told → List ℕ → List ℕ → Told → List ℕ → Type 0
PutBehind answers.Whole old waiting more new left = Posted old waiting more new left
PutBehind answers.Failed old waiting more new left = PostedPart old waiting more new
PutBehind answers.Memory old waiting more new left = PostedPart old waiting more new
