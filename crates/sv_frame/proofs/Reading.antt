-- What a read that gave no bytes leaves.
use Rattle.std.proofs.Common.{◌≡◌, ℕ, List, refl}
use Rattle.sv_link.specs.declared.ends.EndRead.{EndRead}
use Rattle.sv_link.specs.declared.ends.EndRead.TheVariants as read
use Rattle.sv_link.specs.Ends.{Told, EndReads}
use Rattle.sv_frame.specs.Answers.{ReadsInto}

pub nothing_came : (answer : EndRead) (old new : Told) (into before after : List ℕ) → ((n : ℕ) → answer ≡ read.Got n → ⊥) → EndReads old into answer new → after ≡ before → ReadsInto old before answer new after
nothing_came (read.Got n) old new into before after never told same = absurd (never n refl)
nothing_came read.Ended old new into before after never told same = (told, same)
nothing_came read.Failed old new into before after never told same = (told, same)
nothing_came read.Memory old new into before after never told same = (told, same)
