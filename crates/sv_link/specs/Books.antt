-- What a net or a door keeps.
use Rattle.std.specs.Prelude.{◌≡◌, ◌+◌, ◌<◌, ◌^◌, []}
use Rattle.std.specs.Vec.{vec_len, vec_capacity}
use Rattle.sv_link.specs.declared.book.Book.{Book}

-- nothing was made, and no fault was counted
pub record IsNewBook {T : Type 0} (book : Book T) : Type 0 where
  pub kept : book.kept.items ≡ []
  pub made : book.made ≡ 0
  pub owed : book.owed ≡ 0
  pub faultless : book.faults.value ≡ 0

-- one more can be made: there is room to keep it, and its number can be counted
abbrev pub CanOpen : {T : Type 0} → Book T → Type 0
CanOpen book = (vec_len book.kept + book.owed < vec_capacity book.kept) × (book.made + 1 < 2 ^ 64)
