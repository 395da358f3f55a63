-- Files that are lent to a site.
use Rattle.std.specs.Prelude.{◌≡◌, ℕ, List, Option}
use Rattle.std.proofs.Common.{refl, ◌∙◌}
use Rattle.std.specs.Borrow.{MutBor}

-- The same files are lent, and each has what it had.
pub record KeepsFiles {F : Type 0} (contents : F → List ℕ → Option (List ℕ)) (old new : MutBor F) : Type 0 where
  pub lent : new.ghost_name ≡ old.ghost_name
  pub same : (name : List ℕ) → contents new.now name ≡ contents old.now name

-- Files are kept where nothing is done, and through two steps that keep them.
pub keeps_itself : {F : Type 0} (contents : F → List ℕ → Option (List ℕ)) (files : MutBor F) → KeepsFiles contents files files
keeps_itself contents files = record { lent = refl; same = λ name. refl }

pub keeps_on : {F : Type 0} (contents : F → List ℕ → Option (List ℕ)) (first next last : MutBor F) → KeepsFiles contents first next
    → KeepsFiles contents next last → KeepsFiles contents first last
keeps_on contents first next last here there = record { lent = there.lent ∙ here.lent; same = λ name. there.same name ∙ here.same name }
