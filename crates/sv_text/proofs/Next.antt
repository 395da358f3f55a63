-- What the readers of one token see is the next token of what is left.
use Rattle.std.proofs.Common.{◌≡◌, ℤ, List, [], ◌∷◌, refl}
use Rattle.sv_world.specs.declared.world.ObjectId.{ObjectId}
use Rattle.sv_text.specs.declared.token.Lexeme.{Lexeme}
use Rattle.sv_text.specs.Ahead.{next_of}
use Rattle.sv_text.specs.Reading.{place_of, mark_of, front_of, front, cause_of, fault, unexpected, number_by, number_at, is_number_token, is_number_at, leaf_by, leaf_at, target_by, target_at}

pub place_is : (ts : List Lexeme) → place_of ts ≡ (next_of ts).place
place_is [] = refl
place_is (t ∷ ts) = refl

pub front_is : (ts : List Lexeme) → front ts ≡ front_of (next_of ts).glued (mark_of (next_of ts).token)
unfolding front
front_is [] = refl
front_is (t ∷ ts) = refl

pub unexpected_is : (ts : List Lexeme) → unexpected ts ≡ fault ts (cause_of (next_of ts).token)
unfolding unexpected
unexpected_is [] = refl
unexpected_is (t ∷ ts) = refl

pub number_at_is : (low high : ℤ) (ts : List Lexeme) → number_at low high ts ≡ number_by low high ts (next_of ts).glued (next_of ts).token
unfolding number_at unexpected
number_at_is low high [] = refl
number_at_is low high (t ∷ ts) = refl

pub is_number_at_is : (ts : List Lexeme) → is_number_at ts ≡ is_number_token (next_of ts).token
unfolding is_number_at
is_number_at_is [] = refl
is_number_at_is (t ∷ ts) = refl

pub leaf_at_is : (reads : List ObjectId) (ts : List Lexeme) → leaf_at reads ts ≡ leaf_by reads ts (next_of ts).glued (next_of ts).token
unfolding leaf_at unexpected
leaf_at_is reads [] = refl
leaf_at_is reads (t ∷ ts) = refl

pub target_at_is : (reads : List ObjectId) (ts : List Lexeme) → target_at reads ts ≡ target_by reads ts (next_of ts).token
unfolding target_at unexpected
target_at_is reads [] = refl
target_at_is reads (t ∷ ts) = refl
