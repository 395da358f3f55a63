-- Objects by their numbers.
use Rattle.std.proofs.Common.{◌≡◌, List, [], ◌∷◌, map, refl, ap}
use Rattle.sv_world.specs.declared.world.ObjectId.{ObjectId}
use Rattle.sv_world.specs.Sets.{object_numbered, numbers_of}

pub objects_back : (os : List ObjectId) → map object_numbered (numbers_of os) ≡ os
objects_back [] = refl
objects_back (o ∷ os) = ap (λ (xs : List ObjectId). o ∷ xs) (objects_back os)
