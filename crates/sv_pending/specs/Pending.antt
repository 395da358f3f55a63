-- A client's pending actions, what they would change, and the views of a client that has them, on plain lists.
use Rattle.std.specs.Prelude.{ℕ, ℤ, ◌==◌, List, [], ◌∷◌, ◌++◌, Option, Some, None, option_map, option_and_then, if◌then◌else◌}
use Rattle.sv_world.specs.declared.action.Action.{Action}
use Rattle.sv_world.specs.Control.{is_in}
use Rattle.sv_world.specs.Sets.{read_set, write_set}
use Rattle.sv_eval.specs.Evaluation.{effect_of}
use Rattle.sv_versions.specs.Held.{Held, latest}

-- An action that was made and is not settled yet, the client's number for it, and its kept result: the values that it would give its
-- written objects, or none where what it reads is not all known.
pub record PendingAction : Type 0 where
  pub seq : ℕ
  pub action : Action
  pub kept : Option (List (List ℤ))

-- What pending actions say of an object: none of them writes it; the last one that does keeps no result; or it keeps this value.
pub data Overlaid : Type 0 where
  Unwritten : Overlaid
  Unknown : Overlaid
  KeptValues : List ℤ → Overlaid

-- The value that stands beside an object.
abbrev pub value_beside : List ℕ → List (List ℤ) → ℕ → List ℤ
value_beside (o ∷ os) (v ∷ vs) x = if o == x then v else value_beside os vs x
value_beside _ _ x = []

abbrev pub kept_for : PendingAction → Option (List (List ℤ)) → ℕ → Overlaid
kept_for p (Some values) x = KeptValues (value_beside (write_set p.action) values x)
kept_for p None x = Unknown

-- The later of two, if it writes the object.
abbrev pub last_of : Overlaid → Overlaid → Overlaid
last_of earlier Unwritten = earlier
last_of earlier Unknown = Unknown
last_of earlier (KeptValues v) = KeptValues v

abbrev pub overlay_of : List PendingAction → ℕ → Overlaid
overlay_of [] x = Unwritten
overlay_of (p ∷ ps) x = last_of (if is_in x (write_set p.action) then kept_for p p.kept x else Unwritten) (overlay_of ps x)

abbrev pub view_under : Overlaid → Option (List ℤ) → Option (List ℤ)
view_under Unwritten stable = stable
view_under Unknown stable = None
view_under (KeptValues v) stable = Some v

-- The view of an object: the last pending action that writes it decides, and without one the value held at the greatest position.
abbrev pub view_over : List Held → List PendingAction → ℕ → Option (List ℤ)
view_over held pending x = view_under (overlay_of pending x) (latest held x)

-- The views of objects, if all are known.
abbrev pub views_over : List Held → List PendingAction → List ℕ → Option (List (List ℤ))
views_over held pending [] = Some []
views_over held pending (x ∷ xs) =
    option_and_then (λ v. option_map (λ vs. v ∷ vs) (views_over held pending xs)) (view_over held pending x)

-- What an action would give its written objects, on the views of what it reads.
abbrev pub kept_of : List Held → List PendingAction → Action → Option (List (List ℤ))
kept_of held pending action = option_map (λ values. (effect_of action values).writes) (views_over held pending (read_set action))

-- Pending actions with all kept results thrown away and computed again, in order, each on the views that the earlier ones give.
abbrev pub redone_after : List Held → List PendingAction → List PendingAction → List PendingAction
redone_after held earlier [] = earlier
redone_after held earlier (p ∷ ps) = redone_after held (earlier ++ record p { kept = kept_of held earlier p.action } ∷ []) ps

abbrev pub redone : List Held → List PendingAction → List PendingAction
redone held pending = redone_after held [] pending
