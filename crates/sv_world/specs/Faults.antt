-- What is wrong with an action, if anything.
use Rattle.std.specs.Prelude.{◌≡◌, ℕ, ◌^◌, ◌<◌, ◌≤◌, Bool, true, not, ◌&&◌, ◌==◌, nat_lt, nat_le, ℤ, int_le, List, [], ◌∷◌, length, All, if◌then◌else◌, Option, Some, None}
use Rattle.std.specs.List.{list_all, list_any}
use Rattle.sv_world.specs.Limits.{most_reads, most_nodes, most_depth, least_coordinate, greatest_coordinate}
use Rattle.sv_world.specs.Sets.{is_in_mask, read_set}
use Rattle.sv_world.specs.Trees.{body_nodes, body_depth, body_passes}
use Rattle.sv_world.specs.declared.action.Action.{Action}
use Rattle.sv_world.specs.declared.world.Shape.{Shape}
use Rattle.sv_world.specs.declared.check.BadAction.{BadAction}
use Rattle.sv_world.specs.declared.check.BadAction.TheVariants.{NoReads, TooManyReads, NotAscending, NoSuchObject, BadMask, BadSlot, NotWritable, BadAttr, TooLarge, TooDeep, BadOrigin}

-- Each number is below the next one.
abbrev pub is_ascending : List ℕ → Bool
is_ascending [] = true
is_ascending (x ∷ []) = true
is_ascending (x ∷ y ∷ ys) = nat_lt x y && is_ascending (y ∷ ys)

unfoldable pub has_no_reads : Action → Bool
has_no_reads a = length a.reads == 0

unfoldable pub has_too_many_reads : Action → Bool
has_too_many_reads a = nat_lt most_reads (length a.reads)

unfoldable pub is_not_ascending : Action → Bool
is_not_ascending a = not (is_ascending (read_set a))

unfoldable pub reads_no_object : Shape → Action → Bool
reads_no_object shape a = list_any (λ x. nat_le shape.objects x) (read_set a)

-- A bit stands at or above the number of reads.
unfoldable pub has_bad_mask : Action → Bool
has_bad_mask a = nat_le (2 ^ length a.reads) a.mask

-- Whether each slot that the body names, to set it or to get it, has a read.
unfoldable pub has_slots : Action → Bool
has_slots a = body_passes (λ slot _. nat_lt slot (length a.reads)) (λ slot _. nat_lt slot (length a.reads)) a.body

-- Whether each slot that the body sets is in the mask.
unfoldable pub sets_in_mask : Action → Bool
sets_in_mask a = body_passes (λ slot _. is_in_mask a.mask slot) (λ _ _. true) a.body

-- Whether each attribute that the body names is one of the shape.
unfoldable pub has_attrs : Shape → Action → Bool
has_attrs shape a = body_passes (λ _ attr. nat_lt attr shape.attrs) (λ _ attr. nat_lt attr shape.attrs) a.body

unfoldable pub is_too_large : Action → Bool
is_too_large a = nat_lt most_nodes (body_nodes a.body)

unfoldable pub is_too_deep : Action → Bool
is_too_deep a = nat_lt most_depth (body_depth a.body)

-- Whether a coordinate is one of a place in the plane.
abbrev pub is_in_plane : ℤ → Bool
is_in_plane x = int_le least_coordinate x && int_le x greatest_coordinate

-- Whether both coordinates of the origin are.
unfoldable pub has_origin : Action → Bool
has_origin a = is_in_plane a.origin.x && is_in_plane a.origin.y

-- The cause of the first test that is true.
abbrev pub first_of : List (Bool × BadAction) → Option BadAction
first_of [] = None
first_of (c ∷ cs) = if c.0 then Some c.1 else first_of cs

-- The eleven causes in order, each with whether it applies.
abbrev pub causes : Shape → Action → List (Bool × BadAction)
causes shape a =
    (has_no_reads a, NoReads)
    ∷ (has_too_many_reads a, TooManyReads)
    ∷ (is_not_ascending a, NotAscending)
    ∷ (reads_no_object shape a, NoSuchObject)
    ∷ (has_bad_mask a, BadMask)
    ∷ (not (has_slots a), BadSlot)
    ∷ (not (sets_in_mask a), NotWritable)
    ∷ (not (has_attrs shape a), BadAttr)
    ∷ (is_too_large a, TooLarge)
    ∷ (is_too_deep a, TooDeep)
    ∷ (not (has_origin a), BadOrigin)
    ∷ []

-- The first of the eleven causes for which an action is refused in a shape, if one applies.
unfoldable pub first_fault_of_action : Shape → Action → Option BadAction
first_fault_of_action shape a = first_of (causes shape a)

-- The number of a cause in their order, from 1.
abbrev pub cause_number : BadAction → ℕ
cause_number NoReads = 1
cause_number TooManyReads = 2
cause_number NotAscending = 3
cause_number NoSuchObject = 4
cause_number BadMask = 5
cause_number BadSlot = 6
cause_number NotWritable = 7
cause_number BadAttr = 8
cause_number TooLarge = 9
cause_number TooDeep = 10
cause_number BadOrigin = 11

-- What holds of an action that no cause applies to.
pub record IsGoodAction (shape : Shape) (a : Action) : Type 0 where
  pub some_reads : 1 ≤ length a.reads
  pub few_reads : length a.reads ≤ most_reads
  pub ascending : is_ascending (read_set a) ≡ true
  pub objects : All (λ x. x < shape.objects) (read_set a)
  pub mask : a.mask < 2 ^ length a.reads
  pub slots : has_slots a ≡ true
  pub writable : sets_in_mask a ≡ true
  pub attrs : has_attrs shape a ≡ true
  pub few_nodes : body_nodes a.body ≤ most_nodes
  pub shallow : body_depth a.body ≤ most_depth
  pub origin : has_origin a ≡ true

-- Objects that may be observed together, in a world of so many: 1 to 16 of them, ascending.
abbrev pub may_be_observed : ℕ → List ℕ → Bool
may_be_observed objects xs =
    nat_lt 0 (length xs) && nat_le (length xs) most_reads && is_ascending xs && list_all (λ x. nat_lt x objects) xs
