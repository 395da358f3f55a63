-- A body keeps to all limits at once exactly where it keeps to each.
use Rattle.std.proofs.Common.{◌≡◌, ℕ, ◌≤◌, Bool, true, false, ◌&&◌, not, nat_lt, List, [], ◌∷◌, refl, sym, ap, ◌∙◌, arith}
use Rattle.std.proofs.lemmas.Bool.Decides.{nat_tests}
use Rattle.sv_world.specs.Sets.{is_in_mask}
use Rattle.sv_world.specs.NodeTests.{nodes_pass}
use Rattle.sv_world.specs.Parts.{Block}
use Rattle.sv_world.specs.PartTrees.{may_get, may_set, fits}
use Rattle.sv_world.specs.Spelled.{body_spelled}
use Rattle.sv_world.specs.Trees.{body_passes}
use Rattle.sv_world.specs.declared.action.Stmt.{Stmt}
use Rattle.sv_world.specs.declared.fits.Limits.{Limits}
use Rattle.sv_world.specs.declared.node.Node.{Node}
use Rattle.sv_world.specs.declared.node.Node.TheVariants as node
use Rattle.sv_world.proofs.NodeTests.{spelled_pass}

mix_get : (r a s m t : Bool) → ((r && a) && (s && (m && t))) ≡ ((r && s) && (m && (a && t)))
mix_get true a s m t = grind arith
mix_get false a s m t = refl

mix_set : (w r a s m t : Bool) → ((w && (r && a)) && (s && (m && t))) ≡ ((r && s) && ((w && m) && (a && t)))
mix_set true true true s m t = refl
mix_set true true false s m t = grind arith
mix_set true false a s m t = refl
mix_set false r a s m t = grind arith

abbrev by_slots : Limits → List Node → Bool
by_slots limits = nodes_pass (λ slot _. nat_lt slot limits.reads) (λ slot _. nat_lt slot limits.reads)

abbrev by_mask : Limits → List Node → Bool
by_mask limits = nodes_pass (λ slot _. is_in_mask limits.mask slot) (λ _ _. true)

abbrev by_attrs : Limits → List Node → Bool
by_attrs limits = nodes_pass (λ _ attr. nat_lt attr limits.attrs) (λ _ attr. nat_lt attr limits.attrs)

split : (limits : Limits) (ns : List Node) → nodes_pass (may_set limits) (may_get limits) ns ≡ (by_slots limits ns && (by_mask limits ns && by_attrs limits ns))
split limits [] = refl
split limits (node.Attr slot attr ∷ ns) =
    ap (λ (b : Bool). may_get limits slot attr && b) (split limits ns)
    ∙ mix_get (nat_lt slot limits.reads) (nat_lt attr limits.attrs) (by_slots limits ns) (by_mask limits ns) (by_attrs limits ns)
split limits (node.Set slot attr ∷ ns) =
    ap (λ (b : Bool). may_set limits slot attr && b) (split limits ns)
    ∙ mix_set (is_in_mask limits.mask slot) (nat_lt slot limits.reads) (nat_lt attr limits.attrs) (by_slots limits ns) (by_mask limits ns) (by_attrs limits ns)
split limits (n ∷ ns) = split limits ns

-- What is asked of the slots and attributes of a body.
abbrev pub names_fit : ℕ → ℕ → ℕ → List Stmt → Bool
names_fit reads mask attrs xs =
    body_passes (λ slot _. nat_lt slot reads) (λ slot _. nat_lt slot reads) xs
    && (body_passes (λ slot _. is_in_mask mask slot) (λ _ _. true) xs && body_passes (λ _ attr. nat_lt attr attrs) (λ _ attr. nat_lt attr attrs) xs)

all_three : (x y z a b c : Bool) → x ≡ a → y ≡ b → z ≡ c → (x && (y && z)) ≡ (a && (b && c))
all_three x y z a b c e f g =
    ap (λ (w : Bool). w && (y && z)) e ∙ ap (λ (w : Bool). a && (w && z)) f ∙ ap (λ (w : Bool). a && (b && w)) g

fits_is : (limits : Limits) (xs : List Stmt) → fits limits (Block xs) ≡ names_fit limits.reads limits.mask limits.attrs xs
fits_is limits xs =
    sym (spelled_pass (may_set limits) (may_get limits) xs)
    ∙ split limits (body_spelled xs)
    ∙ all_three (by_slots limits (body_spelled xs)) (by_mask limits (body_spelled xs)) (by_attrs limits (body_spelled xs))
    (body_passes (λ slot _. nat_lt slot limits.reads) (λ slot _. nat_lt slot limits.reads) xs) (body_passes (λ slot _. is_in_mask limits.mask slot) (λ _ _. true) xs) (body_passes (λ _ attr. nat_lt attr limits.attrs) (λ _ attr. nat_lt attr limits.attrs) xs)
    (spelled_pass (λ slot _. nat_lt slot limits.reads) (λ slot _. nat_lt slot limits.reads) xs)
    (spelled_pass (λ slot _. is_in_mask limits.mask slot) (λ _ _. true) xs)
    (spelled_pass (λ _ attr. nat_lt attr limits.attrs) (λ _ attr. nat_lt attr limits.attrs) xs)

all_true_is : (f : Bool) (n d : ℕ) → f ≡ true → n ≤ 64 → d ≤ 8 → true ≡ (f && (not (nat_lt 64 n) && not (nat_lt 8 d)))
all_true_is f n d e few shallow = grind (arith, nat_tests)

not_all_is : (b : Bool) → (b ≡ true → ⊥) → false ≡ b
not_all_is true h = absurd (h refl)
not_all_is false h = refl

first_holds : (x y : Bool) → (x && y) ≡ true → x ≡ true
first_holds true y e = refl
first_holds false y e = cc

last_holds : (x y : Bool) → (x && y) ≡ true → y ≡ true
last_holds true y e = e
last_holds false y e = cc

within : (m n : ℕ) → not (nat_lt m n) ≡ true → n ≤ m
within m n e = grind (arith, nat_tests)

named : (limits : Limits) (reads : ℕ) (xs : List Stmt) → limits.reads ≡ reads → fits limits (Block xs) ≡ names_fit reads limits.mask limits.attrs xs
named limits reads xs e = fits_is limits xs ∙ ap (λ (r : ℕ). names_fit r limits.mask limits.attrs xs) e

pub sound : (limits : Limits) (reads : ℕ) (xs : List Stmt) (n d : ℕ) → limits.reads ≡ reads → fits limits (Block xs) ≡ true → n ≤ 64 → d ≤ 8
    → true ≡ (names_fit reads limits.mask limits.attrs xs && (not (nat_lt 64 n) && not (nat_lt 8 d)))
sound limits reads xs n d r e few shallow = all_true_is (names_fit reads limits.mask limits.attrs xs) n d (sym (named limits reads xs r) ∙ e) few shallow

pub unsound : (limits : Limits) (reads : ℕ) (xs : List Stmt) (n d : ℕ) → limits.reads ≡ reads → (fits limits (Block xs) ≡ true → n ≤ 64 → d ≤ 8 → ⊥)
    → false ≡ (names_fit reads limits.mask limits.attrs xs && (not (nat_lt 64 n) && not (nat_lt 8 d)))
unsound limits reads xs n d r h =
    let names = names_fit reads limits.mask limits.attrs xs in
    let small = not (nat_lt 64 n) && not (nat_lt 8 d) in
    not_all_is (names && small) (λ e.
    let rest = last_holds names small e in
    h (named limits reads xs r ∙ first_holds names small e)
    (within 64 n (first_holds (not (nat_lt 64 n)) (not (nat_lt 8 d)) rest))
    (within 8 d (last_holds (not (nat_lt 64 n)) (not (nat_lt 8 d)) rest)))
